-- A list of calls on one session, the refusals in the run's own state, and the reference run of the list.
use Rattle.std.specs.Prelude.{ℕ, ◌+◌, ◌-◌, cond, ◌&&◌, List, [], ◌∷◌, leb, eqb, length, drop}
use Rattle.book.specs.Formula.{Formula, literal_within}
use Rattle.run.specs.Trail.{is_assigned, decisions}
use Rattle.run.specs.Run.{Run, in_conflict, open_run, decide, backtrack, fix}

-- What follows an accepted opening: decisions (choices) of any number as literal, backtracks (take-backs) of any number k, and fixings of any
-- number f.
pub data Call : Type 0 where
  decision : ℕ → Call
  backtrack_by : ℕ → Call
  fix_by : ℕ → Call

abbrev pub max_backtracks : ℕ
max_backtracks = 1000000

-- The table's number for a call in the run's own state, the lowest that applies; 0 where the call is accepted.
unfoldable pub decide_refusal : Formula → ℕ → Run → ℕ
decide_refusal formula l run =
    cond (literal_within formula.variables l) (cond (in_conflict run) 14 (cond (is_assigned run.trail l) 15 0)) 13

-- 16: k is 0, or over the decisions in force, or it would reach a fixed one
unfoldable pub backtrack_refusal : ℕ → Run → ℕ
backtrack_refusal k run =
    cond (leb 1 k && leb (k + run.fixed) (length (decisions run.trail))) (cond (leb max_backtracks run.backtracks) 17 0) 16

-- 22: f is below the present one, or over the decisions in force
unfoldable pub fix_refusal : ℕ → Run → ℕ
fix_refusal f run = cond (in_conflict run) 14 (cond (leb run.fixed f && leb f (length (decisions run.trail))) 0 22)

unfoldable pub refusal : Formula → Call → Run → ℕ
refusal formula (decision l) run = decide_refusal formula l run
refusal formula (backtrack_by k) run = backtrack_refusal k run
refusal formula (fix_by f) run = fix_refusal f run

unfoldable pub perform_call : Formula → Call → Run → Run
perform_call formula (decision l) run = decide formula l run
perform_call formula (backtrack_by k) run = backtrack k run
perform_call formula (fix_by f) run = fix f run

-- One call: a refused one changes nothing.
unfoldable pub step : Formula → Run → Call → Run
step formula run call = cond (eqb (refusal formula call run) 0) (perform_call formula call run) run

unfoldable pub step_all : Formula → Run → List Call → Run
step_all formula run [] = run
step_all formula run (call ∷ calls) = step_all formula (step formula run call) calls

-- The reference run (the paper's written run) of a list of calls: an opening, and then the calls in order.
unfoldable pub reference : Formula → List Call → Run
reference formula calls = step_all formula (open_run formula) calls

-- the f oldest decisions in force
abbrev pub oldest_decisions : ℕ → Run → List ℕ
oldest_decisions f run = drop (length (decisions run.trail) - f) (decisions run.trail)

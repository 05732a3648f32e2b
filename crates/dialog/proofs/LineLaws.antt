-- On a session that holds a run, a line is answered as the run answers it, and the session then holds the run behind it.
use Rattle.std.specs.Prelude.{Option, Some, None, Result, Ok, Err}
use Rattle.refusals.specs.declared.Refusal.{Refusal}
use Rattle.refusals.specs.Refusals.{refusal_of}
use Prim.Native.Nat.{ℕ, suc, ◌-◌, ◌≤◌}
use mathlib.Core.Path.{◌≡◌, refl, ap}
use mathlib.Core.Bool.{Bool, true, false, cond}
use mathlib.Core.List.{List}
use native.Mathlib.Omega.{arith}
use borrow.Author.Tests.{eqb-true, eqb-false}
use Rattle.session.proofs.NumberLaws.{decide_numbered, backtrack_numbered}
use lib.Dec.{eqb}
use lib.ListN.{length}
use Rattle.book.specs.Numbers.{formula_of}
use Rattle.book.specs.Reading.{read_text}
use Rattle.book.specs.Answer.{read_answer, numbers_after}
use Rattle.book.specs.declared.Sizes.{Sizes}
use Rattle.run.specs.Run.{Run, open_run, decide, backtrack, in_conflict, trail_behind}
use Rattle.run.specs.Calls.{decision, backtrack_by, decide_refusal, backtrack_refusal}
use Rattle.run.proofs.Theorems.{decide_longer}
use Rattle.layout.specs.Layout.{held}
use Rattle.session.specs.Outcomes.{answer_of, back_of, propagated_answer, open_refusal, decide_numbers, call_numbers}
use Rattle.session.specs.declared.Propagated.TheVariants as propagated
use Rattle.script.specs.declared.Line.{Line}
use Rattle.script.specs.declared.Line.TheVariants.{Choose, Back}
use Rattle.script.specs.declared.Cause.{Cause}
use Rattle.script.specs.declared.Cause.TheVariants.{Opening, Decision}
use Rattle.script.specs.Answers.{implied_line, clause_line, back_line, refused_line}
use Rattle.script.specs.Buffer.{fitting}
use Rattle.script.specs.Desk.{propagated_line, unless_refused, answer_to, step_of, end_line_of}
use Rattle.dialog.specs.Answering.{propagated_bytes, back_bytes, end_bytes, line_answer, line_numbers, last_line}
use Rattle.dialog.specs.Starting.{open_bytes, opening, starting_by, starting}
use Rattle.dialog.specs.Program.{HoldsRun}
use Rattle.dialog.specs.declared.Started.TheVariants as started
use Rattle.dialog.proofs.OutcomeLaws.{held_is, run_figures, run_total, run_decision, run_backtrack, run_opening, call_holds, decision_holds, opening_holds, opening_accepted}

-- the line of a call that propagated is the run's
propagated_bytes_lem : (cause : Cause) (before : ℕ) (run : Run) → before ≤ length run.trail
    → propagated_bytes cause (Ok (propagated_answer before run)) run ≡ propagated_line cause before run
unfolding propagated_bytes propagated_answer propagated_line
propagated_bytes_lem cause before run low = go (in_conflict run)
  where
    go : (c : Bool) → propagated_bytes cause (Ok (cond c (propagated.Conflict run.conflict) (propagated.Implied (length run.trail - before)))) run
        ≡ cond c (clause_line cause run.conflict) (implied_line cause (trail_behind before run))
    go true = refl
    go false =
        let same : length run.trail - (length run.trail - before) ≡ before = omega arith in
        ap (λ (n : ℕ). implied_line cause (trail_behind n run)) same

-- the opening's line
pub opening_answers : (book session : List ℕ) → open_refusal book (length session) ≡ 0 → open_bytes book session ≡ propagated_line Opening 0 (open_run (formula_of book))
unfolding open_bytes
opening_answers book session e =
    rw (run_opening book session e, held_is book _ _ session (opening_holds book session e))
    (propagated_bytes_lem Opening 0 (open_run (formula_of book)) (omega arith))

-- After a start that is not refused the session holds the opening's run, on lent memory of any length.
pub start_holds : (text book session out : List ℕ) (n : ℕ) → (starting text book session out).answer ≡ started.Open n
    → HoldsRun (starting text book session out).book (starting text book session out).session (open_run (formula_of (starting text book session out).book)) session
unfolding starting starting_by opening
start_holds text book session out n e = go (read_answer (read_text text) (length book)) (numbers_after (read_text text) book) e
  where
    go : (r : Result Sizes Refusal) (numbers : List ℕ) → (starting_by r numbers session out).answer ≡ started.Open n
        → HoldsRun (starting_by r numbers session out).book (starting_by r numbers session out).session (open_run (formula_of (starting_by r numbers session out).book)) session
    go (Err m) numbers q = let z : ◌≡◌ {A = ℕ} 0 1 = cc in absurd (omega arith)
    go (Ok sizes) numbers q = opening_holds numbers session (opening_accepted numbers session n (fitting (open_bytes numbers session) out) q)

module _ (book session : List ℕ) (run : Run) (buffer : List ℕ) (h : HoldsRun book session run buffer) where
  chosen : (l : ℕ) (b : Bool) → eqb (decide_refusal (formula_of book) l run) 0 ≡ b
      → propagated_bytes (Decision l)
      (answer_of (suc (length run.trail)) (cond b (Ok (decide (formula_of book) l run)) (Err (refusal_of (decide_refusal (formula_of book) l run)))))
      (held (formula_of book) (decide_numbers book session l))
      ≡ cond b (propagated_line (Decision l) (suc (length run.trail)) (decide (formula_of book) l run)) (refused_line (decide_refusal (formula_of book) l run))
  unfolding propagated_bytes
  chosen l true q =
      let next = decision_holds book session run buffer h l (eqb-true (decide_refusal (formula_of book) l run) 0 q) in
      rw (held_is book (decide_numbers book session l) (decide (formula_of book) l run) buffer next)
      (propagated_bytes_lem (Decision l) (suc (length run.trail)) (decide (formula_of book) l run) (decide_longer (formula_of book) l run))
  chosen l false q = ap refused_line (decide_numbered (formula_of book) l run (eqb-false (decide_refusal (formula_of book) l run) 0 q))

  taken_back : (k : ℕ) (b : Bool) → eqb (backtrack_refusal k run) 0 ≡ b
      → back_bytes k (back_of (cond b (Ok (backtrack k run)) (Err (refusal_of (backtrack_refusal k run))))) ≡ cond b (back_line k) (refused_line (backtrack_refusal k run))
  unfolding back_bytes
  taken_back k true q = refl
  taken_back k false q = ap refused_line (backtrack_numbered k run (eqb-false (backtrack_refusal k run) 0 q))

  -- A line is answered as the run answers it.
  pub line_answers : (line : Option Line) → line_answer book session line ≡ answer_to (formula_of book) run line
  unfolding line_answer answer_to unless_refused
  line_answers (Some (Choose l)) = rw (run_decision book session run buffer h l) (chosen l (eqb (decide_refusal (formula_of book) l run) 0) refl)
  line_answers (Some (Back k)) = rw (run_backtrack book session run buffer h k) (taken_back k (eqb (backtrack_refusal k run) 0) refl)
  line_answers None = refl

  -- A line leaves a session that holds the run behind it.
  pub line_holds : (line : Option Line) → HoldsRun book (line_numbers book session line) (step_of (formula_of book) run line) buffer
  unfolding line_numbers step_of call_numbers
  line_holds (Some (Choose l)) = call_holds book session run buffer h (decision l)
  line_holds (Some (Back k)) = call_holds book session run buffer h (backtrack_by k)
  line_holds None = h

  -- The last line shows the run's figures.
  pub last_answers : last_line book session ≡ end_line_of run
  unfolding last_line end_bytes
  last_answers = rw (run_total book session run buffer h, run_figures book session run buffer h)

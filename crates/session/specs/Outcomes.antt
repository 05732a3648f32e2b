-- The outcomes of the calls: for each, its answer and the lent numbers afterwards. The refusal numbers are those of document 01's table.
use Rattle.std.specs.Prelude.{ℕ, suc, ◌-◌, cond, ◌&&◌, List, [], ◌∷◌, ◌++◌, leb, ltb, eqb, length, drop, Result, Ok, Err, ⊤}
use Rattle.base.specs.Lists.{sum, copied}
use Rattle.book.specs.Formula.{Formula, positive, negative}
use Rattle.book.specs.Numbers.{variables_of, clauses_of, well_formed, formula_of}
use Rattle.run.specs.Trail.{is_true, decisions, level}
use Rattle.run.specs.Run.{Run, in_conflict, open_run, decide, backtrack, fix}
use Rattle.run.specs.Calls.{Call, decision, backtrack_by, fix_by, decide_refusal, backtrack_refusal, fix_refusal, reference}
use Rattle.layout.specs.Layout.{required_length, encode, held}
use Rattle.validation.specs.Validation.{call_refusal, read_refusal}
use Rattle.refusals.specs.declared.Refusal.{Refusal}
use Rattle.refusals.specs.Refusals.{outcome}
use Rattle.session.specs.declared.Propagated.{Propagated}
use Rattle.session.specs.declared.Propagated.TheVariants as propagated
use Rattle.session.specs.declared.Assigned.{Assigned}
use Rattle.session.specs.declared.Assigned.TheVariants as assigned
use Rattle.session.specs.declared.Shown.{Shown}

-- Opening and decision: the conflict clause's name (the rule of `open rule R` and `choose F rule R`), or how many literals the call implied
-- (the paper's forced), those on the trail behind the first so many; or the refusal.
unfoldable pub propagated_answer : ℕ → Run → Propagated
propagated_answer before run = cond (in_conflict run) (propagated.Conflict run.conflict) (propagated.Implied (length run.trail - before))

abbrev pub answer_of : ℕ → Result Run Refusal → Result Propagated Refusal
answer_of before (Err refusal) = Err refusal
answer_of before (Ok run) = Ok (propagated_answer before run)

-- Backtrack and fixing: done, or the refusal.
abbrev pub back_of : Result Run Refusal → Result ⊤ Refusal
back_of (Err refusal) = Err refusal
back_of (Ok run) = Ok tt

-- Lookup: positive (the paper's wanted) where the variable's positive literal is true, negative (barred) where the negative one is, each with
-- that literal's level; else open; or the refusal.
abbrev pub assigned_of : ℕ → Result Run Refusal → Result Assigned Refusal
assigned_of v (Err refusal) = Err refusal
assigned_of v (Ok run) =
    Ok
    (cond (is_true run.trail (positive v))
    (assigned.Positive (level run.trail (positive v)))
    (cond (is_true run.trail (negative v)) (assigned.Negative (level run.trail (negative v))) assigned.Open))

-- The total: the sum of all counts of checks, or the refusal.
abbrev pub sum_of : Result Run Refusal → Result ℕ Refusal
sum_of (Err refusal) = Err refusal
sum_of (Ok run) = Ok (sum run.checks)

-- The figures: decisions in force, accepted backtracks, trail length, and the conflict clause's name (0 out of conflict); or the refusal.
abbrev pub shown_of : Result Run Refusal → Result Shown Refusal
shown_of (Err refusal) = Err refusal
shown_of (Ok run) =
    Ok (record { decisions = length (decisions run.trail); backtracks = run.backtracks; trail = length run.trail; conflict = run.conflict })

-- The lent numbers afterwards: those of a run, followed by what lay behind the required length; a refusal changes nothing.
unfoldable pub overwritten : Formula → Run → List ℕ → List ℕ
overwritten formula run buffer = encode formula run ++ drop (required_length formula.variables (length formula.clauses)) buffer

abbrev pub session_after : Formula → List ℕ → Result Run Refusal → List ℕ
session_after formula buffer (Err refusal) = buffer
session_after formula buffer (Ok run) = overwritten formula run buffer

-- A copy's numbers afterwards: what fits is copied, and what lies behind stays; a refusal changes nothing.
abbrev pub copy_after : List ℕ → Result (List ℕ) Refusal → List ℕ
copy_after buffer (Err refusal) = buffer
copy_after buffer (Ok part) = copied part buffer

abbrev pub checks_of_run : Run → List ℕ
checks_of_run run = run.checks

-- A list of calls as numbers: two for each call, its kind, 0 for a decision, 2 for a fixing and any other number for a backtrack, and its literal,
-- f or k.
unfoldable pub calls_of : List ℕ → List Call
calls_of [] = []
calls_of (kind ∷ []) = []
calls_of (kind ∷ number ∷ numbers) = cond (eqb kind 0) (decision number) (cond (eqb kind 2) (fix_by number) (backtrack_by number)) ∷ calls_of numbers

-- On a book, whose numbers hold a formula:
module _ (book : List ℕ) where
  abbrev formula : Formula
  formula = formula_of book

  -- The required length of a session.
  unfoldable pub required_answer : Result ℕ Refusal
  required_answer = outcome (cond (well_formed book) 0 11) (required_length (variables_of book) (clauses_of book))

  -- Opening: 11, then 10; 0 where it is accepted.
  unfoldable pub open_refusal : ℕ → ℕ
  open_refusal room = cond (well_formed book) (cond (ltb room (required_length (variables_of book) (clauses_of book))) 10 0) 11

  unfoldable pub open_answer : ℕ → Result Propagated Refusal
  open_answer room = answer_of 0 (outcome (open_refusal room) (open_run formula))

  unfoldable pub open_numbers : List ℕ → List ℕ
  open_numbers buffer = session_after formula buffer (outcome (open_refusal (length buffer)) (open_run formula))

  -- Session calls: 11, then 12 (`call_refusal`), then what the call itself refuses in the run that the session holds.
  module _ (session : List ℕ) where
    abbrev run : Run
    run = held formula session

    -- Decision: 13, 14, 15.
    unfoldable pub session_decide_refusal : ℕ → ℕ
    session_decide_refusal l = call_refusal book session (decide_refusal formula l)

    unfoldable pub decide_answer : ℕ → Result Propagated Refusal
    decide_answer l = answer_of (suc (length run.trail)) (outcome (session_decide_refusal l) (decide formula l run))

    unfoldable pub decide_numbers : ℕ → List ℕ
    decide_numbers l = session_after formula session (outcome (session_decide_refusal l) (decide formula l run))

    -- Backtrack: 16, 17.
    unfoldable pub session_backtrack_refusal : ℕ → ℕ
    session_backtrack_refusal k = call_refusal book session (backtrack_refusal k)

    unfoldable pub backtrack_answer : ℕ → Result ⊤ Refusal
    backtrack_answer k = back_of (outcome (session_backtrack_refusal k) (backtrack k run))

    unfoldable pub backtrack_numbers : ℕ → List ℕ
    backtrack_numbers k = session_after formula session (outcome (session_backtrack_refusal k) (backtrack k run))

    -- Fixing: 14, 22.
    unfoldable pub session_fix_refusal : ℕ → ℕ
    session_fix_refusal f = call_refusal book session (fix_refusal f)

    unfoldable pub fix_answer : ℕ → Result ⊤ Refusal
    fix_answer f = back_of (outcome (session_fix_refusal f) (fix f run))

    unfoldable pub fix_numbers : ℕ → List ℕ
    fix_numbers f = session_after formula session (outcome (session_fix_refusal f) (fix f run))

    -- Lookup: 13; it answers in conflict too.
    unfoldable pub lookup_refusal : ℕ → ℕ
    lookup_refusal v = call_refusal book session (λ (r : Run). cond (leb 1 v && leb v formula.variables) 0 13)

    unfoldable pub lookup_answer : ℕ → Result Assigned Refusal
    lookup_answer v = assigned_of v (outcome (lookup_refusal v) run)

    -- What only reads refuses by 11 and 12 alone.
    unfoldable pub total_answer : Result ℕ Refusal
    total_answer = sum_of (outcome (read_refusal book session) run)

    unfoldable pub figures_answer : Result Shown Refusal
    figures_answer = shown_of (outcome (read_refusal book session) run)

    unfoldable pub fixed_answer : Result ℕ Refusal
    fixed_answer = outcome (read_refusal book session) run.fixed

    -- Copies of a part of the run: the answer says how many numbers it has.
    unfoldable pub copy_answer : (Run → List ℕ) → Result ℕ Refusal
    copy_answer part = outcome (read_refusal book session) (length (part run))

    unfoldable pub copy_numbers : (Run → List ℕ) → List ℕ → List ℕ
    copy_numbers part buffer = copy_after buffer (outcome (read_refusal book session) (part run))

    -- Any call.
    unfoldable pub call_numbers : Call → List ℕ
    call_numbers (decision l) = decide_numbers l
    call_numbers (backtrack_by k) = backtrack_numbers k
    call_numbers (fix_by f) = fix_numbers f

  -- Replay: an opening, and then every call of the list.
  unfoldable pub played_numbers : List ℕ → List Call → List ℕ
  played_numbers session [] = session
  played_numbers session (call ∷ calls) = played_numbers (call_numbers session call) calls

  -- it answers as an opening does, of the run in the end: how many literals are on the trail, decisions among them
  unfoldable pub replay_answer : List Call → ℕ → Result Propagated Refusal
  replay_answer calls room = answer_of 0 (outcome (open_refusal room) (reference formula calls))

  unfoldable pub replay_numbers : List Call → List ℕ → List ℕ
  replay_numbers calls buffer = cond (eqb (open_refusal (length buffer)) 0) (played_numbers (open_numbers buffer) calls) buffer

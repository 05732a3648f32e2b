-- What the calls answer and leave on a session that holds a run. Only these laws look into the outcomes of `session`.
use Rattle.std.specs.Prelude.{Result, Ok, Err}
use Rattle.refusals.specs.declared.Refusal.{Refusal}
use Rattle.refusals.specs.Refusals.{refusal_of, outcome}
use Prim.Native.Nat.{ℕ, suc, ◌-◌, ◌≤◌}
use mathlib.Core.Path.{◌≡◌, refl, sym, ap, ◌∙◌}
use mathlib.Core.Bool.{Bool, true, false, cond}
use mathlib.Core.List.{List}
use native.Mathlib.Omega.{arith}
use borrow.Author.Tests.{eqb-true, eq-eqb}
use lib.Dec.{eqb}
use lib.ListN.{length, drop, length-drop}
use lib.Seq.{take_all, take_at, drop-append-le}
use Rattle.base.specs.Lists.{sum, table, copied}
use Rattle.base.proofs.Lists.{part}
use Rattle.base.proofs.Tables.{length-table}
use Rattle.book.specs.Formula.{max_variables}
use Rattle.book.specs.Numbers.{formula_of}
use Rattle.book.proofs.WellFormedLaws.{well_formed_sound, well_formed_limited}
use Rattle.run.specs.Trail.{literal_at, decisions}
use Rattle.run.specs.Run.{Run, open_run, decide, backtrack, in_conflict, trail_behind}
use Rattle.run.specs.Calls.{Call, decision, decide_refusal, backtrack_refusal, refusal, step, perform_call}
use Rattle.run.proofs.Propagation.{valid_structure}
use Rattle.run.proofs.Theorems.{open_valid, step_valid}
use Rattle.run.proofs.Validity.{trail_short}
use Rattle.layout.specs.Layout.{held}
use Rattle.layout.proofs.EncodeLaws.{encodes_whole}
use Rattle.validation.specs.Validation.{read_refusal}
use Rattle.session.specs.Outcomes.{answer_of, back_of, overwritten, propagated_answer, open_refusal, open_answer, open_numbers, decide_answer, decide_numbers, session_decide_refusal, backtrack_answer, session_backtrack_refusal, figures_answer, total_answer, copy_answer, copy_numbers, call_numbers}
use Rattle.session.proofs.CallLaws.{held_overwritten, call_refusal_lem, call_numbers_lem, open_accepted}
use Rattle.session.proofs.PassedLaws.{well, facts}
use Rattle.session.proofs.AnswerLaws.{decide_none, decide_own}
use Rattle.session.specs.declared.Propagated.{Propagated}
use Rattle.session.specs.declared.Propagated.TheVariants as propagated
use Rattle.dialog.specs.Starting.{started_by}
use Rattle.dialog.specs.Program.{HoldsRun}
use Rattle.dialog.specs.Inner.Printing.{ShowsImplied}
use Rattle.dialog.specs.declared.Started.TheVariants as started

module _ (book session : List ℕ) (run : Run) (buffer : List ℕ) (h : HoldsRun book session run buffer) where
  pub held_is : held (formula_of book) session ≡ run
  held_is = rw h.numbers (held_overwritten book buffer h.well run h.valid)

  pub read_none : read_refusal book session ≡ 0
  unfolding read_refusal
  read_none = rw h.numbers (call_refusal_lem book buffer h.well run h.valid (λ (r : Run). 0))

  pub trail_few : length run.trail ≤ max_variables
  trail_few = omega (arith, trail_short (valid_structure h.valid).trailed, (well_formed_limited book h.well).variables)

  pub run_figures : figures_answer book session
      ≡ Ok (record { decisions = length (decisions run.trail); backtracks = run.backtracks; trail = length run.trail; conflict = run.conflict })
  unfolding figures_answer
  run_figures = rw (read_none, held_is)

  pub run_total : total_answer book session ≡ Ok (sum run.checks)
  unfolding total_answer
  run_total = rw (read_none, held_is)

  -- the whole trail is copied: how many literals it has, and the last n of them
  pub run_count : copy_answer book session (trail_behind 0) ≡ Ok (length run.trail)
  unfolding copy_answer trail_behind
  run_count = rw (read_none, held_is, length-table)

  pub run_copy : (n : ℕ) (out : List ℕ) → n ≤ length run.trail → length run.trail ≤ length out
      → part (length run.trail - n) (length run.trail) (copy_numbers book session (trail_behind 0) out) ≡ trail_behind (length run.trail - n) run
  unfolding copy_numbers copied trail_behind
  run_copy n out few room =
      let first : ℕ = length run.trail - n in
      let whole : List ℕ = table (length run.trail) (λ (i : ℕ). literal_at run.trail (suc i)) in
      let size : length whole ≡ length run.trail = rw length-table in
      rw (
        read_none,
        held_is,
        take_all (length out) whole (omega arith),
        drop-append-le first whole (drop (length whole) out) (omega arith),
      )
      (take_at (drop first whole) (drop (length whole) out) (length run.trail - first) (length-drop first whole ∙ ap (λ (k : ℕ). k - first) size))

  -- what a decision and a backtrack answer
  pub run_decision : (l : ℕ) → decide_answer book session l
      ≡ answer_of (suc (length run.trail)) (outcome (decide_refusal (formula_of book) l run) (decide (formula_of book) l run))
  unfolding decide_answer session_decide_refusal
  run_decision l = rw (held_is, h.numbers, call_refusal_lem book buffer h.well run h.valid (decide_refusal (formula_of book) l))

  pub run_backtrack : (k : ℕ) → backtrack_answer book session k ≡ back_of (outcome (backtrack_refusal k run) (backtrack k run))
  unfolding backtrack_answer session_backtrack_refusal
  run_backtrack k = rw (held_is, h.numbers, call_refusal_lem book buffer h.well run h.valid (backtrack_refusal k))

  -- a call leaves a session that holds the run's next step
  pub call_holds : (call : Call) → HoldsRun book (call_numbers book session call) (step (formula_of book) run call) buffer
  call_holds call =
      record {
        well = h.well;
        valid = step_valid (formula_of book) run (well_formed_sound book h.well) call h.valid;
        numbers = ap (λ (s : List ℕ). call_numbers book s call) h.numbers ∙ call_numbers_lem book buffer h.well run h.valid call;
      }

  pub decision_holds : (l : ℕ) → decide_refusal (formula_of book) l run ≡ 0 → HoldsRun book (decide_numbers book session l) (decide (formula_of book) l run) buffer
  unfolding call_numbers step refusal perform_call
  decision_holds l e = rw (eq-eqb (decide_refusal (formula_of book) l run) 0 e) at (call_holds (decision l))

-- a session that passes holds the run that it holds
pub passing_holds : (book session : List ℕ) → 0 ≡ read_refusal book session → HoldsRun book session (held (formula_of book) session) session
unfolding overwritten
passing_holds book session none =
    record {
      well = well book session none;
      valid = (facts book session none).0;
      numbers =
          encodes_whole (formula_of book) (well_formed_sound book (well book session none)) (held (formula_of book) session) (facts book session none).0 session
          (facts book session none).1;
    }

-- an accepted opening
module _ (book session : List ℕ) (accepted : open_refusal book (length session) ≡ 0) where
  -- The session then holds the opening's run.
  pub opening_holds : HoldsRun book (open_numbers book session) (open_run (formula_of book)) session
  unfolding open_numbers
  opening_holds =
      let fits = open_accepted book session accepted in
      record {
        well = fits.well;
        valid = open_valid (formula_of book) (well_formed_sound book fits.well);
        numbers = rw accepted;
      }

  pub run_opening : open_answer book (length session) ≡ Ok (propagated_answer 0 (open_run (formula_of book)))
  unfolding open_answer
  run_opening = rw accepted

-- a call that implied n literals was accepted, and the trail has them
implied_few : (n before : ℕ) (run : Run) → ◌≡◌ {A = Result Propagated Refusal} (Ok (propagated_answer before run)) (Ok (propagated.Implied n)) → n ≤ length run.trail
unfolding propagated_answer
implied_few n before run e = go (in_conflict run) e
  where
    go : (c : Bool) → ◌≡◌ {A = Result Propagated Refusal} (Ok (cond c (propagated.Conflict run.conflict) (propagated.Implied (length run.trail - before)))) (Ok (propagated.Implied n))
        → n ≤ length run.trail
    go true q = let z : ◌≡◌ {A = ℕ} 0 1 = cc in absurd (omega arith)
    go false q = let is : length run.trail - before ≡ n = cc in omega arith

implied_accepted : (number before n : ℕ) (run : Run) → answer_of before (outcome number run) ≡ Ok (propagated.Implied n) → (number ≡ 0) × (n ≤ length run.trail)
implied_accepted number before n run e = go (eqb number 0) refl e
  where
    go : (b : Bool) → eqb number 0 ≡ b → answer_of before (cond b (Ok run) (Err (refusal_of number))) ≡ Ok (propagated.Implied n) → (number ≡ 0) × (n ≤ length run.trail)
    go true q a = (eqb-true number 0 q, implied_few n before run a)
    go false q a = let z : ◌≡◌ {A = ℕ} 0 1 = cc in absurd (omega arith)

shows : (book session : List ℕ) (run : Run) (buffer : List ℕ) → HoldsRun book session run buffer → (n : ℕ) → n ≤ length run.trail → ShowsImplied book session n
shows book session run buffer h n few = record { passes = read_none book session run buffer h; few = rw (held_is book session run buffer h) few }

pub decision_shows : (book session : List ℕ) (l n : ℕ) → decide_answer book session l ≡ Ok (propagated.Implied n) → ShowsImplied book (decide_numbers book session l) n
unfolding decide_answer
decision_shows book session l n e =
    let run : Run = held (formula_of book) session in
    let implied = implied_accepted (session_decide_refusal book session l) (suc (length run.trail)) n (decide (formula_of book) l run) e in
    let none = decide_none book session l (sym implied.0) in
    let next = decision_holds book session run session (passing_holds book session none) l (decide_own book session l (sym implied.0)) in
    shows book (decide_numbers book session l) (decide (formula_of book) l run) session next n implied.1

pub opening_shows : (book session : List ℕ) (n : ℕ) → open_answer book (length session) ≡ Ok (propagated.Implied n) → ShowsImplied book (open_numbers book session) n
unfolding open_answer
opening_shows book session n e =
    let implied = implied_accepted (open_refusal book (length session)) 0 n (open_run (formula_of book)) e in
    shows book (open_numbers book session) (open_run (formula_of book)) session (opening_holds book session implied.0) n implied.1

-- an opening that is not refused was accepted
pub opening_accepted : (book session : List ℕ) (n w : ℕ) → started_by (open_answer book (length session)) w ≡ started.Open n → open_refusal book (length session) ≡ 0
unfolding open_answer started_by
opening_accepted book session n w e = go (eqb (open_refusal book (length session)) 0) refl e
  where
    go : (b : Bool) → eqb (open_refusal book (length session)) 0 ≡ b
        → started_by (answer_of 0 (cond b (Ok (open_run (formula_of book))) (Err (refusal_of (open_refusal book (length session)))))) w ≡ started.Open n
        → open_refusal book (length session) ≡ 0
    go true q a = eqb-true (open_refusal book (length session)) 0 q
    go false q a = let z : ◌≡◌ {A = ℕ} 0 1 = cc in absurd (omega arith)

-- The calls on a session that holds a valid run: what each answers, and what the lent numbers are afterwards.
use Rattle.std.specs.Prelude.{Ok, Err}
use Rattle.refusals.specs.Refusals.{refusal_of}
use Prim.Native.Nat.{ℕ}
use mathlib.Core.Path.{◌≡◌, refl, ap}
use mathlib.Core.Bool.{Bool, true, false, cond}
use mathlib.Core.List.{List, [], ◌∷◌, ◌++◌}
use native.Mathlib.Omega.{arith}
use borrow.Author.Tests.{ltb-false}
use lib.Dec.{ltb, eqb}
use lib.ListN.{length, drop}
use lib.Seq.{drop_at}
use Rattle.book.specs.Formula.{Formula}
use Rattle.book.specs.Numbers.{variables_of, clauses_of, well_formed, formula_of}
use Rattle.book.proofs.WellFormedLaws.{well_formed_sound}
use Rattle.run.specs.Run.{Run, open_run, decide, backtrack, fix}
use Rattle.run.specs.Calls.{Call, decision, backtrack_by, fix_by, decide_refusal, backtrack_refusal, fix_refusal, refusal, perform_call, step, step_all, reference}
use Rattle.run.specs.Valid.{Valid}
use Rattle.run.proofs.Theorems.{open_valid, step_valid}
use Rattle.layout.specs.Layout.{SessionFits, required_length, encode, held}
use Rattle.validation.specs.Validation.{passes, call_refusal}
use Rattle.session.specs.Outcomes.{session_after, overwritten, open_refusal, open_numbers, session_decide_refusal, decide_numbers, session_backtrack_refusal, backtrack_numbers, session_fix_refusal, fix_numbers, call_numbers, played_numbers, replay_numbers}
use Rattle.layout.proofs.EncodeLaws.{length_encode}
use Rattle.layout.proofs.HeldLaws.{held_encode}
use Rattle.validation.proofs.PassLaws.{passes_encode}

-- numbers written anew have the same numbers behind them
pub overwritten_again : (formula : Formula) (old new : Run) (buffer : List ℕ) → overwritten formula new (overwritten formula old buffer) ≡ overwritten formula new buffer
unfolding overwritten
overwritten_again formula old new buffer =
    ap (λ (rest : List ℕ). encode formula new ++ rest)
    (drop_at (encode formula old) (drop (required_length formula.variables (length formula.clauses)) buffer) (required_length formula.variables (length formula.clauses)) (length_encode formula old))

module _ (book buffer : List ℕ) (well : well_formed book ≡ true) (run : Run) (valid : Valid (formula_of book) run) where
  pub held_overwritten : held (formula_of book) (overwritten (formula_of book) run buffer) ≡ run
  unfolding overwritten
  held_overwritten = held_encode (formula_of book) (well_formed_sound book well) run valid (drop (required_length (variables_of book) (length (formula_of book).clauses)) buffer)

  pub passes_overwritten : passes (formula_of book) (overwritten (formula_of book) run buffer) ≡ true
  unfolding overwritten
  passes_overwritten = passes_encode (formula_of book) (well_formed_sound book well) run valid (drop (required_length (variables_of book) (length (formula_of book).clauses)) buffer)

  -- a call is refused by what the run itself says
  pub call_refusal_lem : (own : Run → ℕ) → call_refusal book (overwritten (formula_of book) run buffer) own ≡ own run
  unfolding call_refusal
  call_refusal_lem own = rw (well, passes_overwritten) (ap own held_overwritten)

  -- a call leaves the numbers of the run's next step
  chosen : (b : Bool) (number : ℕ) (next : Run)
      → session_after (formula_of book) (overwritten (formula_of book) run buffer) (cond b (Ok next) (Err (refusal_of number)))
      ≡ overwritten (formula_of book) (cond b next run) buffer
  chosen true number next = overwritten_again (formula_of book) run next buffer
  chosen false number next = refl

  pub call_numbers_lem : (call : Call) → call_numbers book (overwritten (formula_of book) run buffer) call ≡ overwritten (formula_of book) (step (formula_of book) run call) buffer
  unfolding call_numbers decide_numbers session_decide_refusal backtrack_numbers session_backtrack_refusal fix_numbers session_fix_refusal step refusal perform_call
  call_numbers_lem (decision l) =
      rw (call_refusal_lem (decide_refusal (formula_of book) l), held_overwritten)
      (chosen (eqb (decide_refusal (formula_of book) l run) 0) (decide_refusal (formula_of book) l run) (decide (formula_of book) l run))
  call_numbers_lem (backtrack_by k) =
      rw (call_refusal_lem (backtrack_refusal k), held_overwritten)
      (chosen (eqb (backtrack_refusal k run) 0) (backtrack_refusal k run) (backtrack k run))
  call_numbers_lem (fix_by f) =
      rw (call_refusal_lem (fix_refusal f), held_overwritten)
      (chosen (eqb (fix_refusal f run) 0) (fix_refusal f run) (fix f run))

pub played : (book buffer : List ℕ) → well_formed book ≡ true → (calls : List Call) (run : Run) → Valid (formula_of book) run
    → played_numbers book (overwritten (formula_of book) run buffer) calls ≡ overwritten (formula_of book) (step_all (formula_of book) run calls) buffer
unfolding played_numbers step_all
played book buffer well [] run valid = refl
played book buffer well (call ∷ calls) run valid =
    rw (call_numbers_lem book buffer well run valid call)
    (played book buffer well calls (step (formula_of book) run call) (step_valid (formula_of book) run (well_formed_sound book well) call valid))

-- what an accepted opening says
pub open_accepted : (book buffer : List ℕ) → open_refusal book (length buffer) ≡ 0 → SessionFits book buffer
unfolding open_refusal
open_accepted book buffer e = go (well_formed book) (ltb (length buffer) (required_length (variables_of book) (clauses_of book))) refl refl e
  where
    go : (w t : Bool) → well_formed book ≡ w → ltb (length buffer) (required_length (variables_of book) (clauses_of book)) ≡ t
        → ◌≡◌ {A = ℕ} (cond w (cond t 10 0) 11) 0 → SessionFits book buffer
    go true true p q z = absurd (omega arith)
    go true false p q z = record { well = p; long = ltb-false (length buffer) (required_length (variables_of book) (clauses_of book)) q }
    go false t p q z = absurd (omega arith)

pub replayed : (book buffer : List ℕ) (calls : List Call) → open_refusal book (length buffer) ≡ 0
    → replay_numbers book calls buffer ≡ overwritten (formula_of book) (reference (formula_of book) calls) buffer
unfolding replay_numbers open_numbers reference
replayed book buffer calls e =
    let well : well_formed book ≡ true = (open_accepted book buffer e).well in
    rw e (played book buffer well calls (open_run (formula_of book)) (open_valid (formula_of book) (well_formed_sound book well)))

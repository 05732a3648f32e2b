-- Opening and replay, way out by way out: the refusals in their order, and what an accepted one answers and leaves.
use Rattle.std.specs.Prelude.{Ok, Err}
use Rattle.refusals.specs.declared.Refusal.{Refusal}
use Rattle.refusals.specs.declared.Refusal.TheVariants as refusal
use Rattle.refusals.specs.Refusals.{refusals, first_with, refusal_of, checked}
use Rattle.refusals.proofs.OutcomeLaws.{outcome_refused, accepted_as, refused_as}
use Rattle.layout.specs.Layout.{trail_at, required_length, encode}
use Rattle.book.specs.Formula.{Formula}
use Prim.Native.Nat.{ℕ, ◌-◌, ◌≤◌, ◌<◌}
use mathlib.Core.Path.{◌≡◌, refl, ap, ap₂, sym, ◌∙◌}
use mathlib.Core.Bool.{Bool, true, false, cond, not}
use mathlib.Core.List.{List, [], ◌++◌}
use native.Mathlib.Omega.{arith}
use borrow.Author.Tests.{ne_eqb, lt-ltb, le-ltb}
use lib.Dec.{eqb}
use lib.ListN.{length, drop, take-append-drop}
use Rattle.book.specs.Numbers.{well_formed, formula_of, variables_of, clauses_of}
use Rattle.book.proofs.PartLaws.{clauses_counted}
use Rattle.book.proofs.WellFormedLaws.{well_formed_sound}
use Rattle.run.specs.Run.{Run, open_run}
use Rattle.run.specs.Calls.{Call, reference}
use Rattle.run.specs.Valid.{Valid}
use Rattle.run.proofs.Theorems.{open_valid, reference_valid}
use Rattle.session.specs.Outcomes.{overwritten, propagated_answer, required_answer, open_refusal, open_answer, open_numbers, replay_answer, replay_numbers, played_numbers}
use Rattle.layout.specs.Encodes.{Encodes}
use Rattle.engine.specs.Engine.{Becomes}
use Rattle.session.specs.Inner.Answers.{head_answer}
use Rattle.layout.proofs.EncodeLaws.{encodes_encode, encode_encodes}
use Rattle.session.proofs.CallLaws.{open_accepted, replayed}
use Rattle.session.specs.declared.Propagated.TheVariants as propagated

-- the header answers for the run that the numbers hold
pub head_answer_lem : (formula : Formula) (numbers : List ℕ) (run : Run) (before : ℕ) → Encodes formula numbers run → head_answer numbers before ≡ propagated_answer before run
unfolding propagated_answer
head_answer_lem formula numbers run before e = rw (e.trail.count, e.conflict) (go (eqb run.conflict 0))
  where
    go : (b : Bool) → cond b (propagated.Implied (length run.trail - before)) (propagated.Conflict run.conflict) ≡ cond (not b) (propagated.Conflict run.conflict) (propagated.Implied (length run.trail - before))
    go true = refl
    go false = refl

-- the numbers that a private function leaves are those of its run, followed by what lay behind
pub becomes_overwritten : (book before now : List ℕ) (run : Run) → well_formed book ≡ true → Valid (formula_of book) run → Becomes book before now run
    → now ≡ overwritten (formula_of book) run before
unfolding overwritten
becomes_overwritten book before now run well valid b =
    sym (take-append-drop (required_length (variables_of book) (length (formula_of book).clauses)) now)
    ∙ ap₂ (λ (x y : List ℕ). x ++ y) (encodes_encode (formula_of book) (well_formed_sound book well) run valid now b.encodes) (rw (clauses_counted book) b.same_behind)

overwritten_is : (book buffer : List ℕ) (calls : List Call) → open_refusal book (length buffer) ≡ 0
    → replay_numbers book calls buffer ≡ encode (formula_of book) (reference (formula_of book) calls) ++ drop (required_length (variables_of book) (length (formula_of book).clauses)) buffer
unfolding overwritten
overwritten_is book buffer calls e = replayed book buffer calls e

module _ (book buffer : List ℕ) where
  pub required_eleven : well_formed book ≡ false → Err refusal.Book ≡ required_answer book
  unfolding required_answer refusal_of first_with refusals
  required_eleven e = rw e

  pub required_is : well_formed book ≡ true → Ok (required_length (variables_of book) (clauses_of book)) ≡ required_answer book
  unfolding required_answer
  required_is e = rw e

  pub open_eleven : (room : ℕ) → well_formed book ≡ false → 11 ≡ open_refusal book room
  unfolding open_refusal
  open_eleven room e = rw e

  pub open_ten : (room : ℕ) → well_formed book ≡ true → room < required_length (variables_of book) (clauses_of book) → 10 ≡ open_refusal book room
  unfolding open_refusal
  open_ten room e h = rw (e, lt-ltb room (required_length (variables_of book) (clauses_of book)) h)

  pub open_none : (room : ℕ) → well_formed book ≡ true → required_length (variables_of book) (clauses_of book) ≤ room → 0 ≡ open_refusal book room
  unfolding open_refusal
  open_none room e h = rw (e, le-ltb room (required_length (variables_of book) (clauses_of book)) h)

  pub open_refused : (r : Refusal) → Err r ≡ checked (open_refusal book (length buffer)) → (Err r ≡ open_answer book (length buffer)) × (buffer ≡ open_numbers book buffer)
  unfolding open_answer open_numbers
  open_refused r e =
      let refused = outcome_refused _ _ r (sym e) in
      (rw (ne_eqb (open_refusal book (length buffer)) 0 refused.0, refused.1), rw (ne_eqb (open_refusal book (length buffer)) 0 refused.0))

  pub open_done : (now : List ℕ) → 0 ≡ open_refusal book (length buffer) → Becomes book buffer now (open_run (formula_of book))
      → (Ok (head_answer now 0) ≡ open_answer book (length buffer)) × (now ≡ open_numbers book buffer)
  unfolding open_answer open_numbers
  open_done now e b =
      let well : well_formed book ≡ true = (open_accepted book buffer (sym e)).well in (
        rw (← e) (ap Ok (head_answer_lem (formula_of book) now (open_run (formula_of book)) 0 b.encodes)),
        rw (← e) (becomes_overwritten book buffer now (open_run (formula_of book)) well (open_valid (formula_of book) (well_formed_sound book well)) b),
      )

  -- a refused replay, and an accepted one
  pub replay_refused : (calls : List Call) (r : Refusal) → Err r ≡ checked (open_refusal book (length buffer))
      → (Err r ≡ replay_answer book calls (length buffer)) × (buffer ≡ replay_numbers book calls buffer)
  unfolding replay_answer replay_numbers
  replay_refused calls r e =
      let refused = outcome_refused _ _ r (sym e) in
      (rw (ne_eqb (open_refusal book (length buffer)) 0 refused.0, refused.1), rw (ne_eqb (open_refusal book (length buffer)) 0 refused.0))

  pub replay_numbers_lem : (calls : List Call) (opened now : List ℕ) → 0 ≡ open_refusal book (length buffer) → opened ≡ open_numbers book buffer
      → now ≡ played_numbers book opened calls → now ≡ replay_numbers book calls buffer
  unfolding replay_numbers
  replay_numbers_lem calls opened now e o is = is ∙ rw (← e) (ap (λ (n : List ℕ). played_numbers book n calls) o)

  pub replay_done : (calls : List Call) (now : List ℕ) → 0 ≡ open_refusal book (length buffer) → now ≡ replay_numbers book calls buffer
      → (Ok (head_answer now 0) ≡ replay_answer book calls (length buffer)) × (trail_at ≤ length now)
  unfolding replay_answer
  replay_done calls now e is =
      let well : well_formed book ≡ true = (open_accepted book buffer (sym e)).well in
      let s = well_formed_sound book well in
      let run : Run = reference (formula_of book) calls in
      let front : now ≡ encode (formula_of book) run ++ drop (required_length (variables_of book) (length (formula_of book).clauses)) buffer = is ∙ overwritten_is book buffer calls (sym e) in
      let e' : Encodes (formula_of book) now run = rw front (encode_encodes (formula_of book) s run (reference_valid (formula_of book) s calls) (drop (required_length (variables_of book) (length (formula_of book).clauses)) buffer)) in
      (rw (← e) (ap Ok (head_answer_lem (formula_of book) now run 0 e')), omega (arith, e'.long))

-- an opening, by what is known of the book and of the room
module _ (book : List ℕ) (room : ℕ) where
  pub opening_no_book : well_formed book ≡ false → Err refusal.Book ≡ checked (open_refusal book room)
  opening_no_book e = refused_as _ tt refusal.Book (open_eleven book [] room e)

  module _ (well : well_formed book ≡ true) (needed : ℕ) (is : needed ≡ required_length (variables_of book) (clauses_of book)) where
    pub opening_short : room < needed → Err refusal.ShortMemory ≡ checked (open_refusal book room)
    opening_short h = refused_as _ tt refusal.ShortMemory (open_ten book [] room well (omega arith))

    pub opening_fits : needed ≤ room → Ok tt ≡ checked (open_refusal book room)
    opening_fits h = accepted_as _ tt (open_none book [] room well (omega arith))

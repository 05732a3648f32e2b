-- A fixing, way out by way out: the refusals in their order, and what an accepted one answers and leaves; and how many decisions are fixed.
use Rattle.refusals.specs.declared.Refusal.{Refusal}
use Rattle.refusals.specs.Refusals.{checked}
use Rattle.refusals.proofs.OutcomeLaws.{outcome_refused, passed}
use Rattle.std.specs.Prelude.{Ok, Err}
use Prim.Native.Nat.{ℕ, ◌≤◌, ◌<◌}
use native.Mathlib.Omega.{arith}
use mathlib.Core.Bool.{and-false, Bool, true, false, cond, ◌&&◌}
use mathlib.Core.List.{List}
use mathlib.Core.Path.{◌≡◌, sym, ◌∙◌}
use borrow.Author.Tests.{ne_eqb, le-leb, lt-leb}
use lib.Dec.{leb}
use lib.ListN.{length, get_or}
use Rattle.book.specs.Numbers.{formula_of}
use Rattle.run.specs.Trail.{decisions}
use Rattle.run.specs.Run.{fix}
use Rattle.run.specs.Calls.{fix_refusal}
use Rattle.run.proofs.Conflicts.{quiet_out}
use Rattle.run.proofs.Theorems.{fix_valid}
use Rattle.layout.specs.Layout.{decisions_at, conflict_at, fixed_at, held}
use Rattle.validation.specs.Validation.{read_refusal}
use Rattle.engine.specs.Engine.{Becomes, Holding}
use Rattle.session.specs.Outcomes.{session_fix_refusal, fix_answer, fix_numbers, fixed_answer}
use Rattle.session.proofs.PassedLaws.{none_first, well, own_refusal, facts, holding, conflict_is, decisions_are, fixed_are}
use Rattle.session.proofs.OpenLaws.{becomes_overwritten}

module _ (book session : List ℕ) where
  module _ (none : 0 ≡ read_refusal book session) where
    pub fix_in_conflict : (f : ℕ) → (get_or session conflict_at 0 ≡ 0 → ⊥) → 14 ≡ session_fix_refusal book session f
    unfolding session_fix_refusal fix_refusal
    fix_in_conflict f n =
        sym (own_refusal book session none (fix_refusal f)
        ∙ rw (ne_eqb (held (formula_of book) session).conflict 0 (λ z. n (conflict_is book session none ∙ z))))

    module _ (f : ℕ) (quiet : get_or session conflict_at 0 ≡ 0) where
      fix-by : (b : Bool) → (leb (held (formula_of book) session).fixed f && leb f (length (decisions (held (formula_of book) session).trail))) ≡ b
          → session_fix_refusal book session f ≡ cond b 0 22
      unfolding session_fix_refusal fix_refusal
      fix-by b e =
          own_refusal book session none (fix_refusal f)
          ∙ rw (quiet_out (held (formula_of book) session) (sym (conflict_is book session none) ∙ quiet), e)

      pub fix_below : f < get_or session fixed_at 0 → 22 ≡ session_fix_refusal book session f
      fix_below h = sym (fix-by false (rw (lt-leb (held (formula_of book) session).fixed f (omega (arith, fixed_are book session none)))))

      pub fix_over : get_or session decisions_at 0 < f → 22 ≡ session_fix_refusal book session f
      fix_over h =
          sym
          (fix-by false
          (rw (lt-leb f (length (decisions (held (formula_of book) session).trail)) (omega (arith, decisions_are book session none)))
          (and-false (leb (held (formula_of book) session).fixed f))))

      pub fix_within : get_or session fixed_at 0 ≤ f → f ≤ get_or session decisions_at 0 → 0 ≡ session_fix_refusal book session f
      fix_within low high =
          sym
          (fix-by true
          (rw (
            le-leb (held (formula_of book) session).fixed f (omega (arith, fixed_are book session none)),
            le-leb f (length (decisions (held (formula_of book) session).trail)) (omega (arith, decisions_are book session none)),
          )))

    pub fixed_is : Ok (get_or session fixed_at 0) ≡ fixed_answer book session
    unfolding fixed_answer
    fixed_is = rw (← none, fixed_are book session none)

  pub fixed_refused : (r : Refusal) → Err r ≡ checked (read_refusal book session) → Err r ≡ fixed_answer book session
  unfolding fixed_answer
  fixed_refused r e = let refused = outcome_refused _ _ r (sym e) in rw (ne_eqb (read_refusal book session) 0 refused.0, refused.1)

  -- what a refused fixing answers and leaves
  pub fix_refused : (f : ℕ) (r : Refusal) → Err r ≡ checked (session_fix_refusal book session f)
      → (Err r ≡ fix_answer book session f) × (session ≡ fix_numbers book session f)
  unfolding fix_answer fix_numbers
  fix_refused f r e =
      let refused = outcome_refused _ _ r (sym e) in
      (rw (ne_eqb (session_fix_refusal book session f) 0 refused.0, refused.1), rw (ne_eqb (session_fix_refusal book session f) 0 refused.0))

  -- what an accepted one answers and leaves
  module _ (f : ℕ) (accepted : 0 ≡ session_fix_refusal book session f) where
    pub fix_none : 0 ≡ read_refusal book session
    unfolding session_fix_refusal
    fix_none = none_first book session (fix_refusal f) accepted

    fix-own : fix_refusal f (held (formula_of book) session) ≡ 0
    unfolding session_fix_refusal
    fix-own = sym (accepted ∙ own_refusal book session fix_none (fix_refusal f))

    abbrev pub fix_holding : Holding book session
    fix_holding = holding book session fix_none

    pub fix_done : (now : List ℕ) → Becomes book session now (fix f (held (formula_of book) session))
        → (Ok tt ≡ fix_answer book session f) × (now ≡ fix_numbers book session f)
    unfolding fix_answer fix_numbers
    fix_done now b = (
      rw (← accepted),
      rw (← accepted)
          (becomes_overwritten book session now (fix f (held (formula_of book) session)) (well book session fix_none)
          (fix_valid (formula_of book) f (held (formula_of book) session) (facts book session fix_none).0 fix-own)
          b),
    )

  -- the same, by what the test answered
  module _ (f : ℕ) (ok : Ok tt ≡ checked (session_fix_refusal book session f)) where
    abbrev pub fix_holds : Holding book session
    fix_holds = fix_holding f (passed _ tt ok)

    pub fix_ends : (now : List ℕ) → Becomes book session now (fix f (held (formula_of book) session))
        → (Ok tt ≡ fix_answer book session f) × (now ≡ fix_numbers book session f)
    fix_ends = fix_done f (passed _ tt ok)

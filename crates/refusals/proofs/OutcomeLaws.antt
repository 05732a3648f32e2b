-- Laws on outcomes: what an accepted and a refused one say of the number, and that each refusal is the one of its number.
use Rattle.std.proofs.Common.{◌≡◌, ℕ, refl, sym, ap, ◌∙◌, eqb, arith}
use Rattle.std.specs.Prelude.{Bool, true, false, cond, Ok, Err, ⊤}
use Rattle.std.proofs.lemmas.Bool.{ne_eqb}
use borrow.Author.Tests.{eqb-true, eqb-false}
use Rattle.refusals.specs.declared.Refusal.{Refusal}
use Rattle.refusals.specs.declared.Refusal.TheVariants as refusal
use Rattle.refusals.specs.Refusals.{number_of, refusals, first_with, refusal_of, outcome, checked}

-- no two refusals have one number
pub refusal_number : (r : Refusal) → refusal_of (number_of r) ≡ r
unfolding refusal_of first_with refusals
refusal_number refusal.LongText = refl
refusal_number refusal.Header = refl
refusal_number refusal.Counts = refl
refusal_number refusal.Word = refl
refusal_number refusal.LargeVariable = refl
refusal_number refusal.ClauseLength = refl
refusal_number refusal.ClauseCount = refl
refusal_number refusal.LiteralCount = refl
refusal_number refusal.ShortMemory = refl
refusal_number refusal.Book = refl
refusal_number refusal.Session = refl
refusal_number refusal.NoVariable = refl
refusal_number refusal.InConflict = refl
refusal_number refusal.AssignedAlready = refl
refusal_number refusal.BacktrackRange = refl
refusal_number refusal.BacktrackCount = refl
refusal_number refusal.Line = refl
refusal_number refusal.PriceInput = refl
refusal_number refusal.RunningAmount = refl
refusal_number refusal.FixingRange = refl
refusal_number refusal.PackedForm = refl
refusal_number refusal.PackedDigits = refl
refusal_number refusal.AgeGap = refl
refusal_number refusal.AgeOverlap = refl

-- no refusal has the number 0
pub number_some : (r : Refusal) → number_of r ≡ 0 → ⊥
unfolding refusal_of first_with refusals
number_some r zero =
    let last : refusal_of 0 ≡ r = ap refusal_of (sym zero) ∙ refusal_number r in
    let number : ◌≡◌ {A = ℕ} 26 (number_of r) = ap number_of last in
    omega arith

-- an outcome is accepted where there is no refusal number, and refused by another number than 0
module _ {A : Type 0} (number : ℕ) (said : A) where
  pub accepted_as : 0 ≡ number → Ok said ≡ outcome number said
  accepted_as none = rw (← none) refl

  pub refused_by : (number ≡ 0 → ⊥) → outcome number said ≡ Err (refusal_of number)
  refused_by ne = rw (ne_eqb number 0 ne) refl

  pub refused_as : (r : Refusal) → number_of r ≡ number → Err r ≡ outcome number said
  refused_as r e = sym (refused_by (λ zero. number_some r (e ∙ zero)) ∙ ap Err (ap refusal_of (sym e) ∙ refusal_number r))

  pub outcome_accepted : (x : A) → outcome number said ≡ Ok x → (number ≡ 0) × (said ≡ x)
  outcome_accepted x e = go (eqb number 0) refl e
    where
      go : (t : Bool) → eqb number 0 ≡ t → cond t (Ok said) (Err (refusal_of number)) ≡ Ok x → (number ≡ 0) × (said ≡ x)
      go true zero e = (eqb-true number 0 zero, cc e)
      go false other e = let z : ◌≡◌ {A = ℕ} 0 1 = cc e in absurd (omega arith)

  pub outcome_refused : (r : Refusal) → outcome number said ≡ Err r → (number ≡ 0 → ⊥) × (r ≡ refusal_of number)
  outcome_refused r e = go (eqb number 0) refl e
    where
      go : (t : Bool) → eqb number 0 ≡ t → cond t (Ok said) (Err (refusal_of number)) ≡ Err r → (number ≡ 0 → ⊥) × (r ≡ refusal_of number)
      go true zero e = let z : ◌≡◌ {A = ℕ} 0 1 = cc e in absurd (omega arith)
      go false other e = (eqb-false number 0 other, cc e)

-- a number refuses alike, whatever would be said
pub refused_alike : {A B : Type 0} (number : ℕ) (x : A) (y : B) (r : Refusal) → outcome number x ≡ Err r → outcome number y ≡ Err r
refused_alike number x y r e = let h = outcome_refused number x r e in refused_by number y h.0 ∙ ap Err (sym h.1)

-- a test that passes leaves no refusal number
pub passed : (number : ℕ) (u : ⊤) → Ok u ≡ checked number → 0 ≡ number
passed number u e = sym (outcome_accepted number tt u (sym e)).0

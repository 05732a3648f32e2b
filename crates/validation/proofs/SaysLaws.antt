-- Answers to questions: of a constant, of a test, and of a question that means the same.
use Prim.Native.Nat.{ℕ, ◌≤◌, ◌<◌}
use mathlib.Core.Bool.{Bool, true, false}
use mathlib.Core.Path.{◌≡◌, refl}
use borrow.Author.Tests.{ltb-true, ltb-false, leb-true, leb-false}
use lib.Dec.{leb, ltb}
use Rattle.base.proofs.Bools.{never}
use Rattle.validation.specs.Inner.Says.{Says}

module _ {P : Type 0} where
  pub says_true : P → Says true P
  says_true p = record { yes = λ _. p; no = λ e. absurd (never refl e) }

  pub says_false : (P → ⊥) → Says false P
  says_false n = record { yes = λ e. absurd (never e refl); no = λ _. n }

  -- an answer that is no is right where the question does not hold
  pub says_not : {r : Bool} → r ≡ false → (P → ⊥) → Says r P
  says_not is n = rw is (says_false n)

  pub says_below : (a b : ℕ) → (a < b → P) → (b ≤ a → P → ⊥) → Says (ltb a b) P
  says_below a b p n = record { yes = λ e. p (ltb-true a b e); no = λ e. n (ltb-false a b e) }

  pub says_up_to : (a b : ℕ) → (a ≤ b → P) → (b < a → P → ⊥) → Says (leb a b) P
  says_up_to a b p n = record { yes = λ e. p (leb-true a b e); no = λ e. n (leb-false a b e) }

  pub says_alike : {Q : Type 0} {r : Bool} → (P → Q) → (Q → P) → Says r P → Says r Q
  says_alike to from s = record { yes = λ e. to (s.yes e); no = λ e q. s.no e (from q) }

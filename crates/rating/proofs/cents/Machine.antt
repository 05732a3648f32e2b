-- What the machine reads back of a number with 500 added or taken off, divided by 1000.
use Prim.Native.Nat.{ℕ, suc, ◌+◌, ◌/◌, ◌≤◌, ◌<◌}
use mathlib.Core.Bool.{true, false}
use mathlib.Core.Path.{◌≡◌, refl, sym, ap, subst, ◌∙◌}
use native.Mathlib.Omega.{arith}
use borrow.Author.Tests.{ltb-true}
use lib.Dec.{T}
use lib.IntN.{ℤ, pos, negsuc, neg_ℤ, nat_abs, ◌+ℤ◌, ◌-ℤ◌}
use lib.Signed.{lt_z, quot_z}
use mir.Syntax.{w64}
use mir.Val.{SFits, to_z, of_z}
use mir.ValLaws.{to_z-of_z}
use Rattle.base.proofs.Signed.{size_negated, size_sum, small_fits}
use Rattle.rating.specs.Pricing.{rounded}

-- a negative number less 500, by 1000 towards zero, and another one more 500
pub below_zero : (p : ℤ) → lt_z p (pos 0) ≡ true → quot_z (p -ℤ pos 500) (pos 1000) ≡ rounded p
unfolding rounded
below_zero (pos n) e = let h : n < 0 = ltb-true n 0 e in absurd (omega arith)
below_zero (negsuc n) e = let same : suc (suc (n + 499)) ≡ suc n + 500 = omega arith in ap (λ (m : ℕ). neg_ℤ (pos (m / 1000))) same

pub from_zero : (p : ℤ) → lt_z p (pos 0) ≡ false → quot_z (p +ℤ pos 500) (pos 1000) ≡ rounded p
unfolding rounded
from_zero (pos n) e = refl
from_zero (negsuc n) e = absurd (subst T e tt)

size_quotient : (a : ℤ) → nat_abs (quot_z a (pos 1000)) ≤ nat_abs a
size_quotient (pos n) = omega arith
size_quotient (negsuc n) = omega (arith, size_negated (pos (suc n / 1000)))

-- p with 500 added or taken off, and its quotient by 1000, where p is small
module _ (p q : ℤ) (h : nat_abs p + 500 < 9223372036854775808) (k : nat_abs q ≤ 500) where
  p-fits : SFits w64 p
  p-fits = small_fits p (omega arith)

  moved_fits : SFits w64 (p +ℤ q)
  moved_fits = small_fits (p +ℤ q) (omega (arith, size_sum p q))

  pub shifted : SFits w64 (to_z w64 (of_z w64 p) +ℤ q)
  shifted = subst (λ (v : ℤ). SFits w64 (v +ℤ q)) (sym (to_z-of_z w64 p p-fits)) moved_fits

  back : to_z w64 (of_z w64 (to_z w64 (of_z w64 p) +ℤ q)) ≡ p +ℤ q
  back = ap (λ (v : ℤ). to_z w64 (of_z w64 (v +ℤ q))) (to_z-of_z w64 p p-fits) ∙ to_z-of_z w64 (p +ℤ q) moved_fits

  pub quotient : SFits w64 (quot_z (to_z w64 (of_z w64 (to_z w64 (of_z w64 p) +ℤ q))) (pos 1000))
  quotient =
      subst (λ (v : ℤ). SFits w64 (quot_z v (pos 1000))) (sym back)
      (small_fits (quot_z (p +ℤ q) (pos 1000)) (omega (arith, size_sum p q, size_quotient (p +ℤ q))))

  pub read_back : (r : ℤ) → quot_z (p +ℤ q) (pos 1000) ≡ r
      → to_z w64 (of_z w64 (quot_z (to_z w64 (of_z w64 (to_z w64 (of_z w64 p) +ℤ q))) (pos 1000))) ≡ r
  read_back r e = to_z-of_z w64 _ quotient ∙ ap (λ (v : ℤ). quot_z v (pos 1000)) back ∙ e

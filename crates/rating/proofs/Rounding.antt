-- The rounding: what `rounded` gives is the nearest, halves away from zero, and nothing else is.
use Prim.Native.Nat.{ℕ, zero, suc, ◌+◌, ◌*◌, ◌-◌, ◌/◌, ◌≤◌}
use mathlib.Core.Path.{◌≡◌, refl, sym, ap, ◌∙◌}
use native.Mathlib.Omega.{arith}
use lib.IntN.{ℤ, pos, negsuc, neg_ℤ, nat_abs, ◌+ℤ◌, ◌-ℤ◌, ◌*ℤ◌, neg_ℤ-neg_ℤ, neg_ℤ-+ℤ}
use Rattle.base.proofs.Signed.{size_negated, size_difference}
use Rattle.rating.specs.Pricing.{rounded}
use Rattle.rating.specs.Statement.{distance, Nearest}

-- distances from a number that is not negative
from_same : (n q : ℕ) → distance (pos n) (pos q) ≡ (n - 1000 * q) + (1000 * q - n)
from_same n q = minus (1000 * q)
  where
    minus : (m : ℕ) → nat_abs (pos n -ℤ pos m) ≡ (n - m) + (m - n)
    minus zero = omega arith
    minus (suc m) = size_difference n (suc m)

from_other : (n q : ℕ) → distance (pos n) (negsuc q) ≡ n + 1000 * suc q
from_other n q = ap (λ (z : ℤ). nat_abs (pos n +ℤ z)) (neg_ℤ-neg_ℤ (pos (1000 * suc q)))

-- the same on either side of zero
scaled : (r : ℤ) → pos 1000 *ℤ neg_ℤ r ≡ neg_ℤ (pos 1000 *ℤ r)
scaled (pos zero) = refl
scaled (pos (suc q)) = refl
scaled (negsuc q) = sym (neg_ℤ-neg_ℤ (pos (1000 * suc q)))

turned : (x r : ℤ) → distance (neg_ℤ x) (neg_ℤ r) ≡ distance x r
turned x r = rw (scaled r, ← neg_ℤ-+ℤ x (neg_ℤ (pos 1000 *ℤ r))) (size_negated (x -ℤ pos 1000 *ℤ r))

turned_back : (x r : ℤ) → distance (neg_ℤ x) r ≡ distance x (neg_ℤ r)
turned_back x r = ap (distance (neg_ℤ x)) (sym (neg_ℤ-neg_ℤ r)) ∙ turned x (neg_ℤ r)

nearest_turned : (x r : ℤ) → Nearest x r → Nearest (neg_ℤ x) (neg_ℤ r)
nearest_turned x r near =
    record {
      none_nearer = λ other. rw (turned x r, turned_back x other) (near.none_nearer (neg_ℤ other));
      halves = λ other e.
          rw (size_negated r, ← size_negated other) (near.halves (neg_ℤ other) (sym (turned_back x other) ∙ e ∙ turned x r));
    }

nearest_natural : (n : ℕ) → Nearest (pos n) (rounded (pos n))
unfolding rounded
nearest_natural n = record { none_nearer = nearer; halves = farther }
  where
    nearer : (other : ℤ) → distance (pos n) (pos ((n + 500) / 1000)) ≤ distance (pos n) other
    nearer (pos m) = omega (arith, from_same n ((n + 500) / 1000), from_same n m)
    nearer (negsuc m) = omega (arith, from_same n ((n + 500) / 1000), from_other n m)

    farther : (other : ℤ) → distance (pos n) other ≡ distance (pos n) (pos ((n + 500) / 1000)) → nat_abs other ≤ (n + 500) / 1000
    farther (pos m) e = omega (arith, from_same n ((n + 500) / 1000), from_same n m, e)
    farther (negsuc m) e = omega (arith, from_same n ((n + 500) / 1000), from_other n m, e)

-- The rounding is the nearest, halves away from zero.
pub rounded_nearest : (x : ℤ) → Nearest x (rounded x)
unfolding rounded
rounded_nearest (pos n) = nearest_natural n
rounded_nearest (negsuc n) = nearest_turned (pos (suc n)) (pos ((suc n + 500) / 1000)) (nearest_natural (suc n))

only_natural : (n : ℕ) (r : ℤ) → Nearest (pos n) r → r ≡ rounded (pos n)
unfolding rounded
only_natural n (pos m) near =
    let q = (n + 500) / 1000 in
    let there = near.none_nearer (pos q) in
    let back = (nearest_natural n).none_nearer (pos m) in
    let same : distance (pos n) (pos q) ≡ distance (pos n) (pos m) = omega (arith, there, back) in
    let high = near.halves (pos q) same in
    let low = (nearest_natural n).halves (pos m) (sym same) in
    let is : m ≡ q = omega (arith, high, low) in
    ap pos is
only_natural n (negsuc m) near =
    absurd (omega (arith, near.none_nearer (pos ((n + 500) / 1000)), from_same n ((n + 500) / 1000), from_other n m))

-- And no other number is.
pub rounded_only : (x r : ℤ) → Nearest x r → r ≡ rounded x
unfolding rounded
rounded_only (pos n) r near = only_natural n r near
rounded_only (negsuc n) r near =
    sym (neg_ℤ-neg_ℤ r) ∙ ap neg_ℤ (only_natural (suc n) (neg_ℤ r) (nearest_turned (negsuc n) r near))

-- It is the same on either side of zero.
pub rounded_mirrored : (x : ℤ) → rounded (neg_ℤ x) ≡ neg_ℤ (rounded x)
unfolding rounded
rounded_mirrored (pos zero) = refl
rounded_mirrored (pos (suc n)) = refl
rounded_mirrored (negsuc n) = sym (neg_ℤ-neg_ℤ (pos ((suc n + 500) / 1000)))

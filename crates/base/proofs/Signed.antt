-- Signed numbers: the sizes of sums and products, and what fits 64 bits.
use Prim.Native.Nat.{ℕ, zero, suc, ◌+◌, ◌*◌, ◌-◌, ◌≤◌, ◌<◌}
use mathlib.Core.Bool.{Bool, true, false, cond}
use mathlib.Core.Path.{◌≡◌, refl}
use native.Mathlib.Nat.{mul-le-mul, le_refl}
use native.Mathlib.Omega.{arith}
use borrow.Author.Tests.{ltb-true, ltb-false}
use lib.Dec.{ltb}
use lib.IntN.{ℤ, pos, negsuc, neg_ℤ, nat_abs, sub_ℕ, ◌+ℤ◌, ◌*ℤ◌}
use mir.Syntax.{w64}
use mir.Val.{SFits}

pub size_negated : (x : ℤ) → nat_abs (neg_ℤ x) ≡ nat_abs x
size_negated (pos zero) = refl
size_negated (pos (suc n)) = refl
size_negated (negsuc n) = refl

-- the size of a number that is turned below zero or not
pub size_turned : (turned : Bool) (n : ℕ) → nat_abs (cond turned (neg_ℤ (pos n)) (pos n)) ≡ n
size_turned true n = size_negated (pos n)
size_turned false n = refl

-- the size of a difference of natural numbers
pub size_difference : (a b : ℕ) → nat_abs (sub_ℕ a b) ≡ (a - b) + (b - a)
size_difference a b = go (ltb a b) refl
  where
    go : (t : Bool) → ltb a b ≡ t → nat_abs (cond t (negsuc (b - suc a)) (pos (a - b))) ≡ (a - b) + (b - a)
    go true e = let h : a < b = ltb-true a b e in omega arith
    go false e = let h : b ≤ a = ltb-false a b e in omega arith

pub size_sum : (a b : ℤ) → nat_abs (a +ℤ b) ≤ nat_abs a + nat_abs b
size_sum (pos a) (pos b) = le_refl (a + b)
size_sum (pos a) (negsuc b) = omega (arith, size_difference a (suc b))
size_sum (negsuc a) (pos b) = omega (arith, size_difference b (suc a))
size_sum (negsuc a) (negsuc b) = omega arith

size_product : (a b : ℤ) → nat_abs (a *ℤ b) ≡ nat_abs a * nat_abs b
size_product (pos a) (pos b) = refl
size_product (pos a) (negsuc b) = size_negated (pos (a * suc b))
size_product (negsuc a) (pos b) = size_negated (pos (suc a * b))
size_product (negsuc a) (negsuc b) = refl

pub product_within : (a b : ℤ) (m n : ℕ) → nat_abs a ≤ m → nat_abs b ≤ n → nat_abs (a *ℤ b) ≤ m * n
product_within a b m n h k = rw (size_product a b) (mul-le-mul h k)

-- a number of a size below 2 ^ 63 fits
pub small_fits : (x : ℤ) → nat_abs x < 9223372036854775808 → SFits w64 x
small_fits (pos n) h = record { sfits = omega arith }
small_fits (negsuc n) h = record { sfits = omega arith }

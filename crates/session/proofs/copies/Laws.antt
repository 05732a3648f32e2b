-- std's sum of a list is the one of `base`.
use Prim.Native.Nat.{ℕ, ◌+◌}
use mathlib.Core.List.{List, [], ◌∷◌}
use mathlib.Core.Path.{◌≡◌}
use native.Mathlib.Omega.{arith}
use Rattle.std.specs.List.{fold}
use Rattle.base.specs.Lists.{sum}

folded : (a : ℕ) (numbers : List ℕ) → fold (λ (b x : ℕ). b + x) a numbers ≡ a + sum numbers
unfolding sum
folded a [] = omega arith
folded a (x ∷ numbers) = omega (arith, folded (a + x) numbers)

pub sum_same : (numbers : List ℕ) → fold (λ (b x : ℕ). b + x) 0 numbers ≡ sum numbers
sum_same numbers = omega (arith, folded 0 numbers)

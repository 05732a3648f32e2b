-- What the machine reads back of a sum or a product that fits.
use mathlib.Core.Path.{◌≡◌, sym, ap, subst, ◌∙◌}
use lib.IntN.{ℤ}
use mir.Syntax.{w64}
use mir.Val.{SFits, to_z, of_z}
use mir.ValLaws.{to_z-of_z}

-- an operation on two numbers that fit, whose result fits
module _ (op : ℤ → ℤ → ℤ) (a b : ℤ) (fa : SFits w64 a) (fb : SFits w64 b) (f : SFits w64 (op a b)) where
  operands : op (to_z w64 (of_z w64 a)) (to_z w64 (of_z w64 b)) ≡ op a b
  operands = rw (to_z-of_z w64 a fa, to_z-of_z w64 b fb)

  pub result_fits : SFits w64 (op (to_z w64 (of_z w64 a)) (to_z w64 (of_z w64 b)))
  result_fits = subst (SFits w64) (sym operands) f

  pub result_is : to_z w64 (of_z w64 (op (to_z w64 (of_z w64 a)) (to_z w64 (of_z w64 b)))) ≡ op a b
  result_is = ap (λ (x : ℤ). to_z w64 (of_z w64 x)) operands ∙ to_z-of_z w64 (op a b) f

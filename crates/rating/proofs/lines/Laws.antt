-- The numbers of a line: its kind, its literal, and whether that is one of the variables'.
use Prim.Native.Nat.{ℕ, zero, suc, ◌+◌, ◌*◌, ◌≤◌, ◌<◌}
use mathlib.Core.Bool.{Bool, true, false, and-false}
use mathlib.Core.Path.{◌≡◌, refl, sym, ap, ◌∙◌}
use native.Mathlib.Omega.{arith}
use borrow.Author.Tests.{eqb-true, eqb-false, lt-leb, le-leb}
use lib.Dec.{leb, eqb}
use lib.IntN.{ℤ, pos, negsuc}
use mir.Syntax.{w32}
use mir.Val.{SFits, to_z, of_z}
use mir.ValLaws.{to_z-of_z}
use Rattle.book.specs.Formula.{literal_within}
use Rattle.rating.specs.Pricing.{change_of, is_kind, change_within, line_within}
use Rattle.rating.specs.declared.Change.TheVariants.{Amount, Thousandths}
use Rattle.rating.specs.declared.RateLine.{RateLine}

-- a number that is told by its bits
module _ (x : ℤ) (f : SFits w32 x) where
  zero-told : of_z w32 x ≡ 0 → x ≡ pos 0
  zero-told e = sym (to_z-of_z w32 x f) ∙ ap (to_z w32) e

  one_told : of_z w32 x ≡ 1 → x ≡ pos 1
  one_told e = sym (to_z-of_z w32 x f) ∙ ap (to_z w32) e

  pub kind_amount : of_z w32 x ≡ 0 → true ≡ is_kind x
  unfolding is_kind
  kind_amount e = rw (zero-told e)

  pub kind_other : (of_z w32 x ≡ 0 → ⊥) → eqb (of_z w32 x) 1 ≡ is_kind x
  unfolding is_kind
  kind_other other = go (eqb (of_z w32 x) 1) refl
    where
      over : (n : ℕ) → (n ≡ 0 → ⊥) → (n ≡ 1 → ⊥) → 1 < n
      over n a b = omega arith

      none : (x : ℤ) → (of_z w32 x ≡ 0 → ⊥) → (of_z w32 x ≡ 1 → ⊥) → false ≡ is_kind x
      none (pos n) a b = sym (lt-leb n 1 (over n a b))
      none (negsuc n) a b = refl

      go : (t : Bool) → eqb (of_z w32 x) 1 ≡ t → t ≡ is_kind x
      go true e = rw (one_told (eqb-true _ 1 e))
      go false e = none x other (eqb-false _ 1 e)

  pub amount_told : of_z w32 x ≡ 0 → (value : ℤ) → Amount value ≡ change_of x value
  unfolding change_of
  amount_told e value = rw (zero-told e)

pub thousandths_told : (x : ℤ) → (of_z w32 x ≡ 0 → ⊥) → (value : ℤ) → Thousandths value ≡ change_of x value
unfolding change_of
thousandths_told (pos zero) other value = absurd (other refl)
thousandths_told (pos (suc n)) other value = refl
thousandths_told (negsuc n) other value = refl

-- the literal of a line is one of the variables', or is not
module _ (v : ℕ) (line : RateLine) where
  pub literal_low : line.literal < 2 → false ≡ line_within v line
  unfolding line_within literal_within
  literal_low h = rw (lt-leb 2 line.literal h)

  pub literal_high : 2 * v + 1 < line.literal → false ≡ line_within v line
  unfolding line_within literal_within
  literal_high h = rw (lt-leb line.literal (2 * v + 1) h, and-false (leb 2 line.literal))

  pub literal_right : 2 ≤ line.literal → line.literal ≤ 2 * v + 1 → change_within line.change ≡ line_within v line
  unfolding line_within literal_within
  literal_right low high = rw (le-leb 2 line.literal low, le-leb line.literal (2 * v + 1) high)

-- A test against 0, as the machine makes it.
use mathlib.Core.Bool.{Bool}
use mathlib.Core.Path.{◌≡◌, sym, ap, ◌∙◌}
use lib.IntN.{ℤ, pos}
use lib.Signed.{lt_z}
use mir.Syntax.{w64}
use mir.Val.{SFits, to_z, of_z}
use mir.ValLaws.{to_z-of_z}

-- a test against 0, of the number itself
pub plain : (x : ℤ) → SFits w64 x → {b : Bool} → lt_z (to_z w64 (of_z w64 x)) (pos 0) ≡ b → lt_z x (pos 0) ≡ b
plain x f e = ap (λ (v : ℤ). lt_z v (pos 0)) (sym (to_z-of_z w64 x f)) ∙ e

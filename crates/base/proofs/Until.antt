-- Laws of `until`, the longest front part in which a test holds of no number, as a loop over an index meets it.
use Prim.Native.Nat.{ℕ, suc, ◌+◌, ◌-◌, ◌≤◌}
use mathlib.Core.Path.{◌≡◌, refl}
use mathlib.Core.Bool.{Bool, true, false}
use mathlib.Core.List.{List, [], ◌∷◌}
use native.Mathlib.Omega.{arith}
use lib.ListN.{length, take, drop, length-drop}
use Rattle.base.specs.Lists.{until}

module _ (stop : ℕ → Bool) where
  pub until_none : until stop [] ≡ []
  unfolding until
  until_none = refl

  pub until_stop : (x : ℕ) (xs : List ℕ) → stop x ≡ true → until stop (x ∷ xs) ≡ []
  unfolding until
  until_stop x xs e = rw e

  pub until_more : (x : ℕ) (xs : List ℕ) → stop x ≡ false → until stop (x ∷ xs) ≡ x ∷ until stop xs
  unfolding until
  until_more x xs e = rw e

  pub length-until : (xs : List ℕ) → length (until stop xs) ≤ length xs
  unfolding until
  length-until [] = omega arith
  length-until (x ∷ xs) = go (stop x) refl (length-until xs)
    where
      go : (b : Bool) → stop x ≡ b → length (until stop xs) ≤ length xs → length (until stop (x ∷ xs)) ≤ suc (length xs)
      go true e h = rw e (omega arith)
      go false e h = rw e (omega arith)

  pub take-until : (xs : List ℕ) → take (length (until stop xs)) xs ≡ until stop xs
  unfolding until
  take-until [] = refl
  take-until (x ∷ xs) = go (stop x) refl (take-until xs)
    where
      go : (b : Bool) → stop x ≡ b → take (length (until stop xs)) xs ≡ until stop xs → take (length (until stop (x ∷ xs))) (x ∷ xs) ≡ until stop (x ∷ xs)
      go true e h = rw e
      go false e h = rw (e, h)

  pub until_within : (xs : List ℕ) (at : ℕ) → at ≤ length xs → at + length (until stop (drop at xs)) ≤ length xs
  until_within xs at h =
      let short : length (until stop (drop at xs)) ≤ length xs - at = rw (length-drop at xs) at (length-until (drop at xs)) in
      omega arith

-- The height of a literal, on the trail and on the trail without its top level.
use Prim.Native.Nat.{ℕ, suc, ◌≤◌, ◌<◌}
use native.Mathlib.Omega.{arith}
use mathlib.Core.Bool.{Bool, true, false, cond}
use mathlib.Core.List.{List}
use mathlib.Core.Logic.{◌⊎◌, inl, inr, ⊎_elim}
use mathlib.Core.Path.{◌≡◌, refl, ap, ◌∙◌}
use lib.ListN.{length}
use Rattle.base.specs.Lists.{distinct}
use Rattle.base.proofs.Bools.{below, never}
use Rattle.run.specs.Trail.{Entry, place, decisions, level, lowered, variables_on}
use Rattle.run.proofs.Trails.{place_true, place_untrue, place_within}
use Rattle.run.proofs.Levels.{suffix_place, suffix_on, suffix_level, suffix_distinct, lowered_suffix, level_within, lower_level, below_top, undecided_lowered}
use Rattle.validation.specs.Inner.Fixpoint.{height}

-- the height of a literal
pub height_on : (trail : List Entry) (l : ℕ) → 0 < place trail l → height trail l ≡ suc (level trail l)
unfolding height
height_on trail l h = rw (place_true trail l h)

pub height_off : (trail : List Entry) (l : ℕ) → place trail l ≡ 0 → height trail l ≡ 0
unfolding height
height_off trail l e = rw (place_untrue trail l e)

abbrev pub HeightCase : List Entry → ℕ → Type 0
HeightCase trail l = ((0 < place trail l) × (height trail l ≡ suc (level trail l))) ⊎ ((place trail l ≡ 0) × (height trail l ≡ 0))

pub height_cases : (trail : List Entry) (l : ℕ) → HeightCase trail l
height_cases trail l =
    ⊎_elim (λ h. inl (h, height_on trail l h)) (λ h. let e : place trail l ≡ 0 = omega arith in inr (e, height_off trail l e)) (below 0 (place trail l))

-- on the trail without its top level
module _ (trail : List Entry) (once : distinct (variables_on trail) ≡ true) (l : ℕ) where
  pub lowered_off : place trail l ≡ 0 → height (lowered trail) l ≡ 0
  lowered_off e = height_off (lowered trail) l (suffix_place (lowered_suffix trail) l (omega arith) ∙ e)

  pub lowered_top : level trail l ≡ length (decisions trail) → height (lowered trail) l ≡ 0
  lowered_top top = go (below 0 (place (lowered trail) l)) (below 0 (length (decisions trail)))
    where
      go : (0 < place (lowered trail) l) ⊎ (place (lowered trail) l ≤ 0) → (0 < length (decisions trail)) ⊎ (length (decisions trail) ≤ 0)
          → height (lowered trail) l ≡ 0
      go (inl h) (inl d) =
          let same = suffix_on (lowered_suffix trail) l once h in
          let within = place_within (lowered trail) l in
          let less = lower_level trail l d (omega arith) in
          absurd (omega arith)
      go (inl h) (inr d) =
          let within = place_within (lowered trail) l in
          let none = undecided_lowered trail (omega arith) in
          absurd (omega arith)
      go (inr h) d = height_off (lowered trail) l (omega arith)

  pub lowered_below : 0 < place trail l → (level trail l ≡ length (decisions trail) → ⊥) → height (lowered trail) l ≡ suc (level trail l)
  lowered_below h n =
      let most = level_within trail l in
      let within = below_top trail l (omega arith) in
      let same = suffix_place (lowered_suffix trail) l within in
      height_on (lowered trail) l (omega arith) ∙ ap suc (suffix_level (lowered_suffix trail) l within)

-- on the trail or on the trail without its top level
module _ (trail : List Entry) (once : distinct (variables_on trail) ≡ true) where
  pub chosen_distinct : (lower : Bool) → distinct (variables_on (cond lower (lowered trail) trail)) ≡ true
  chosen_distinct true = suffix_distinct (lowered_suffix trail) once
  chosen_distinct false = once

  pub chosen_off : (lower : Bool) (l : ℕ) → place trail l ≡ 0 → height (cond lower (lowered trail) trail) l ≡ 0
  chosen_off true l e = lowered_off trail once l e
  chosen_off false l e = height_off trail l e

  pub chosen_top : (lower : Bool) (l : ℕ) → lower ≡ true → level trail l ≡ length (decisions trail)
      → height (cond lower (lowered trail) trail) l ≡ 0
  chosen_top lower l e top = rw e (lowered_top trail once l top)

  pub chosen_on : (lower : Bool) (l : ℕ) → 0 < place trail l → (lower ≡ false) ⊎ (level trail l ≡ length (decisions trail) → ⊥)
      → height (cond lower (lowered trail) trail) l ≡ suc (level trail l)
  chosen_on true l h (inl e) = absurd (never refl e)
  chosen_on true l h (inr n) = lowered_below trail once l h n
  chosen_on false l h w = height_on trail l h

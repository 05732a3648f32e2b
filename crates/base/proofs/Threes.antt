-- Lists read three by three.
use Prim.Native.Nat.{ℕ, ◌*◌, ◌%◌, ◌≤◌, ◌<◌}
use mathlib.Core.Bool.{Bool, true, false, ◌&&◌}
use mathlib.Core.List.{List, [], ◌∷◌, ◌++◌}
use mathlib.Core.Path.{◌≡◌, refl, ap, ◌∙◌}
use native.Mathlib.Omega.{arith}
use borrow.Author.Tests.{leb-true, lt-leb}
use lib.Dec.{leb, eqb}
use lib.ListN.{length}
use Rattle.base.specs.Lists.{all, by_three, all_threes}
use Rattle.base.proofs.Bools.{never, and_parts}

-- A test of the threes, none of whose elements is left over:
module _ {A : Type 0} (test : A → A → A → Bool) where
  -- threes, and what follows them
  pub tests_join : (front rest : List A) → all_threes test front ≡ true → all_threes test (front ++ rest) ≡ all_threes test rest
  unfolding all_threes
  tests_join [] rest e = refl
  tests_join (x ∷ []) rest e = absurd (never e refl)
  tests_join (x ∷ y ∷ []) rest e = absurd (never e refl)
  tests_join (x ∷ y ∷ z ∷ front) rest e =
      let parts = and_parts (test x y z) (all_threes test front) e in
      rw parts.0 (tests_join front rest parts.1)

  module _ {B : Type 0} (make : A → A → A → B) where
    pub threes_join : (front rest : List A) → all_threes test front ≡ true → by_three make (front ++ rest) ≡ by_three make front ++ by_three make rest
    unfolding by_three all_threes
    threes_join [] rest e = refl
    threes_join (x ∷ []) rest e = absurd (never e refl)
    threes_join (x ∷ y ∷ []) rest e = absurd (never e refl)
    threes_join (x ∷ y ∷ z ∷ front) rest e =
        ap (λ (made : List B). make x y z ∷ made) (threes_join front rest (and_parts (test x y z) (all_threes test front) e).1)

    -- as many as a third of the elements
    pub threes_all : (xs : List A) → all_threes test xs ≡ true → 3 * length (by_three make xs) ≡ length xs
    unfolding by_three all_threes
    threes_all [] e = refl
    threes_all (x ∷ []) e = absurd (never e refl)
    threes_all (x ∷ y ∷ []) e = absurd (never e refl)
    threes_all (x ∷ y ∷ z ∷ xs) e = omega (arith, threes_all xs (and_parts (test x y z) (all_threes test xs) e).1)

    -- The threes of a list are tested, they are at most so many, and what each of them makes is within its range.
    module _ (most : ℕ) (within : B → Bool) (xs : List A) where
      abbrev ranged : Bool
      ranged = all_threes test xs && leb (length (by_three make xs)) most && all within (by_three make xs)

      pub ranged_parts : ranged ≡ true → (all_threes test xs ≡ true) × (length (by_three make xs) ≤ most) × (all within (by_three make xs) ≡ true)
      ranged_parts e =
          let both = and_parts (all_threes test xs && leb (length (by_three make xs)) most) (all within (by_three make xs)) e in
          let counted = and_parts (all_threes test xs) (leb (length (by_three make xs)) most) both.0 in
          (counted.0, leb-true (length (by_three make xs)) most counted.1, both.1)

      pub too_many : 3 * most < length xs → false ≡ ranged
      too_many h = go (all_threes test xs) refl
        where
          go : (t : Bool) → all_threes test xs ≡ t → false ≡ (t && leb (length (by_three make xs)) most && all within (by_three make xs))
          go true e = rw (lt-leb (length (by_three make xs)) most (omega (arith, threes_all xs e)))
          go false e = refl

-- any three, if none is left over
abbrev pub any_three : {A : Type 0} → A → A → A → Bool
any_three x y z = true

pub whole_threes : {A : Type 0} (xs : List A) → eqb (length xs % 3) 0 ≡ all_threes any_three xs
unfolding all_threes
whole_threes [] = refl
whole_threes (x ∷ []) = refl
whole_threes (x ∷ y ∷ []) = refl
whole_threes (x ∷ y ∷ z ∷ xs) =
    let same : length (x ∷ y ∷ z ∷ xs) % 3 ≡ length xs % 3 = omega arith in
    ap (λ (n : ℕ). eqb n 0) same ∙ whole_threes xs

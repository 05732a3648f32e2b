-- Laws of `firsts`: which numbers it holds, that it repeats none, one number more at the end, and the lists that it leaves as they are.
use Prim.Native.Nat.{ℕ, zero, suc, ◌≤◌}
use native.Mathlib.Omega.{arith}
use mathlib.Core.Bool.{Bool, true, false, cond, not, ◌||◌, or-true}
use mathlib.Core.List.{List, [], ◌∷◌, ◌++◌}
use mathlib.Core.Path.{◌≡◌, refl, sym, ap, ◌∙◌}
use borrow.Author.Tests.{eqb-true, eqb-false, ne_eqb, not-true}
use lib.Dec.{eqb}
use lib.ListN.{length}
use Rattle.base.specs.Lists.{all, any, keep, member, distinct, times, without, firsts}
use Rattle.base.proofs.Bools.{and_parts, same_test, never}
use Rattle.base.proofs.Members.{member_at, times_kept_out, times_kept}
use Rattle.base.proofs.ForAll.{all-member, all_members, any_place, any-member, times-member}
use Rattle.base.proofs.Occurrences.{keep_all, once_distinct}

-- a list without a number: the other numbers stand in it, it is no longer, and of two lists it is both without the number
member-without : (x y : ℕ) (zs : List ℕ) → (x ≡ y → ⊥) → member x (without y zs) ≡ member x zs
unfolding without keep member
member-without x y [] n = refl
member-without x y (z ∷ zs) n = go (eqb z y) refl (member-without x y zs n)
  where
    go : (b : Bool) → eqb z y ≡ b → member x (without y zs) ≡ member x zs
        → member x (cond (not b) (z ∷ without y zs) (without y zs)) ≡ (eqb x z || member x zs)
    go true e ih = rw (ne_eqb x z (λ q. n (q ∙ eqb-true z y e))) ih
    go false e ih = ap (λ (b : Bool). eqb x z || b) ih

without_short : (x : ℕ) (ys : List ℕ) → length (without x ys) ≤ length ys
unfolding without keep
without_short x [] = omega arith
without_short x (y ∷ ys) = go (eqb y x) (without_short x ys)
  where
    go : (b : Bool) → length (without x ys) ≤ length ys → length (cond (not b) (y ∷ without x ys) (without x ys)) ≤ suc (length ys)
    go true ih = omega arith
    go false ih = omega arith

without-append : (x : ℕ) (ys zs : List ℕ) → without x (ys ++ zs) ≡ without x ys ++ without x zs
unfolding without keep
without-append x [] zs = refl
without-append x (y ∷ ys) zs = go (eqb y x) (without-append x ys zs)
  where
    go : (b : Bool) → without x (ys ++ zs) ≡ without x ys ++ without x zs
        → cond (not b) (y ∷ without x (ys ++ zs)) (without x (ys ++ zs)) ≡ cond (not b) (y ∷ without x ys) (without x ys) ++ without x zs
    go true ih = ih
    go false ih = ap (λ (l : List ℕ). y ∷ l) ih

-- the same numbers stand in it
pub member-firsts : (x : ℕ) (ys : List ℕ) → member x (firsts ys) ≡ member x ys
unfolding firsts member
member-firsts x [] = refl
member-firsts x (y ∷ ys) = go (eqb x y) refl (member-firsts x ys)
  where
    go : (b : Bool) → eqb x y ≡ b → member x (firsts ys) ≡ member x ys → (b || member x (without y (firsts ys))) ≡ (b || member x ys)
    go true e ih = refl
    go false e ih = member-without x y (firsts ys) (eqb-false x y e) ∙ ih

-- what holds of all or of some numbers of a list holds of all or some of these
pub firsts-all : (p : ℕ → Bool) (xs : List ℕ) → all p xs ≡ true → all p (firsts xs) ≡ true
firsts-all p xs h = all_members p (firsts xs) (λ x m. all-member p xs h x (sym (member-firsts x xs) ∙ m))

any_within : (p : ℕ → Bool) (xs ys : List ℕ) → ((x : ℕ) → member x xs ≡ true → member x ys ≡ true) → any p xs ≡ true → any p ys ≡ true
any_within p xs ys inside h = let at = any_place p xs 0 h in any-member p ys _ (inside _ (member_at xs at.0 at.1)) at.2

pub firsts-any : (p : ℕ → Bool) (xs : List ℕ) → any p (firsts xs) ≡ any p xs
firsts-any p xs =
    same_test (any p (firsts xs)) (any p xs) (any_within p (firsts xs) xs (λ x m. sym (member-firsts x xs) ∙ m))
    (any_within p xs (firsts xs) (λ x m. member-firsts x xs ∙ m))

pub firsts_short : (xs : List ℕ) → length (firsts xs) ≤ length xs
unfolding firsts
firsts_short [] = omega arith
firsts_short (x ∷ xs) = omega (arith, without_short x (firsts xs), firsts_short xs)

-- no number stands in it twice
times-firsts : (x : ℕ) (ys : List ℕ) → times x (firsts ys) ≤ 1
unfolding firsts times without
times-firsts x [] = omega arith
times-firsts x (y ∷ ys) = go (eqb x y) refl (times-firsts x ys)
  where
    go : (b : Bool) → eqb x y ≡ b → times x (firsts ys) ≤ 1 → cond b (suc (times x (without y (firsts ys)))) (times x (without y (firsts ys))) ≤ 1
    go true e ih = rw (eqb-true x y e) (omega (arith, times_kept_out y (firsts ys)))
    go false e ih = omega (arith, times_kept x y (firsts ys) (eqb-false x y e))

pub firsts-distinct : (xs : List ℕ) → distinct (firsts xs) ≡ true
firsts-distinct xs = once_distinct (firsts xs) (λ x. times-firsts x xs)

-- one number more at the end
without_last : (x y : ℕ) (m b : Bool) → eqb x y ≡ b → without y (cond m [] (x ∷ [])) ≡ cond (b || m) [] (x ∷ [])
unfolding without keep
without_last x y true b e = rw or-true
without_last x y false true e = rw e
without_last x y false false e = rw e

pub firsts_more : (xs : List ℕ) (x : ℕ) → firsts (xs ++ (x ∷ [])) ≡ firsts xs ++ cond (member x xs) [] (x ∷ [])
unfolding firsts member without keep
firsts_more [] x = refl
firsts_more (y ∷ ys) x =
    rw (firsts_more ys x, without-append y (firsts ys))
    (ap (λ (l : List ℕ). y ∷ (without y (firsts ys) ++ l)) (without_last x y (member x ys) (eqb x y) refl))

-- a list that repeats no number stays as it is
pub firsts_same : (xs : List ℕ) → distinct xs ≡ true → firsts xs ≡ xs
unfolding firsts distinct without
firsts_same [] d = refl
firsts_same (x ∷ xs) d =
    let parts = and_parts (not (member x xs)) (distinct xs) d in
    let none : times x xs ≡ 0 = counted_none (not-true (member x xs) parts.0) in
    rw (firsts_same xs parts.1) (ap (λ (l : List ℕ). x ∷ l) (keep_all x xs none))
  where
    counted_none : member x xs ≡ false → times x xs ≡ 0
    counted_none out = go (times x xs) refl
      where
        go : (n : ℕ) → times x xs ≡ n → n ≡ 0
        go zero e = refl
        go (suc n) e = absurd (never (times-member x xs (omega arith)) out)

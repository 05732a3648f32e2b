-- Laws of the tests `all`, `any`, `up_to` and `same`: what they say, and what makes them hold.
use Prim.Native.Nat.{ℕ, zero, suc, ◌<◌}
use native.Mathlib.Nat.{le_of_suc-le-suc}
use native.Mathlib.Omega.{arith}
use mathlib.Core.Bool.{Bool, true, ◌||◌, or-true}
use mathlib.Core.List.{List, [], ◌∷◌}
use mathlib.Core.Logic.{◌⊎◌, inl, inr, ⊎_elim}
use mathlib.Core.Path.{◌≡◌, refl, ap, ap₂, ◌∙◌}
use borrow.Author.Tests.{eqb-true, eq-eqb}
use lib.Dec.{eqb}
use lib.ListN.{length, get_or}
use Rattle.base.specs.Lists.{all, any, member, times, same, up_to}
use Rattle.base.proofs.Bools.{and_parts, alike, both, either, never}
use Rattle.base.proofs.Members.{position, times_other}

pub left_or : {a : Bool} (b : Bool) → a ≡ true → (a || b) ≡ true
left_or b e = rw e

pub right_or : (a : Bool) {b : Bool} → b ≡ true → (a || b) ≡ true
right_or a e = rw (e, or-true)

-- every number below n
pub upto_at : (n : ℕ) (test : ℕ → Bool) → up_to n test ≡ true → (i : ℕ) → i < n → test i ≡ true
unfolding up_to
upto_at zero test e i h = absurd (omega arith)
upto_at (suc n) test e i h =
    let parts = and_parts (up_to n test) (test n) e in
    ⊎_elim (λ q. rw q parts.1) (λ m. upto_at n test parts.0 i (omega arith)) (alike i n)

pub upto_all : (n : ℕ) (test : ℕ → Bool) → ((i : ℕ) → i < n → test i ≡ true) → up_to n test ≡ true
unfolding up_to
upto_all zero test at = refl
upto_all (suc n) test at = both (upto_all n test (λ i h. at i (omega arith))) (at n (omega arith))

-- every element, by its place
pub all_places : {A : Type 0} (p : A → Bool) (xs : List A) (d : A) → ((i : ℕ) → i < length xs → p (get_or xs i d) ≡ true) → all p xs ≡ true
unfolding all
all_places p [] d at = refl
all_places p (x ∷ xs) d at = both (at 0 (omega arith)) (all_places p xs d (λ i h. at (suc i) (omega arith)))

-- every element, as a member
pub all-member : (p : ℕ → Bool) (xs : List ℕ) → all p xs ≡ true → (x : ℕ) → member x xs ≡ true → p x ≡ true
unfolding all member
all-member p [] a x m = absurd (never m refl)
all-member p (y ∷ xs) a x m =
    let parts = and_parts (p y) (all p xs) a in
    ⊎_elim (λ e. rw (eqb-true x y e) parts.0) (all-member p xs parts.1 x) (either (eqb x y) (member x xs) m)

pub all_members : (p : ℕ → Bool) (xs : List ℕ) → ((x : ℕ) → member x xs ≡ true → p x ≡ true) → all p xs ≡ true
unfolding all member
all_members p [] at = refl
all_members p (y ∷ xs) at =
    both (at y (left_or (member y xs) (eq-eqb y y refl))) (all_members p xs (λ x m. at x (right_or (eqb x y) m)))

-- some element, by its place
pub any_place : {A : Type 0} (p : A → Bool) (xs : List A) (d : A) → any p xs ≡ true
    → (i : ℕ) × (i < length xs) × (p (get_or xs i d) ≡ true)
unfolding any
any_place p [] d e = absurd (never e refl)
any_place p (x ∷ xs) d e =
    ⊎_elim (λ h. (0, omega arith, h)) (λ r. let k = any_place p xs d r in (suc k.0, omega arith, k.2)) (either (p x) (any p xs) e)

pub any_at : {A : Type 0} (p : A → Bool) (xs : List A) (d : A) (i : ℕ) → i < length xs → p (get_or xs i d) ≡ true → any p xs ≡ true
unfolding any
any_at p [] d i h e = absurd (omega arith)
any_at p (x ∷ xs) d zero h e = left_or (any p xs) e
any_at p (x ∷ xs) d (suc i) h e = right_or (p x) (any_at p xs d i (le_of_suc-le-suc h) e)

-- some element, as a member
pub any-member : (p : ℕ → Bool) (xs : List ℕ) (x : ℕ) → member x xs ≡ true → p x ≡ true → any p xs ≡ true
any-member p xs x m h = let at = position x xs m in any_at p xs 0 at.0 at.1 (ap p at.2 ∙ h)

-- a number stands in a list exactly if it is counted there
pub member-times : (x : ℕ) (xs : List ℕ) → member x xs ≡ true → 0 < times x xs
unfolding member times
member-times x [] m = absurd (never m refl)
member-times x (y ∷ xs) m = go (alike x y) (either (eqb x y) (member x xs) m) (member-times x xs)
  where
    go : (x ≡ y) ⊎ (x ≡ y → ⊥) → (eqb x y ≡ true) ⊎ (member x xs ≡ true) → (member x xs ≡ true → 0 < times x xs) → 0 < times x (y ∷ xs)
    go (inl e) k rest = rw (eq-eqb x y e) (omega arith)
    go (inr n) (inl k) rest = absurd (n (eqb-true x y k))
    go (inr n) (inr k) rest = let z = times_other x y xs n in let r = rest k in omega arith

pub times-member : (x : ℕ) (xs : List ℕ) → 0 < times x xs → member x xs ≡ true
unfolding member times
times-member x [] h = absurd (omega arith)
times-member x (y ∷ xs) h =
    ⊎_elim (λ e. left_or (member x xs) (eq-eqb x y e))
    (λ n. right_or (eqb x y) (times-member x xs (let z = times_other x y xs n in omega arith))) (alike x y)

-- the same lists
pub same_equal : (xs ys : List ℕ) → same xs ys ≡ true → xs ≡ ys
unfolding same
same_equal [] [] e = refl
same_equal [] (y ∷ ys) e = absurd (never e refl)
same_equal (x ∷ xs) [] e = absurd (never e refl)
same_equal (x ∷ xs) (y ∷ ys) e =
    let parts = and_parts (eqb x y) (same xs ys) e in
    ap₂ ◌∷◌ (eqb-true x y parts.0) (same_equal xs ys parts.1)

pub equal_same : (xs : List ℕ) → same xs xs ≡ true
unfolding same
equal_same [] = refl
equal_same (x ∷ xs) = both (eq-eqb x x refl) (equal_same xs)

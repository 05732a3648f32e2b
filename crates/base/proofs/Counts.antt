-- The elements of a list that a test holds of: how many they are, in any order; one alone; and the first number below n.
use Prim.Native.Nat.{ℕ, zero, suc, ◌+◌, ◌≤◌, ◌<◌}
use mathlib.Core.Bool.{Bool, true, false, cond}
use mathlib.Core.List.{List, [], ◌∷◌, ◌++◌}
use mathlib.Core.Logic.{◌⊎◌, inl, inr}
use mathlib.Core.Path.{◌≡◌, refl, sym, ◌∙◌}
use native.Mathlib.Omega.{arith}
use lib.ListN.{length}
use Rattle.base.specs.Lists.{keep, table, Reordered, unmoved, swapped, behind, further}
use Rattle.base.proofs.Lists.{length_reordered}

no_elements : {A : Type 0} (xs : List A) → length xs ≡ 0 → xs ≡ []
no_elements [] e = refl
no_elements (x ∷ xs) e = absurd (omega (arith, e))

one_element : {A : Type 0} (xs : List A) → length xs ≡ 1 → (x : A) × (xs ≡ x ∷ [])
one_element [] e = absurd (omega (arith, e))
one_element (x ∷ xs) e = (x, rw (no_elements xs (omega (arith, e))))

alone : {A : Type 0} {xs ys : List A} → Reordered xs ys → length xs ≡ 1 → xs ≡ ys
alone unmoved e = refl
alone swapped e = absurd (omega (arith, e))
alone (behind {x = x} {xs = xs} {ys = ys} r) e =
    let here = no_elements xs (omega (arith, e)) in
    let there = no_elements ys (omega (arith, e, length_reordered r)) in
    rw (here, there)
alone (further r s) e = alone r e ∙ alone s (sym (length_reordered r) ∙ e)

module _ {A : Type 0} (p : A → Bool) where
  abbrev pub count : List A → ℕ
  count xs = length (keep p xs)

  -- of one element
  abbrev pub one : A → ℕ
  one x = cond (p x) 1 0

  pub one_most : (x : A) → one x ≤ 1
  one_most x = go (p x)
    where
      go : (t : Bool) → cond t 1 0 ≤ 1
      go true = omega arith
      go false = omega arith

  pub count_first : (x : A) (xs : List A) → count (x ∷ xs) ≡ one x + count xs
  unfolding keep
  count_first x xs = go (p x) (keep p xs)
    where
      go : (t : Bool) (kept : List A) → length (cond t (x ∷ kept) kept) ≡ cond t 1 0 + length kept
      go true kept = omega arith
      go false kept = omega arith

  pub count_append : (xs ys : List A) → count (xs ++ ys) ≡ count xs + count ys
  unfolding keep
  count_append [] ys = omega arith
  count_append (x ∷ xs) ys = omega (arith, count_first x (xs ++ ys), count_first x xs, count_append xs ys)

  pub count_few : (xs : List A) → count xs ≤ length xs
  unfolding keep
  count_few [] = omega arith
  count_few (x ∷ xs) = omega (arith, count_first x xs, count_few xs, one_most x)

  pub count_reordered : {xs ys : List A} → Reordered xs ys → count xs ≡ count ys
  count_reordered unmoved = refl
  count_reordered (swapped {x = x} {y = y} {xs = xs}) = omega (arith, count_first x (y ∷ xs), count_first y xs, count_first y (x ∷ xs), count_first x xs)
  count_reordered (behind {x = x} {xs = xs} {ys = ys} r) = omega (arith, count_first x xs, count_first x ys, count_reordered r)
  count_reordered (further r s) = count_reordered r ∙ count_reordered s

  keep_reordered : {xs ys : List A} → Reordered xs ys → Reordered (keep p xs) (keep p ys)
  unfolding keep
  keep_reordered unmoved = unmoved
  keep_reordered (swapped {x = x} {y = y} {xs = xs}) = go (p x) (p y) (keep p xs)
    where
      go : (a b : Bool) (kept : List A) → Reordered (cond a (x ∷ cond b (y ∷ kept) kept) (cond b (y ∷ kept) kept)) (cond b (y ∷ cond a (x ∷ kept) kept) (cond a (x ∷ kept) kept))
      go true true kept = swapped
      go true false kept = unmoved
      go false true kept = unmoved
      go false false kept = unmoved
  keep_reordered (behind {x = x} {xs = xs} {ys = ys} r) = go (p x) (keep_reordered r)
    where
      go : (a : Bool) → Reordered (keep p xs) (keep p ys) → Reordered (cond a (x ∷ keep p xs) (keep p xs)) (cond a (x ∷ keep p ys) (keep p ys))
      go true kept = behind kept
      go false kept = kept
  keep_reordered (further r s) = further (keep_reordered r) (keep_reordered s)

  -- one element has one order
  pub kept_alone : {xs ys : List A} → Reordered xs ys → count xs ≡ 1 → keep p xs ≡ keep p ys
  kept_alone r e = alone (keep_reordered r) e

  -- where it holds of one alone, that is kept
  pub kept_one : (xs : List A) → count xs ≡ 1 → (x : A) × (keep p xs ≡ x ∷ [])
  kept_one xs e = one_element (keep p xs) e

-- A number below n is the first that the test holds of.
pub record First (n : ℕ) (test : ℕ → Bool) (i : ℕ) : Type 0 where
  pub small : i < n
  pub holds : test i ≡ true
  pub none_before : (j : ℕ) → j < i → test j ≡ false

module _ (p : ℕ → Bool) where
  -- a number more in front
  none_more : (n : ℕ) → p 0 ≡ false → ((i : ℕ) → i < n → p (suc i) ≡ false) → (i : ℕ) → i < suc n → p i ≡ false
  none_more n e rest zero h = e
  none_more n e rest (suc i) h = rest i (omega arith)

  first_more : (n i : ℕ) → p 0 ≡ false → First n (λ (j : ℕ). p (suc j)) i → First (suc n) p (suc i)
  first_more n i e f =
      record { small = omega (arith, f.small); holds = f.holds; none_before = none_more i e f.none_before }

-- There is a first one, or there is none.
pub first_or_none : (n : ℕ) (p : ℕ → Bool) → ((i : ℕ) → i < n → p i ≡ false) ⊎ ((i : ℕ) × First n p i)
first_or_none zero p = inl (λ i h. absurd (omega arith))
first_or_none (suc n) p = go (p 0) refl (first_or_none n (λ (i : ℕ). p (suc i)))
  where
    go : (t : Bool) → p 0 ≡ t → ((i : ℕ) → i < n → p (suc i) ≡ false) ⊎ ((i : ℕ) × First n (λ (j : ℕ). p (suc j)) i)
        → ((i : ℕ) → i < suc n → p i ≡ false) ⊎ ((i : ℕ) × First (suc n) p i)
    go true e later = inr (0, record { small = omega arith; holds = e; none_before = λ j h. absurd (omega arith) })
    go false e (inl none) = inl (none_more p n e none)
    go false e (inr found) = inr (suc found.0, first_more p n found.0 e found.1)

-- Of the values of a function in turn, those of which the test holds: none, or the first one first.
pub kept_none : {A : Type 0} (p : A → Bool) (n : ℕ) (f : ℕ → A) → ((i : ℕ) → i < n → p (f i) ≡ false) → keep p (table n f) ≡ []
unfolding keep table
kept_none p zero f none = refl
kept_none p (suc n) f none = rw (none 0 (omega arith)) (kept_none p n (λ (i : ℕ). f (suc i)) (λ i h. none (suc i) (omega arith)))

pub kept_first : {A : Type 0} (p : A → Bool) (n : ℕ) (f : ℕ → A) (i : ℕ) → First n (λ (j : ℕ). p (f j)) i
    → (rest : List A) × (keep p (table n f) ≡ f i ∷ rest)
unfolding keep table
kept_first p zero f i h = absurd (omega (arith, h.small))
kept_first p (suc n) f zero h = (keep p (table n (λ (j : ℕ). f (suc j))), rw h.holds)
kept_first p (suc n) f (suc i) h =
    let later = kept_first p n (λ (j : ℕ). f (suc j)) i
    (record { small = omega (arith, h.small); holds = h.holds; none_before = λ j k. h.none_before (suc j) (omega arith) }) in
    (later.0, rw (h.none_before 0 (omega arith)) later.1)

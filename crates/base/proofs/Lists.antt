-- Laws of lists: places, parts, one element more, tests of every element, lists one after the other, the first number, any order.
use Prim.Native.Nat.{ℕ, zero, suc, ◌+◌, ◌-◌, ◌≤◌, ◌<◌}
use native.Mathlib.Nat.{suc-sub-suc, sub-zero}
use native.Mathlib.Omega.{arith}
use mathlib.Core.Bool.{Bool, true, false, ◌&&◌, and-true, and_assoc}
use mathlib.Core.List.{List, [], ◌∷◌, ◌++◌, map, append_assoc, append-nil, Memᴰ}
use mathlib.Core.Logic.{◌⊎◌, inl, inr}
use mathlib.Core.Path.{◌≡◌, refl, sym, ap, ◌∙◌}
use borrow.Author.Tests.{eqb-true, eqb-false, eq-eqb, ne_eqb, ltb-true, ltb-false}
use lib.Dec.{eqb, ltb}
use lib.ListN.{length, get_or, take, drop, set, replicate, length-append, length-drop, drop_of_length-le}
use lib.Seq.{take-add, take_all, take-nil, drop-cons, drop-drop, length-take-le, get_or-set_same, get_or-set_other, set_out}
use Rattle.base.specs.Lists.{all, flat, empty, begins, Reordered, unmoved, swapped, behind, further}
use Rattle.base.proofs.Bools.{both, and_parts}

-- where all elements are alike, and so is the default, every place gives the same
pub get_or_alike : {A : Type 0} (n i : ℕ) (a : A) → get_or (replicate n a) i a ≡ a
get_or_alike zero i a = refl
get_or_alike (suc n) zero a = refl
get_or_alike (suc n) (suc i) a = get_or_alike n i a

-- every place keeps what it holds, or it is the one that is set
pub get_or-set_cases : {A : Type 0} (xs : List A) (i j : ℕ) (a d : A)
    → (get_or (set xs i a) j d ≡ get_or xs j d) ⊎ ((j ≡ i) × (get_or (set xs i a) j d ≡ a))
get_or-set_cases xs i j a d = go (eqb j i) refl (ltb i (length xs)) refl
  where
    go : (t : Bool) → eqb j i ≡ t → (u : Bool) → ltb i (length xs) ≡ u
        → (get_or (set xs i a) j d ≡ get_or xs j d) ⊎ ((j ≡ i) × (get_or (set xs i a) j d ≡ a))
    go true e true f = inr (eqb-true j i e, rw (eqb-true j i e) (get_or-set_same xs i a d (ltb-true i (length xs) f)))
    go true e false f = inl (rw (set_out xs i a (ltb-false i (length xs) f)) refl)
    go false e u f = inl (get_or-set_other xs i j a d (eqb-false j i e))

module _ {A : Type 0} where
  -- the elements from place s up to, not including, place t
  abbrev pub part : ℕ → ℕ → List A → List A
  part s t l = take (t - s) (drop s l)

  pub length_part : (s t : ℕ) (l : List A) → t ≤ length l → length (part s t l) ≡ t - s
  length_part s t l h = length-take-le (t - s) (drop s l) (rw length-drop (omega arith))

  pub part_taken : (s t : ℕ) (l : List A) → s ≤ t → part s t l ≡ drop s (take t l)
  part_taken zero t l h = ap (λ (k : ℕ). take k l) (sub-zero t)
  part_taken (suc s) zero l h = absurd (omega arith)
  part_taken (suc s) (suc t) [] h = take-nil (suc t - suc s)
  part_taken (suc s) (suc t) (x ∷ l) h = ap (λ (k : ℕ). take k (drop s l)) (suc-sub-suc t s) ∙ part_taken s t l (omega arith)

  pub take-drop : (n s : ℕ) (l : List A) → take n (drop s l) ≡ drop s (take (s + n) l)
  take-drop n s l =
      let same : n ≡ s + n - s = omega arith in
      ap (λ (k : ℕ). take k (drop s l)) same ∙ part_taken s (s + n) l (omega arith)

  pub part_none : (s : ℕ) (l : List A) → part s s l ≡ []
  part_none s l =
      let none : s - s ≡ 0 = omega arith in
      rw none

  -- a part and the part behind it are one part
  pub part_join : (s t u : ℕ) (l : List A) → s ≤ t → t ≤ u → part s t l ++ part t u l ≡ part s u l
  part_join s t u l low high =
      let whole : u - s ≡ (t - s) + (u - t) = omega arith in
      let middle : s + (t - s) ≡ t = omega arith in
      rw (whole, take-add (t - s) (u - t) (drop s l), drop-drop (t - s) s l, middle)

  -- the first n of two lists, one after the other
  pub take_both : (n : ℕ) (xs ys : List A) → take n (xs ++ ys) ≡ take n xs ++ take (n - length xs) ys
  take_both n [] ys = rw (take-nil {A = A} n, sub-zero n)
  take_both zero (x ∷ xs) ys =
      let none : 0 - length (x ∷ xs) ≡ 0 = omega arith in
      rw none
  take_both (suc n) (x ∷ xs) ys = rw (suc-sub-suc n (length xs)) (ap (λ (l : List A). x ∷ l) (take_both n xs ys))

  -- the part from a place up to the end is all that follows, and behind it is nothing
  pub tail_whole : (at : ℕ) (xs : List A) → part at (length xs) xs ≡ drop at xs
  tail_whole at xs = take_all (length xs - at) (drop at xs) (rw (length-drop at xs) (omega arith))

  pub tail_back : (at : ℕ) (xs ys : List A) → take at xs ++ (ys ++ drop (length xs - at) (drop at xs)) ≡ take at xs ++ ys
  tail_back at xs ys =
      let none : drop (length xs - at) (drop at xs) ≡ [] = drop_of_length-le (drop at xs) {i = length xs - at} (rw (length-drop at xs) (omega arith)) in
      rw none (ap (λ (l : List A). take at xs ++ l) (append-nil ys))

  -- a test that holds of all holds at each place
  pub all_at : (p : A → Bool) (xs : List A) (d : A) → all p xs ≡ true → (i : ℕ) → i < length xs → p (get_or xs i d) ≡ true
  unfolding all
  all_at p [] d e i h = absurd (omega arith)
  all_at p (x ∷ xs) d e zero h = (and_parts (p x) (all p xs) e).0
  all_at p (x ∷ xs) d e (suc i) h = all_at p xs d (and_parts (p x) (all p xs) e).1 i (omega arith)

  -- and of each that is one of them
  pub all_of : (p : A → Bool) (xs : List A) → all p xs ≡ true → {x : A} → Memᴰ x xs → p x ≡ true
  unfolding all
  all_of p [] h m = elim m [ ]
  all_of p (y ∷ xs) h (Memᴰ.head e) = rw e (and_parts (p y) (all p xs) h).0
  all_of p (y ∷ xs) h (Memᴰ.tail m) = all_of p xs (and_parts (p y) (all p xs) h).1 m

  pub length_more : (xs : List A) (x : A) → length (xs ++ (x ∷ [])) ≡ suc (length xs)
  length_more xs x = length-append xs (x ∷ []) ∙ omega arith

  pub all_append : (p : A → Bool) (xs ys : List A) → all p (xs ++ ys) ≡ (all p xs && all p ys)
  unfolding all
  all_append p [] ys = refl
  all_append p (x ∷ xs) ys = rw (all_append p xs ys) (sym (and_assoc (p x) (all p xs) (all p ys)))

  pub all_more : (p : A → Bool) (xs : List A) (x : A) → all p (xs ++ (x ∷ [])) ≡ (all p xs && p x)
  unfolding all
  all_more p xs x = rw (all_append, and-true)

  pub all_both : (p : A → Bool) (xs ys : List A) → all p xs ≡ true → all p ys ≡ true → all p (xs ++ ys) ≡ true
  all_both p xs ys h i = rw (all_append, h, i)

  pub all_middle : (p : A → Bool) (xs : List A) (y : A) (ys : List A) → all p (xs ++ (y ∷ ys)) ≡ true → p y ≡ true
  unfolding all
  all_middle p [] y ys h = (and_parts (p y) (all p ys) h).0
  all_middle p (x ∷ xs) y ys h = all_middle p xs y ys (and_parts (p x) (all p (xs ++ (y ∷ ys))) h).1

  -- what every element is, it is also by a weaker test
  -- the test holds of every element, wherever it stands
  pub all_split : (p : A → Bool) (xs : List A) → ((before : List A) (x : A) (after : List A) → xs ≡ before ++ (x ∷ after) → p x ≡ true) → all p xs ≡ true
  unfolding all
  all_split p [] each = refl
  all_split p (x ∷ xs) each =
      both (each [] x xs refl) (all_split p xs (λ before y after e. each (x ∷ before) y after (ap (λ (l : List A). x ∷ l) e)))

  pub all_imply : (p q : A → Bool) → ((x : A) → p x ≡ true → q x ≡ true) → (xs : List A) → all p xs ≡ true → all q xs ≡ true
  unfolding all
  all_imply p q imply [] h = refl
  all_imply p q imply (x ∷ xs) h = go (p x) refl h (all_imply p q imply xs)
    where
      go : (b : Bool) → p x ≡ b → (b && all p xs) ≡ true → (all p xs ≡ true → all q xs ≡ true) → (q x && all q xs) ≡ true
      go true e h ih = rw (imply x e, ih h)
      go false e h ih = cc

  flat_append : (xss yss : List (List A)) → flat (xss ++ yss) ≡ flat xss ++ flat yss
  unfolding flat
  flat_append [] yss = refl
  flat_append (xs ∷ xss) yss = rw (flat_append xss yss) (sym (append_assoc xs (flat xss) (flat yss)))

  pub flat_more : (xss : List (List A)) (xs : List A) → flat (xss ++ (xs ∷ [])) ≡ flat xss ++ xs
  unfolding flat
  flat_more xss xs = rw (flat_append xss (xs ∷ []), append-nil)

  -- lists of which each is mapped to none longer: together they are none longer
  pub flat_shorter : (p : List A → Bool) (f : List A → List A) → ((xs : List A) → p xs ≡ true → length (f xs) ≤ length xs) → (xss : List (List A))
      → all p xss ≡ true → length (flat (map f xss)) ≤ length (flat xss)
  unfolding all flat
  flat_shorter p f short [] h = omega arith
  flat_shorter p f short (xs ∷ xss) h =
      let parts = and_parts (p xs) (all p xss) h in
      rw (length-append (f xs) (flat (map f xss)), length-append xs (flat xss))
      (omega (arith, short xs parts.0, flat_shorter p f short xss parts.1))

  pub empty_test : (xs : List A) → empty xs ≡ eqb (length xs) 0
  unfolding empty
  empty_test [] = sym (eq-eqb 0 0 refl)
  empty_test (x ∷ xs) = sym (ne_eqb (suc (length xs)) 0 (λ e. omega arith))

  -- lists of one length are both empty or both not
  pub empty-length : (xs ys : List A) → length xs ≡ length ys → empty xs ≡ empty ys
  empty-length xs ys h = rw (empty_test xs, empty_test ys, h)

  pub empty-false : (xs : List A) → 1 ≤ length xs → empty xs ≡ false
  empty-false xs h = empty_test xs ∙ ne_eqb (length xs) 0 (λ e. omega arith)

-- mapped elements: what they are, and back again
module _ {A B : Type 0} (q : A → Bool) (f : A → B) where
  pub all_map : (p : B → Bool) → ((x : A) → q x ≡ true → p (f x) ≡ true) → (xs : List A) → all q xs ≡ true → all p (map f xs) ≡ true
  unfolding all
  all_map p imply [] h = refl
  all_map p imply (x ∷ xs) h =
      let parts = and_parts (q x) (all q xs) h in
      rw (imply x parts.0, all_map p imply xs parts.1)

  pub map_undone : (g : B → A) → ((x : A) → q x ≡ true → g (f x) ≡ x) → (xs : List A) → all q xs ≡ true → map g (map f xs) ≡ xs
  unfolding all
  map_undone g back [] h = refl
  map_undone g back (x ∷ xs) h =
      let parts = and_parts (q x) (all q xs) h in
      rw (back x parts.0, map_undone g back xs parts.1)

-- the first number from a place on
pub begins_at : (b : ℕ) (xs : List ℕ) (i : ℕ) → i < length xs → begins b (drop i xs) ≡ eqb (get_or xs i 0) b
unfolding begins
begins_at b xs i h = rw (drop-cons xs i 0 h)

pub begins_end : (b : ℕ) (xs : List ℕ) (i : ℕ) → length xs ≤ i → begins b (drop i xs) ≡ false
unfolding begins
begins_end b xs i h = rw (drop_of_length-le xs h)

-- the same elements, in any order
module _ {A : Type 0} where
  pub length_reordered : {xs ys : List A} → Reordered xs ys → length xs ≡ length ys
  length_reordered unmoved = refl
  length_reordered swapped = refl
  length_reordered (behind r) = omega (arith, length_reordered r)
  length_reordered (further r s) = length_reordered r ∙ length_reordered s

  pub all_reordered : (p : A → Bool) {xs ys : List A} → Reordered xs ys → all p xs ≡ all p ys
  unfolding all
  all_reordered p unmoved = refl
  all_reordered p (swapped {x = x} {y = y} {xs = xs}) = go (p x) (p y) (all p xs)
    where
      go : (a b c : Bool) → (a && (b && c)) ≡ (b && (a && c))
      go true true c = refl
      go true false c = refl
      go false true c = refl
      go false false c = refl
  all_reordered p (behind {x = x} r) = ap (λ (b : Bool). p x && b) (all_reordered p r)
  all_reordered p (further r s) = all_reordered p r ∙ all_reordered p s

-- Laws of numbers in lists: membership, a loop that looks for a number, no number twice, how often a number stands in a list.
use Prim.Native.Nat.{ℕ, zero, suc, ◌<◌}
use native.Mathlib.Nat.{le_of_suc-le-suc}
use native.Mathlib.Omega.{arith}
use mathlib.Core.Bool.{Bool, true, false, cond, not, ◌&&◌, ◌||◌, or-true, or-false, or_assoc}
use mathlib.Core.List.{List, [], ◌∷◌, ◌++◌}
use mathlib.Core.Logic.{◌⊎◌, inl, inr}
use mathlib.Core.Path.{◌≡◌, refl, sym, ap, ◌∙◌}
use borrow.Author.Tests.{eqb-true, eqb-false, eq-eqb, ne_eqb, not-true}
use lib.Dec.{eqb}
use lib.ListN.{length, get_or, take, drop, take-append-drop}
use Rattle.base.specs.Lists.{keep, member, distinct, times}
use Rattle.base.proofs.Bools.{either, neither_left, never, refuted, eqb_sym, and_parts}

-- what stands in two lists, one after the other, stands in one of them
pub member-append : (x : ℕ) (xs ys : List ℕ) → member x (xs ++ ys) ≡ (member x xs || member x ys)
unfolding member
member-append x [] ys = refl
member-append x (y ∷ xs) ys = rw (member-append x xs ys, or_assoc)

pub member_more : (x : ℕ) (xs : List ℕ) (y : ℕ) → member x (xs ++ (y ∷ [])) ≡ (member x xs || eqb x y)
unfolding member
member_more x xs y = rw (member-append, or-false)

-- a list with one number more repeats none if it did not before and the number is new
pub distinct_more : (xs : List ℕ) (x : ℕ) → distinct (xs ++ (x ∷ [])) ≡ (distinct xs && not (member x xs))
unfolding distinct member
distinct_more [] x = refl
distinct_more (y ∷ xs) x =
    rw (distinct_more xs x, member_more y xs x, eqb_sym y x) (exchange (member y xs) (eqb x y) (distinct xs) (member x xs))
  where
    exchange : (m e d n : Bool) → (not (m || e) && (d && not n)) ≡ ((not m && d) && not (e || n))
    exchange true e d n = refl
    exchange false true true n = refl
    exchange false true false n = refl
    exchange false false d n = refl

-- a list without its last numbers repeats none either
pub distinct_front : (xs ys : List ℕ) → distinct (xs ++ ys) ≡ true → distinct xs ≡ true
unfolding distinct
distinct_front [] ys e = refl
distinct_front (x ∷ xs) ys e =
    let parts = and_parts (not (member x (xs ++ ys))) (distinct (xs ++ ys)) e in
    let apart : (member x xs || member x ys) ≡ false = rw member-append at (not-true (member x (xs ++ ys)) parts.0) in
    rw (neither_left (member x xs) (member x ys) apart, distinct_front xs ys parts.1)

-- the element at a position stands in the list, and what stands in it has a position
pub member_at : (xs : List ℕ) (i : ℕ) → i < length xs → member (get_or xs i 0) xs ≡ true
unfolding member
member_at [] i h = absurd (omega arith)
member_at (x ∷ xs) zero h = rw (eq-eqb x x refl)
member_at (x ∷ xs) (suc i) h = rw (member_at xs i (le_of_suc-le-suc h), or-true)

pub position : (x : ℕ) (xs : List ℕ) → member x xs ≡ true → (i : ℕ) × (i < length xs) × (get_or xs i 0 ≡ x)
unfolding member
position x [] h = absurd (never h refl)
position x (y ∷ xs) h = go (either (eqb x y) (member x xs) h) (position x xs)
  where
    go : (eqb x y ≡ true) ⊎ (member x xs ≡ true) → (member x xs ≡ true → (i : ℕ) × (i < length xs) × (get_or xs i 0 ≡ x))
        → (i : ℕ) × (i < length (y ∷ xs)) × (get_or (y ∷ xs) i 0 ≡ x)
    go (inl e) found = (0, omega arith, sym (eqb-true x y e))
    go (inr m) found = let p = found m in (suc p.0, omega arith, p.2)

-- what stands among the first i stands in the list
pub member_front : (x : ℕ) (xs : List ℕ) (i : ℕ) → member x (take i xs) ≡ true → member x xs ≡ true
member_front x xs i m = rw (← take-append-drop i xs, member-append x (take i xs) (drop i xs), m)

fresh_head : (x : ℕ) (xs : List ℕ) (j : ℕ) → distinct (x ∷ xs) ≡ true → j < length xs → x ≡ get_or xs j 0 → ⊥
unfolding distinct
fresh_head x xs j d h e =
    never (rw (← e) at (member_at xs j h)) (not-true (member x xs) (and_parts (not (member x xs)) (distinct xs) d).0)

-- in a list without repetition each element has one position
pub distinct_positions : (xs : List ℕ) (i j : ℕ) → distinct xs ≡ true → i < length xs → j < length xs → get_or xs i 0 ≡ get_or xs j 0
    → i ≡ j
unfolding distinct
distinct_positions [] i j d h k e = absurd (omega arith)
distinct_positions (x ∷ xs) zero zero d h k e = refl
distinct_positions (x ∷ xs) zero (suc j) d h k e = absurd (fresh_head x xs j d (le_of_suc-le-suc k) e)
distinct_positions (x ∷ xs) (suc i) zero d h k e = absurd (fresh_head x xs i d (le_of_suc-le-suc h) (sym e))
distinct_positions (x ∷ xs) (suc i) (suc j) d h k e =
    ap suc (distinct_positions xs i j (and_parts (not (member x xs)) (distinct xs) d).1 (le_of_suc-le-suc h) (le_of_suc-le-suc k) e)

-- and a list in which each has one position repeats none
pub positions_distinct : (xs : List ℕ) → ((i j : ℕ) → i < length xs → j < length xs → get_or xs i 0 ≡ get_or xs j 0 → i ≡ j) → distinct xs ≡ true
unfolding distinct
positions_distinct [] apart = refl
positions_distinct (x ∷ xs) apart =
    rw (refuted (member x xs) here)
    (positions_distinct xs (λ i j h k e. let same : suc i ≡ suc j = apart (suc i) (suc j) (omega arith) (omega arith) e in omega arith))
  where
    here : member x xs ≡ true → ⊥
    here m =
        let at = position x xs m in
        let same : 0 ≡ suc at.0 = apart 0 (suc at.0) (omega arith) (omega arith) (sym at.2) in
        omega arith

-- counting: what stands in the list counts, what does not counts nothing
pub times-same : (x : ℕ) (xs : List ℕ) → times x (x ∷ xs) ≡ suc (times x xs)
unfolding times
times-same x xs = rw (eq-eqb x x refl)

pub times_other : (x y : ℕ) (xs : List ℕ) → (x ≡ y → ⊥) → times x (y ∷ xs) ≡ times x xs
unfolding times
times_other x y xs n = rw (ne_eqb x y n)

-- counting in a list out of which a number is kept
pub times_kept_out : (x : ℕ) (xs : List ℕ) → times x (keep (λ (y : ℕ). not (eqb y x)) xs) ≡ 0
unfolding keep times
times_kept_out x [] = refl
times_kept_out x (y ∷ xs) = go (eqb y x) refl (times_kept_out x xs)
  where
    go : (b : Bool) → eqb y x ≡ b → times x (keep (λ (z : ℕ). not (eqb z x)) xs) ≡ 0
        → times x (cond (not b) (y ∷ keep (λ (z : ℕ). not (eqb z x)) xs) (keep (λ (z : ℕ). not (eqb z x)) xs)) ≡ 0
    go true e rest = rest
    go false e rest = times_other x y (keep (λ (z : ℕ). not (eqb z x)) xs) (λ q. eqb-false y x e (sym q)) ∙ rest

pub times_kept : (d x : ℕ) (xs : List ℕ) → (d ≡ x → ⊥) → times d (keep (λ (y : ℕ). not (eqb y x)) xs) ≡ times d xs
unfolding keep times
times_kept d x [] n = refl
times_kept d x (y ∷ xs) n = go (eqb y x) refl (times_kept d x xs n)
  where
    go : (b : Bool) → eqb y x ≡ b → times d (keep (λ (z : ℕ). not (eqb z x)) xs) ≡ times d xs
        → times d (cond (not b) (y ∷ keep (λ (z : ℕ). not (eqb z x)) xs) (keep (λ (z : ℕ). not (eqb z x)) xs)) ≡ times d (y ∷ xs)
    go true e rest = rest ∙ sym (times_other d y xs (λ q. n (q ∙ eqb-true y x e)))
    go false e rest = ap (λ (k : ℕ). cond (eqb d y) (suc k) k) rest

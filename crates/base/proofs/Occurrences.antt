-- How often a number stands in a list: in two lists joined, in a list without it; functions that agree on what stands there, and their values of it.
use Prim.Native.Nat.{ℕ, zero, suc, ◌+◌, ◌-◌, ◌≤◌, ◌<◌}
use native.Mathlib.Nat.{le_of_suc-le-suc}
use native.Mathlib.Omega.{arith}
use mathlib.Core.Bool.{Bool, true, false, cond, not, or-true}
use mathlib.Core.List.{List, [], ◌∷◌, ◌++◌, map}
use mathlib.Core.Logic.{◌⊎◌, inl, inr}
use mathlib.Core.Path.{◌≡◌, refl, sym, ap, ap₂, ◌∙◌}
use borrow.Author.Tests.{eqb-true, eqb-false, eq-eqb, ne_eqb}
use lib.Dec.{eqb}
use lib.ListN.{length, get_or, set, length-map}
use Rattle.base.specs.Lists.{keep, member, distinct, times}
use Rattle.base.proofs.Bools.{either, never, refuted}
use Rattle.base.proofs.Members.{times-same, position}
use Rattle.base.proofs.Pigeonhole.{pigeonhole}
use Rattle.base.proofs.ForAll.{member-times, times-member}

pub times_more : (x y : ℕ) (ys : List ℕ) → times x ys ≤ times x (y ∷ ys)
unfolding times
times_more x y ys = go (eqb x y)
  where
    go : (b : Bool) → times x ys ≤ cond b (suc (times x ys)) (times x ys)
    go true = omega arith
    go false = omega arith

pub times-append : (x : ℕ) (xs ys : List ℕ) → times x (xs ++ ys) ≡ times x xs + times x ys
unfolding times
times-append x [] ys = omega arith
times-append x (y ∷ xs) ys = go (eqb x y) (times-append x xs ys)
  where
    go : (b : Bool) → times x (xs ++ ys) ≡ times x xs + times x ys → cond b (suc (times x (xs ++ ys))) (times x (xs ++ ys)) ≡ cond b (suc (times x xs)) (times x xs) + times x ys
    go true h = omega arith
    go false h = omega arith

-- a list without a number that stands once in it, and one without a number that it does not hold
pub keep_all : (x : ℕ) (xs : List ℕ) → times x xs ≡ 0 → keep (λ (y : ℕ). not (eqb y x)) xs ≡ xs
unfolding times keep
keep_all x [] e = refl
keep_all x (y ∷ xs) e = go (eqb x y) refl e (keep_all x xs)
  where
    go : (b : Bool) → eqb x y ≡ b → cond b (suc (times x xs)) (times x xs) ≡ 0
        → (times x xs ≡ 0 → keep (λ (y : ℕ). not (eqb y x)) xs ≡ xs)
        → cond (not (eqb y x)) (y ∷ keep (λ (z : ℕ). not (eqb z x)) xs) (keep (λ (z : ℕ). not (eqb z x)) xs) ≡ y ∷ xs
    go true f k h = absurd (omega arith)
    go false f k h = rw (ne_eqb y x (λ z. eqb-false x y f (sym z)), h k)

pub keep_others : (x : ℕ) (xs ys : List ℕ) → times x (xs ++ (x ∷ ys)) ≡ 1 → keep (λ (y : ℕ). not (eqb y x)) (xs ++ (x ∷ ys)) ≡ xs ++ ys
unfolding times keep
keep_others x [] ys e =
    let none : times x ys ≡ 0 = omega (arith, times-same x ys) in rw (eq-eqb x x refl, keep_all x ys none)
keep_others x (z ∷ xs) ys e = go (eqb x z) refl e (keep_others x xs ys)
  where
    go : (b : Bool) → eqb x z ≡ b → cond b (suc (times x (xs ++ (x ∷ ys)))) (times x (xs ++ (x ∷ ys))) ≡ 1
        → (times x (xs ++ (x ∷ ys)) ≡ 1 → keep (λ (y : ℕ). not (eqb y x)) (xs ++ (x ∷ ys)) ≡ xs ++ ys)
        → cond (not (eqb z x)) (z ∷ keep (λ (y : ℕ). not (eqb y x)) (xs ++ (x ∷ ys))) (keep (λ (y : ℕ). not (eqb y x)) (xs ++ (x ∷ ys)))
        ≡ z ∷ (xs ++ ys)
    go true f k h = absurd (omega (arith, times-append x xs (x ∷ ys), times-same x ys))
    go false f k h = rw (ne_eqb z x (λ w. eqb-false x z f (sym w)), h k)

pub map_alike : (f g : ℕ → ℕ) (xs : List ℕ) → ((x : ℕ) → 0 < times x xs → f x ≡ g x) → map f xs ≡ map g xs
map_alike f g [] h = refl
map_alike f g (x ∷ xs) h =
    ap₂ ◌∷◌ (h x (omega (arith, times-same x xs))) (map_alike f g xs (λ y k. h y (omega (arith, times_more y x xs))))

-- one 0 fewer where a 0 is set to 1
pub zeros_fewer : (xs : List ℕ) (i : ℕ) → i < length xs → get_or xs i 0 ≡ 0 → times 0 (set xs i 1) < times 0 xs
unfolding times
zeros_fewer [] i h e = absurd (omega arith)
zeros_fewer (x ∷ xs) zero h e = rw (eq-eqb 0 x (sym e)) (omega arith)
zeros_fewer (x ∷ xs) (suc i) h e = go (eqb 0 x) (zeros_fewer xs i (le_of_suc-le-suc h) e)
  where
    go : (b : Bool) → times 0 (set xs i 1) < times 0 xs → cond b (suc (times 0 (set xs i 1))) (times 0 (set xs i 1)) < cond b (suc (times 0 xs)) (times 0 xs)
    go true k = omega arith
    go false k = k

-- a list of numbers through functions there and back
pub map_back : (f g : ℕ → ℕ) (xs : List ℕ) → ((x : ℕ) → 0 < times x xs → f (g x) ≡ x) → map f (map g xs) ≡ xs
map_back f g [] h = refl
map_back f g (x ∷ xs) h =
    ap₂ ◌∷◌ (h x (omega (arith, times-same x xs))) (map_back f g xs (λ y k. h y (omega (arith, times_more y x xs))))

-- a number in front that is the same
times_front : (x y : ℕ) (xs : List ℕ) → x ≡ y → times x (y ∷ xs) ≡ suc (times x xs)
times_front x y xs e = rw e (times-same y xs)

module _ (f g : ℕ → ℕ) (back : (x : ℕ) → g (f x) ≡ x) where
  pub times-map_least : (y : ℕ) (xs : List ℕ) → times y (map f xs) ≤ times (g y) xs
  unfolding times
  times-map_least y [] = omega arith
  times-map_least y (x ∷ xs) = go (eqb y (f x)) refl (times-map_least y xs)
    where
      go : (b : Bool) → eqb y (f x) ≡ b → times y (map f xs) ≤ times (g y) xs → cond b (suc (times y (map f xs))) (times y (map f xs)) ≤ times (g y) (x ∷ xs)
      go true e h =
          let same : g y ≡ x = ap g (eqb-true y (f x) e) ∙ back x in
          omega (arith, times_front (g y) x xs same)
      go false e h = omega (arith, times_more (g y) x xs)

  pub times-map_is : (y : ℕ) (xs : List ℕ) → 0 < times y (map f xs) → f (g y) ≡ y
  unfolding times
  times-map_is y [] h = absurd (omega arith)
  times-map_is y (x ∷ xs) h = go (eqb y (f x)) refl h (times-map_is y xs)
    where
      go : (b : Bool) → eqb y (f x) ≡ b → 0 < cond b (suc (times y (map f xs))) (times y (map f xs)) → (0 < times y (map f xs) → f (g y) ≡ y) → f (g y) ≡ y
      go true e k rest =
          let same : y ≡ f x = eqb-true y (f x) e in ap f (ap g same ∙ back x) ∙ sym same
      go false e k rest = rest k

pub times-map_in : (f : ℕ → ℕ) (x : ℕ) (xs : List ℕ) → 0 < times x xs → 0 < times (f x) (map f xs)
unfolding times
times-map_in f x [] h = absurd (omega arith)
times-map_in f x (y ∷ xs) h = go (eqb x y) refl h (times-map_in f x xs)
  where
    go : (b : Bool) → eqb x y ≡ b → 0 < cond b (suc (times x xs)) (times x xs) → (0 < times x xs → 0 < times (f x) (map f xs))
        → 0 < times (f x) (f y ∷ map f xs)
    go true e k rest = omega (arith, times_front (f x) (f y) (map f xs) (ap f (eqb-true x y e)))
    go false e k rest = let z = rest k in omega (arith, times_more (f x) (f y) (map f xs))

-- the value of what stands in a list stands among the values, and each value is of something that stands there
module _ (f : ℕ → ℕ) where
  pub member-map : (x : ℕ) (xs : List ℕ) → member x xs ≡ true → member (f x) (map f xs) ≡ true
  member-map x xs m = times-member (f x) (map f xs) (times-map_in f x xs (member-times x xs m))

  pub map-member : (y : ℕ) (xs : List ℕ) → member y (map f xs) ≡ true → (x : ℕ) × (member x xs ≡ true) × (f x ≡ y)
  unfolding member
  map-member y [] m = absurd (never m refl)
  map-member y (x ∷ xs) m = go (either (eqb y (f x)) (member y (map f xs)) m) (map-member y xs)
    where
      go : (eqb y (f x) ≡ true) ⊎ (member y (map f xs) ≡ true) → (member y (map f xs) ≡ true → (z : ℕ) × (member z xs ≡ true) × (f z ≡ y))
          → (z : ℕ) × (member z (x ∷ xs) ≡ true) × (f z ≡ y)
      go (inl e) found = (x, rw (eq-eqb x x refl), sym (eqb-true y (f x) e))
      go (inr k) found = let p = found k in (p.0, rw (p.1, or-true), p.2)

-- no number more than once: no number twice
pub once_distinct : (xs : List ℕ) → ((x : ℕ) → times x xs ≤ 1) → distinct xs ≡ true
unfolding distinct
once_distinct [] h = refl
once_distinct (x ∷ xs) h =
    let out : member x xs ≡ false = refuted (member x xs) (λ m. let z = member-times x xs m in let o = h x in omega (arith, times-same x xs)) in
    rw out (once_distinct xs (λ y. let o = h y in omega (arith, times_more y x xs)))

-- a list of numbers below n, none of them twice, is not longer than n
pub once_short : (n : ℕ) (xs : List ℕ) → ((x : ℕ) → times x xs ≤ 1) → ((x : ℕ) → 0 < times x xs → x < n) → length xs ≤ n
once_short n xs once within =
    rw (← length-map xs suc)
    (pigeonhole n (map suc xs) (once_distinct (map suc xs) (λ y. omega (arith, times-map_least suc before back y xs, once (before y)))) bounds)
  where
    before : ℕ → ℕ
    before x = x - 1

    back : (x : ℕ) → before (suc x) ≡ x
    back x = omega arith

    bounds : (x : ℕ) → member x (map suc xs) ≡ true → (1 ≤ x) × (x ≤ n)
    bounds x m =
        let there : 0 < times x (map suc xs) = member-times x (map suc xs) m in
        let is : suc (before x) ≡ x = times-map_is suc before back x xs there in
        let inside : before x < n = within (before x) (omega (arith, times-map_least suc before back x xs)) in
        (omega arith, omega arith)

-- what holds of the element at every position holds of every member
pub at_members : (xs : List ℕ) (P : ℕ → Type 0) → ((i : ℕ) → i < length xs → P (get_or xs i 0)) → (m : ℕ) → member m xs ≡ true → P m
at_members xs P h m k = let at = position m xs k in rw (← at.2) (h at.0 at.1)

-- The positions of a clause as a circle: the position some steps after another one.
use Prim.Native.Nat.{ℕ, zero, suc, ◌+◌, ◌-◌, ◌≤◌, ◌<◌}
use native.Mathlib.Omega.{arith}
use native.Mathlib.Nat.{zero-add, suc-add}
use mathlib.Core.Path.{◌≡◌, refl, sym, ◌∙◌, subst}
use mathlib.Core.Bool.{Bool, true, false, cond}
use lib.Dec.{ltb}
use borrow.Author.Tests.{ltb-true, ltb-false, lt-ltb, le-ltb}
use Rattle.run.specs.Scan.{next}

-- the position k steps after x, among n
unfoldable pub steps : ℕ → ℕ → ℕ → ℕ
steps n zero x = x
steps n (suc k) x = steps n k (next n x)

pub next_within : (n x : ℕ) → x < n → next n x < n
unfolding next
next_within n x h = go (ltb (suc x) n) refl
  where
    go : (t : Bool) → ltb (suc x) n ≡ t → cond t (suc x) 0 < n
    go true e = ltb-true _ _ e
    go false e = omega arith

-- one step inside, and the step from the last position to 0
pub next_inside : (n x : ℕ) → suc x < n → next n x ≡ suc x
unfolding next
next_inside n x h = rw (lt-ltb (suc x) n h) refl

pub next_around : (n x : ℕ) → n ≤ suc x → next n x ≡ 0
unfolding next
next_around n x h = rw (le-ltb (suc x) n h) refl

pub steps_within : (n k x : ℕ) → x < n → steps n k x < n
unfolding steps
steps_within n zero x h = h
steps_within n (suc k) x h = steps_within n k (next n x) (next_within n x h)

pub steps_add : (n j k x : ℕ) → steps n (j + k) x ≡ steps n k (steps n j x)
unfolding steps
steps_add n zero k x = rw zero-add
steps_add n (suc j) k x = rw suc-add (steps_add n j k (next n x))

pub steps_after : (n j k x : ℕ) → j ≤ k → steps n k x ≡ steps n (k - j) (steps n j x)
steps_after n j k x h =
    let whole : k ≡ j + (k - j) = omega arith in
    subst (λ m. steps n m x ≡ steps n (k - j) (steps n j x)) (sym whole) (steps_add n j (k - j) x)

-- where it is: x + k, or n less
pub steps_inside : (n k x : ℕ) → x + k < n → steps n k x ≡ x + k
unfolding steps
steps_inside n zero x h = omega arith
steps_inside n (suc k) x h =
    let inside : next n x ≡ suc x = next_inside n x (omega arith) in
    rw inside (steps_inside n k (suc x) (omega arith) ∙ omega arith)

pub steps_around : (n k x : ℕ) → x < n → k ≤ n → n ≤ x + k → steps n k x + n ≡ x + k
unfolding steps
steps_around n zero x inside k-within past = omega arith
steps_around n (suc k) x inside k-within past = go (ltb (suc x) n) refl (steps_around n k (suc x))
  where
    go : (t : Bool) → ltb (suc x) n ≡ t
        → (suc x < n → k ≤ n → n ≤ suc x + k → steps n k (suc x) + n ≡ suc x + k) → steps n k (next n x) + n ≡ x + suc k
    go true e further =
        let h : suc x < n = ltb-true _ _ e in
        rw (next_inside n x h) (further h (omega arith) (omega arith) ∙ omega arith)
    go false e further =
        let h : n ≤ suc x = ltb-false _ _ e in
        rw (next_around n x h) (omega (arith, steps_inside n k 0 (omega arith)))

pub full_circle : (n x : ℕ) → x < n → steps n n x ≡ x
full_circle n x h = omega (arith, steps_around n n x h (omega arith) (omega arith))

-- every position is met within n steps
pub every_met : (n x y : ℕ) → x < n → y < n → (k : ℕ) × (k < n) × (steps n k x ≡ y)
every_met n x y x-within y-within = go (ltb y x) refl
  where
    go : (t : Bool) → ltb y x ≡ t → (k : ℕ) × (k < n) × (steps n k x ≡ y)
    go true e =
        let h : y < x = ltb-true _ _ e in
        (y + n - x, omega arith, omega (arith, steps_around n (y + n - x) x x-within (omega arith) (omega arith)))
    go false e =
        let h : x ≤ y = ltb-false _ _ e in
        (y - x, omega arith, steps_inside n (y - x) x (omega arith) ∙ omega arith)

-- the same, counted from the next position on: x itself is met last, every other one before it
pub met_last : (n k x : ℕ) → suc k ≡ n → x < n → steps n k (next n x) ≡ x
unfolding steps
met_last n k x last h = subst (λ m. steps n m x ≡ x) (sym last) (full_circle n x h)

pub others_met : (n x y : ℕ) → x < n → y < n → (x ≡ y → ⊥) → (k : ℕ) × (suc k < n) × (steps n k (next n x) ≡ y)
unfolding steps
others_met n x y x-within y-within other = go (every_met n x y x-within y-within).0 (every_met n x y x-within y-within).1 (every_met n x y x-within y-within).2
  where
    go : (k : ℕ) → k < n → steps n k x ≡ y → (k : ℕ) × (suc k < n) × (steps n k (next n x) ≡ y)
    go zero within e = absurd (other e)
    go (suc k) within e = (k, within, e)

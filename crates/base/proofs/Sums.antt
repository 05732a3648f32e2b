-- Laws of sums: of a table, and as a loop over an index meets one.
use Prim.Native.Nat.{ℕ, zero, suc, ◌+◌, ◌≤◌, ◌<◌}
use native.Mathlib.Nat.{le_of_suc-le-suc}
use native.Mathlib.Numerals.{add-one}
use native.Mathlib.Omega.{arith}
use mathlib.Core.List.{List}
use mathlib.Core.Path.{◌≡◌, refl, ap}
use lib.ListN.{length, get_or, drop, drop_of_length-le}
use lib.Seq.{drop-cons}
use Rattle.base.specs.Lists.{table, sum}

-- of zeros
pub sum_zeros : (n : ℕ) (f : ℕ → ℕ) → ((i : ℕ) → f i ≡ 0) → sum (table n f) ≡ 0
unfolding sum table
sum_zeros zero f none = refl
sum_zeros (suc n) f none = omega (arith, none zero, sum_zeros n (λ (i : ℕ). f (suc i)) (λ i. none (suc i)))

-- of a function that is 0 everywhere but at one place
pub sum_single : (n : ℕ) (f : ℕ → ℕ) (place : ℕ) → place < n → ((i : ℕ) → (i ≡ place → ⊥) → f i ≡ 0) → sum (table n f) ≡ f place
unfolding sum table
sum_single zero f place h none = absurd (omega arith)
sum_single (suc n) f zero h none =
    omega (arith, sum_zeros n (λ (i : ℕ). f (suc i)) (λ i. none (suc i) (λ e. omega arith)))
sum_single (suc n) f (suc place) h none =
    omega (arith, none zero (λ e. omega arith), sum_single n (λ (i : ℕ). f (suc i)) place (le_of_suc-le-suc h) (λ i m. none (suc i) (λ e. m (omega arith))))

-- of two functions added up place by place
pub sum_both : (n : ℕ) (f g : ℕ → ℕ) → sum (table n (λ (i : ℕ). f i + g i)) ≡ sum (table n f) + sum (table n g)
unfolding sum table
sum_both zero f g = refl
sum_both (suc n) f g = omega (arith, sum_both n (λ (i : ℕ). f (suc i)) (λ (i : ℕ). g (suc i)))

-- what a loop knows at index i: s is the sum of the first i numbers
pub record Summed (numbers : List ℕ) (s i : ℕ) : Type 0 where
  pub rest : s + sum (drop i numbers) ≡ sum numbers

pub summed_none : (numbers : List ℕ) → Summed numbers 0 0
summed_none numbers = record { rest = omega arith }

pub summed_more : (numbers : List ℕ) (s i n : ℕ) → Summed numbers s i → i < length numbers → n ≡ get_or numbers i 0 → Summed numbers (s + n) (i + 1)
unfolding sum
summed_more numbers s i n r h e =
    let here : sum (drop i numbers) ≡ get_or numbers i 0 + sum (drop (i + 1) numbers) = rw (add-one i) (ap sum (drop-cons numbers i 0 h)) in
    record { rest = omega (arith, r.rest) }

pub summed_all : (numbers : List ℕ) (s i : ℕ) → Summed numbers s i → length numbers ≤ i → s ≡ sum numbers
unfolding sum
summed_all numbers s i r h =
    let none : sum (drop i numbers) ≡ 0 = ap sum (drop_of_length-le numbers h) in
    omega (arith, r.rest)

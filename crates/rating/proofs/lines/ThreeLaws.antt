-- Rate lists by their threes: the lines that they make, and the ranges.
use Prim.Native.Nat.{ℕ, zero, suc, ◌+◌, ◌/◌, ◌%◌, ◌≤◌, ◌<◌}
use mathlib.Core.Bool.{Bool, true, false, ◌&&◌, and-false}
use mathlib.Core.List.{List, [], ◌∷◌}
use mathlib.Core.Logic.{◌⊎◌, inl, inr}
use mathlib.Core.Path.{◌≡◌, refl, ap, ◌∙◌}
use native.Mathlib.Omega.{arith}
use borrow.Author.Tests.{lt-leb, le-leb}
use lib.IntN.{ℤ}
use lib.ListN.{length, get_or, drop}
use Rattle.std.specs.Prelude.{map}
use Rattle.std.specs.List.{list_all}
use Rattle.std.specs.Simd.{first_chunks}
use Rattle.base.specs.Lists.{all, by_three, all_threes}
use Rattle.rating.specs.Pricing.{max_lines, lines_of, is_kind, of_kind, are_lines, line_within, list_within}
use Rattle.rating.specs.Inner.Threes.{threes_of, line_from, three_within}
use Rattle.rating.specs.declared.RateLine.{RateLine}

pub threes_chunks : (numbers : List ℤ) (count : ℕ) → count ≡ length numbers / 3 → first_chunks 3 count numbers ≡ threes_of numbers
unfolding threes_of by_three
threes_chunks [] zero e = refl
threes_chunks [] (suc n) e = absurd (omega arith)
threes_chunks (x ∷ []) zero e = refl
threes_chunks (x ∷ []) (suc n) e = absurd (omega arith)
threes_chunks (x ∷ y ∷ []) zero e = refl
threes_chunks (x ∷ y ∷ []) (suc n) e = absurd (omega arith)
threes_chunks (x ∷ y ∷ z ∷ numbers) zero e = absurd (omega arith)
threes_chunks (x ∷ y ∷ z ∷ numbers) (suc n) e = ap (λ (rows : List (List ℤ)). (x ∷ y ∷ z ∷ []) ∷ rows) (threes_chunks numbers n (omega arith))

-- the lines of a list, by its threes
pub lines_by_threes : (numbers : List ℤ) → map line_from (threes_of numbers) ≡ lines_of numbers
unfolding threes_of lines_of by_three
lines_by_threes [] = refl
lines_by_threes (x ∷ []) = refl
lines_by_threes (x ∷ y ∷ []) = refl
lines_by_threes (x ∷ y ∷ z ∷ numbers) = ap (λ (lines : List RateLine). line_from (x ∷ y ∷ z ∷ []) ∷ lines) (lines_by_threes numbers)

pub lines_counted : (numbers : List ℤ) → length (lines_of numbers) ≡ length (threes_of numbers)
unfolding threes_of lines_of by_three
lines_counted [] = refl
lines_counted (x ∷ []) = refl
lines_counted (x ∷ y ∷ []) = refl
lines_counted (x ∷ y ∷ z ∷ numbers) = ap suc (lines_counted numbers)

-- a line that is read
pub line_read : (rows : List (List ℤ)) (i : ℕ) → i < length rows → drop i (map line_from rows) ≡ line_from (get_or rows i []) ∷ drop (i + 1) (map line_from rows)
line_read [] i h = absurd (omega arith)
line_read (row ∷ rows) zero h = refl
line_read (row ∷ rows) (suc i) h =
    let next : suc i + 1 ≡ suc (i + 1) = omega arith in
    rw next (line_read rows i (omega arith))

pub lines_ended : (rows : List (List ℤ)) (i : ℕ) → length rows ≤ i → drop i (map line_from rows) ≡ []
lines_ended [] zero h = refl
lines_ended [] (suc i) h = refl
lines_ended (row ∷ rows) zero h = absurd (omega arith)
lines_ended (row ∷ rows) (suc i) h = lines_ended rows i (omega arith)

-- the kinds and the ranges, three by three
module _ (v : ℕ) where
  parted : (k l a b : Bool) → ((k && l) && (a && b)) ≡ ((k && a) && (l && b))
  parted true true a b = refl
  parted true false true b = refl
  parted true false false b = refl
  parted false l a b = refl

  tested : (numbers : List ℤ) → length numbers % 3 ≡ 0 → list_all (three_within v) (threes_of numbers) ≡ (are_lines numbers && all (line_within v) (lines_of numbers))
  unfolding threes_of lines_of by_three are_lines all_threes all
  tested [] e = refl
  tested (x ∷ []) e = absurd (omega arith)
  tested (x ∷ y ∷ []) e = absurd (omega arith)
  tested (x ∷ y ∷ z ∷ numbers) e =
      ap (λ (rest : Bool). three_within v (x ∷ y ∷ z ∷ []) && rest) (tested numbers (omega arith))
      ∙ parted (is_kind y) (line_within v (line_from (x ∷ y ∷ z ∷ []))) (are_lines numbers) (all (line_within v) (lines_of numbers))

  left_over : (numbers : List ℤ) → (length numbers % 3 ≡ 0 → ⊥) → are_lines numbers ≡ false
  unfolding are_lines all_threes
  left_over [] h = absurd (h (omega arith))
  left_over (x ∷ []) h = refl
  left_over (x ∷ y ∷ []) h = refl
  left_over (x ∷ y ∷ z ∷ numbers) h = go (is_kind y) (left_over numbers (λ z. h (omega arith)))
    where
      go : (k : Bool) → all_threes of_kind numbers ≡ false → (k && all_threes of_kind numbers) ≡ false
      go true e = e
      go false e = refl

  module _ (numbers : List ℤ) (rows : List (List ℤ)) (is : rows ≡ threes_of numbers) where
    pub whole_and_few : length numbers % 3 ≡ 0 → length rows ≤ max_lines → list_all (three_within v) rows ≡ list_within v numbers
    unfolding list_within
    whole_and_few whole few =
        let short : length (lines_of numbers) ≤ max_lines = omega (arith, few, ap length is, lines_counted numbers) in
        rw (is, tested numbers whole, le-leb (length (lines_of numbers)) max_lines short) (go (are_lines numbers) (all (line_within v) (lines_of numbers)))
      where
        go : (a b : Bool) → (a && b) ≡ (a && true && b)
        go true b = refl
        go false b = refl

    pub not_whole_or_many : (length numbers % 3 ≡ 0 → ⊥) ⊎ (max_lines < length rows) → false ≡ list_within v numbers
    unfolding list_within
    not_whole_or_many (inl other) = rw (left_over numbers other)
    not_whole_or_many (inr many) =
        let long : max_lines < length (lines_of numbers) = omega (arith, many, ap length is, lines_counted numbers) in
        rw (lt-leb (length (lines_of numbers)) max_lines long, and-false (are_lines numbers))

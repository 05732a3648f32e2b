-- Laws of the definitions that the functions' proofs cite: the bands of a table by its threes, its ranges, the ages of a band, and the loop over the ages.
use Rattle.std.proofs.Common.{ℕ, zero, suc, ◌+◌, ◌/◌, ◌%◌, ◌≤◌, ◌<◌, ◌≡◌, Bool, true, false, cond, List, [], ◌∷◌, refl, sym, ap, ◌∙◌, arith, length, map, leb, eqb}
use Rattle.std.specs.Prelude.{◌&&◌, Some, Ok, Err, Result, count_by, filter, find, ◌⊎◌}
use Rattle.std.specs.List.{list_all}
use Rattle.std.specs.Option.{option_map_or}
use Rattle.std.specs.Simd.{first_chunks}
use Rattle.std.proofs.lemmas.List.Sums.{length-filter}
use mathlib.Core.Logic.{inl, inr}
use mathlib.Core.Bool.{and-false}
use borrow.Author.Tests.{eq-eqb, ne_eqb, leb-true, lt-leb, le-leb}
use Rattle.base.specs.Lists.{all, keep, by_three, all_threes}
use Rattle.base.proofs.Bools.{below, and_parts}
use Rattle.base.proofs.Counts.{First, kept_none, kept_first}
use Rattle.base.proofs.Threes.{any_three, whole_threes}
use Rattle.bands.specs.Bands.{max_bands, max_age, max_factor, band_of, bands_of, are_bands, band_within, table_within, holders, at_fault, fault_at, checked_table, first_factor, factor_by, factor_answer}
use Rattle.bands.specs.Inner.Triples.{band_from}
use Rattle.bands.specs.declared.Band.{Band}
use Rattle.bands.specs.declared.TableFault.{TableFault}
use Rattle.bands.specs.declared.TableFault.TheVariants.{Malformed, Gap, Overlap}

-- the bands of a table are made of its threes
pub bands_by_threes : (numbers : List ℕ) (count : ℕ) → count ≡ length numbers / 3 → map band_from (first_chunks 3 count numbers) ≡ bands_of numbers
unfolding bands_of by_three
bands_by_threes [] zero e = refl
bands_by_threes [] (suc n) e = absurd (omega arith)
bands_by_threes (x ∷ []) zero e = refl
bands_by_threes (x ∷ []) (suc n) e = absurd (omega arith)
bands_by_threes (x ∷ y ∷ []) zero e = refl
bands_by_threes (x ∷ y ∷ []) (suc n) e = absurd (omega arith)
bands_by_threes (x ∷ y ∷ z ∷ numbers) zero e = absurd (omega arith)
bands_by_threes (x ∷ y ∷ z ∷ numbers) (suc n) e = ap (λ (bands : List Band). band_of x y z ∷ bands) (bands_by_threes numbers n (omega arith))

-- The same by std's words: all elements pass, those that pass, and the factor of the first of them.
module _ {A : Type 0} (test : A → Bool) where
  pub all_is : (xs : List A) → list_all test xs ≡ all test xs
  unfolding all
  all_is [] = refl
  all_is (x ∷ xs) = ap (λ (rest : Bool). test x && rest) (all_is xs)

  pub keep_is : (xs : List A) → filter test xs ≡ keep test xs
  unfolding keep
  keep_is [] = refl
  keep_is (x ∷ xs) = ap (λ (kept : List A). cond (test x) (x ∷ kept) kept) (keep_is xs)

  pub count_is : (xs : List A) → count_by test xs ≡ length (keep test xs)
  count_is xs = sym (length-filter test xs) ∙ ap length (keep_is xs)

pub first_is : (test : Band → Bool) (xs : List Band) → option_map_or (λ (band : Band). band.factor) (find test xs) 0 ≡ first_factor (keep test xs)
unfolding keep
first_is test [] = refl
first_is test (x ∷ xs) = go (test x) (first_is test xs)
  where
    go : (t : Bool) → option_map_or (λ (band : Band). band.factor) (find test xs) 0 ≡ first_factor (keep test xs)
        → option_map_or (λ (band : Band). band.factor) (cond t (Some x) (find test xs)) 0 ≡ first_factor (cond t (x ∷ keep test xs) (keep test xs))
    go true e = refl
    go false e = e

-- the ranges, where there are whole bands, and few enough; and where not
module _ (numbers : List ℕ) (bands : List Band) (is : bands ≡ bands_of numbers) where
  pub whole_and_few : length numbers % 3 ≡ 0 → length bands ≤ max_bands → list_all band_within bands ≡ table_within numbers
  unfolding table_within are_bands
  whole_and_few whole few = rw (← is, eq-eqb (length numbers % 3) 0 whole, le-leb (length bands) max_bands few) (all_is band_within bands)

  pub not_whole_or_many : (length numbers % 3 ≡ 0 → ⊥) ⊎ (max_bands < length bands) → false ≡ table_within numbers
  unfolding table_within are_bands
  not_whole_or_many (inl other) = rw (ne_eqb (length numbers % 3) 0 other)
  not_whole_or_many (inr many) = rw (← is, lt-leb (length bands) max_bands many, and-false (eqb (length numbers % 3) 0))

-- a band within its ranges
pub factor_within : (band : Band) → band_within band ≡ true → band.factor ≤ max_factor
unfolding band_within
factor_within band e = leb-true band.factor max_factor (and_parts (leb band.first band.last && leb band.last max_age) (leb band.factor max_factor) e).1

-- The report on a table within its ranges, by the first age at fault:
module _ (numbers : List ℕ) where
  abbrev pub holding : ℕ → ℕ
  holding age = holders age (bands_of numbers)

  -- its ranges, by its threes
  pub within_is : table_within numbers ≡ (all_threes any_three numbers && leb (length (by_three band_of numbers)) max_bands && all band_within (by_three band_of numbers))
  unfolding table_within are_bands bands_of
  within_is = rw (whole_threes numbers)

  pub outside : table_within numbers ≡ false → Err Malformed ≡ checked_table numbers
  unfolding checked_table
  outside e = rw e

  pub at_fault_lem : (age : ℕ) → (holding age ≡ 1 → ⊥) → at_fault (bands_of numbers) age ≡ true
  unfolding at_fault
  at_fault_lem age h = rw (ne_eqb (holding age) 1 h)

  pub not_at_fault : (age : ℕ) → holding age ≡ 1 → at_fault (bands_of numbers) age ≡ false
  unfolding at_fault
  not_at_fault age h = rw (eq-eqb (holding age) 1 h)

  pub in_none : (age : ℕ) → holding age ≡ 0 → Gap age ≡ fault_at (bands_of numbers) age
  unfolding fault_at
  in_none age h = rw (eq-eqb (holding age) 0 h)

  pub in_several : (age : ℕ) → 1 < holding age → Overlap age ≡ fault_at (bands_of numbers) age
  unfolding fault_at
  in_several age h = rw (ne_eqb (holding age) 0 (λ z. omega (arith, z, h)))

  module _ (within : table_within numbers ≡ true) where
    pub reports_good : ((age : ℕ) → age < suc max_age → at_fault (bands_of numbers) age ≡ false) → Ok tt ≡ checked_table numbers
    unfolding checked_table
    reports_good none = rw (within, kept_none (at_fault (bands_of numbers)) (suc max_age) (λ (age : ℕ). age) none)

    pub reports_fault : (age : ℕ) → First (suc max_age) (at_fault (bands_of numbers)) age → Err (fault_at (bands_of numbers) age) ≡ checked_table numbers
    unfolding checked_table
    reports_fault age first = rw (within, (kept_first (at_fault (bands_of numbers)) (suc max_age) (λ (a : ℕ). a) age first).1)

  -- What the loop over the ages knows at one: no lower age is at fault.
  pub record RightBefore (age : ℕ) : Type 0 where
    pub within : table_within numbers ≡ true
    pub none_lower : (lower : ℕ) → lower < age → at_fault (bands_of numbers) lower ≡ false

  pub right_none : table_within numbers ≡ true → RightBefore 0
  right_none e = record { within = e; none_lower = λ lower h. absurd (omega arith) }

  module _ (age : ℕ) (r : RightBefore age) where
    module _ (h : age ≤ max_age) where
      first-here : (holding age ≡ 1 → ⊥) → First (suc max_age) (at_fault (bands_of numbers)) age
      first-here fault = record { small = omega arith; holds = at_fault_lem age fault; none_before = r.none_lower }

      pub held_none : holding age ≡ 0 → Err (Gap age) ≡ checked_table numbers
      held_none e = ap Err (in_none age e) ∙ reports_fault r.within age (first-here (λ z. omega (arith, z, e)))

      pub held_several : 1 < holding age → Err (Overlap age) ≡ checked_table numbers
      held_several e = ap Err (in_several age e) ∙ reports_fault r.within age (first-here (λ z. omega (arith, z, e)))

    pub right_more : holding age ≡ 1 → RightBefore (age + 1)
    right_more e = record { within = r.within; none_lower = λ lower k. go lower (below lower age) k }
      where
        go : (lower : ℕ) → (lower < age) ⊎ (age ≤ lower) → lower < age + 1 → at_fault (bands_of numbers) lower ≡ false
        go lower (inl k) j = r.none_lower lower k
        go lower (inr k) j = let same : lower ≡ age = omega arith in rw same (not_at_fault age e)

    pub right_all : max_age < age → Ok tt ≡ checked_table numbers
    right_all h = reports_good r.within (λ a k. r.none_lower a (omega arith))

-- the factor of an age, or why there is none
module _ (numbers : List ℕ) (age : ℕ) where
  pub factor_by_lem : age ≤ max_age → (report : Result (Unit {0}) TableFault) → report ≡ checked_table numbers → factor_by age (bands_of numbers) report ≡ factor_answer numbers age
  unfolding factor_answer
  factor_by_lem h report is = rw (le-leb age max_age h, is)

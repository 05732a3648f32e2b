-- The factor of an age: it is within its range, and on a good table that of the age's one band; and the order of the bands does not matter.
use Prim.Native.Nat.{ℕ, ◌≤◌}
use mathlib.Core.Bool.{Bool, true, false, cond}
use mathlib.Core.List.{List, [], ◌∷◌}
use mathlib.Core.Path.{◌≡◌, refl, sym, ap, ◌∙◌}
use native.Mathlib.Omega.{arith}
use borrow.Author.Tests.{leb-true}
use lib.Dec.{leb}
use Rattle.base.specs.Lists.{all, keep, Reordered}
use Rattle.base.proofs.Bools.{and_parts}
use Rattle.base.proofs.Counts.{count_reordered, kept_alone, kept_one}
use Rattle.base.proofs.Lists.{length_reordered, all_reordered}
use Rattle.base.proofs.Threes.{any_three, ranged_parts}
use Rattle.bands.specs.Bands.{max_bands, max_age, max_factor, band_of, bands_of, are_bands, band_within, table_within, lies_in, bands_at, holders, checked_table, first_factor, factor_at, factor_by, factor_answer}
use Rattle.bands.specs.Statement.{InRange, GoodTable, LowestFault}
use Rattle.bands.specs.declared.Band.{Band}
use Rattle.bands.specs.declared.TableFault.{TableFault}
use Rattle.bands.specs.declared.TableFault.TheVariants.{Malformed, Gap, Overlap}
use Rattle.refusals.specs.declared.Refusal.TheVariants.{PriceInput}
use Rattle.std.specs.Prelude.{Result, Ok, Err}
use Rattle.bands.proofs.Checker.{in_range, good_exactly, fault_exactly, malformed_exactly}
use Rattle.bands.proofs.TableLaws.{within_is, factor_within, factor_by_lem}

module _ (numbers : List ℕ) (age : ℕ) where
  -- a factor that is told is within its range
  first_most : (bands : List Band) → all band_within bands ≡ true → factor_at age bands ≤ max_factor
  unfolding factor_at bands_at keep all
  first_most [] e = omega arith
  first_most (band ∷ bands) e =
      let parts = and_parts (band_within band) (all band_within bands) e in
      go (lies_in age band) (factor_within band parts.0) (first_most bands parts.1)
    where
      go : (t : Bool) → band.factor ≤ max_factor → first_factor (keep (lies_in age) bands) ≤ max_factor
          → first_factor (cond t (band ∷ keep (lies_in age) bands) (keep (lies_in age) bands)) ≤ max_factor
      go true here rest = here
      go false here rest = rest

  -- what a factor tells
  pub factor_told : (factor : ℕ) → Ok factor ≡ factor_answer numbers age → (age ≤ max_age) × (checked_table numbers ≡ Ok tt) × (factor ≡ factor_at age (bands_of numbers))
  unfolding factor_answer
  factor_told factor e = go (leb age max_age) (checked_table numbers) refl refl e
    where
      go : (t : Bool) (report : Result (Unit {0}) TableFault) → leb age max_age ≡ t → checked_table numbers ≡ report
          → Ok factor ≡ cond t (factor_by age (bands_of numbers) report) (Err PriceInput)
          → (age ≤ max_age) × (checked_table numbers ≡ Ok tt) × (factor ≡ factor_at age (bands_of numbers))
      go true (Ok good) p q r = (leb-true age max_age p, q, cc)
      go true (Err fault) p q r = cc
      go false report p q r = cc

  pub factor_most : (factor : ℕ) → Ok factor ≡ factor_answer numbers age → factor ≤ max_factor
  unfolding bands_of
  factor_most factor e =
      let told = factor_told factor e in
      let within = (in_range numbers).1 ((good_exactly numbers).0 told.1).within in
      rw told.2 (first_most (bands_of numbers) (ranged_parts any_three band_of max_bands band_within numbers (sym (within_is numbers) ∙ within)).2)

-- On a good table an age from 0 to 120 lies in one band alone, and its factor is that band's.
pub own_factor : (numbers : List ℕ) → GoodTable numbers → (age : ℕ) → age ≤ max_age
    → (own : Band) × (bands_at age (bands_of numbers) ≡ own ∷ []) × (factor_at age (bands_of numbers) ≡ own.factor) × (factor_answer numbers age ≡ Ok own.factor)
unfolding bands_at factor_at
own_factor numbers good age h =
    let found = kept_one (lies_in age) (bands_of numbers) (good.once age h) in
    let is = ap first_factor found.1 in
    (found.0, found.1, is, sym (factor_by_lem numbers age h (Ok tt) (sym ((good_exactly numbers).1 good))) ∙ ap Ok is)

-- Two tables of whole bands, the same ones in any order:
module _ (numbers others : List ℕ) (whole : are_bands numbers ≡ true) (whole-too : are_bands others ≡ true) (r : Reordered (bands_of numbers) (bands_of others)) where
  same-holders : (age : ℕ) → holders age (bands_of numbers) ≡ holders age (bands_of others)
  unfolding bands_at
  same-holders age = count_reordered (lies_in age) r

  same_range : table_within numbers ≡ table_within others
  unfolding table_within
  same_range = rw (whole, whole-too, length_reordered r, all_reordered band_within r)

  both_ranges : InRange numbers → InRange others
  both_ranges within = (in_range others).0 (sym same_range ∙ (in_range numbers).1 within)

  -- the checker reports the same of both
  pub any_order : checked_table numbers ≡ checked_table others
  any_order = go (checked_table numbers) refl
    where
      fault_there : (number age : ℕ) → LowestFault numbers number age → LowestFault others number age
      fault_there number age fault =
          record {
            within = both_ranges fault.within;
            is_age = fault.is_age;
            fault = rw (same-holders age) at fault.fault;
            none_lower = λ lower h. sym (same-holders lower) ∙ fault.none_lower lower h;
          }

      go : (report : Result (Unit {0}) TableFault) → checked_table numbers ≡ report → checked_table numbers ≡ checked_table others
      go (Ok good) e =
          let good = (good_exactly numbers).0 e in
          e ∙ sym ((good_exactly others).1 (record { within = both_ranges good.within; once = λ age h. sym (same-holders age) ∙ good.once age h }))
      go (Err Malformed) e = e ∙ sym ((malformed_exactly others).1 (λ in-others. (malformed_exactly numbers).0 e ((in_range numbers).0 (same_range ∙ (in_range others).1 in-others))))
      go (Err (Gap age)) e = e ∙ sym ((fault_exactly others age).0.1 (fault_there 25 age ((fault_exactly numbers age).0.0 e)))
      go (Err (Overlap age)) e = e ∙ sym ((fault_exactly others age).1.1 (fault_there 26 age ((fault_exactly numbers age).1.0 e)))

  same_factor : checked_table numbers ≡ Ok tt → (age : ℕ) → age ≤ max_age → factor_at age (bands_of numbers) ≡ factor_at age (bands_of others)
  unfolding factor_at bands_at
  same_factor e age h = ap first_factor (kept_alone (lies_in age) r (((good_exactly numbers).0 e).once age h))

  -- and every age has the same factor, or the same refusal
  pub any_order_factor : (age : ℕ) → factor_answer numbers age ≡ factor_answer others age
  unfolding factor_answer
  any_order_factor age = rw (← any_order) (go (leb age max_age) (checked_table numbers) refl refl)
    where
      go : (t : Bool) (report : Result (Unit {0}) TableFault) → leb age max_age ≡ t → checked_table numbers ≡ report
          → cond t (factor_by age (bands_of numbers) report) (Err PriceInput) ≡ cond t (factor_by age (bands_of others) report) (Err PriceInput)
      go true (Ok good) p q = ap Ok (same_factor q age (leb-true age max_age p))
      go true (Err fault) p q = refl
      go false report p q = refl

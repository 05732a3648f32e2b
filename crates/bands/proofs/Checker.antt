-- The checker reports exactly what is so: a good table, the lowest age at fault, or a table outside its ranges.
use Prim.Native.Nat.{ℕ, suc, ◌%◌, ◌≤◌, ◌<◌}
use mathlib.Core.Bool.{true, false, ◌&&◌}
use mathlib.Core.List.{List}
use mathlib.Core.Logic.{◌↔◌, ◌⊎◌, inl, inr}
use mathlib.Core.Path.{◌≡◌, refl, sym, ap, ◌∙◌}
use native.Mathlib.Omega.{arith}
use borrow.Author.Tests.{eqb-true, eq-eqb, leb-true, le-leb, not-false}
use lib.Dec.{leb, eqb}
use lib.ListN.{length}
use Rattle.base.specs.Lists.{all, all_threes}
use Rattle.base.proofs.Bools.{alike, never, true_or_false, both, and_parts, refuted}
use Rattle.base.proofs.Counts.{First, first_or_none}
use Rattle.base.proofs.Lists.{all_middle, all_split}
use Rattle.base.proofs.Threes.{any_three, whole_threes, threes_all, ranged_parts}
use Rattle.bands.specs.Bands.{max_bands, max_age, max_factor, band_of, bands_of, band_within, table_within, holders, at_fault, fault_at, checked_table}
use Rattle.bands.specs.Statement.{InRange, GoodTable, LowestFault}
use Rattle.bands.specs.declared.Band.{Band}
use Rattle.bands.specs.declared.TableFault.TheVariants.{Malformed, Gap, Overlap}
use Rattle.std.specs.Prelude.{Ok, Err}
use Rattle.bands.proofs.TableLaws.{within_is, outside, at_fault_lem, not_at_fault, in_none, in_several, reports_good, reports_fault}

module _ (numbers : List ℕ) where
  -- The ranges, in the request's words.
  pub in_range : (table_within numbers ≡ true) ↔ InRange numbers
  unfolding bands_of band_within
  in_range = (λ e. told (ranged_parts any_three band_of max_bands band_within numbers (sym (within_is numbers) ∙ e)), λ r. within_is numbers ∙ tested r)
    where
      Ranges : Band → Type 0
      Ranges band = (band.first ≤ band.last) × (band.first ≤ max_age) × (band.last ≤ max_age) × (band.factor ≤ max_factor)

      ranges : (band : Band) → band_within band ≡ true → Ranges band
      ranges band e =
          let outer = and_parts (leb band.first band.last && leb band.last max_age) (leb band.factor max_factor) e in
          let inner = and_parts (leb band.first band.last) (leb band.last max_age) outer.0 in
          let ordered = leb-true band.first band.last inner.0 in
          let last = leb-true band.last max_age inner.1 in
          (ordered, omega arith, last, leb-true band.factor max_factor outer.1)

      told : (all_threes any_three numbers ≡ true) × (length (bands_of numbers) ≤ max_bands) × (all band_within (bands_of numbers) ≡ true) → InRange numbers
      told parts =
          record {
            whole = sym (threes_all any_three band_of numbers parts.0);
            few = parts.1;
            each = λ before band after e. ranges band (all_middle band_within before band after (ap (all band_within) (sym e) ∙ parts.2));
          }

      one_right : (band : Band) → Ranges band → band_within band ≡ true
      one_right band r =
          both (both (le-leb band.first band.last r.0) (le-leb band.last max_age r.2)) (le-leb band.factor max_factor r.3)

      tested : InRange numbers → (all_threes any_three numbers && leb (length (bands_of numbers)) max_bands && all band_within (bands_of numbers)) ≡ true
      tested r =
          let multiple : length numbers % 3 ≡ 0 = omega (arith, r.whole) in
          let whole : all_threes any_three numbers ≡ true = sym (whole_threes numbers) ∙ eq-eqb (length numbers % 3) 0 multiple in
          both (both whole (le-leb (length (bands_of numbers)) max_bands r.few)) (all_split band_within (bands_of numbers) (λ before band after e. one_right band (r.each before band after e)))

  held_one : (age : ℕ) → at_fault (bands_of numbers) age ≡ false → holders age (bands_of numbers) ≡ 1
  unfolding at_fault
  held_one age e = eqb-true (holders age (bands_of numbers)) 1 (not-false (eqb (holders age (bands_of numbers)) 1) e)

  held_other : (age : ℕ) → at_fault (bands_of numbers) age ≡ true → holders age (bands_of numbers) ≡ 1 → ⊥
  held_other age e one = never e (not_at_fault numbers age one)

  -- an age at fault lies in none, or in several
  abbrev Kind : ℕ → Type 0
  Kind age = ((fault_at (bands_of numbers) age ≡ Gap age) × (holders age (bands_of numbers) ≡ 0)) ⊎ ((fault_at (bands_of numbers) age ≡ Overlap age) × (1 < holders age (bands_of numbers)))

  kind_of : (age : ℕ) → (holders age (bands_of numbers) ≡ 1 → ⊥) → Kind age
  kind_of age other = go (alike (holders age (bands_of numbers)) 0)
    where
      go : (holders age (bands_of numbers) ≡ 0) ⊎ (holders age (bands_of numbers) ≡ 0 → ⊥) → Kind age
      go (inl none) = inl (sym (in_none numbers age none), none)
      go (inr some) = let several : 1 < holders age (bands_of numbers) = omega (arith, some, other) in inr (sym (in_several numbers age several), several)

  -- The four reports of a table.
  abbrev Reports : Type 0
  Reports =
      ((table_within numbers ≡ false) × (checked_table numbers ≡ Err Malformed))
      ⊎ (GoodTable numbers × (checked_table numbers ≡ Ok tt))
      ⊎ ((age : ℕ) × LowestFault numbers 25 age × (checked_table numbers ≡ Err (Gap age)))
      ⊎ ((age : ℕ) × LowestFault numbers 26 age × (checked_table numbers ≡ Err (Overlap age)))

  -- the lowest age at fault, whatever is at fault with it
  lowest : table_within numbers ≡ true → (number age : ℕ) → First (suc max_age) (at_fault (bands_of numbers)) age
      → ((number ≡ 25) × (holders age (bands_of numbers) ≡ 0)) ⊎ ((number ≡ 26) × (1 < holders age (bands_of numbers))) → LowestFault numbers number age
  lowest within number age first fault =
      record { within = in_range.0 within; is_age = omega (arith, first.small); fault = fault; none_lower = λ lower h. held_one lower (first.none_before lower h) }

  reports : Reports
  reports = go (true_or_false (table_within numbers)) (first_or_none (suc max_age) (at_fault (bands_of numbers)))
    where
      told : table_within numbers ≡ true → (age : ℕ) → First (suc max_age) (at_fault (bands_of numbers)) age → Kind age → Reports
      told within age first (inl kind) =
          inr (inr (inl (age, lowest within 25 age first (inl (refl, kind.1)), sym (reports_fault numbers within age first) ∙ ap Err kind.0)))
      told within age first (inr kind) =
          inr (inr (inr (age, lowest within 26 age first (inr (refl, kind.1)), sym (reports_fault numbers within age first) ∙ ap Err kind.0)))

      go : (table_within numbers ≡ true) ⊎ (table_within numbers ≡ false)
          → ((age : ℕ) → age < suc max_age → at_fault (bands_of numbers) age ≡ false) ⊎ ((age : ℕ) × First (suc max_age) (at_fault (bands_of numbers)) age)
          → Reports
      go (inr out) found = inl (out, sym (outside numbers out))
      go (inl within) (inl none) =
          inr (inl (record { within = in_range.0 within; once = λ age h. held_one age (none age (omega arith)) }, sym (reports_good numbers within none)))
      go (inl within) (inr found) = told within found.0 found.1 (kind_of found.0 (held_other found.0 found.1.holds))

  -- Good exactly if all is within its range and every age from 0 to 120 lies in exactly one band.
  pub good_exactly : (checked_table numbers ≡ Ok tt) ↔ GoodTable numbers
  good_exactly = (
    λ e. go e reports,
    λ g. sym (reports_good numbers (in_range.1 g.within) (λ age h. not_at_fault numbers age (g.once age (omega arith)))),
  )
    where
      go : checked_table numbers ≡ Ok tt → Reports → GoodTable numbers
      go e (inl k) = cc
      go e (inr (inl k)) = k.0
      go e (inr (inr (inl k))) = cc
      go e (inr (inr (inr k))) = cc

  -- A fault is named exactly if it is the lowest one: 25, its age lies in no band, and 26, in several.
  pub fault_exactly : (age : ℕ) → ((checked_table numbers ≡ Err (Gap age)) ↔ LowestFault numbers 25 age) × ((checked_table numbers ≡ Err (Overlap age)) ↔ LowestFault numbers 26 age)
  fault_exactly age = ((λ e. gap e reports, λ f. told_gap f f.fault), (λ e. overlap e reports, λ f. told_overlap f f.fault))
    where
      gap : checked_table numbers ≡ Err (Gap age) → Reports → LowestFault numbers 25 age
      gap e (inl k) = cc
      gap e (inr (inl k)) = cc
      gap e (inr (inr (inl k))) = let same : k.0 ≡ age = cc in rw (← same) k.1
      gap e (inr (inr (inr k))) = cc

      overlap : checked_table numbers ≡ Err (Overlap age) → Reports → LowestFault numbers 26 age
      overlap e (inl k) = cc
      overlap e (inr (inl k)) = cc
      overlap e (inr (inr (inl k))) = cc
      overlap e (inr (inr (inr k))) = let same : k.0 ≡ age = cc in rw (← same) k.1

      first : {number : ℕ} → LowestFault numbers number age → (holders age (bands_of numbers) ≡ 1 → ⊥) → First (suc max_age) (at_fault (bands_of numbers)) age
      first f other =
          record {
            small = omega (arith, f.is_age);
            holds = at_fault_lem numbers age other;
            none_before = λ lower h. not_at_fault numbers lower (f.none_lower lower h);
          }

      told_gap : LowestFault numbers 25 age → (◌≡◌ {A = ℕ} 25 25 × (holders age (bands_of numbers) ≡ 0)) ⊎ (◌≡◌ {A = ℕ} 25 26 × (1 < holders age (bands_of numbers))) → checked_table numbers ≡ Err (Gap age)
      told_gap f (inl k) = sym (reports_fault numbers (in_range.1 f.within) age (first f (λ one. omega (arith, one, k.1)))) ∙ ap Err (sym (in_none numbers age k.1))
      told_gap f (inr k) = absurd (omega (arith, k.0))

      told_overlap : LowestFault numbers 26 age → (◌≡◌ {A = ℕ} 26 25 × (holders age (bands_of numbers) ≡ 0)) ⊎ (◌≡◌ {A = ℕ} 26 26 × (1 < holders age (bands_of numbers))) → checked_table numbers ≡ Err (Overlap age)
      told_overlap f (inl k) = absurd (omega (arith, k.0))
      told_overlap f (inr k) = sym (reports_fault numbers (in_range.1 f.within) age (first f (λ one. omega (arith, one, k.1)))) ∙ ap Err (sym (in_several numbers age k.1))

  -- False exactly if something is outside its range, whatever ages are at fault.
  pub malformed_exactly : (checked_table numbers ≡ Err Malformed) ↔ (InRange numbers → ⊥)
  malformed_exactly = (λ e r. go e (in_range.1 r) reports, λ out. sym (outside numbers (refuted (table_within numbers) (λ within. out (in_range.0 within)))))
    where
      go : checked_table numbers ≡ Err Malformed → table_within numbers ≡ true → Reports → ⊥
      go e within (inl k) = never within k.0
      go e within (inr (inl k)) = cc
      go e within (inr (inr (inl k))) = cc
      go e within (inr (inr (inr k))) = cc

-- Points of request K9, evaluated: what the checker reports, the factor of an age, worked premiums by age, and the order of the refusals.
use Rattle.std.specs.Prelude.{ℕ, zero, suc, ◌≡◌, refl, List, [], ◌∷◌, ◌++◌, ℤ, pos, set, Result, Ok, Err}
use Rattle.base.specs.Lists.{all, any, keep, flat, by_three, all_threes, member, distinct, same, times, table, up_to, without}
use Rattle.book.specs.Formula.{literal_within, sound_clause, sound}
use Rattle.book.specs.Numbers.{starts, numbers_of, clauses_from, rising, well_formed}
use Rattle.run.specs.Trail.{opposite, place, literal_at, is_true, decisions, level, lowered, cut}
use Rattle.run.specs.Scan.{watched, next, one_more, scan_from, scan}
use Rattle.run.specs.Run.{push_front, take_out, add_checks, other_watch, moved, scanned_action, with_conflict, action, on_trail, with_watches, counted, perform_action, visit, read_list, propagate_from, first_cell, watch_all, fresh, assign_unit, assign_units, open_run, decide}
use Rattle.run.specs.Calls.{decide_refusal, refusal, perform_call, step, step_all, reference}
use Rattle.layout.specs.Layout.{length_at, value_number, level_number, node_of, watch_literal, first_node, behind, head_number, link_number, watch_number, encode, level_before, held_trail, held_cells, chain_from, held_lists, held}
use Rattle.validation.specs.Validation.{has_reason, is_justified, is_watching, is_guarded, watches_hold, is_fixpoint, is_conflict, is_listed, is_valid, passes, call_refusal}
use Rattle.bands.specs.Bands.{bands_of, are_bands, band_within, table_within, lies_in, bands_at, at_fault, fault_at, checked_table, factor_at, refused_by, factor_answer}
use Rattle.bands.specs.declared.TableFault.TheVariants.{Malformed, Gap, Overlap}
use Rattle.refusals.specs.Refusals.{number_of, refusals, first_with, refusal_of}
use Rattle.refusals.specs.declared.Refusal.{Refusal}
use Rattle.refusals.specs.declared.Refusal.TheVariants.{Book, Session, InConflict, PriceInput, RunningAmount, AgeGap, AgeOverlap}
use Rattle.rating.specs.Pricing.{literal_of, change_of, lines_of, is_kind, are_lines, change_within, line_within, list_within, base_within, rounded, applied, limited, stepped, priced_by, open_lines, price_refusal}
use Rattle.rating.specs.Ages.{scaled, age_answer}
use Rattle.rating.specs.declared.Premium.{Premium}
use Rattle.points.specs.Points.{opposed}
use Rattle.points.specs.K1.{book, begun, assigned, minus, amount, part, several, premium}

-- a band, one for each of the ages below n, and four that are good
abbrev band : ℕ → ℕ → ℕ → List ℕ
band first last thousandths = first ∷ last ∷ thousandths ∷ []

unfoldable pub singles : ℕ → List ℕ
singles zero = []
singles (suc age) = band age age 1000 ++ singles age

abbrev four : List ℕ
four = band 65 120 1325 ++ (band 25 64 1000 ++ (band 0 17 2500 ++ band 18 24 1750))

-- the listing's session of K1, all of whose features are settled, priced by age
abbrev priced : ℕ → List ℕ → ℕ → List ℤ → Result Premium Refusal
priced base bands age numbers = age_answer book assigned (pos base) bands age numbers

pub record Points : Type 0 where
  -- The number of each fault of a table, for a call that prices.
  pub malformed_is_19 : number_of (refused_by Malformed) ≡ 19
  pub gap_is_25 : number_of (refused_by (Gap 18)) ≡ 25
  pub overlap_is_26 : number_of (refused_by (Overlap 18)) ≡ 26
  -- Four bands, not in the order of age: good; the factor of each age at both ends of its band.
  pub good : checked_table four ≡ Ok tt
  pub first_age : factor_answer four 0 ≡ Ok 2500
  pub age_17 : factor_answer four 17 ≡ Ok 2500
  pub age_18 : factor_answer four 18 ≡ Ok 1750
  pub age_24 : factor_answer four 24 ≡ Ok 1750
  pub age_25 : factor_answer four 25 ≡ Ok 1000
  pub age_64 : factor_answer four 64 ≡ Ok 1000
  pub age_65 : factor_answer four 65 ≡ Ok 1325
  pub last_age : factor_answer four 120 ≡ Ok 1325
  pub age_over : factor_answer four 121 ≡ Err PriceInput
  -- The lowest age at fault, and its number by that age alone: a gap, an overlap, both, either end, no band at all, every age several times.
  pub gap : checked_table (band 0 17 1000 ++ band 19 120 1000) ≡ Err (Gap 18)
  pub overlap : checked_table (band 0 18 1000 ++ band 18 120 1000) ≡ Err (Overlap 18)
  pub overlap_lower : checked_table (band 0 10 1 ++ (band 10 20 1 ++ band 22 120 1)) ≡ Err (Overlap 10)
  pub gap_lower : checked_table (band 0 9 1 ++ (band 11 20 1 ++ band 20 120 1)) ≡ Err (Gap 10)
  pub no_bands : checked_table [] ≡ Err (Gap 0)
  pub age_0_left_out : checked_table (band 1 120 1000) ≡ Err (Gap 0)
  pub age_120_left_out : checked_table (band 0 119 1000) ≡ Err (Gap 120)
  pub twice : checked_table (several 2 (band 0 120 1000)) ≡ Err (Overlap 0)
  pub in_three : checked_table (several 3 (band 0 120 1000)) ≡ Err (Overlap 0)
  -- False: a last age over 120, a first age over its last, a factor over 5,000, an incomplete band; before any fault, and on the other side of each range.
  pub all_ages : checked_table (band 0 120 1000) ≡ Ok tt
  pub last_over : checked_table (band 0 121 1000) ≡ Err Malformed
  pub one_age : checked_table (band 0 4 1 ++ (band 5 5 1 ++ band 6 120 1)) ≡ Ok tt
  pub first_over : checked_table (band 5 4 1000) ≡ Err Malformed
  pub first_and_last_over : checked_table (band 0 120 1000 ++ band 121 121 1000) ≡ Err Malformed
  pub most_factor : checked_table (band 0 120 5000) ≡ Ok tt
  pub factor_over : checked_table (band 0 120 5001) ≡ Err Malformed
  pub least_factor : checked_table (band 0 120 0) ≡ Ok tt
  pub false_before_fault : checked_table (band 1 120 1000 ++ band 0 0 5001) ≡ Err Malformed
  pub one_number : checked_table (band 0 120 1000 ++ (0 ∷ [])) ≡ Err Malformed
  pub two_numbers : checked_table (0 ∷ 120 ∷ []) ≡ Err Malformed
  -- 64 bands and 65, which cover the ages or do not.
  pub most_bands : checked_table (singles 63 ++ band 63 120 1000) ≡ Ok tt
  pub bands_over : checked_table (singles 64 ++ band 64 120 1000) ≡ Err Malformed
  pub most_bands_alike : checked_table (several 64 (band 0 120 1000)) ≡ Err (Overlap 0)
  pub bands_alike_over : checked_table (several 65 (band 0 120 1000)) ≡ Err Malformed
  -- The base scaled: by the four bands, halves up, the largest one, nothing left of it.
  pub at_0 : priced 12345 four 0 [] ≡ Ok (premium (pos 30863) 0)
  pub at_17 : priced 12345 four 17 [] ≡ Ok (premium (pos 30863) 0)
  pub at_18 : priced 12345 four 18 [] ≡ Ok (premium (pos 21604) 0)
  pub at_24 : priced 12345 four 24 [] ≡ Ok (premium (pos 21604) 0)
  pub at_25 : priced 12345 four 25 [] ≡ Ok (premium (pos 12345) 0)
  pub at_64 : priced 12345 four 64 [] ≡ Ok (premium (pos 12345) 0)
  pub at_65 : priced 12345 four 65 [] ≡ Ok (premium (pos 16357) 0)
  pub at_120 : priced 12345 four 120 [] ≡ Ok (premium (pos 16357) 0)
  pub at_121 : priced 12345 four 121 [] ≡ Err PriceInput
  pub half : scaled (pos 1) 500 ≡ pos 1
  pub below_half : scaled (pos 1) 499 ≡ pos 0
  pub second_half : scaled (pos 3) 1500 ≡ pos 5
  pub largest : priced 1000000000 (band 0 120 5000) 0 [] ≡ Ok (premium (pos 5000000000) 0)
  pub nothing_left : priced 1000000000 (band 0 120 0) 0 [] ≡ Ok (premium (pos 0) 0)
  pub before_the_lines : priced 12345 four 30 (amount 3 (pos 100) ++ part 3 (pos 500)) ≡ Ok (premium (pos 18668) 0)
  pub scaled_before_the_lines : priced 12345 four 70 (amount 3 (pos 100) ++ part 3 (pos 500)) ≡ Ok (premium (pos 24686) 0)
  pub open_line : age_answer book begun (pos 12345) four 70 (amount 6 (pos 100)) ≡ Ok (premium (pos 16357) 1)
  pub seven_doublings : priced 1000000000 (band 0 120 5000) 0 (several 7 (part 3 (pos 1000))) ≡ Ok (premium (pos 640000000000) 0)
  pub eight_doublings : priced 1000000000 (band 0 120 5000) 0 (several 8 (part 3 (pos 1000))) ≡ Err RunningAmount
  -- The order: 11, 12, 14, 19, then 25 or 26 at every age, then 20.
  pub book_first : age_answer (set book 0 0) (set assigned length_at 9) (minus 1) [] 121 [] ≡ Err Book
  pub session_second : age_answer book (set assigned length_at 9) (minus 1) [] 121 [] ≡ Err Session
  pub conflict_third : age_answer (numbers_of opposed) (encode opposed (open_run opposed)) (minus 1) [] 121 [] ≡ Err InConflict
  pub base_before_fault : age_answer book assigned (minus 1) [] 30 [] ≡ Err PriceInput
  pub line_before_fault : priced 12345 [] 30 (amount 10 (pos 1)) ≡ Err PriceInput
  pub age_before_fault : priced 12345 [] 121 [] ≡ Err PriceInput
  pub false_table : priced 12345 (band 0 120 5001) 30 [] ≡ Err PriceInput
  pub fault_elsewhere : priced 12345 (band 0 99 1000 ++ band 101 120 1000) 30 [] ≡ Err AgeGap
  pub several_elsewhere : priced 12345 (band 0 100 1000 ++ band 100 120 1000) 30 [] ≡ Err AgeOverlap
  pub fault_before_limit : priced 12345 (band 0 99 1000 ++ band 101 120 1000) 30 (several 100 (part 3 (pos 1000))) ≡ Err AgeGap

pub points : Points
unfolding refusal_of first_with refusals several singles scaled age_answer bands_of are_bands band_within table_within lies_in bands_at at_fault fault_at checked_table factor_at factor_answer by_three all_threes literal_of change_of lines_of is_kind are_lines change_within line_within list_within base_within rounded applied limited stepped priced_by open_lines price_refusal any distinct times table up_to sound_clause sound starts numbers_of clauses_from rising well_formed value_number level_number node_of watch_literal first_node behind head_number link_number watch_number encode level_before held_trail held_cells chain_from held_lists held has_reason is_justified is_watching is_guarded watches_hold is_fixpoint is_conflict is_listed is_valid passes call_refusal all flat member same literal_within opposite place literal_at is_true decisions level lowered cut watched next one_more scan_from scan push_front without take_out add_checks other_watch moved scanned_action with_conflict action on_trail with_watches counted perform_action visit read_list propagate_from first_cell watch_all fresh assign_unit assign_units open_run decide decide_refusal refusal perform_call step step_all reference keep
points =
    record {
      malformed_is_19 = refl;
      gap_is_25 = refl;
      overlap_is_26 = refl;
      good = refl;
      first_age = refl;
      age_17 = refl;
      age_18 = refl;
      age_24 = refl;
      age_25 = refl;
      age_64 = refl;
      age_65 = refl;
      last_age = refl;
      age_over = refl;
      gap = refl;
      overlap = refl;
      overlap_lower = refl;
      gap_lower = refl;
      no_bands = refl;
      age_0_left_out = refl;
      age_120_left_out = refl;
      twice = refl;
      in_three = refl;
      all_ages = refl;
      last_over = refl;
      one_age = refl;
      first_over = refl;
      first_and_last_over = refl;
      most_factor = refl;
      factor_over = refl;
      least_factor = refl;
      false_before_fault = refl;
      one_number = refl;
      two_numbers = refl;
      most_bands = refl;
      bands_over = refl;
      most_bands_alike = refl;
      bands_alike_over = refl;
      at_0 = refl;
      at_17 = refl;
      at_18 = refl;
      at_24 = refl;
      at_25 = refl;
      at_64 = refl;
      at_65 = refl;
      at_120 = refl;
      at_121 = refl;
      half = refl;
      below_half = refl;
      second_half = refl;
      largest = refl;
      nothing_left = refl;
      before_the_lines = refl;
      scaled_before_the_lines = refl;
      open_line = refl;
      seven_doublings = refl;
      eight_doublings = refl;
      book_first = refl;
      session_second = refl;
      conflict_third = refl;
      base_before_fault = refl;
      line_before_fault = refl;
      age_before_fault = refl;
      false_table = refl;
      fault_elsewhere = refl;
      several_elsewhere = refl;
      fault_before_limit = refl;
    }

-- Points of request K1, evaluated: the rounding, worked premiums, both sides of each limit, and the order of the refusals.
use Rattle.std.specs.Prelude.{ℕ, zero, suc, ◌≡◌, refl, List, [], ◌∷◌, ◌++◌, ℤ, pos, neg_ℤ, set, take, Result, Ok, Err}
use Rattle.base.specs.Lists.{all, any, keep, flat, by_three, all_threes, member, distinct, same, times, table, up_to, without}
use Rattle.book.specs.Formula.{literal_within, sound_clause, sound}
use Rattle.book.specs.Numbers.{starts, numbers_of, clauses_from, rising, well_formed}
use Rattle.run.specs.Trail.{opposite, place, literal_at, is_true, decisions, level, lowered, cut}
use Rattle.run.specs.Scan.{watched, next, one_more, scan_from, scan}
use Rattle.run.specs.Run.{push_front, take_out, add_checks, other_watch, moved, scanned_action, with_conflict, action, on_trail, with_watches, counted, perform_action, visit, read_list, propagate_from, first_cell, watch_all, fresh, assign_unit, assign_units, open_run, decide}
use Rattle.run.specs.Calls.{decision, decide_refusal, refusal, perform_call, step, step_all, reference}
use Rattle.layout.specs.Layout.{length_at, value_number, level_number, node_of, watch_literal, first_node, behind, head_number, link_number, watch_number, encode, level_before, held_trail, held_cells, chain_from, held_lists, held}
use Rattle.validation.specs.Validation.{has_reason, is_justified, is_watching, is_guarded, watches_hold, is_fixpoint, is_conflict, is_listed, is_valid, passes, call_refusal}
use Rattle.rating.specs.Pricing.{literal_of, change_of, lines_of, is_kind, are_lines, change_within, line_within, list_within, base_within, rounded, applied, limited, stepped, priced_by, open_lines, price_refusal, premium_answer}
use Rattle.rating.specs.declared.Premium.{Premium}
use Rattle.refusals.specs.declared.Refusal.{Refusal}
use Rattle.refusals.specs.declared.Refusal.TheVariants.{Book, Session, InConflict, PriceInput, RunningAmount}
use Rattle.refusals.specs.Refusals.{refusals, first_with, refusal_of}
use Rattle.points.specs.Points.{listing, opposed}

-- the listing's book, with the choice `-1` in force, and with `-1` and `-3`: then -1, 2, -3 and -4 are true
abbrev pub book : List ℕ
book = numbers_of listing

abbrev pub begun : List ℕ
begun = encode listing (reference listing (decision 3 ∷ []))

abbrev pub assigned : List ℕ
assigned = encode listing (reference listing (decision 3 ∷ decision 7 ∷ []))

-- an amount and a number of open lines
abbrev pub premium : ℤ → ℕ → Premium
premium cents count = record { amount = cents; open_lines = count }

abbrev price : List ℕ → ℕ → List ℤ → Result Premium Refusal
price session base numbers = premium_answer book session (pos base) numbers

-- a number below zero, a line of each kind, and several alike
abbrev pub minus : ℕ → ℤ
minus n = neg_ℤ (pos n)

abbrev pub amount : ℕ → ℤ → List ℤ
amount l cents = pos l ∷ pos 0 ∷ cents ∷ []

abbrev pub part : ℕ → ℤ → List ℤ
part l thousandths = pos l ∷ pos 1 ∷ thousandths ∷ []

unfoldable pub several : {A : Type 0} → ℕ → List A → List A
several zero line = []
several (suc n) line = line ++ several n line

-- a rate list, and one that falls to the limit
abbrev rates : List ℤ
rates = amount 4 (pos 2500) ++ (part 3 (minus 75) ++ (amount 2 (pos 99999) ++ (part 9 (pos 125) ++ part 6 (pos 500))))

abbrev falling : List ℤ
falling = several 24 (amount 3 (minus 10000000)) ++ (amount 3 (minus 4140625) ++ several 12 (part 3 (pos 1000)))

pub record Points : Type 0 where
  -- The rounding: to the nearest, halves away from zero, on either side of it.
  pub half : rounded (pos 500) ≡ pos 1
  pub below_half : rounded (pos 499) ≡ pos 0
  pub above_half : rounded (pos 501) ≡ pos 1
  pub second_half : rounded (pos 1500) ≡ pos 2
  pub half_below_zero : rounded (minus 500) ≡ minus 1
  pub less_below_zero : rounded (minus 499) ≡ pos 0
  pub second_half_below_zero : rounded (minus 2500) ≡ minus 3
  -- The addend is rounded, not the total; its sign is that of the product.
  pub addend : applied (pos 5) (change_of (pos 1) (minus 100)) ≡ pos 4
  pub minus_by_plus : applied (minus 5) (change_of (pos 1) (pos 100)) ≡ minus 6
  pub minus_by_minus : applied (minus 5) (change_of (pos 1) (minus 100)) ≡ minus 4
  -- The listing after `-1` and `-3`: 14,845, 13,732, 15,449; in the other order; and after `-1` alone, with three lines open.
  pub worked : price assigned 12345 rates ≡ Ok (premium (pos 15449) 0)
  pub worked_steps : price assigned 12345 (take 6 rates) ≡ Ok (premium (pos 13732) 0)
  pub turned : price assigned 12345 (part 6 (pos 500) ++ (part 9 (pos 125) ++ (amount 2 (pos 99999) ++ (part 3 (minus 75) ++ amount 4 (pos 2500))))) ≡ Ok (premium (pos 15346) 0)
  pub begun_only : price begun 12345 rates ≡ Ok (premium (pos 11419) 3)
  -- In list order: an amount before a change, and behind it.
  pub amount_first : price assigned 1000 (amount 3 (pos 1000) ++ part 3 (pos 100)) ≡ Ok (premium (pos 2200) 0)
  pub change_first : price assigned 1000 (part 3 (pos 100) ++ amount 3 (pos 1000)) ≡ Ok (premium (pos 2100) 0)
  -- Below zero, and nothing at all.
  pub below : price assigned 100 (amount 3 (minus 105) ++ part 3 (pos 100)) ≡ Ok (premium (minus 6) 0)
  pub below_less : price assigned 100 (amount 3 (minus 105) ++ part 3 (minus 100)) ≡ Ok (premium (minus 4) 0)
  pub no_lines : price assigned 12345 [] ≡ Ok (premium (pos 12345) 0)
  pub nothing : price assigned 0 [] ≡ Ok (premium (pos 0) 0)
  -- Each line counts by itself, whatever its sign; a line that is false is not open.
  pub each_line : price begun 0 (amount 4 (pos 9) ++ (amount 5 (pos 9) ++ (amount 2 (pos 9) ++ (amount 3 (pos 9) ++ part 4 (pos 10))))) ≡ Ok (premium (pos 9) 3)
  -- The limit of the running amount, on either side; no later line heals it.
  pub at_limit : price assigned 976562500 (several 10 (part 3 (pos 1000))) ≡ Ok (premium (pos 1000000000000) 0)
  pub over_limit : price assigned 976562500 (several 10 (part 3 (pos 1000)) ++ amount 3 (pos 1)) ≡ Err RunningAmount
  pub not_healed : price assigned 976562500 (several 10 (part 3 (pos 1000)) ++ (amount 3 (pos 1) ++ amount 3 (minus 1))) ≡ Err RunningAmount
  pub at_lower_limit : price assigned 0 falling ≡ Ok (premium (minus 1000000000000) 0)
  pub under_limit : price assigned 0 (falling ++ amount 3 (minus 1)) ≡ Err RunningAmount
  -- 19, on both sides of each range: the base, an amount, thousandths, the literal, lines that are false too.
  pub largest_base : price assigned 1000000000 [] ≡ Ok (premium (pos 1000000000) 0)
  pub base_over : price assigned 1000000001 [] ≡ Err PriceInput
  pub base_under : premium_answer book assigned (minus 1) [] ≡ Err PriceInput
  pub largest_amount : price assigned 0 (amount 3 (pos 10000000)) ≡ Ok (premium (pos 10000000) 0)
  pub amount_over : price assigned 0 (amount 3 (pos 10000001)) ≡ Err PriceInput
  pub least_amount : price assigned 0 (amount 3 (minus 10000000)) ≡ Ok (premium (minus 10000000) 0)
  pub amount_under : price assigned 0 (amount 3 (minus 10000001)) ≡ Err PriceInput
  pub most_thousandths : price assigned 7 (part 3 (pos 1000)) ≡ Ok (premium (pos 14) 0)
  pub thousandths_over : price assigned 7 (part 3 (pos 1001)) ≡ Err PriceInput
  pub least_thousandths : price assigned 7 (part 3 (minus 1000)) ≡ Ok (premium (pos 0) 0)
  pub thousandths_under : price assigned 7 (part 3 (minus 1001)) ≡ Err PriceInput
  pub first_literal : price assigned 7 (amount 2 (pos 1)) ≡ Ok (premium (pos 7) 0)
  pub literal_under : price assigned 7 (amount 1 (pos 1)) ≡ Err PriceInput
  pub last_literal : price assigned 7 (amount 9 (pos 1)) ≡ Ok (premium (pos 8) 0)
  pub literal_over : price assigned 7 (amount 10 (pos 1)) ≡ Err PriceInput
  pub literal_negative : price assigned 7 (minus 2 ∷ pos 0 ∷ pos 1 ∷ []) ≡ Err PriceInput
  pub false_line_over : price assigned 7 (amount 2 (pos 10000001)) ≡ Err PriceInput
  -- 19: more than 200 lines, another kind, no whole line.
  pub most_lines : price assigned 0 (several 200 (amount 3 (pos 1))) ≡ Ok (premium (pos 200) 0)
  pub lines_over : price assigned 0 (several 201 (amount 3 (pos 1))) ≡ Err PriceInput
  pub kind_over : price assigned 7 (pos 3 ∷ pos 2 ∷ pos 1 ∷ []) ≡ Err PriceInput
  pub kind_under : price assigned 7 (pos 3 ∷ minus 1 ∷ pos 1 ∷ []) ≡ Err PriceInput
  pub one_number : price assigned 7 (pos 3 ∷ []) ≡ Err PriceInput
  pub two_numbers : price assigned 7 (amount 3 (pos 1) ++ (pos 3 ∷ pos 0 ∷ [])) ≡ Err PriceInput
  -- The order: 11, 12, 14, 19, 20.
  pub book_first : premium_answer (set book 0 0) (set assigned length_at 9) (minus 1) [] ≡ Err Book
  pub session_second : premium_answer book (set assigned length_at 9) (minus 1) [] ≡ Err Session
  pub conflict_third : premium_answer (numbers_of opposed) (encode opposed (open_run opposed)) (minus 1) [] ≡ Err InConflict
  pub range_before_limit : price assigned 976562500 (several 10 (part 3 (pos 1000)) ++ (amount 3 (pos 1) ++ amount 10 (pos 1))) ≡ Err PriceInput

pub points : Points
unfolding refusal_of first_with refusals several by_three all_threes literal_of change_of lines_of is_kind are_lines change_within line_within list_within base_within rounded applied limited stepped priced_by open_lines price_refusal premium_answer any distinct times table up_to sound_clause sound starts numbers_of clauses_from rising well_formed value_number level_number node_of watch_literal first_node behind head_number link_number watch_number encode level_before held_trail held_cells chain_from held_lists held has_reason is_justified is_watching is_guarded watches_hold is_fixpoint is_conflict is_listed is_valid passes call_refusal all flat member same literal_within opposite place literal_at is_true decisions level lowered cut watched next one_more scan_from scan push_front without take_out add_checks other_watch moved scanned_action with_conflict action on_trail with_watches counted perform_action visit read_list propagate_from first_cell watch_all fresh assign_unit assign_units open_run decide decide_refusal refusal perform_call step step_all reference keep
points =
    record {
      half = refl;
      below_half = refl;
      above_half = refl;
      second_half = refl;
      half_below_zero = refl;
      less_below_zero = refl;
      second_half_below_zero = refl;
      addend = refl;
      minus_by_plus = refl;
      minus_by_minus = refl;
      worked = refl;
      worked_steps = refl;
      turned = refl;
      begun_only = refl;
      amount_first = refl;
      change_first = refl;
      below = refl;
      below_less = refl;
      no_lines = refl;
      nothing = refl;
      each_line = refl;
      at_limit = refl;
      over_limit = refl;
      not_healed = refl;
      at_lower_limit = refl;
      under_limit = refl;
      largest_base = refl;
      base_over = refl;
      base_under = refl;
      largest_amount = refl;
      amount_over = refl;
      least_amount = refl;
      amount_under = refl;
      most_thousandths = refl;
      thousandths_over = refl;
      least_thousandths = refl;
      thousandths_under = refl;
      first_literal = refl;
      literal_under = refl;
      last_literal = refl;
      literal_over = refl;
      literal_negative = refl;
      false_line_over = refl;
      most_lines = refl;
      lines_over = refl;
      kind_over = refl;
      kind_under = refl;
      one_number = refl;
      two_numbers = refl;
      book_first = refl;
      session_second = refl;
      conflict_third = refl;
      range_before_limit = refl;
    }

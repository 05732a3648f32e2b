-- A list that has amounts only may stand in any order.
use Prim.Native.Nat.{ℕ, ◌+◌, ◌*◌, ◌≤◌}
use mathlib.Core.Bool.{Bool, true, false, cond, ◌&&◌}
use mathlib.Core.List.{List, [], ◌∷◌}
use mathlib.Core.Path.{◌≡◌, refl, sym, ap, ◌∙◌}
use native.Mathlib.Omega.{arith}
use lib.IntN.{ℤ, pos, nat_abs, ◌+ℤ◌, +ℤ_idr, +ℤ_assoc, +ℤ_comm}
use lib.ListN.{length}
use Rattle.base.specs.Lists.{all, Reordered, unmoved, swapped, behind, further}
use Rattle.base.proofs.Bools.{and_parts, never}
use Rattle.base.proofs.Counts.{count_reordered}
use Rattle.base.proofs.Lists.{length_reordered, all_reordered}
use Rattle.base.proofs.Signed.{size_sum}
use Rattle.std.specs.Prelude.{Option, Some}
use Rattle.book.specs.Numbers.{well_formed, variables_of, formula_of}
use Rattle.run.specs.Trail.{is_true}
use Rattle.run.specs.Run.{in_conflict}
use Rattle.layout.specs.Layout.{held}
use Rattle.validation.specs.Validation.{passes}
use Rattle.rating.specs.Pricing.{max_amount, max_running, lines_of, are_lines, change_within, line_within, list_within, base_within, applied, limited, stepped, priced_by, open_lines, offered, rates_within, premium_answer, line_open}
use Rattle.rating.specs.Statement.{is_amount, amounts_only}
use Rattle.rating.specs.declared.Change.{Change}
use Rattle.rating.specs.declared.Change.TheVariants.{Amount, Thousandths}
use Rattle.rating.specs.declared.RateLine.{RateLine}
use Rattle.rating.proofs.PricingLaws.{amount_small, limited_within, list_parts, line_parts}
use Rattle.rating.proofs.AnswerLaws.{base_most}
use Rattle.rating.proofs.Refusals.{said, state, open_count, said_is}

abbrev cents : Change → ℤ
cents (Amount amount) = amount
cents (Thousandths part) = pos 0

module _ (holds : ℕ → Bool) where
  -- what a line adds where it applies, and what all add
  abbrev adds : RateLine → ℤ
  adds line = cond (holds line.literal) (cents line.change) (pos 0)

  unfoldable added : List RateLine → ℤ
  added [] = pos 0
  added (line ∷ lines) = adds line +ℤ added lines

  added_reordered : {xs ys : List RateLine} → Reordered xs ys → added xs ≡ added ys
  unfolding added
  added_reordered unmoved = refl
  added_reordered (swapped {x = a} {y = b} {xs = xs}) =
      sym (+ℤ_assoc (adds a) (adds b) (added xs)) ∙ ap (λ (s : ℤ). s +ℤ added xs) (+ℤ_comm (adds a) (adds b)) ∙ +ℤ_assoc (adds b) (adds a) (added xs)
  added_reordered (behind {x = a} r) = ap (λ (s : ℤ). adds a +ℤ s) (added_reordered r)
  added_reordered (further r s) = added_reordered r ∙ added_reordered s

  open_reordered : {xs ys : List RateLine} → Reordered xs ys → open_lines holds xs ≡ open_lines holds ys
  unfolding open_lines
  open_reordered r = count_reordered (line_open holds) r

  -- a line with an amount adds little, and where the sum is within the limit it is reached
  adds-small : (line : RateLine) → is_amount line.change ≡ true → change_within line.change ≡ true → nat_abs (adds line) ≤ max_amount
  adds-small line amount within = go (holds line.literal) line.change amount within
    where
      go : (t : Bool) (change : Change) → is_amount change ≡ true → change_within change ≡ true → nat_abs (cond t (cents change) (pos 0)) ≤ max_amount
      go false change a w = omega arith
      go true (Amount c) a w = amount_small c w
      go true (Thousandths part) a w = absurd (never a refl)

  reached : (line : RateLine) (x : ℤ) → is_amount line.change ≡ true → nat_abs (x +ℤ adds line) ≤ max_running → stepped holds (Some x) line ≡ Some (x +ℤ adds line)
  unfolding stepped applied
  reached line x amount h = go (holds line.literal) line.change amount h
    where
      go : (t : Bool) (change : Change) → is_amount change ≡ true → nat_abs (x +ℤ cond t (cents change) (pos 0)) ≤ max_running
          → cond t (limited (applied x change)) (Some x) ≡ Some (x +ℤ cond t (cents change) (pos 0))
      go false change a h = ap Some (sym (+ℤ_idr x))
      go true (Amount c) a h = sym (limited_within (x +ℤ c) h)
      go true (Thousandths part) a h = absurd (never a refl)

  -- so few lines stay within the limit
  all_reached : (v : ℕ) (lines : List RateLine) (x : ℤ) → amounts_only lines ≡ true → all (line_within v) lines ≡ true
      → nat_abs x + max_amount * length lines ≤ max_running → priced_by holds (Some x) lines ≡ Some (x +ℤ added lines)
  unfolding priced_by all added
  all_reached v [] x a w h = ap Some (sym (+ℤ_idr x))
  all_reached v (line ∷ lines) x a w h =
      let amount = and_parts (is_amount line.change) (amounts_only lines) a in
      let within = and_parts (line_within v line) (all (line_within v) lines) w in
      let small = adds-small line amount.0 (line_parts v line within.0).1 in
      let size = size_sum x (adds line) in
      ap (λ (s : Option ℤ). priced_by holds s lines) (reached line x amount.0 (omega (arith, size, small, h)))
      ∙ all_reached v lines (x +ℤ adds line) amount.1 within.1 (omega (arith, size, small, h))
      ∙ ap Some (+ℤ_assoc x (adds line) (added lines))

-- Two lists of whole lines, the same ones in any order, all with amounts, are answered alike, refused or not.
module _ (book session : List ℕ) (base : ℤ) (numbers others : List ℤ) (whole : are_lines numbers ≡ true) (whole-too : are_lines others ≡ true)
    (r : Reordered (lines_of numbers) (lines_of others)) (all-amounts : amounts_only (lines_of numbers) ≡ true) where
  abbrev holds : ℕ → Bool
  holds = is_true (held (formula_of book) session).trail

  same_list : list_within (variables_of book) numbers ≡ list_within (variables_of book) others
  unfolding list_within
  same_list = rw (whole, whole-too, length_reordered r, all_reordered (line_within (variables_of book)) r)

  same_range : rates_within book base numbers ≡ rates_within book base others
  same_range = ap (λ (b : Bool). base_within base && b) same_list

  same_state : rates_within book base numbers ≡ true → state book session base numbers ≡ state book session base others
  same_state e =
      let both = and_parts (base_within base) (list_within (variables_of book) numbers) e in
      let here = list_parts (variables_of book) numbers both.1 in
      let there = list_parts (variables_of book) others (sym same_list ∙ both.1) in
      let small = base_most base both.0 in
      all_reached holds (variables_of book) (lines_of numbers) base all-amounts here.2 (omega (arith, small, here.1))
      ∙ ap (λ (s : ℤ). Some (base +ℤ s)) (added_reordered holds r)
      ∙ sym (all_reached holds (variables_of book) (lines_of others) base (sym (all_reordered (λ (line : RateLine). is_amount line.change) r) ∙ all-amounts) there.2 (omega (arith, small, there.1)))

  pub amounts_commute : premium_answer book session base numbers ≡ premium_answer book session base others
  amounts_commute =
      said_is book session base numbers
      ∙ go (well_formed book) (passes (formula_of book) session) (in_conflict (held (formula_of book) session)) (rates_within book base numbers) refl
      ∙ sym (said_is book session base others)
    where
      go : (w p c i : Bool) → rates_within book base numbers ≡ i
          → said w p c (rates_within book base numbers) (offered (open_count book session numbers) (state book session base numbers))
          ≡ said w p c (rates_within book base others) (offered (open_count book session others) (state book session base others))
      go false p c i e = refl
      go true false c i e = refl
      go true true true i e = refl
      go true true false false e = rw (← same_range, e)
      go true true false true e = rw (← same_range, e, same_state e, open_reordered holds r)

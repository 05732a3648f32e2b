-- A line that is within its ranges and does not apply changes nothing but the number of open lines.
use Prim.Native.Nat.{ℕ, ◌+◌, ◌≤◌}
use mathlib.Core.Bool.{Bool, true, false}
use mathlib.Core.List.{List, ◌∷◌, ◌++◌}
use mathlib.Core.Path.{◌≡◌, refl, sym, ap, ◌∙◌}
use native.Mathlib.Omega.{arith}
use borrow.Author.Tests.{le-leb}
use lib.IntN.{ℤ}
use lib.ListN.{length, length-append}
use Rattle.base.specs.Lists.{all, by_three, all_threes}
use Rattle.base.proofs.Counts.{count_append}
use Rattle.base.proofs.Lists.{all_append}
use Rattle.base.proofs.Threes.{threes_join, tests_join}
use Rattle.std.specs.Prelude.{Option, Some, None}
use Rattle.book.specs.Numbers.{well_formed, variables_of, formula_of}
use Rattle.run.specs.Trail.{Entry, is_true}
use Rattle.run.specs.Run.{in_conflict}
use Rattle.layout.specs.Layout.{held}
use Rattle.validation.specs.Validation.{passes}
use Rattle.rating.specs.Pricing.{max_lines, literal_of, line_of, lines_of, is_kind, of_kind, are_lines, line_within, list_within, priced_by, open_lines, one_if_open, offered, rates_within, premium_answer, line_open}
use Rattle.rating.specs.Statement.{with_open}
use Rattle.rating.specs.declared.RateLine.{RateLine}
use Rattle.rating.proofs.PricingLaws.{priced_append, unmet, open_first}
use Rattle.rating.proofs.Refusals.{said, state, open_count, said_is}

-- A line that does not apply, in a list that is otherwise the same:
module _ (book session : List ℕ) (base : ℤ) (front back : List ℤ) (literal kind value : ℤ) where
  abbrev trail : List Entry
  trail = (held (formula_of book) session).trail

  abbrev line : RateLine
  line = line_of literal kind value

  abbrev whole : List ℤ
  whole = front ++ (literal ∷ kind ∷ value ∷ back)

  module _ (formed : are_lines front ≡ true) (is-kind : is_kind kind ≡ true) (within : line_within (variables_of book) line ≡ true) (few : length (lines_of whole) ≤ max_lines) where
    joined : lines_of whole ≡ lines_of front ++ (line ∷ lines_of back)
    unfolding lines_of are_lines by_three
    joined = threes_join of_kind line_of front (literal ∷ kind ∷ value ∷ back) formed

    without : lines_of (front ++ back) ≡ lines_of front ++ lines_of back
    unfolding lines_of are_lines
    without = threes_join of_kind line_of front back formed

    same_range : list_within (variables_of book) whole ≡ list_within (variables_of book) (front ++ back)
    unfolding list_within are_lines all_threes all
    same_range =
        let shorter : length (lines_of (front ++ back)) ≤ max_lines
        = omega (arith, few, ap length joined, ap length without, length-append (lines_of front) (line ∷ lines_of back), length-append (lines_of front) (lines_of back)) in
        rw (le-leb (length (lines_of whole)) max_lines few, le-leb (length (lines_of (front ++ back))) max_lines shorter, joined, without, tests_join of_kind front (literal ∷ kind ∷ value ∷ back) formed, tests_join of_kind front back formed, is-kind, all_append (line_within (variables_of book)) (lines_of front) (line ∷ lines_of back), all_append (line_within (variables_of book)) (lines_of front) (lines_of back), within)

    -- Where its literal is not true, it changes nothing but the number of open lines, and that by one exactly if its variable is open.
    pub unmet_line : is_true trail (literal_of literal) ≡ false
        → premium_answer book session base whole ≡ with_open (one_if_open (is_true trail) (literal_of literal)) (premium_answer book session base (front ++ back))
    unfolding priced_by open_lines
    unmet_line unmet-literal =
        let same_state : state book session base whole ≡ state book session base (front ++ back)
        = ap (priced_by (is_true trail) (Some base)) joined
        ∙ priced_append (is_true trail) (lines_of front) (line ∷ lines_of back) (Some base)
        ∙ passed-by (priced_by (is_true trail) (Some base) (lines_of front))
        ∙ sym (priced_append (is_true trail) (lines_of front) (lines_of back) (Some base))
        ∙ ap (priced_by (is_true trail) (Some base)) (sym without) in
        let more : open_count book session whole ≡ one_if_open (is_true trail) (literal_of literal) + open_count book session (front ++ back)
        = omega (arith, ap (open_lines (is_true trail)) joined, ap (open_lines (is_true trail)) without, count_append (line_open (is_true trail)) (lines_of front) (line ∷ lines_of back), count_append (line_open (is_true trail)) (lines_of front) (lines_of back), open_first (is_true trail) line (lines_of back)) in
        said_is book session base whole
        ∙ rw (same_range, same_state, more, said_is book session base (front ++ back)) (go (well_formed book) (passes (formula_of book) session) (in_conflict (held (formula_of book) session)) (rates_within book base (front ++ back)) (state book session base (front ++ back)))
      where
        passed-by : (s : Option ℤ) → priced_by (is_true trail) s (line ∷ lines_of back) ≡ priced_by (is_true trail) s (lines_of back)
        passed-by s = ap (λ (now : Option ℤ). priced_by (is_true trail) now (lines_of back)) (unmet (is_true trail) s line unmet-literal)

        go : (w p c r : Bool) (s : Option ℤ)
            → said w p c r (offered (one_if_open (is_true trail) (literal_of literal) + open_count book session (front ++ back)) s)
            ≡ with_open (one_if_open (is_true trail) (literal_of literal)) (said w p c r (offered (open_count book session (front ++ back)) s))
        go false p c r s = refl
        go true false c r s = refl
        go true true true r s = refl
        go true true false false s = refl
        go true true false true (Some x) = refl
        go true true false true None = refl

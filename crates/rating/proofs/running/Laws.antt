-- What a step and the loops over the lines know.
use Prim.Native.Nat.{ℕ, ◌+◌, ◌≤◌, ◌<◌}
use mathlib.Core.Bool.{Bool, true, false}
use mathlib.Core.List.{List, [], ◌∷◌}
use mathlib.Core.Path.{◌≡◌, refl, sym, ap, ◌∙◌}
use native.Mathlib.Omega.{arith}
use lib.IntN.{ℤ, nat_abs}
use lib.ListN.{length, get_or, drop}
use Rattle.std.specs.Prelude.{map}
use Rattle.base.specs.Lists.{all, keep}
use Rattle.base.proofs.Bools.{and_parts}
use Rattle.base.proofs.Counts.{count_few}
use Rattle.std.specs.Prelude.{Option, Some, None}
use Rattle.book.specs.Formula.{literal_within}
use Rattle.run.specs.Trail.{Entry, is_true}
use Rattle.layout.specs.Values.{value_in}
use Rattle.layout.specs.declared.values.Value.{Value}
use Rattle.layout.specs.declared.values.Value.TheVariants.{Open, True, False}
use Rattle.layout.proofs.ValueLaws.{value_open, value_true, value_false}
use Rattle.rating.specs.Pricing.{max_lines, max_running, lines_of, change_within, line_within, list_within, applied, limited, stepped, priced_by, open_lines, is_open, one_if_open, line_open}
use Rattle.rating.specs.declared.RateLine.{RateLine}
use Rattle.rating.proofs.PricingLaws.{limited_small, priced_beyond, open_first, list_parts, line_parts}
use Rattle.rating.specs.Inner.Threes.{threes_of, line_from}
use Rattle.rating.proofs.lines.ThreeLaws.{lines_by_threes, line_read, lines_ended}

-- a literal is true, and its variable is open, by a test of its value
module _ (trail : List Entry) (l : ℕ) (test : Value → Bool) where
  pub told_true : test Open ≡ false → test True ≡ true → test False ≡ false → test (value_in trail l) ≡ is_true trail l
  told_true o t f = go (value_in trail l) refl
    where
      go : (v : Value) → value_in trail l ≡ v → test v ≡ is_true trail l
      go Open e = o ∙ sym (value_open trail l e).0
      go True e = t ∙ sym (value_true trail l e)
      go False e = f ∙ sym (value_false trail l e).0

  pub told_open : test Open ≡ true → test True ≡ false → test False ≡ false → test (value_in trail l) ≡ is_open (is_true trail) l
  told_open o t f = go (value_in trail l) refl
    where
      go : (v : Value) → value_in trail l ≡ v → test v ≡ is_open (is_true trail) l
      go Open e = let signs = value_open trail l e in rw (signs.0, signs.1) o
      go True e = rw (value_true trail l e) t
      go False e = let signs = value_false trail l e in rw (signs.0, signs.1) f

-- Loops over the lines of a list that is within its ranges, by its threes, on a book of v variables:
module _ (v : ℕ) (numbers : List ℤ) (rows : List (List ℤ)) (made : rows ≡ threes_of numbers) where
  abbrev lines : List RateLine
  lines = map line_from rows

  lines_are : lines ≡ lines_of numbers
  lines_are = rw made (lines_by_threes numbers)

  -- from a place on, the lines are
  abbrev Ranged : ℕ → Type 0
  Ranged i = all (line_within v) (drop i lines) ≡ true

  ranged_none : list_within v numbers ≡ true → Ranged 0
  ranged_none e = rw lines_are (list_parts v numbers e).2

  -- a line that is read
  module _ (i : ℕ) (h : i < length rows) (line : RateLine) (is : line ≡ line_from (get_or rows i [])) where
    here : drop i lines ≡ line ∷ drop (i + 1) lines
    here = line_read rows i h ∙ ap (λ (l : RateLine). l ∷ drop (i + 1) lines) (sym is)

    ranged_parts : Ranged i → (line_within v line ≡ true) × Ranged (i + 1)
    unfolding all
    ranged_parts r = and_parts (line_within v line) (all (line_within v) (drop (i + 1) lines)) (ap (all (line_within v)) (sym here) ∙ r)

    pub read_parts : Ranged i → (literal_within v line.literal ≡ true) × (change_within line.change ≡ true)
    read_parts r = line_parts v line (ranged_parts r).0

  -- What the loop that applies them knows at a place: the running amount is within its limit, and comes to the same as the start at the first line.
  module _ (holds : ℕ → Bool) (start : ℤ) where
    pub record AppliedBefore (amount : ℤ) (i : ℕ) : Type 0 where
      pub ranged : Ranged i
      pub small : nat_abs amount ≤ max_running
      pub rest : priced_by holds (Some amount) (drop i lines) ≡ priced_by holds (Some start) (lines_of numbers)

    pub applied_none : list_within v numbers ≡ true → nat_abs start ≤ max_running → AppliedBefore start 0
    applied_none e s = record { ranged = ranged_none e; small = s; rest = ap (priced_by holds (Some start)) lines_are }

    module _ (amount : ℤ) (i : ℕ) (a : AppliedBefore amount i) where
      module _ (h : i < length rows) (line : RateLine) (read : line ≡ line_from (get_or rows i [])) where
        stepped_rest : (next : Option ℤ) → stepped holds (Some amount) line ≡ next → priced_by holds next (drop (i + 1) lines) ≡ priced_by holds (Some start) (lines_of numbers)
        unfolding priced_by
        stepped_rest next e =
            ap (λ (state : Option ℤ). priced_by holds state (drop (i + 1) lines)) (sym e) ∙ ap (priced_by holds (Some amount)) (sym (here i h line read)) ∙ a.rest

        pub unmet_more : false ≡ holds line.literal → AppliedBefore amount (i + 1)
        unfolding stepped
        unmet_more e = record { ranged = (ranged_parts i h line read a.ranged).1; small = a.small; rest = stepped_rest (Some amount) (rw (← e)) }

        applies : true ≡ holds line.literal → (next : Option ℤ) → next ≡ limited (applied amount line.change) → stepped holds (Some amount) line ≡ next
        unfolding stepped
        applies e next is = rw (← e) (sym is)

        pub applied_more : true ≡ holds line.literal → (next : ℤ) → Some next ≡ limited (applied amount line.change) → AppliedBefore next (i + 1)
        applied_more e next is =
            record { ranged = (ranged_parts i h line read a.ranged).1; small = limited_small (applied amount line.change) next (sym is); rest = stepped_rest (Some next) (applies e (Some next) is) }

        pub applied_beyond : true ≡ holds line.literal → None ≡ limited (applied amount line.change) → None ≡ priced_by holds (Some start) (lines_of numbers)
        applied_beyond e is = sym (priced_beyond holds (drop (i + 1) lines)) ∙ stepped_rest None (applies e None is)

      pub applied_all : length rows ≤ i → Some amount ≡ priced_by holds (Some start) (lines_of numbers)
      unfolding priced_by
      applied_all last = sym (ap (priced_by holds (Some amount)) (lines_ended rows i last)) ∙ a.rest

  -- What the loop that counts the open ones knows at a place: with those from there on, the count is that of all.
  module _ (trail : List Entry) where
    pub record OpenBefore (count i : ℕ) : Type 0 where
      pub ranged : Ranged i
      pub counted : count + open_lines (is_true trail) (drop i lines) ≡ open_lines (is_true trail) (lines_of numbers)
      pub few : open_lines (is_true trail) (lines_of numbers) ≤ max_lines

    pub open_none : list_within v numbers ≡ true → OpenBefore 0 0
    unfolding open_lines
    open_none e =
        record {
          ranged = ranged_none e;
          counted = let same = ap (open_lines (is_true trail)) lines_are in omega (arith, same);
          few = omega (arith, count_few (line_open (is_true trail)) (lines_of numbers), (list_parts v numbers e).1);
        }

    module _ (count i : ℕ) (o : OpenBefore count i) where
      pub open_more : i < length rows → (line : RateLine) → line ≡ line_from (get_or rows i []) → (n : ℕ) → n ≡ one_if_open (is_true trail) line.literal → OpenBefore (count + n) (i + 1)
      open_more h line read n told =
          record {
            ranged = (ranged_parts i h line read o.ranged).1;
            counted = omega (arith, o.counted, told, ap (open_lines (is_true trail)) (here i h line read), open_first (is_true trail) line (drop (i + 1) lines));
            few = o.few;
          }

      pub open_all : length rows ≤ i → count ≡ open_lines (is_true trail) (lines_of numbers)
      unfolding open_lines keep
      open_all last = omega (arith, o.counted, ap (open_lines (is_true trail)) (lines_ended rows i last))

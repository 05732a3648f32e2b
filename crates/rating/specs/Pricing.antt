-- Request K1, premium in cents from a settled session: the rate list, how its lines change the running amount, and what a call that prices answers.
use Rattle.std.specs.Prelude.{ℕ, zero, suc, ◌+◌, ◌/◌, Bool, false, cond, not, ◌&&◌, ◌||◌, List, [], ◌∷◌, leb, length, Result, Ok, Err, Option, Some, None, ℤ, pos, negsuc, neg_ℤ, nat_abs, ◌+ℤ◌, ◌*ℤ◌}
use Rattle.base.specs.Lists.{all, keep, by_three, all_threes}
use Rattle.book.specs.Formula.{literal_within}
use Rattle.book.specs.Numbers.{variables_of, formula_of}
use Rattle.run.specs.Trail.{opposite, is_true}
use Rattle.run.specs.Run.{Run, in_conflict}
use Rattle.layout.specs.Layout.{held}
use Rattle.validation.specs.Validation.{call_refusal}
use Rattle.refusals.specs.declared.Refusal.{Refusal}
use Rattle.refusals.specs.declared.Refusal.TheVariants as refusal
use Rattle.refusals.specs.Refusals.{outcome}
use Rattle.rating.specs.declared.Change.{Change}
use Rattle.rating.specs.declared.Change.TheVariants.{Amount, Thousandths}
use Rattle.rating.specs.declared.RateLine.{RateLine}
use Rattle.rating.specs.declared.Premium.{Premium}

-- The limits: lines, cents of an amount, thousandths of a change, cents of the base, and cents of the running amount.
abbrev pub max_lines : ℕ
max_lines = 200

abbrev pub max_amount : ℕ
max_amount = 10000000

abbrev pub max_thousandths : ℕ
max_thousandths = 1000

abbrev pub max_base : ℕ
max_base = 1000000000

abbrev pub max_running : ℕ
max_running = 1000000000000

-- The rate list as numbers, three for each line: its literal; 0 for an amount in cents or 1 for a change in thousandths; the amount or the change.
-- A negative number is no literal; 0, which is none either, stands for it. Of another kind than 0 and 1 a line is refused (`are_lines`), whatever it is read as.
unfoldable pub literal_of : ℤ → ℕ
literal_of (pos n) = n
literal_of (negsuc n) = 0

unfoldable pub change_of : ℤ → ℤ → Change
change_of (pos zero) value = Amount value
change_of (pos (suc n)) value = Thousandths value
change_of (negsuc n) value = Thousandths value

abbrev pub line_of : ℤ → ℤ → ℤ → RateLine
line_of literal kind value = record { literal = literal_of literal; change = change_of kind value }

unfoldable pub lines_of : List ℤ → List RateLine
lines_of numbers = by_three line_of numbers

-- the numbers are whole lines, each of one of the two kinds
unfoldable pub is_kind : ℤ → Bool
is_kind (pos n) = leb n 1
is_kind (negsuc n) = false

abbrev pub of_kind : ℤ → ℤ → ℤ → Bool
of_kind literal kind value = is_kind kind

unfoldable pub are_lines : List ℤ → Bool
are_lines numbers = all_threes of_kind numbers

-- The ranges, with literals of so many variables.
unfoldable pub change_within : Change → Bool
change_within (Amount cents) = leb (nat_abs cents) max_amount
change_within (Thousandths part) = leb (nat_abs part) max_thousandths

unfoldable pub line_within : ℕ → RateLine → Bool
line_within variables line = literal_within variables line.literal && change_within line.change

unfoldable pub list_within : ℕ → List ℤ → Bool
list_within variables numbers = are_lines numbers && leb (length (lines_of numbers)) max_lines && all (line_within variables) (lines_of numbers)

unfoldable pub base_within : ℤ → Bool
base_within (pos cents) = leb cents max_base
base_within (negsuc n) = false

-- Thousandths of a cent as whole cents: the nearest, halves away from zero; `Nearest` says it in these words, and `rounded_nearest` and `rounded_only` that they are one.
unfoldable pub rounded : ℤ → ℤ
rounded (pos n) = pos ((n + 500) / 1000)
rounded (negsuc n) = neg_ℤ (pos ((suc n + 500) / 1000))

-- the running amount after a line that applies
unfoldable pub applied : ℤ → Change → ℤ
applied running (Amount cents) = running +ℤ cents
applied running (Thousandths part) = running +ℤ rounded (running *ℤ part)

-- where it is beyond the limit after that line, there is no amount any more
unfoldable pub limited : ℤ → Option ℤ
limited running = cond (leb (nat_abs running) max_running) (Some running) None

-- Lines apply in list order where their literal is true.
unfoldable pub stepped : (ℕ → Bool) → Option ℤ → RateLine → Option ℤ
stepped holds None line = None
stepped holds (Some running) line = cond (holds line.literal) (limited (applied running line.change)) (Some running)

unfoldable pub priced_by : (ℕ → Bool) → Option ℤ → List RateLine → Option ℤ
priced_by holds state [] = state
priced_by holds state (line ∷ lines) = priced_by holds (stepped holds state line) lines

-- The variable (the paper's feature) of a literal is open: neither the literal is true nor the opposite one.
abbrev pub is_open : (ℕ → Bool) → ℕ → Bool
is_open holds l = not (holds l || holds (opposite l))

-- The number of lines whose variable is open, each line by itself; of one line it is 1 or 0.
abbrev pub line_open : (ℕ → Bool) → RateLine → Bool
line_open holds line = is_open holds line.literal

unfoldable pub open_lines : (ℕ → Bool) → List RateLine → ℕ
open_lines holds lines = length (keep (line_open holds) lines)

abbrev pub one_if_open : (ℕ → Bool) → ℕ → ℕ
one_if_open holds l = cond (is_open holds l) 1 0

-- The answer: the refusal; 20 where the running amount went beyond its limit; else the final amount and the number of open lines.
abbrev pub offered : ℕ → Option ℤ → Result Premium Refusal
offered count (Some amount) = Ok (record { amount = amount; open_lines = count })
offered count None = Err refusal.RunningAmount

abbrev pub premium_of : ℤ → List RateLine → Result Run Refusal → Result Premium Refusal
premium_of start lines (Err refusal) = Err refusal
premium_of start lines (Ok run) = offered (open_lines (is_true run.trail) lines) (priced_by (is_true run.trail) (Some start) lines)

-- The base and the whole list are within their ranges, on a book.
abbrev pub rates_within : List ℕ → ℤ → List ℤ → Bool
rates_within book base numbers = base_within base && list_within (variables_of book) numbers

-- What is refused in the run that a session holds: 14 in conflict, then 19 where base or list are not within their ranges.
abbrev pub run_refusal : Bool → Run → ℕ
run_refusal within run = cond (in_conflict run) 14 (cond within 0 19)

-- On a book, of a session and a rate list, as lent numbers, and of a base: 11, 12, then these.
module _ (book session : List ℕ) (base : ℤ) (numbers : List ℤ) where
  unfoldable pub price_refusal : ℕ
  price_refusal = call_refusal book session (run_refusal (rates_within book base numbers))

  unfoldable pub premium_answer : Result Premium Refusal
  premium_answer = premium_of base (lines_of numbers) (outcome price_refusal (held (formula_of book) session))

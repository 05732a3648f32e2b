-- What the theorems of `rating` say: what the nearest cents are, how an amount is bounded, where 20 arises, which refusal comes when, and which lists are alike.
use Rattle.std.specs.Prelude.{ℕ, ◌+◌, ◌≤◌, ◌<◌, Bool, true, false, List, ◌∷◌, ◌++◌, ◌↔◌, ◌⊎◌, ◌≡◌, ℤ, pos, nat_abs, ◌-ℤ◌, ◌*ℤ◌, length, take, Result, Ok, Err, Option, Some}
use Rattle.base.specs.Lists.{all}
use Rattle.book.specs.Numbers.{well_formed, formula_of}
use Rattle.run.specs.Trail.{is_true}
use Rattle.run.specs.Run.{Run, in_conflict}
use Rattle.layout.specs.Layout.{held}
use Rattle.validation.specs.Validation.{passes}
use Rattle.rating.specs.Pricing.{max_lines, max_running, lines_of, rates_within, applied, priced_by, premium_answer}
use Rattle.rating.specs.declared.Change.{Change}
use Rattle.rating.specs.declared.Change.TheVariants.{Amount, Thousandths}
use Rattle.rating.specs.declared.RateLine.{RateLine}
use Rattle.refusals.specs.declared.Refusal.{Refusal}
use Rattle.refusals.specs.declared.Refusal.TheVariants as refusal
use Rattle.refusals.specs.Refusals.{number_of}
use Rattle.rating.specs.declared.Premium.{Premium}

-- How far so many cents are from so many thousandths of a cent, in thousandths.
abbrev pub distance : ℤ → ℤ → ℕ
distance x cents = nat_abs (x -ℤ pos 1000 *ℤ cents)

-- The nearest cents, halves away from zero: none are nearer, and none that are as near are farther from zero.
pub record Nearest (x cents : ℤ) : Type 0 where
  pub none_nearer : (other : ℤ) → distance x cents ≤ distance x other
  pub halves : (other : ℤ) → distance x other ≡ distance x cents → nat_abs other ≤ nat_abs cents

-- Among the lines there is one that applies and after which the running amount is beyond its limit; before it there was an amount.
pub record GoesBeyond (holds : ℕ → Bool) (start : ℤ) (lines : List RateLine) : Type 0 where
  pub front : List RateLine
  pub line : RateLine
  pub back : List RateLine
  pub running : ℤ
  pub list : lines ≡ front ++ (line ∷ back)
  pub before : priced_by holds (Some start) front ≡ Some running
  pub applies : holds line.literal ≡ true
  pub beyond : max_running < nat_abs (applied running line.change)

-- so many open lines more
abbrev pub with_open : ℕ → Result Premium Refusal → Result Premium Refusal
with_open n (Ok premium) = Ok (record { amount = premium.amount; open_lines = n + premium.open_lines })
with_open n (Err refusal) = Err refusal

-- a list that has amounts only
abbrev pub is_amount : Change → Bool
is_amount (Amount cents) = true
is_amount (Thousandths part) = false

abbrev pub amounts_only : List RateLine → Bool
amounts_only lines = all (λ (line : RateLine). is_amount line.change) lines

-- the book is of the right form and the session passes
abbrev pub Passes : List ℕ → List ℕ → Type 0
Passes book session = (well_formed book ≡ true) × (passes (formula_of book) session ≡ true)

-- Of an answer: 11, 12 and 14 exactly where they are due.
pub record RefusedEarly (book session : List ℕ) (answer : Result Premium Refusal) : Type 0 where
  pub book_fault : (answer ≡ Err refusal.Book) ↔ (well_formed book ≡ false)
  pub session_fault : (answer ≡ Err refusal.Session) ↔ ((well_formed book ≡ true) × (passes (formula_of book) session ≡ false))
  pub conflict : (answer ≡ Err refusal.InConflict) ↔ (Passes book session × (in_conflict (held (formula_of book) session) ≡ true))

module _ (book session : List ℕ) (base : ℤ) (numbers : List ℤ) where
  abbrev run : Run
  run = held (formula_of book) session

  abbrev lines : List RateLine
  lines = lines_of numbers

  -- what the first j lines come to
  abbrev pub after : ℕ → Option ℤ
  after j = priced_by (is_true run.trail) (Some base) (take j lines)

  -- After every line there is an amount, and it is within its limit; the last one is the answer's. No more lines are open than there are, and these are at most 200.
  pub record Bounded (amount : ℤ) (n : ℕ) : Type 0 where
    pub every_line : (j : ℕ) → (running : ℤ) × (after j ≡ Some running) × (nat_abs running ≤ max_running)
    pub last : after (length lines) ≡ Some amount
    pub amount_within : nat_abs amount ≤ max_running
    pub few_open : n ≤ length lines
    pub few_lines : length lines ≤ max_lines

  abbrev answer : Result Premium Refusal
  answer = premium_answer book session base numbers

  -- Each refusal number exactly where it is due.
  pub record RefusedWhere : Type 0 where
    pub early : RefusedEarly book session answer
    pub range : (answer ≡ Err refusal.PriceInput) ↔ (Passes book session × (in_conflict run ≡ false) × (rates_within book base numbers ≡ false))
    pub limit : (answer ≡ Err refusal.RunningAmount) ↔ (Passes book session × (in_conflict run ≡ false) × (rates_within book base numbers ≡ true) × GoesBeyond (is_true run.trail) base lines)
    pub no_other : (r : Refusal) → answer ≡ Err r → (number_of r ≡ 11) ⊎ (number_of r ≡ 12) ⊎ (number_of r ≡ 14) ⊎ (number_of r ≡ 19) ⊎ (number_of r ≡ 20)

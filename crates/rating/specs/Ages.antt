-- Request K9 in a price: a table of age bands scales the base by the factor of the customer's age, before the first line.
use Rattle.std.specs.Prelude.{ℕ, List, Result, Ok, Err, ℤ, pos, ◌*ℤ◌}
use Rattle.book.specs.Numbers.{formula_of}
use Rattle.run.specs.Run.{Run}
use Rattle.layout.specs.Layout.{held}
use Rattle.refusals.specs.declared.Refusal.{Refusal}
use Rattle.refusals.specs.Refusals.{outcome}
use Rattle.bands.specs.Bands.{factor_answer}
use Rattle.rating.specs.Pricing.{lines_of, rounded, premium_of, price_refusal}
use Rattle.rating.specs.declared.RateLine.{RateLine}
use Rattle.rating.specs.declared.Premium.{Premium}

-- base × factor ÷ 1,000, with the same rounding
unfoldable pub scaled : ℤ → ℕ → ℤ
scaled base thousandths = rounded (base *ℤ pos thousandths)

-- The answer: a refusal that comes before the table; what table and age are refused by; else the lines applied from the scaled base on.
abbrev pub age_premium : ℤ → List RateLine → Result ℕ Refusal → Result Run Refusal → Result Premium Refusal
age_premium base lines answer (Err refusal) = Err refusal
age_premium base lines (Err refusal) (Ok run) = Err refusal
age_premium base lines (Ok thousandths) (Ok run) = premium_of (scaled base thousandths) lines (Ok run)

-- So what is refused without a table comes first, 11, 12, 14, 19; then 19, and 25 or 26, for table and age; 20 is checked at its line.
unfoldable pub age_answer : List ℕ → List ℕ → ℤ → List ℕ → ℕ → List ℤ → Result Premium Refusal
age_answer book session base table age numbers =
    age_premium base (lines_of numbers) (factor_answer table age) (outcome (price_refusal book session base numbers) (held (formula_of book) session))

-- What the theorems on premiums by age say: which refusal comes when, and which table changes nothing.
use Rattle.std.specs.Prelude.{ℕ, Bool, true, false, ◌&&◌, List, [], ◌∷◌, ◌↔◌, ◌⊎◌, ◌≡◌, leb, ℤ, Result, Err}
use Rattle.bands.specs.Bands.{max_age, bands_of, table_within, factor_at}
use Rattle.bands.specs.Statement.{GoodTable, LowestFault}
use Rattle.book.specs.Numbers.{formula_of}
use Rattle.run.specs.Trail.{is_true}
use Rattle.run.specs.Run.{Run, in_conflict}
use Rattle.layout.specs.Layout.{held}
use Rattle.rating.specs.Pricing.{lines_of, rates_within}
use Rattle.rating.specs.Ages.{scaled, age_answer}
use Rattle.rating.specs.Statement.{GoesBeyond, Passes, RefusedEarly}
use Rattle.refusals.specs.declared.Refusal.{Refusal}
use Rattle.refusals.specs.declared.Refusal.TheVariants as refusal
use Rattle.refusals.specs.Refusals.{number_of}
use Rattle.rating.specs.declared.Premium.{Premium}

-- One band for every age, with the factor 1,000.
abbrev pub neutral : List ℕ
neutral = 0 ∷ max_age ∷ 1000 ∷ []

-- What the base becomes, on a good table and at an age from 0 to 120.
abbrev pub age_base : ℤ → List ℕ → ℕ → ℤ
age_base base table age = scaled base (factor_at age (bands_of table))

-- The base, the whole list, the age and the table are within their ranges.
abbrev pub all_within : List ℕ → ℤ → List ℕ → ℕ → List ℤ → Bool
all_within book base table age numbers = rates_within book base numbers && (leb age max_age && table_within table)

module _ (book session : List ℕ) (base : ℤ) (table : List ℕ) (age : ℕ) (numbers : List ℤ) where
  abbrev run : Run
  run = held (formula_of book) session

  abbrev answer : Result Premium Refusal
  answer = age_answer book session base table age numbers

  abbrev within : Bool
  within = all_within book base table age numbers

  -- Each refusal number exactly where it is due: 11, 12, 14, 19, then 25 or 26, then 20.
  pub record AgeRefusedWhere : Type 0 where
    pub early : RefusedEarly book session answer
    pub range : (answer ≡ Err refusal.PriceInput) ↔ (Passes book session × (in_conflict run ≡ false) × (within ≡ false))
    pub in_none : (answer ≡ Err refusal.AgeGap) ↔ (Passes book session × (in_conflict run ≡ false) × (within ≡ true) × ((lowest : ℕ) × LowestFault table 25 lowest))
    pub in_several : (answer ≡ Err refusal.AgeOverlap) ↔ (Passes book session × (in_conflict run ≡ false) × (within ≡ true) × ((lowest : ℕ) × LowestFault table 26 lowest))
    pub limit : (answer ≡ Err refusal.RunningAmount)
        ↔ (Passes book session × (in_conflict run ≡ false) × (within ≡ true) × (GoodTable table × GoesBeyond (is_true run.trail) (age_base base table age) (lines_of numbers)))
    pub no_other : (r : Refusal) → answer ≡ Err r
        → (number_of r ≡ 11) ⊎ (number_of r ≡ 12) ⊎ (number_of r ≡ 14) ⊎ (number_of r ≡ 19) ⊎ (number_of r ≡ 20) ⊎ (number_of r ≡ 25) ⊎ (number_of r ≡ 26)

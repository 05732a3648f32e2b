-- Request K9, age bands the insurer edits: the table, what the checker reports of it, and the factor of an age.
use Rattle.std.specs.Prelude.{ℕ, suc, ◌%◌, Bool, cond, not, ◌&&◌, List, [], ◌∷◌, leb, eqb, length, ⊤, Result, Ok, Err}
use Rattle.base.specs.Lists.{all, keep, table, by_three}
use Rattle.bands.specs.declared.Band.{Band}
use Rattle.bands.specs.declared.TableFault.{TableFault}
use Rattle.bands.specs.declared.TableFault.TheVariants.{Malformed, Gap, Overlap}
use Rattle.refusals.specs.declared.Refusal.{Refusal}
use Rattle.refusals.specs.declared.Refusal.TheVariants.{PriceInput, AgeGap, AgeOverlap}

-- The limits: bands, years of an age, thousandths of a factor.
abbrev pub max_bands : ℕ
max_bands = 64

abbrev pub max_age : ℕ
max_age = 120

abbrev pub max_factor : ℕ
max_factor = 5000

-- The table as numbers, three for each band: its first age, its last age, its factor.
abbrev pub band_of : ℕ → ℕ → ℕ → Band
band_of first last factor = record { first = first; last = last; factor = factor }

unfoldable pub bands_of : List ℕ → List Band
bands_of numbers = by_three band_of numbers

-- the numbers are whole bands: none is left over
unfoldable pub are_bands : List ℕ → Bool
are_bands numbers = eqb (length numbers % 3) 0

-- The ranges.
unfoldable pub band_within : Band → Bool
band_within band = leb band.first band.last && leb band.last max_age && leb band.factor max_factor

unfoldable pub table_within : List ℕ → Bool
table_within numbers = are_bands numbers && leb (length (bands_of numbers)) max_bands && all band_within (bands_of numbers)

-- An age lies in a band from its first age to its last one; the bands that it lies in, and how many they are.
unfoldable pub lies_in : ℕ → Band → Bool
lies_in age band = leb band.first age && leb age band.last

unfoldable pub bands_at : ℕ → List Band → List Band
bands_at age bands = keep (lies_in age) bands

abbrev pub holders : ℕ → List Band → ℕ
holders age bands = length (bands_at age bands)

-- The ages from 0 to 120, and those at fault: not in exactly one band.
abbrev pub ages : List ℕ
ages = table (suc max_age) (λ (age : ℕ). age)

unfoldable pub at_fault : List Band → ℕ → Bool
at_fault bands age = not (eqb (holders age bands) 1)

-- What is at fault with such an age: it lies in no band, or in several.
unfoldable pub fault_at : List Band → ℕ → TableFault
fault_at bands age = cond (eqb (holders age bands) 0) (Gap age) (Overlap age)

-- The first of the ages at fault, which is the lowest.
abbrev first_fault : List Band → List ℕ → Result ⊤ TableFault
first_fault bands [] = Ok tt
first_fault bands (age ∷ higher) = Err (fault_at bands age)

-- What the checker reports: `Malformed`, which is the paper's false; the lowest age at fault; or that the table is good.
unfoldable pub checked_table : List ℕ → Result ⊤ TableFault
checked_table numbers = cond (table_within numbers) (first_fault (bands_of numbers) (keep (at_fault (bands_of numbers)) ages)) (Err Malformed)

-- The factor of an age: that of its band, the first of several; 0 where there is none.
abbrev pub first_factor : List Band → ℕ
first_factor [] = 0
first_factor (band ∷ bands) = band.factor

unfoldable pub factor_at : ℕ → List Band → ℕ
factor_at age bands = first_factor (bands_at age bands)

-- What a fault of the table refuses a call that prices by: 19, reported as false; 25, an age lies in no band; 26, in several.
abbrev pub refused_by : TableFault → Refusal
refused_by Malformed = PriceInput
refused_by (Gap age) = AgeGap
refused_by (Overlap age) = AgeOverlap

-- For a call that prices: 19 for an age over 120 or a table reported as false; then 25 or 26, whatever the age; else the factor of the age.
abbrev pub factor_by : ℕ → List Band → Result ⊤ TableFault → Result ℕ Refusal
factor_by age bands (Ok good) = Ok (factor_at age bands)
factor_by age bands (Err fault) = Err (refused_by fault)

unfoldable pub factor_answer : List ℕ → ℕ → Result ℕ Refusal
factor_answer numbers age = cond (leb age max_age) (factor_by age (bands_of numbers) (checked_table numbers)) (Err PriceInput)

-- What the theorems of `bands` say, in the request's words: the ranges, a good table, and the lowest age at fault.
use Rattle.std.specs.Prelude.{ℕ, ◌*◌, ◌≤◌, ◌<◌, List, ◌∷◌, ◌++◌, ◌⊎◌, ◌≡◌, length}
use Rattle.bands.specs.Bands.{max_bands, max_age, max_factor, bands_of, holders}
use Rattle.bands.specs.declared.Band.{Band}

-- Three numbers for each band, at most 64 bands, and of each band, wherever it stands, a first age not over the last, ages to 120 and a factor to 5,000.
pub record InRange (numbers : List ℕ) : Type 0 where
  pub whole : length numbers ≡ 3 * length (bands_of numbers)
  pub few : length (bands_of numbers) ≤ max_bands
  pub each : (before : List Band) (band : Band) (after : List Band) → bands_of numbers ≡ before ++ (band ∷ after)
      → (band.first ≤ band.last) × (band.first ≤ max_age) × (band.last ≤ max_age) × (band.factor ≤ max_factor)

-- All is within its range, and every age from 0 to 120 lies in exactly one band.
pub record GoodTable (numbers : List ℕ) : Type 0 where
  pub within : InRange numbers
  pub once : (age : ℕ) → age ≤ max_age → holders age (bands_of numbers) ≡ 1

-- All is within its range, and an age, none lower, lies in no band (25) or in several (26).
pub record LowestFault (numbers : List ℕ) (number age : ℕ) : Type 0 where
  pub within : InRange numbers
  pub is_age : age ≤ max_age
  pub fault : ((number ≡ 25) × (holders age (bands_of numbers) ≡ 0)) ⊎ ((number ≡ 26) × (1 < holders age (bands_of numbers)))
  pub none_lower : (lower : ℕ) → lower < age → holders lower (bands_of numbers) ≡ 1

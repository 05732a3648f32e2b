-- What the contracts of src/places.rt cite, and of all that reads a trail that passed: when it may be read, and which trail it is.
use Rattle.std.specs.Prelude.{ℕ, ◌<◌, ◌≡◌, Bool, cond, List, get_or, Option, MatchOption}
use Rattle.book.specs.Numbers.{variables_of}
use Rattle.run.specs.Trail.{Entry, lowered, place}
use Rattle.layout.specs.Layout.{length_at, TrailFits, SessionFits, held_trail}
use Rattle.validation.specs.Inner.Trail.{TrailGood}

-- numbers whose trail may be read
pub record Readable (v : ℕ) (numbers : List ℕ) : Type 0 where
  pub fits : TrailFits v numbers
  pub good : TrailGood v numbers

-- numbers that are long enough for a session on their book, whose trail passed
pub record TrailPassed (book numbers : List ℕ) : Type 0 where
  pub enough : SessionFits book numbers
  pub good : TrailGood (variables_of book) numbers

abbrev pub trail_of : ℕ → List ℕ → List Entry
trail_of v numbers = held_trail v numbers (get_or numbers length_at 0)

-- the trail, or the trail without its top level
abbrev pub trail_on : ℕ → List ℕ → Bool → List Entry
trail_on v numbers below = cond below (lowered (trail_of v numbers)) (trail_of v numbers)

-- the place of a literal, none where it is not true
abbrev pub PlaceOf : List Entry → ℕ → Option ℕ → Type 0
PlaceOf trail l r = MatchOption r (place trail l ≡ 0) (λ h. (0 < h) × (place trail l ≡ h))

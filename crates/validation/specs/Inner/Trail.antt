-- What the contracts of src/trail.rt cite: a good trail, and good places and values of it.
use Rattle.std.specs.Prelude.{ℕ, ◌≤◌, ◌+◌, ◌*◌, ◌-◌, ◌/◌, ◌%◌, ◌≡◌, true, List, map, get_or, ◌⊎◌}
use Rattle.base.specs.Lists.{distinct}
use Rattle.book.specs.Formula.{variable_of, literal_within}
use Rattle.run.specs.Trail.{Entry, is_true}
use Rattle.layout.specs.Layout.{length_at, held_trail, trail_at, levels_at, values_at, level_before, value_slot}
use Rattle.layout.specs.Encodes.{TrailHeld}

-- header, trail, levels and values are those of a trail of the formula's literals, no variable twice
pub record TrailGood (v : ℕ) (numbers : List ℕ) : Type 0 where
  pub count_within : get_or numbers length_at 0 ≤ v
  pub is_held : TrailHeld v numbers (held_trail v numbers (get_or numbers length_at 0))
  pub within : (l : ℕ) → is_true (held_trail v numbers (get_or numbers length_at 0)) l ≡ true → literal_within v l ≡ true
  pub once : distinct (map (λ (e : Entry). variable_of e.literal) (held_trail v numbers (get_or numbers length_at 0))) ≡ true

-- a literal of one of v variables, at the level before it or one more, and its variable's value says its place and sign
pub record PlaceGood (v : ℕ) (numbers : List ℕ) (i : ℕ) : Type 0 where
  pub low : 2 ≤ get_or numbers (trail_at + i) 0
  pub within : get_or numbers (trail_at + i) 0 ≤ 2 * v + 1
  pub step : (get_or numbers (levels_at v + i) 0 ≡ level_before v numbers i) ⊎ (get_or numbers (levels_at v + i) 0 ≡ level_before v numbers i + 1)
  pub value : get_or numbers (value_slot v (get_or numbers (trail_at + i) 0)) 0 ≡ 2 * (i + 1) + get_or numbers (trail_at + i) 0 % 2

-- no literal and no level
pub record PlaceFree (v : ℕ) (numbers : List ℕ) (i : ℕ) : Type 0 where
  pub no_literal : get_or numbers (trail_at + i) 0 ≡ 0
  pub no_level : get_or numbers (levels_at v + i) 0 ≡ 0

-- variable x + 1 is open, or its value says a place of the trail that holds its literal with that sign
pub record ValuePlaced (v : ℕ) (numbers : List ℕ) (x : ℕ) : Type 0 where
  pub low : 2 ≤ get_or numbers (values_at v + x) 0
  pub within : get_or numbers (values_at v + x) 0 / 2 ≤ get_or numbers length_at 0
  pub literal : get_or numbers (trail_at + (get_or numbers (values_at v + x) 0 / 2 - 1)) 0 ≡ 2 * (x + 1) + get_or numbers (values_at v + x) 0 % 2

abbrev pub ValueGood : ℕ → List ℕ → ℕ → Type 0
ValueGood v numbers x = (get_or numbers (values_at v + x) 0 ≡ 0) ⊎ ValuePlaced v numbers x

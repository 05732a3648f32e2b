-- What the contracts of src/trail.rt cite: the numbers after a literal joined or left the trail, and what a cut asks.
use Rattle.std.specs.Prelude.{ℕ, ◌+◌, ◌*◌, ◌-◌, ◌%◌, ◌≤◌, ◌<◌, ◌≡◌, true, List, map, length, get_or, set}
use Rattle.book.specs.Formula.{variable_of, literal_within}
use Rattle.run.specs.Trail.{Entry, is_true, decisions}
use Rattle.layout.specs.Layout.{length_at, decisions_at, conflict_at, watches_at, trail_at, levels_at, level_before, value_slot}
use Rattle.layout.specs.Encodes.{TrailHeld}
use Rattle.base.specs.Lists.{distinct}

-- a literal more on the trail, at a level
abbrev pub assign_nums : ℕ → List ℕ → ℕ → ℕ → List ℕ
assign_nums v numbers l level =
    set
    (set
    (set (set numbers (trail_at + get_or numbers length_at 0) l) (levels_at v + get_or numbers length_at 0) level)
    (value_slot v l)
    (2 * (get_or numbers length_at 0 + 1) + l % 2))
    length_at
    (get_or numbers length_at 0 + 1)

-- outside the header's first two numbers, the trail, the levels and the values nothing changed
pub record SameBeside (v : ℕ) (before after : List ℕ) : Type 0 where
  pub same_length : length after ≡ length before
  pub header : (i : ℕ) → conflict_at ≤ i → i < trail_at → get_or after i 0 ≡ get_or before i 0
  pub parts : (i : ℕ) → watches_at v ≤ i → get_or after i 0 ≡ get_or before i 0

-- the last literal leaves the trail
abbrev pub unassign_nums : ℕ → List ℕ → List ℕ
unassign_nums v numbers =
    let at = get_or numbers length_at 0 - 1 in
    set
    (set
    (set (set (set numbers decisions_at (level_before v numbers at)) length_at at) (trail_at + at) 0)
    (levels_at v + at)
    0)
    (value_slot v (get_or numbers (trail_at + at) 0))
    0

-- there is a last literal, of one of v variables
pub record Last (v : ℕ) (numbers : List ℕ) : Type 0 where
  pub some : 1 ≤ get_or numbers length_at 0
  pub short : get_or numbers length_at 0 ≤ v
  pub low : 2 ≤ get_or numbers (trail_at + (get_or numbers length_at 0 - 1)) 0
  pub within : variable_of (get_or numbers (trail_at + (get_or numbers length_at 0 - 1)) 0) ≤ v

-- A trail of literals of v variables, none twice, is held, and it has k levels to leave it.
pub record Cutting (v : ℕ) (numbers : List ℕ) (k : ℕ) (trail : List Entry) : Type 0 where
  pub is_held : TrailHeld v numbers trail
  pub once : distinct (map (λ (e : Entry). variable_of e.literal) trail) ≡ true
  pub within : (l : ℕ) → is_true trail l ≡ true → literal_within v l ≡ true
  pub short : length trail ≤ v
  pub enough : k ≤ length (decisions trail)

-- What the contracts of src/reasons.rt cite: the place that a clause implies, and marks at implied places.
use Rattle.std.specs.Prelude.{ℕ, suc, ◌+◌, ◌<◌, ◌≡◌, Bool, true, false, List, get_or, Option, MatchOption}
use Rattle.base.specs.Lists.{member}
use Rattle.book.specs.Formula.{max_variables}
use Rattle.run.specs.Trail.{Entry, opposite, place}
use Rattle.layout.specs.Layout.{length_at, levels_at, level_before}

-- a literal stands at a place or is false before it
abbrev pub Before : List Entry → ℕ → ℕ → Type 0
Before trail h m = (place trail m ≡ h → ⊥) → (0 < place trail (opposite m)) × (place trail (opposite m) < h)

-- the literal at a place is in the clause, and the clause's other literals are false before it
pub record Implies (trail : List Entry) (clause : List ℕ) (h : ℕ) : Type 0 where
  pub literal : ℕ
  pub holds : member literal clause ≡ true
  pub on : 0 < h
  pub there : place trail literal ≡ h
  pub others : (m : ℕ) → member m clause ≡ true → Before trail h m

-- a true literal of the clause stands at a place
pub record TrueAt (trail : List Entry) (clause : List ℕ) (h : ℕ) : Type 0 where
  pub literal : ℕ
  pub holds : member literal clause ≡ true
  pub on : 0 < h
  pub there : place trail literal ≡ h

-- the literal at a place is the only one that the clause implies
pub record ImpliesOnly (trail : List Entry) (clause : List ℕ) (h : ℕ) : Type 0 where
  pub implied : Implies trail clause h
  pub only : (k : ℕ) → Implies trail clause k → k ≡ h

-- the clause implies no literal of the trail
abbrev pub ImpliesNone : List Entry → List ℕ → Type 0
ImpliesNone trail clause = (h : ℕ) → Implies trail clause h → ⊥

-- the place of a true literal of the clause, or none, and then the clause implies nothing
abbrev pub TruePlace : List Entry → List ℕ → Option ℕ → Type 0
TruePlace trail clause r = MatchOption r (ImpliesNone trail clause) (TrueAt trail clause)

-- the place of the literal that the clause implies, none where there is none
abbrev pub ImpliedPlace : List Entry → List ℕ → Option ℕ → Type 0
ImpliedPlace trail clause r = MatchOption r (ImpliesNone trail clause) (ImpliesOnly trail clause)

-- one mark for each place of the longest trail, and one before them
abbrev pub place_marks : ℕ
place_marks = max_variables + 1

-- the trail literal behind the first i is implied: its level is that of the place before it
abbrev pub ImpliedAt : ℕ → List ℕ → ℕ → Type 0
ImpliedAt v numbers i = get_or numbers (levels_at v + i) 0 ≡ level_before v numbers i

-- each implied literal among the first n of the trail is marked at its place
abbrev pub ImpliedMarkedTo : ℕ → List ℕ → List Bool → ℕ → Type 0
ImpliedMarkedTo v numbers marks n = (i : ℕ) → i < n → ImpliedAt v numbers i → get_or marks (suc i) false ≡ true

abbrev pub ImpliedMarked : ℕ → List ℕ → List Bool → Type 0
ImpliedMarked v numbers marks = ImpliedMarkedTo v numbers marks (get_or numbers length_at 0)

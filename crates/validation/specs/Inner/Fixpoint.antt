-- What the contracts of src/fixpoint.rt cite: the height of a literal, and propagation at its end, of one clause and of all.
use Rattle.std.specs.Prelude.{ℕ, ◌+◌, ◌≤◌, suc, ◌≡◌, Bool, cond, List, get_or, length, Option, MatchOption}
use Rattle.book.specs.Formula.{Formula}
use Rattle.run.specs.Trail.{Entry, is_true, lowered, level}
use Rattle.run.specs.Valid.{Fixpoint}
use Rattle.layout.specs.Layout.{held}
use Rattle.run.specs.Progress.{BothGuarded}

-- one-literal clauses and watches, of the trail or of the trail without its top level
abbrev pub FixpointOn : Formula → List ℕ → Bool → Type 0
FixpointOn formula numbers below =
    Fixpoint formula (held formula numbers) (cond below (lowered (held formula numbers).trail) (held formula numbers).trail)

-- one more than the level of a true literal; 0 where the literal is not true
unfoldable pub height : List Entry → ℕ → ℕ
height trail l = cond (is_true trail l) (suc (level trail l)) 0

-- the level of a true literal, none where the literal is not true
abbrev pub LevelOf : List Entry → ℕ → Option ℕ → Type 0
LevelOf trail l r = MatchOption r (height trail l ≡ 0) (λ d. height trail l ≡ d + 1)

-- a clause of one literal is true at level 0; the watches of a longer one hold
pub record ClauseFixpoint (trail : List Entry) (clause : List ℕ) (first second : ℕ) : Type 0 where
  pub unit : length clause ≡ 1 → height trail (get_or clause 0 0) ≡ 1
  pub watches : 2 ≤ length clause → BothGuarded trail (length trail) (get_or clause first 0) (get_or clause second 0)

-- What the contracts of src/form.rt and src/reduce.rt cite of the marks that src/marks.rt sets: one for each variable, so that a repeated variable of a clause is met in one step.
use Rattle.std.specs.Prelude.{ℕ, ◌+◌, ◌≤◌, ◌<◌, List, ◌≡◌, eqb, length, get_or}
use Rattle.base.specs.Lists.{member}
use Rattle.book.specs.Formula.{max_variables}

-- how many marks there are
abbrev pub variable_marks : ℕ
variable_marks = max_variables + 1

-- no mark is above the tag
pub record Bounded (marks : List ℕ) (tag : ℕ) : Type 0 where
  pub long : length marks ≡ variable_marks
  pub below : (k : ℕ) → get_or marks k 0 ≤ tag

-- no mark is above the tag, and the variables that bear the tag are those seen
pub record Marked (marks : List ℕ) (tag : ℕ) (seen : List ℕ) : Type 0 where
  pub bounded : Bounded marks tag
  pub exact : (k : ℕ) → k < variable_marks → eqb (get_or marks k 0) tag ≡ member k seen

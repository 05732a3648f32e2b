-- The value of a literal: by the entry of its variable, and by the trail.
use Rattle.std.specs.Prelude.{ℕ, ◌-◌, ◌%◌, ◌≤◌, ◌≡◌, cond, List, eqb, length, get_or}
use Rattle.book.specs.Formula.{variable_of}
use Rattle.run.specs.Trail.{Entry, is_true, is_false}
use Rattle.layout.specs.declared.values.Value.{Value}
use Rattle.layout.specs.declared.values.Value.TheVariants.{Open, True, False}

-- the value of a literal, by the entry of its variable and by the trail
unfoldable pub value_read : ℕ → ℕ → Value
value_read entry l = cond (eqb entry 0) Open (cond (eqb (entry % 2) (l % 2)) True False)

unfoldable pub value_in : List Entry → ℕ → Value
value_in trail l = cond (is_true trail l) True (cond (is_false trail l) False Open)

-- the entries of the variables say what the trail says
abbrev pub Reads : List ℕ → List Entry → Type 0
Reads values trail = (l : ℕ) → 2 ≤ l → variable_of l ≤ length values → value_read (get_or values (variable_of l - 1) 0) l ≡ value_in trail l

-- What the contracts of src/conflict.rt cite: a clause that has literals, all of them false.
use Rattle.std.specs.Prelude.{ℕ, ◌<◌, ◌≡◌, true, List}
use Rattle.base.specs.Lists.{member}
use Rattle.book.specs.Formula.{Formula}
use Rattle.run.specs.Trail.{is_false}
use Rattle.run.specs.Run.{clause_of, size}
use Rattle.layout.specs.Layout.{held}

-- a clause has a literal, and every one is false
abbrev pub AllFalse : Formula → List ℕ → ℕ → Type 0
AllFalse formula numbers c =
    (0 < size formula c) × ((m : ℕ) → member m (clause_of formula c) ≡ true → is_false (held formula numbers).trail m ≡ true)

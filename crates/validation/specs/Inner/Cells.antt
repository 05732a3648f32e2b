-- What the contracts of src/cells.rt cite: watches and pointers as they must be.
use Rattle.std.specs.Prelude.{ℕ, ◌≤◌, ◌<◌, ◌≡◌, List}
use Rattle.book.specs.Formula.{Formula}
use Rattle.run.specs.Run.{size, no_cell, cell_of}
use Rattle.run.specs.Valid.{Watching}
use Rattle.layout.specs.Layout.{held}

-- watches and pointers
pub record CellsGood (formula : Formula) (numbers : List ℕ) : Type 0 where
  pub watching : (c : ℕ) → 2 ≤ size formula c → Watching (size formula c) (cell_of (held formula numbers) c)
  pub unwatched : (c : ℕ) → size formula c < 2 → cell_of (held formula numbers) c ≡ no_cell

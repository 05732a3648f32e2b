-- What the contract of src/propagation.rt cites.
use Rattle.std.specs.Prelude.{ℕ, ◌≡◌, ◌⊎◌, true, List}
use Rattle.book.specs.Numbers.{formula_of, well_formed}
use Rattle.run.specs.Run.{Run}
use Rattle.run.specs.Progress.{Going, Ended}
use Rattle.layout.specs.Encodes.{Encodes}

-- The first `handled` trail literals are handled, or the run is in conflict.
pub record Propagating (book numbers : List ℕ) (handled : ℕ) : Type 0 where
  pub well : well_formed book ≡ true
  pub run : Run
  pub encodes : Encodes (formula_of book) numbers run
  pub state : Going (formula_of book) handled run ⊎ Ended (formula_of book) run

-- What the exported functions ask and promise: a valid run is held; the numbers become those of a run, and nothing behind them changes.
use Rattle.std.specs.Prelude.{ℕ, ◌≡◌, true, List, length, drop}
use Rattle.book.specs.Numbers.{variables_of, clauses_of, formula_of, well_formed}
use Rattle.run.specs.Run.{Run}
use Rattle.run.specs.Valid.{Valid}
use Rattle.layout.specs.Layout.{required_length}
use Rattle.layout.specs.Encodes.{Encodes}

-- what lies behind the required length is untouched
abbrev pub SameBehind : List ℕ → List ℕ → List ℕ → Type 0
SameBehind book before after = drop (required_length (variables_of book) (clauses_of book)) after ≡ drop (required_length (variables_of book) (clauses_of book)) before

-- the numbers afterwards hold a run, and nothing behind them changed
pub record Becomes (book before after : List ℕ) (run : Run) : Type 0 where
  pub encodes : Encodes (formula_of book) after run
  pub same_length : length after ≡ length before
  pub same_behind : SameBehind book before after

-- a valid run is held
pub record Holding (book numbers : List ℕ) : Type 0 where
  pub well : well_formed book ≡ true
  pub run : Run
  pub encodes : Encodes (formula_of book) numbers run
  pub valid : Valid (formula_of book) run

-- What the contract of `header_passes` in src/lib.rt cites.
use Rattle.std.specs.Prelude.{ℕ, ◌≤◌, List, get_or}
use Rattle.run.specs.Calls.{max_backtracks}
use Rattle.layout.specs.Layout.{decisions_at, conflict_at, backtracks_at, fixed_at}

-- the header's numbers beside the trail's two are within their bounds
pub record HeaderGood (clauses : ℕ) (numbers : List ℕ) : Type 0 where
  pub conflict_within : get_or numbers conflict_at 0 ≤ clauses
  pub backtracks_within_lem : get_or numbers backtracks_at 0 ≤ max_backtracks
  pub fixed_within_lem : get_or numbers fixed_at 0 ≤ get_or numbers decisions_at 0

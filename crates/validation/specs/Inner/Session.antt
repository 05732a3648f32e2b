-- What the contract of `conflict_passes` in src/lib.rt cites.
use Rattle.std.specs.Prelude.{ℕ, ◌≡◌, ◌<◌, ◌-◌, true, false, List, get_or}
use Rattle.book.specs.Numbers.{formula_of}
use Rattle.layout.specs.Layout.{decisions_at, conflict_at}
use Rattle.validation.specs.Inner.Conflict.{AllFalse}
use Rattle.validation.specs.Inner.Fixpoint.{FixpointOn}

-- with no conflict propagation is at its end; in conflict a clause is all false, and propagation was at its end below the top level, if there is one
pub record ConflictGood (book numbers : List ℕ) : Type 0 where
  pub quiet : get_or numbers conflict_at 0 ≡ 0 → FixpointOn (formula_of book) numbers false
  pub conflict : 0 < get_or numbers conflict_at 0 → AllFalse (formula_of book) numbers (get_or numbers conflict_at 0 - 1)
  pub lower : 0 < get_or numbers conflict_at 0 → 0 < get_or numbers decisions_at 0 → FixpointOn (formula_of book) numbers true

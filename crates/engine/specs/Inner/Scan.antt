-- What the contracts of src/scan.rt cite: what a scan asks, and its answer as the run has it; what a value says of a literal.
use Rattle.std.specs.Prelude.{ℕ, ◌≤◌, ◌<◌, ◌≡◌, true, false, List, length, get_or, Option, Some, None}
use Rattle.std.proofs.Math.Option as m
use Rattle.book.specs.Formula.{max_clause, variable_of}
use Rattle.run.specs.Trail.{Entry, is_true, is_false}
use Rattle.run.specs.Scan.{Scanned}
use Rattle.layout.specs.declared.values.Value.{Value}
use Rattle.layout.specs.declared.values.Value.TheVariants.{Open, True, False}
use Rattle.engine.specs.declared.scan.Scan.{Scan}

-- what a scan asks: the pointer is a position, and every literal has an entry
pub record ScanReady (clause values : List ℕ) (pointer : ℕ) : Type 0 where
  pub pointer_within : pointer < length clause
  pub short : length clause ≤ max_clause
  pub low : (i : ℕ) → i < length clause → 2 ≤ get_or clause i 0
  pub within : (i : ℕ) → i < length clause → variable_of (get_or clause i 0) ≤ length values

-- the position in an option of the program
abbrev pub position_in : Option ℕ → m.Option ℕ
position_in (Some position) = m.some position
position_in None = m.none

-- what a scan answers
abbrev pub scanned_in : Scan → Scanned
scanned_in scan = record { found = position_in scan.found; checks = scan.checks }

-- what a value says of a literal on the trail
abbrev pub ValueSays : List Entry → ℕ → Value → Type 0
ValueSays trail l Open = (is_true trail l ≡ false) × (is_false trail l ≡ false)
ValueSays trail l True = (is_true trail l ≡ true) × (is_false trail l ≡ false)
ValueSays trail l False = (is_true trail l ≡ false) × (is_false trail l ≡ true)

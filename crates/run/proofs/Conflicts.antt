-- A run is out of conflict just where it names no clause.
use mathlib.Core.Bool.{false}
use mathlib.Core.Path.{◌≡◌}
use borrow.Author.Tests.{eqb-true, eq-eqb, not-false}
use lib.Dec.{eqb}
use Rattle.run.specs.Run.{Run, in_conflict}

pub quiet_out : (run : Run) → run.conflict ≡ 0 → in_conflict run ≡ false
quiet_out run e = rw (eq-eqb run.conflict 0 e)

pub out_quiet : (run : Run) → in_conflict run ≡ false → run.conflict ≡ 0
out_quiet run e = eqb-true run.conflict 0 (not-false (eqb run.conflict 0) e)

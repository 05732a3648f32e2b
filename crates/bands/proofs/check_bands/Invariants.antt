use Rattle.bands.proofs.TableLaws.{RightBefore}
use Rattle.bands.proofs.check_bands.Given as goal

abbrev pub invariant-loop-age : goal.invariant-loop-age
invariant-loop-age l = RightBefore l.table l.age

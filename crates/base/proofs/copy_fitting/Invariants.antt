use Rattle.base.proofs.Copies.{Stored}
use Rattle.base.proofs.copy_fitting.Given as goal

abbrev pub invariant-loop-i : goal.invariant-loop-i
invariant-loop-i g l = Stored l.source l.initial.out l.out l.i

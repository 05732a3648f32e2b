use Rattle.engine.proofs.opening.Laws.{FirstUnits}
use Rattle.engine.proofs.opening.assign_units.Given as goal

abbrev pub invariant-loop-c : goal.invariant-loop-c
invariant-loop-c l = FirstUnits l.book l.initial.session l.session l.c

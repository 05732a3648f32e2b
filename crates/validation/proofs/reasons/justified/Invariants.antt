use Rattle.validation.specs.Inner.Places.{trail_of}
use Rattle.validation.proofs.reasons.Laws.{Marking}
use Rattle.validation.proofs.reasons.justified.Given as goal

abbrev pub invariant-loop-c : goal.invariant-loop-c
invariant-loop-c l = Marking (trail_of l.trail.variables l.trail.session.now) l.book l.marks l.c

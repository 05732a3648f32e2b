use Rattle.layout.proofs.ceiling.Laws.{WorstBefore}
use Rattle.layout.proofs.ceiling.worst.Given as goal

abbrev pub invariant-loop-c : goal.invariant-loop-c
invariant-loop-c l = WorstBefore l.book l.sum l.c

use Rattle.validation.proofs.lists.Laws.{Through}
use Rattle.validation.proofs.lists.all_lists_pass.Given as goal

abbrev pub invariant-loop-literal : goal.invariant-loop-literal
invariant-loop-literal l = Through l.book l.session l.marks l.literal

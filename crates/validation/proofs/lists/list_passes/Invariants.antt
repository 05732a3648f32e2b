use Rattle.std.specs.List.{sum_by}
use Rattle.validation.proofs.lists.Laws.{ListWalk, unmarked}
use Rattle.validation.proofs.lists.list_passes.Given as goal

abbrev pub invariant-loop-node : goal.invariant-loop-node
invariant-loop-node l = ListWalk l.book l.session l.initial.marks l.marks l.literal l.node

abbrev pub decreases-loop-node : goal.decreases-loop-node
decreases-loop-node l = sum_by unmarked l.marks

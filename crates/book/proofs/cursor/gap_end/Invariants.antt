use Rattle.std.proofs.Common.{◌-◌, length}
use Rattle.book.proofs.cursor.Laws.{Gap}
use Rattle.book.proofs.cursor.gap_end.Given as goal

abbrev pub invariant-loop-end : goal.invariant-loop-end
invariant-loop-end l = Gap l.text l.at l.end

abbrev pub decreases-loop-end : goal.decreases-loop-end
decreases-loop-end l = length l.text - l.end

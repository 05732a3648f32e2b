use Rattle.std.proofs.Common.{◌-◌, length}
use Rattle.book.proofs.cursor.Laws.{Skipped}
use Rattle.book.proofs.cursor.line_start.Given as goal

abbrev pub invariant-loop-start : goal.invariant-loop-start
invariant-loop-start l = Skipped l.text l.at l.start

abbrev pub decreases-loop-start : goal.decreases-loop-start
decreases-loop-start l = length l.text - l.start

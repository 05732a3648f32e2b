use Prim.Native.Nat.{◌-◌}
use lib.ListN.{length}
use Rattle.book.proofs.body.LoopLaws.{ClausesSoFar}
use Rattle.book.proofs.body.clauses_at.Given as goal

abbrev pub invariant-loop-word : goal.invariant-loop-word
invariant-loop-word l =
    ClausesSoFar l.text l.initial.cursor.at l.variables l.clauses l.numbers l.marks l.current l.cursor.at l.progress.closed l.progress.opened l.progress.total l.progress.end

abbrev pub decreases-loop-word : goal.decreases-loop-word
decreases-loop-word l = length l.text - l.cursor.at

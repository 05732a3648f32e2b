use Rattle.book.proofs.cursor.Laws.{skipped_line, line_falls, line_starts, line_starts_last}
use Rattle.book.proofs.cursor.line_start.Goals as goal

pub loop-start-smaller : goal.loop-start-smaller
loop-start-smaller c = rw c.next_line-start.ensures (line_falls _ c.args.at _ c.loop-start-test.true)

pub loop-start-preserved : goal.loop-start-preserved
loop-start-preserved c =
    rw c.next_line-start.ensures (skipped_line _ _ _ c.loop-start.invariant c.loop-start-test.true c.if-text-start-eq-COMMENT.true)

pub returns-else-text-start-eq-COMMENT : goal.returns-else-text-start-eq-COMMENT
returns-else-text-start-eq-COMMENT c = line_starts _ _ _ c.loop-start.invariant c.loop-start-test.true c.if-text-start-eq-COMMENT.false

pub returns-after-loop-start : goal.returns-after-loop-start
returns-after-loop-start c = line_starts_last _ _ _ c.loop-start.invariant c.loop-start-test.false

use Rattle.std.proofs.Common.{sym}
use Rattle.book.proofs.cursor.Laws.{gap_blank, gap_line}
use Rattle.book.proofs.cursor.gap_end.Goals as goal

pub loop-end-preserved-then-text-end-eq10 : goal.loop-end-preserved-then-text-end-eq10
loop-end-preserved-then-text-end-eq10 c =
    gap_line _ _ _ _ c.loop-end.invariant c.loop-end-test.true c.if-text-end-eq10.true c.line_start-end.ensures

pub loop-end-preserved : goal.loop-end-preserved
loop-end-preserved c =
    gap_blank _ _ _ c.loop-end.invariant c.loop-end-test.true c.if-text-end-eq10.false (sym c.if-is_blank.ensures)

use borrow.Author.Tests.{eq-eqb, ne_eqb}
use Rattle.book.specs.Text.{line_end}
use Rattle.book.proofs.bytes.Laws.{running_step, running_stop, running_end}
use Rattle.book.proofs.bytes.line_end.Goals as goal

pub loop-end-preserved : goal.loop-end-preserved
unfolding line_end
loop-end-preserved c = running_step c.loop-end.invariant c.loop-end-test.true (ne_eqb _ _ c.if-text-end-ne10.true)

pub returns-else-text-end-ne10 : goal.returns-else-text-end-ne10
unfolding line_end
returns-else-text-end-ne10 c = running_stop c.loop-end.invariant c.loop-end-test.true (eq-eqb _ _ c.if-text-end-ne10.false)

pub returns-after-loop-end : goal.returns-after-loop-end
returns-after-loop-end c = running_end c.loop-end.invariant c.loop-end-test.false

use Rattle.script.proofs.writing.Laws.{puts_none, puts_both, puts_one_listed, puts_listed}
use Rattle.script.proofs.writing.Writer.put_listed.Goals as goal

pub loop-literal-init : goal.loop-literal-init
loop-literal-init c = puts_none _

pub loop-literal-preserved : goal.loop-literal-preserved
loop-literal-preserved c = puts_one_listed _ _ c.loop-literal-test.true c.loop-literal.invariant (puts_both c.put.ensures c.put_literal.ensures)

pub returns : goal.returns
returns c = puts_listed _ _ c.loop-literal-test.false c.loop-literal.invariant c.put-2.ensures

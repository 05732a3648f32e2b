use Rattle.script.proofs.writing.Laws.{puts_none, puts_more, puts_whole}
use Rattle.script.proofs.writing.Writer.put_all.Goals as goal

pub loop-byte-init : goal.loop-byte-init
loop-byte-init c = puts_none _

pub loop-byte-preserved : goal.loop-byte-preserved
loop-byte-preserved c = puts_more _ _ c.loop-byte-test.true c.loop-byte.invariant c.put.ensures

pub returns : goal.returns
returns c = puts_whole _ _ c.loop-byte-test.false c.loop-byte.invariant

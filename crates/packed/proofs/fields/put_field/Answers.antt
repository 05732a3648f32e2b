use Rattle.packed.proofs.fields.Writing.{put_more}
use Rattle.packed.proofs.fields.put_field.Goals as goal

pub loop-at-preserved : goal.loop-at-preserved
loop-at-preserved c = put_more _ _ _ _ _ _ c.loop-at.invariant c.loop-at-test.true

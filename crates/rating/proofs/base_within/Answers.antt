use mir.Syntax.{w64}
use mir.ValLaws.{to_z-of_z}
use Rattle.rating.proofs.AnswerLaws.{base_negative, base_natural}
use Rattle.rating.proofs.base_within.Goals as goal

pub returns-then-base-ge0 : goal.returns-then-base-ge0
returns-then-base-ge0 c =
    rw (to_z-of_z w64 c.args.base c.ranges.base) (base_natural c.args.base (rw (to_z-of_z w64 c.args.base c.ranges.base) at c.if-base-ge0.true))

pub returns-else-base-ge0 : goal.returns-else-base-ge0
returns-else-base-ge0 c =
    rw (to_z-of_z w64 c.args.base c.ranges.base) (base_negative c.args.base (rw (to_z-of_z w64 c.args.base c.ranges.base) at c.if-base-ge0.false))

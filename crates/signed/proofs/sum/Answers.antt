use lib.IntN.{◌+ℤ◌}
use Rattle.signed.proofs.Operations.{result_fits, result_is}
use Rattle.signed.proofs.sum.Goals as goal

pub overflow_add-result : goal.overflow_add-result
overflow_add-result c = result_fits ◌+ℤ◌ c.args.a c.args.b c.ranges.a c.ranges.b c.requires

pub returns : goal.returns
returns c = result_is ◌+ℤ◌ c.args.a c.args.b c.ranges.a c.ranges.b c.requires

use lib.IntN.{◌*ℤ◌}
use Rattle.signed.proofs.Operations.{result_fits, result_is}
use Rattle.signed.proofs.product.Goals as goal

pub overflow_mul-result : goal.overflow_mul-result
overflow_mul-result c = result_fits ◌*ℤ◌ c.args.a c.args.b c.ranges.a c.ranges.b c.requires

pub returns : goal.returns
returns c = result_is ◌*ℤ◌ c.args.a c.args.b c.ranges.a c.ranges.b c.requires

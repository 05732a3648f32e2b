use lib.Dec.{lit<, lit≤}
use Rattle.rating.specs.Pricing.{rounded}
use Rattle.rating.proofs.cents.Machine.{shifted, quotient, read_back, below_zero, from_zero}
use Rattle.signed.proofs.Sizes.{plain}
use Rattle.rating.proofs.cents.to_cents.Goals as goal

pub overflow_sub-result : goal.overflow_sub-result
overflow_sub-result c = shifted c.args.p _ c.requires (lit≤ tt)

pub nonzero_div-result : goal.nonzero_div-result
nonzero_div-result c = (lit< tt, quotient c.args.p _ c.requires (lit≤ tt))

pub returns-then-p-lt0 : goal.returns-then-p-lt0
returns-then-p-lt0 c =
    read_back c.args.p _ c.requires (lit≤ tt) (rounded c.args.p) (below_zero c.args.p (plain c.args.p c.ranges.p c.if-p-lt0.true))

pub overflow_add-result : goal.overflow_add-result
overflow_add-result c = shifted c.args.p _ c.requires (lit≤ tt)

pub nonzero_div-result-2 : goal.nonzero_div-result-2
nonzero_div-result-2 c = (lit< tt, quotient c.args.p _ c.requires (lit≤ tt))

pub returns : goal.returns
returns c =
    read_back c.args.p _ c.requires (lit≤ tt) (rounded c.args.p) (from_zero c.args.p (plain c.args.p c.ranges.p c.if-p-lt0.false))

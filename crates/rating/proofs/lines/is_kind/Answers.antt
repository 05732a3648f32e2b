use mathlib.Core.Path.{◌∙◌}
use borrow.Author.Tests.{eq-eqb}
use Rattle.rating.proofs.lines.Laws.{kind_amount, kind_other}
use Rattle.rating.proofs.lines.is_kind.Goals as goal

pub returns-then-kind-eq0 : goal.returns-then-kind-eq0
returns-then-kind-eq0 c = eq-eqb _ _ c.if-kind-eq0.true ∙ kind_amount c.args.kind c.ranges.kind c.if-kind-eq0.true

pub returns-else-kind-eq0 : goal.returns-else-kind-eq0
returns-else-kind-eq0 c = kind_other c.args.kind c.ranges.kind c.if-kind-eq0.false

use mathlib.Core.Path.{sym}
use Rattle.layout.proofs.TrailLaws.{level_before_none, level_before_at}
use Rattle.layout.proofs.values.level_before.Goals as goal

pub returns-then-at-eq0 : goal.returns-then-at-eq0
returns-then-at-eq0 c = sym (level_before_none _ _ _ c.if-at-eq0.true)

pub returns : goal.returns
returns c = rw c.levels_at.ensures (sym (level_before_at _ _ _ c.if-at-eq0.false))

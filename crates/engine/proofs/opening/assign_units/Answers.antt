use Rattle.std.proofs.Common.{arith}
use Rattle.engine.proofs.opening.Laws.{units_begin, units_at, units_conflict, units_next, units_end}
use Rattle.engine.proofs.opening.assign_units.Goals as goal

pub loop-c-init : goal.loop-c-init
loop-c-init c = units_begin _ _ c.requires.0 c.requires.1

pub returns-then-assign_unit : goal.returns-then-assign_unit
returns-then-assign_unit c =
    units_conflict _ _ c.requires.0 c.loop-c.c (omega arith) c.loop-c.invariant _ c.if-assign_unit.true (c.assign_unit.ensures (units_at _ _ c.requires.0 c.loop-c.c c.loop-c.invariant))

pub loop-c-preserved : goal.loop-c-preserved
loop-c-preserved c =
    units_next _ _ c.requires.0 c.loop-c.c (omega arith) c.loop-c.invariant _ c.if-assign_unit.false (c.assign_unit.ensures (units_at _ _ c.requires.0 c.loop-c.c c.loop-c.invariant))

pub returns : goal.returns
returns c = units_end _ _ c.requires.0 c.loop-c.c (omega arith) c.loop-c.invariant

use Rattle.std.proofs.Common.{arith}
use Rattle.layout.proofs.FitsLaws.{held_fits, session_trail_fits}
use Rattle.engine.proofs.opening.Laws.{unit_other, unit_bounds, unit_true_lem, unit_false, unit_room, unit_open}
use Rattle.engine.proofs.opening.assign_unit.Goals as goal

pub returns-in_default : goal.returns-in_default
returns-in_default c at = unit_other c.requires.1 c.clause.ensures at (λ e. omega arith)

pub returns-in_default-2 : goal.returns-in_default-2
returns-in_default-2 c at = unit_other c.requires.1 c.clause.ensures at (λ e. omega arith)

pub literal_value-requires : goal.literal_value-requires
literal_value-requires c =
    let b = unit_bounds c.requires.1 c.clause.ensures c.requires.0 (omega arith) c.variables-variables.ensures in
    (session_trail_fits _ c.variables-variables.ensures (held_fits c.requires.0.well c.requires.0.encodes), b.0, b.1)

pub assign-requires : goal.assign-requires
assign-requires c =
    let b = unit_bounds c.requires.1 c.clause.ensures c.requires.0 (omega arith) c.variables-variables.ensures in (
      session_trail_fits _ c.variables-variables.ensures (held_fits c.requires.0.well c.requires.0.encodes),
      unit_room c.requires.1 c.clause.ensures c.requires.0 (omega arith) c.variables-variables.ensures c.literal_value.ensures c.in-Open.is,
      b.0,
      b.1,
    )

pub returns-in-True : goal.returns-in-True
returns-in-True c at =
    unit_true_lem c.requires.1 c.clause.ensures at (omega arith) c.variables-variables.ensures c.literal_value.ensures c.in-True.is

pub returns-in-False : goal.returns-in-False
returns-in-False c at =
    unit_false c.requires.1 c.clause.ensures at (omega arith) c.variables-variables.ensures c.literal_value.ensures c.in-False.is

pub returns-in-Open : goal.returns-in-Open
returns-in-Open c at =
    unit_open c.requires.1 c.clause.ensures at (omega arith) c.variables-variables.ensures c.literal_value.ensures c.in-Open.is c.assign.ensures

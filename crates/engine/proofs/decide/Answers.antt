use Rattle.std.proofs.Common.{◌≢◌, refl, arith}
use Rattle.std.proofs.Math.ListN.{length-set}
use Rattle.std.proofs.Math.Seq.{get_or-set_other}
use Rattle.layout.specs.Layout.{length_at, decisions_at}
use Rattle.book.proofs.WellFormedLaws.{well_formed_limited}
use Rattle.engine.proofs.StepLaws.{decision_ready, decision_begun, decision_done}
use Rattle.engine.proofs.decide.Goals as goal

pub overflow_add-level : goal.overflow_add-level
overflow_add-level c =
    let ready = decision_ready c.requires.0 c.args.literal c.requires.1 in
    let limited = well_formed_limited _ c.requires.0.well in omega arith

pub assign-requires : goal.assign-requires
assign-requires c =
    let ready = decision_ready c.requires.0 c.args.literal c.requires.1 in
    let limited = well_formed_limited _ c.requires.0.well in (
      record { few_variables = omega arith; long = simp length-set (omega (arith, c.requires.0.encodes.long)) },
      let apart : length_at ≢ decisions_at = λ e. omega arith in simp get_or-set_other (omega arith),
      ready.low,
      omega arith,
    )

pub propagate-requires : goal.propagate-requires
propagate-requires c =
    decision_begun c.requires.0 c.args.literal c.requires.1 _ _ _ _ c.variables-variables.ensures refl refl c.assign.ensures

pub returns : goal.returns
returns c at accepted =
    decision_done at c.args.literal accepted _ _ _ _ c.variables-variables.ensures refl refl c.assign.ensures
    (c.propagate.ensures (decision_begun at c.args.literal accepted _ _ _ _ c.variables-variables.ensures refl refl c.assign.ensures))

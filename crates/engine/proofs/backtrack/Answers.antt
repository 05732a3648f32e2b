use Rattle.layout.proofs.FitsLaws.{held_fits, session_trail_fits}
use Rattle.engine.proofs.StepLaws.{backtrack_cutting, backtrack_done}
use Rattle.engine.proofs.backtrack.Goals as goal

pub cut_levels-requires : goal.cut_levels-requires
cut_levels-requires c = (
  session_trail_fits _ c.variables.ensures (held_fits c.requires.0.well c.requires.0.encodes),
  (c.requires.0.run.trail, backtrack_cutting c.requires.0 c.args.k c.requires.1 c.variables.result c.variables.ensures),
)

pub returns : goal.returns
returns c =
    λ at accepted.
    backtrack_done at c.args.k accepted c.variables.result c.cut_levels.new.session c.variables.ensures c.cut_levels.ensures.same_beside
    (c.cut_levels.ensures.trail_held at.run.trail (backtrack_cutting at c.args.k accepted c.variables.result c.variables.ensures))

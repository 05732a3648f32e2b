use native.Mathlib.Omega.{arith}
use Rattle.engine.proofs.trail.Laws.{beside_compose, fits_still}
use Rattle.engine.proofs.trail.CutLaws.{shortening_step, shortening_end}
use Rattle.engine.proofs.trail.cut_levels.Goals as goal

pub unassign-requires : goal.unassign-requires
unassign-requires c =
    let step = shortening_step c.loop-session.invariant.0 c.requires.0 (c.loop-session.invariant.1 c.requires.1.0 c.requires.1.1) c.loop-session-test.true in
    (fits_still c.requires.0 c.loop-session.invariant.0, step.last)

pub loop-session-smaller : goal.loop-session-smaller
loop-session-smaller c =
    let step = shortening_step c.loop-session.invariant.0 c.requires.0 (c.loop-session.invariant.1 c.requires.1.0 c.requires.1.1) c.loop-session-test.true in
    rw c.unassign.ensures step.less

pub loop-session-preserved : goal.loop-session-preserved
loop-session-preserved c =
    let step = shortening_step c.loop-session.invariant.0 c.requires.0 (c.loop-session.invariant.1 c.requires.1.0 c.requires.1.1) c.loop-session-test.true in
    rw c.unassign.ensures (
      beside_compose c.loop-session.invariant.0 step.beside,
      λ trail cutting. (shortening_step c.loop-session.invariant.0 c.requires.0 (c.loop-session.invariant.1 trail cutting) c.loop-session-test.true).shortening,
    )

pub returns-clause-trail_held : goal.returns-clause-trail_held
returns-clause-trail_held c trail cutting = shortening_end (c.loop-session.invariant.1 trail cutting) (omega (arith, c.loop-session-test.false))

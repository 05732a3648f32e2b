use mathlib.Core.Logic.{inl, inr}
use Rattle.validation.proofs.fixpoint.Laws.{level_off, level_top, level_on}
use Rattle.validation.proofs.places.ReadTrail.level_of.Goals as goal
use Rattle.validation.proofs.places.ReadTrail.level_of.Goals.{else-below-via-then-below+else-level-self, else-below-via-else-below}

pub returns-in_err-place : goal.returns-in_err-place
returns-in_err-place c = rw c.from_residual.ensures (level_off _ _ c.args.self.readable _ c.args.below c.in_err-place.ensures)

pub returns-then-level-self : goal.returns-then-level-self
returns-then-level-self c =
    level_top _ _ c.args.self.readable _ _ c.in_ok-place.ensures _ c.levels_at.ensures _ c.if-below.true c.if-level-self.true

pub returns : goal.returns
returns c =
    level_on _ _ c.args.self.readable _ _ c.in_ok-place.ensures _ c.levels_at.ensures c.args.below
    (elim c.else-below.branch [
      | else-below-via-then-below+else-level-self w ↦ inr w.if-level-self.false
      | else-below-via-else-below w ↦ inl w.if-below.false
    ])

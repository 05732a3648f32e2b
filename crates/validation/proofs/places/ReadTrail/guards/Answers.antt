use Rattle.validation.proofs.SaysLaws.{says_true, says_false}
use Rattle.validation.proofs.fixpoint.Laws.{guard_free, guard_none, guard_answered}
use Rattle.validation.proofs.places.ReadTrail.guards.Goals as goal

pub returns-in_default : goal.returns-in_default
returns-in_default c = says_true (guard_free _ _ _ _ c.opposite.ensures c.in_default.ensures)

pub returns-in_default-level_of : goal.returns-in_default-level_of
returns-in_default-level_of c =
    says_false (guard_none _ _ _ _ c.opposite.ensures _ c.in-Some.ensures c.in_default-level_of.ensures)

pub returns : goal.returns
returns c = guard_answered _ _ _ _ c.opposite.ensures _ c.in-Some.ensures _ c.in-Some-level_of.ensures

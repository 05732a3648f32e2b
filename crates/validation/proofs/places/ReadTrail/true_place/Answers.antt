use native.Mathlib.Omega.{arith}
use Rattle.validation.proofs.reasons.Laws.{true_found, true_open, true_none}
use Rattle.validation.proofs.places.ReadTrail.true_place.Goals as goal

pub returns-in-Some : goal.returns-in-Some
returns-in-Some c = true_found _ _ c.loop-literal.literal-index _ (omega arith) c.in-Some.ensures

pub returns-in_err-false_place : goal.returns-in_err-false_place
returns-in_err-false_place c =
    rw c.from_residual.ensures
    (true_open _ _ c.loop-literal.literal-index (omega arith) c.in_default.ensures c.in_err-false_place.ensures)

pub returns : goal.returns
returns c = true_none _ _ (λ i h. c.loop-literal.invariant i (omega arith))

use Rattle.validation.proofs.places.Laws.{place_none, place_tested}
use Rattle.validation.proofs.places.ReadTrail.place_of.Goals as goal
use Rattle.validation.proofs.places.ReadTrail.place_of.Goals.{then-place-ne0, else-place-ne0}

pub returns : goal.returns
returns c =
    rw c.then_some.ensures
    (elim c.if-place-ne0.branch [
      | then-place-ne0 w ↦ rw (w.then_some-is, c.value_slot.ensures) (place_tested _ _ c.args.self.readable _ c.requires (rw c.value_slot.ensures at w.if-place-ne0.true))
      | else-place-ne0 w ↦ rw (w.then_some-is, c.value_slot.ensures) (place_none _ _ c.args.self.readable _ c.requires (rw c.value_slot.ensures at w.if-place-ne0.false))
    ])

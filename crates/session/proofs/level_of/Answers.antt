use native.Mathlib.Omega.{arith}
use Rattle.session.proofs.ReadLaws.{slot_inside, place_there}
use Rattle.session.proofs.level_of.Goals as goal

pub bounds-session-value_slot : goal.bounds-session-value_slot
bounds-session-value_slot c =
    omega (arith, slot_inside _ _ c.requires.session_value _ c.requires.literal_value _ c.variables-variables.ensures _ c.value_slot.ensures)

pub level_before-requires : goal.level_before-requires
level_before-requires c =
    place_there _ _ c.requires.session_value _ c.requires.literal_value _ c.variables-variables.ensures _ c.value_slot.ensures

use Rattle.layout.proofs.values.literal_value.Goals as goal

pub returns : goal.returns
returns c = rw (← c.value_slot.ensures) c.value_by.ensures

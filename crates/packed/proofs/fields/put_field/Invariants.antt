use Rattle.packed.proofs.fields.Writing.{PutBehind}
use Rattle.packed.proofs.fields.put_field.Given as goal

abbrev pub invariant-loop-at : goal.invariant-loop-at
invariant-loop-at l = PutBehind l.initial.out l.initial.at l.initial.rest l.out l.at l.rest

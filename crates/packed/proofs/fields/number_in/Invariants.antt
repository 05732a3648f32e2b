use Rattle.packed.proofs.fields.Reading.{ReadBefore}
use Rattle.packed.proofs.fields.number_in.Given as goal

abbrev pub invariant-loop-byte : goal.invariant-loop-byte
invariant-loop-byte l = ReadBefore l.bytes l.number l.byte-index

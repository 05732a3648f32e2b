use Rattle.book.proofs.bytes.Laws.{DigitsSoFar}
use Rattle.book.proofs.bytes.number.Given as goal

abbrev pub invariant-loop-byte : goal.invariant-loop-byte
invariant-loop-byte l = DigitsSoFar l.word l.value l.byte-index

use lib.ListN.{take}
use Rattle.script.specs.Inner.Writing.{Puts}
use Rattle.script.proofs.writing.Writer.put_all.Given as goal

abbrev pub invariant-loop-byte : goal.invariant-loop-byte
invariant-loop-byte l = Puts l.initial.self l.self (take l.byte-index l.bytes)

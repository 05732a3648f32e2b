use lib.ListN.{take}
use Rattle.std.specs.List.{flat_map}
use Rattle.script.specs.Inner.Writing.{Puts}
use Rattle.script.proofs.writing.Laws.{listed_one}
use Rattle.script.proofs.writing.Writer.put_listed.Given as goal

abbrev pub invariant-loop-literal : goal.invariant-loop-literal
invariant-loop-literal l = Puts l.initial.self l.self (flat_map listed_one (take l.literal-index l.literals))

use Rattle.std.proofs.Common.{length}
use Rattle.dialog.specs.Program.{holding}
use Rattle.dialog.proofs.PartLaws.{GoesOn}
use Rattle.desk.proofs.answer_part.Given as goal

abbrev pub invariant-loop-rest : goal.invariant-loop-rest
invariant-loop-rest g l =
    GoesOn l.book (holding l.initial.session l.initial.line l.kept l.initial.out) l.bytes (holding l.session l.line l.held l.out) l.rest

abbrev pub decreases-loop-rest : goal.decreases-loop-rest
decreases-loop-rest g l = length l.rest

use borrow.Author.Tests.{le-leb, lt-leb}
use lib.ListN.{length}
use Rattle.run.specs.Ceiling.{clause_worst}
use Rattle.layout.proofs.ceiling.clause_worst.Goals as goal

pub returns-then-literals-lt2 : goal.returns-then-literals-lt2
unfolding clause_worst
returns-then-literals-lt2 c = rw (← c.clause-literals.ensures, lt-leb 2 (length c.clause-literals.result.now) c.if-literals-lt2.true)

pub returns : goal.returns
unfolding clause_worst
returns c = rw (← c.clause-literals.ensures, le-leb 2 (length c.clause-literals.result.now) c.if-literals-lt2.false)

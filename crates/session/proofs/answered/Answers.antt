use borrow.Author.Tests.{eq-eqb, ne_eqb}
use Rattle.session.proofs.answered.Goals as goal

pub returns-then-ended : goal.returns-then-ended
returns-then-ended c = rw (ne_eqb _ _ c.if-ended.true)

pub returns : goal.returns
returns c = rw (eq-eqb _ _ c.if-ended.false)

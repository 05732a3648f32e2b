use native.Mathlib.Omega.{arith}
use Rattle.dialog.proofs.answers.Laws.{begun_some, begun_none}
use Rattle.dialog.proofs.answers.answer_begun.Goals as goal

pub returns-then-kept-gt0 : goal.returns-then-kept-gt0
returns-then-kept-gt0 c =
    begun_some c.args.book.now c.args.session.now c.args.line.now c.args.kept c.args.out.now _ _ _ (omega arith) c.answer.ensures

pub returns : goal.returns
returns c =
    begun_none c.args.book.now c.args.session.now c.args.line.now c.args.kept c.args.out.now (omega arith)

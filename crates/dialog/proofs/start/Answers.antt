use mathlib.Core.Path.{sym, ◌∙◌}
use Rattle.dialog.proofs.CallLaws.{start_refused, start_opened}
use Rattle.dialog.proofs.start.Goals as goal

pub returns-in-Err : goal.returns-in-Err
returns-in-Err c =
    start_refused c.args.text.now c.args.book.now c.args.session.now c.args.out.now _ c.read.ensures.numbers _ _ _ (sym c.in-Err.is ∙ c.read.ensures.answer) (rw (← c.number.ensures) (c.write_refused.ensures.value, c.write_refused.ensures.out_after))

pub returns-in-Ok : goal.returns-in-Ok
returns-in-Ok c =
    start_opened c.args.text.now c.args.book.now c.args.session.now c.args.out.now _ c.read.ensures.numbers _ _ _ _ (sym c.in-Ok.is ∙ c.read.ensures.answer) c.open.ensures

use mathlib.Core.Path.{sym, ◌∙◌}
use Rattle.dialog.proofs.answers.Laws.{ended_unsummed, ended_unshown, ended_shown}
use Rattle.dialog.proofs.answers.last_line.Goals as goal

pub returns-in-Err : goal.returns-in-Err
returns-in-Err c =
    ended_unsummed c.args.book.now c.args.session.now c.args.out.now _ _ _ (sym c.in-Err.is ∙ c.total.ensures) (rw (← c.number.ensures) (c.write_refused.ensures.value, c.write_refused.ensures.out_after))

pub returns-in-Err-figures : goal.returns-in-Err-figures
returns-in-Err-figures c =
    ended_unshown c.args.book.now c.args.session.now c.args.out.now _ _ _ (sym c.in-Ok.is ∙ c.total.ensures) _ (sym c.in-Err-figures.is ∙ c.figures.ensures) (rw (← c.number-in-Err-figures.ensures) (c.write_refused-in-Err-figures.ensures.value, c.write_refused-in-Err-figures.ensures.out_after))

pub returns-in-Ok-figures : goal.returns-in-Ok-figures
returns-in-Ok-figures c =
    ended_shown c.args.book.now c.args.session.now c.args.out.now _ _ _ (sym c.in-Ok.is ∙ c.total.ensures) _ (sym c.in-Ok-figures.is ∙ c.figures.ensures) (c.write_end.ensures.value, c.write_end.ensures.out_after)

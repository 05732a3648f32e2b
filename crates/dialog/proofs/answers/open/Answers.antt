use mathlib.Core.Path.{sym, ap, ◌∙◌}
use Rattle.std.specs.Prelude.{Ok}
use Rattle.dialog.proofs.OutcomeLaws.{opening_shows}
use Rattle.dialog.proofs.answers.Laws.{opened_ok, opened_refusal}
use Rattle.dialog.proofs.answers.open.Goals as goal

pub show_propagated-written-requires : goal.show_propagated-written-requires
show_propagated-written-requires c =
    λ n e. rw c.open.ensures.session_after (opening_shows c.args.book.now c.args.session.now n (sym c.in-Ok.ensures.value ∙ ap Ok e))

pub returns-in-Implied : goal.returns-in-Implied
returns-in-Implied c =
    opened_ok c.args.book.now c.args.session.now _ c.args.out.now _ _ c.open.ensures.session_after _ c.in-Ok.ensures.value c.show_propagated-written.ensures

pub returns-in-Conflict : goal.returns-in-Conflict
returns-in-Conflict c =
    opened_ok c.args.book.now c.args.session.now _ c.args.out.now _ _ c.open.ensures.session_after _ c.in-Ok.ensures.value c.show_propagated-written.ensures

pub returns-in-Err : goal.returns-in-Err
returns-in-Err c =
    opened_refusal c.args.book.now c.args.session.now _ c.args.out.now _ _ c.open.ensures.session_after _ c.in-Err.ensures.value (rw (← c.number.ensures) (c.write_refused.ensures.value, c.write_refused.ensures.out_after))

use mathlib.Core.Path.{refl, ap, sym, ◌∙◌}
use Rattle.std.specs.Prelude.{Some, Ok}
use Rattle.dialog.proofs.answers.Laws.{answered_malformed, answered_choice, answered_unchosen, answered_back, answered_unbacked}
use Rattle.dialog.proofs.OutcomeLaws.{decision_shows}
use Rattle.dialog.proofs.answers.answer.Goals as goal

pub show_propagated-requires : goal.show_propagated-requires
show_propagated-requires c =
    λ n e. rw c.decide.ensures.session_after (decision_shows c.args.book.now c.args.session.now _ n (sym c.in-Ok.ensures.value ∙ ap Ok e))

pub returns-in-None : goal.returns-in-None
returns-in-None c =
    answered_malformed c.args.book.now c.args.session.now c.args.line.now c.args.kept _ c.args.out.now _ _ c.in-None.ensures refl (rw (← c.number.ensures) (c.write_refused.ensures.value, c.write_refused.ensures.out_after))

pub returns-in-Ok : goal.returns-in-Ok
returns-in-Ok c =
    answered_choice c.args.book.now c.args.session.now c.args.line.now c.args.kept _ c.args.out.now _ _ _ _ (ap Some (sym c.in-Some-Choose.field-0-is) ∙ c.in-Some-Choose.ensures) c.in-Ok.ensures.value c.decide.ensures.session_after c.show_propagated.ensures

pub returns-in-Err : goal.returns-in-Err
returns-in-Err c =
    answered_unchosen c.args.book.now c.args.session.now c.args.line.now c.args.kept _ c.args.out.now _ _ _ _ (ap Some (sym c.in-Some-Choose.field-0-is) ∙ c.in-Some-Choose.ensures) c.in-Err.ensures.value c.decide.ensures.session_after (rw (← c.number-in-Err.ensures) (c.write_refused-in-Err.ensures.value, c.write_refused-in-Err.ensures.out_after))

pub returns-in-Ok-backtrack : goal.returns-in-Ok-backtrack
returns-in-Ok-backtrack c =
    answered_back c.args.book.now c.args.session.now c.args.line.now c.args.kept _ c.args.out.now _ _ _ (ap Some (sym c.in-Some-Back.field-0-is) ∙ c.in-Some-Back.ensures) c.in-Ok-backtrack.ensures.value c.backtrack.ensures.session_after (c.write_back.ensures.value, c.write_back.ensures.out_after)

pub returns-in-Err-backtrack : goal.returns-in-Err-backtrack
returns-in-Err-backtrack c =
    answered_unbacked c.args.book.now c.args.session.now c.args.line.now c.args.kept _ c.args.out.now _ _ _ _ (ap Some (sym c.in-Some-Back.field-0-is) ∙ c.in-Some-Back.ensures) c.in-Err-backtrack.ensures.value c.backtrack.ensures.session_after (rw (← c.number-in-Err-backtrack.ensures) (c.write_refused-in-Err-backtrack.ensures.value, c.write_refused-in-Err-backtrack.ensures.out_after))

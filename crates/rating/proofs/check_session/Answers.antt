use Rattle.std.proofs.lemmas.Result.{err_from_is_err_and}
use Rattle.refusals.specs.declared.Refusal.TheVariants as refusal
use Rattle.refusals.proofs.OutcomeLaws.{accepted_as, refused_as}
use Rattle.rating.proofs.AnswerLaws.{figures_refuse, figures_conflict, figures_quiet}
use Rattle.rating.proofs.check_session.Goals as goal

pub returns-in_err-shown : goal.returns-in_err-shown
returns-in_err-shown c =
    let p = err_from_is_err_and c.from_residual.result c.from_residual.ensures.1 in
    rw (p.1, p.2) (figures_refuse c.args.book.now c.args.session.now _ c.in_err-shown.ensures)

pub returns-then-shown-ne0 : goal.returns-then-shown-ne0
returns-then-shown-ne0 c =
    refused_as _ tt refusal.InConflict (figures_conflict c.args.book.now c.args.session.now _ c.in_ok-shown.ensures c.if-shown-ne0.true)

pub returns : goal.returns
returns c = accepted_as _ tt (figures_quiet c.args.book.now c.args.session.now _ c.in_ok-shown.ensures c.if-shown-ne0.false)

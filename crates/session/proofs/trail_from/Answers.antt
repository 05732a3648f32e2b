use Rattle.run.specs.Run.{trail_behind}
use Rattle.session.proofs.AnswerLaws.{copy_refused}
use Rattle.session.proofs.ReadLaws.{handed_on, trail_copied_none, trail_copied}
use Rattle.session.proofs.trail_from.Goals as goal

pub returns-in_err-validate-clause-value : goal.returns-in_err-validate-clause-value
returns-in_err-validate-clause-value c =
    handed_on _ _ _ c.from_residual.ensures.1 (copy_refused _ _ (trail_behind c.args.before) c.args.out.now _ c.in_err-validate.ensures).0

pub returns-in_err-validate-clause-out_after : goal.returns-in_err-validate-clause-out_after
returns-in_err-validate-clause-out_after c = (copy_refused _ _ (trail_behind c.args.before) _ _ c.in_err-validate.ensures).1

pub returns-then-count-before : goal.returns-then-count-before
returns-then-count-before c =
    let said = trail_copied_none _ _ c.in_ok-validate.ensures c.args.before c.args.out.now _ c.if-count-before.true c.copy_fitting.ensures.out_after in
    record { value = said.0; out_after = said.1 }

pub returns : goal.returns
returns c =
    let said = trail_copied _ _ c.in_ok-validate.ensures c.args.before c.args.out.now _ c.if-count-before.false c.copy_fitting-2.ensures.out_after in
    record { value = said.0; out_after = said.1 }

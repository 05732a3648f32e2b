use native.Mathlib.Omega.{arith}
use Rattle.session.specs.Outcomes.{checks_of_run}
use Rattle.session.proofs.AnswerLaws.{copy_refused}
use Rattle.session.proofs.ReadLaws.{handed_on, checks_inside, checks_copied}
use Rattle.session.proofs.checks.Goals as goal

pub returns-in_err-validate-clause-value : goal.returns-in_err-validate-clause-value
returns-in_err-validate-clause-value c =
    handed_on _ _ _ c.from_residual.ensures.1 (copy_refused _ _ checks_of_run c.args.out.now _ c.in_err-validate.ensures).0

pub returns-in_err-validate-clause-out_after : goal.returns-in_err-validate-clause-out_after
returns-in_err-validate-clause-out_after c = (copy_refused _ _ checks_of_run _ _ c.in_err-validate.ensures).1

pub slice_bounds-copy_fitting-end : goal.slice_bounds-copy_fitting-end
slice_bounds-copy_fitting-end c =
    omega (arith, checks_inside _ _ c.in_ok-validate.ensures _ c.variables.ensures _ c.clauses-clauses.ensures _ c.checks_at-from.ensures)

pub returns : goal.returns
returns c =
    let said = checks_copied _ _ c.in_ok-validate.ensures _ c.variables.ensures _ c.clauses-clauses.ensures _ c.checks_at-from.ensures c.args.out.now _ c.copy_fitting.ensures.out_after in
    record { value = said.0; out_after = said.1 }

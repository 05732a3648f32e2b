use native.Mathlib.Omega.{arith}
use Rattle.session.proofs.AnswerLaws.{total_refused}
use Rattle.session.proofs.ReadLaws.{handed_on, checks_inside}
use Rattle.session.proofs.total.Goals as goal

pub returns-in_err-validate : goal.returns-in_err-validate
returns-in_err-validate c = handed_on _ _ _ c.from_residual.ensures.1 (total_refused _ _ _ c.in_err-validate.ensures)

pub slice_bounds-sum_of-end : goal.slice_bounds-sum_of-end
slice_bounds-sum_of-end c =
    omega (arith, checks_inside _ _ c.in_ok-validate.ensures _ c.variables.ensures _ c.clauses-clauses.ensures _ c.checks_at-from.ensures)

use Rattle.session.proofs.fixing.Laws.{fixed_refused}
use Rattle.session.proofs.ReadLaws.{handed_on}
use Rattle.session.proofs.fixing.fixed.Goals as goal

pub returns-in_err-validate : goal.returns-in_err-validate
returns-in_err-validate c = handed_on _ _ _ c.from_residual.ensures.1 (fixed_refused _ _ _ c.in_err-validate.ensures)

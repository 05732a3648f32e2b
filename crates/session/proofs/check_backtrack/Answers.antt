use Rattle.session.proofs.ReadLaws.{handed_on, backtrack_alike}
use Rattle.session.proofs.check_backtrack.Goals as goal

pub returns-in_err-validate : goal.returns-in_err-validate
returns-in_err-validate c = handed_on _ _ _ c.from_residual.ensures.1 (backtrack_alike _ _ _ c.in_err-validate.ensures _)

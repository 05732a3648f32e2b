use Rattle.session.proofs.ReadLaws.{handed_on, decide_alike}
use Rattle.session.proofs.check_decision.Goals as goal

pub returns-in_err-validate : goal.returns-in_err-validate
returns-in_err-validate c = handed_on _ _ _ c.from_residual.ensures.1 (decide_alike _ _ _ c.in_err-validate.ensures _)

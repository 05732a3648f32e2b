use Rattle.session.proofs.AnswerLaws.{figures_refused}
use Rattle.session.proofs.ReadLaws.{handed_on}
use Rattle.session.proofs.figures.Goals as goal

pub returns-in_err-validate : goal.returns-in_err-validate
returns-in_err-validate c = handed_on _ _ _ c.from_residual.ensures.1 (figures_refused _ _ _ c.in_err-validate.ensures)

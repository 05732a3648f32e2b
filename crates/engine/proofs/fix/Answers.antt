use Rattle.engine.proofs.StepLaws.{fix_done}
use Rattle.engine.proofs.fix.Goals as goal

pub returns : goal.returns
returns c = λ at. fix_done at c.args.f

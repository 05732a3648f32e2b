use Rattle.std.proofs.Common.{rules}
use Rattle.validation.proofs.AllLaws.{says_all}
use Rattle.validation.proofs.trail.rest_passes.Goals as goal

pub returns : goal.returns
returns c = says_all _ _ _ _ _ c.all.ensures.ran (λ x q k. search rules) (λ x q k. search rules)

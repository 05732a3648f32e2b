use Rattle.std.proofs.Common.{rules, refl}
use Rattle.validation.proofs.AllLaws.{says_all_below}
use Rattle.validation.proofs.trail.values_pass.Goals as goal

pub returns : goal.returns
returns c = says_all_below _ _ _ _ _ c.all.ensures.ran (λ x q k. search rules) (λ x q k. search rules) refl

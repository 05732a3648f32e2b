use Rattle.std.proofs.Common.{rules, arith}
use Rattle.std.proofs.lemmas.Grind.{common_steps}
use Rattle.validation.proofs.SaysLaws.{says_alike, says_not}
use Rattle.validation.proofs.trail.Laws.{checked_good, good_checked}
use Rattle.validation.proofs.trail.trail_passes.Goals as goal

pub returns-then-rest_passes : goal.returns-then-rest_passes
returns-then-rest_passes c =
    says_alike
    (λ values.
    checked_good _ _
    (record {
      count_within = search rules;
      last_level = search rules;
      places = search rules;
      free = search rules;
      values = values;
    }))
    (λ good. (good_checked _ _ good).values)
    c.values_pass.ensures

pub returns-else-rest_passes : goal.returns-else-rest_passes
returns-else-rest_passes c =
    says_not (search rules) (λ good. let known = good_checked _ _ good in grind (arith, common_steps))

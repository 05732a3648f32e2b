use mathlib.Core.Path.{ap, ◌∙◌}
use Rattle.capi.specs.Codes.{count_code}
use Rattle.capi.proofs.tariff_checks.Goals as goal

pub returns : goal.returns
returns c = record { value = c.count_code.ensures ∙ ap count_code c.checks.ensures.value; out_after = c.checks.ensures.out_after }

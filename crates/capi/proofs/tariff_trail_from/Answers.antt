use mathlib.Core.Path.{ap, ◌∙◌}
use Rattle.capi.specs.Codes.{count_code}
use Rattle.capi.proofs.tariff_trail_from.Goals as goal

pub returns : goal.returns
returns c = record { value = c.count_code.ensures ∙ ap count_code c.trail_from.ensures.value; out_after = c.trail_from.ensures.out_after }

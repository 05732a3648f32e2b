use mathlib.Core.Path.{ap, ◌∙◌}
use Rattle.capi.specs.Codes.{count_code}
use Rattle.capi.proofs.tariff_fixed.Goals as goal

pub returns : goal.returns
returns c = c.count_code.ensures ∙ ap count_code c.fixed.ensures

use mathlib.Core.Path.{ap, ◌∙◌}
use Rattle.capi.specs.Codes.{back_code}
use Rattle.capi.proofs.tariff_fix.Goals as goal

pub returns : goal.returns
returns c = record { value = c.back_code.ensures ∙ ap back_code c.fix.ensures.value; session_after = c.fix.ensures.session_after }

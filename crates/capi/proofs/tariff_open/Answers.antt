use mathlib.Core.Path.{ap, ◌∙◌}
use Rattle.capi.specs.Codes.{answer_code}
use Rattle.capi.proofs.tariff_open.Goals as goal

pub returns : goal.returns
returns c = record { value = c.answer_code.ensures ∙ ap answer_code c.open.ensures.value; session_after = c.open.ensures.session_after }

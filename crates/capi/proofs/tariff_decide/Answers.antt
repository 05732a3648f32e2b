use mathlib.Core.Path.{ap, ◌∙◌}
use Rattle.capi.specs.Codes.{answer_code}
use Rattle.capi.proofs.tariff_decide.Goals as goal

pub returns : goal.returns
returns c = record { value = c.answer_code.ensures ∙ ap answer_code c.decide.ensures.value; session_after = c.decide.ensures.session_after }

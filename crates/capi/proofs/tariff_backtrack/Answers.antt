use mathlib.Core.Path.{ap, ◌∙◌}
use Rattle.capi.specs.Codes.{done_code}
use Rattle.capi.proofs.tariff_backtrack.Goals as goal

pub returns : goal.returns
returns c = record { value = c.done_code.ensures ∙ ap done_code c.backtrack.ensures.value; session_after = c.backtrack.ensures.session_after }

use mathlib.Core.Path.{ap, sym, ◌∙◌}
use Rattle.capi.specs.Codes.{count_code}
use Rattle.capi.proofs.count_code.Goals as goal

pub returns-in-Ok : goal.returns-in-Ok
returns-in-Ok c = c.from.ensures ∙ sym (ap count_code c.in-Ok.is)

pub returns-in-Err : goal.returns-in-Err
returns-in-Err c = c.refused.ensures ∙ sym (ap count_code c.in-Err.is)

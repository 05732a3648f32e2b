use mathlib.Core.Path.{ap, sym, ◌∙◌}
use Rattle.capi.specs.Codes.{assigned_code}
use Rattle.capi.proofs.tariff_lookup.Goals as goal

pub returns-in-Ok : goal.returns-in-Ok
returns-in-Ok c = c.level_code.ensures ∙ ap assigned_code (sym c.in-Ok.is ∙ c.lookup.ensures)

pub returns-in-Err : goal.returns-in-Err
returns-in-Err c = c.refused.ensures ∙ ap assigned_code (sym c.in-Err.is ∙ c.lookup.ensures)

use mathlib.Core.Path.{ap, sym, ◌∙◌}
use Rattle.capi.specs.Codes.{done_code}
use Rattle.capi.proofs.tariff_read.Goals as goal

pub returns-in-Ok : goal.returns-in-Ok
returns-in-Ok c = record { value = ap done_code (sym c.in-Ok.is ∙ c.read.ensures.answer); book_after = c.read.ensures.numbers }

pub returns-in-Err : goal.returns-in-Err
returns-in-Err c = record { value = c.refused.ensures ∙ ap done_code (sym c.in-Err.is ∙ c.read.ensures.answer); book_after = c.read.ensures.numbers }

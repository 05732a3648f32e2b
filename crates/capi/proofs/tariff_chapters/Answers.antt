use mathlib.Core.Path.{◌≡◌, refl, ap, sym, ◌∙◌}
use mathlib.Core.Bool.{Bool, true, false}
use mir.Val.{bool_byte}
use Rattle.std.specs.Prelude.{Ok}
use Rattle.capi.specs.Codes.{filing_code}
use Rattle.capi.proofs.tariff_chapters.Goals as goal

pub returns-in-Ok : goal.returns-in-Ok
returns-in-Ok c =
    record { value = c.from.ensures ∙ (as_number c.in-Ok.written ∙ ap filing_code (sym c.in-Ok.is ∙ c.chapter_totals.ensures.value)); totals_after = c.chapter_totals.ensures.totals_after }
  where
    as_number : (written : Bool) → bool_byte written ≡ filing_code (Ok written)
    as_number true = refl
    as_number false = refl

pub returns-in-Err : goal.returns-in-Err
returns-in-Err c =
    record { value = c.refused.ensures ∙ ap filing_code (sym c.in-Err.is ∙ c.chapter_totals.ensures.value); totals_after = c.chapter_totals.ensures.totals_after }

use mathlib.Core.Path.{ap, sym, ◌∙◌}
use borrow.Author.Rules.{rules}
use mir.Syntax.{w64}
use mir.ValLaws.{to_z-of_z}
use Rattle.std.specs.Prelude.{Result}
use Rattle.refusals.specs.declared.Refusal.{Refusal}
use Rattle.packed.specs.declared.QuoteRecord.{QuoteRecord}
use Rattle.capi.specs.Codes.{record_code, base_after, premium_after, lines_after}
use Rattle.capi.proofs.tariff_read_quote.Goals as goal

pub returns-in-Ok : goal.returns-in-Ok
returns-in-Ok c =
    let told = sym c.in-Ok.is ∙ c.read_quote.ensures in
    record { value = c.from.ensures ∙ ap record_code told; base_after = to_z-of_z w64 c.in-Ok.record.base (search rules) ∙ ap (λ (r : Result QuoteRecord Refusal). base_after r c.args.base.now) told; premium_after = to_z-of_z w64 c.in-Ok.record.premium (search rules) ∙ ap (λ (r : Result QuoteRecord Refusal). premium_after r c.args.premium.now) told; open_lines_after = to_z-of_z w64 c.in-Ok.record.open_lines (search rules) ∙ ap (λ (r : Result QuoteRecord Refusal). lines_after r c.args.open_lines.now) told }

pub returns-in-Err : goal.returns-in-Err
returns-in-Err c =
    let told = sym c.in-Err.is ∙ c.read_quote.ensures in
    record { value = c.refused.ensures ∙ ap record_code told; base_after = ap (λ (r : Result QuoteRecord Refusal). base_after r c.args.base.now) told; premium_after = ap (λ (r : Result QuoteRecord Refusal). premium_after r c.args.premium.now) told; open_lines_after = ap (λ (r : Result QuoteRecord Refusal). lines_after r c.args.open_lines.now) told }

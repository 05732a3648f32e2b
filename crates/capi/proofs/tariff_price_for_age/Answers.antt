use Rattle.std.specs.Prelude.{Result}
use Rattle.refusals.specs.declared.Refusal.{Refusal}
use mathlib.Core.Path.{◌≡◌, ap, ◌∙◌}
use lib.IntN.{ℤ}
use mir.Syntax.{w64}
use mir.ValLaws.{to_z-of_z}
use Rattle.rating.specs.Ages.{age_answer}
use Rattle.rating.specs.declared.Premium.{Premium}
use Rattle.capi.specs.Codes.{premium_code, amount_after}
use Rattle.capi.proofs.tariff_price_for_age.Goals as goal

pub returns : goal.returns
returns c =
    let told : c.price_for_age.result ≡ age_answer c.args.book.now c.args.session.now c.args.base c.args.table.now c.args.age c.args.lines.now = c.price_for_age.ensures
    ∙ ap (λ (x : ℤ). age_answer c.args.book.now c.args.session.now x c.args.table.now c.args.age c.args.lines.now) (to_z-of_z w64 c.args.base c.ranges.base) in
    record { value = c.premium_code.ensures.value ∙ ap premium_code (told); amount_after = c.premium_code.ensures.amount_after ∙ ap (λ (p : Result Premium Refusal). amount_after p c.args.amount.now) (told) }

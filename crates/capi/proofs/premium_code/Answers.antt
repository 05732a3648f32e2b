use mathlib.Core.Path.{ap, sym, ◌∙◌}
use borrow.Author.Rules.{rules}
use mir.Syntax.{w64}
use mir.ValLaws.{to_z-of_z}
use Rattle.std.specs.Prelude.{Result}
use Rattle.refusals.specs.declared.Refusal.{Refusal}
use Rattle.rating.specs.declared.Premium.{Premium}
use Rattle.capi.specs.Codes.{premium_code, amount_after}
use Rattle.capi.proofs.premium_code.Goals as goal

pub returns-in-Ok : goal.returns-in-Ok
returns-in-Ok c =
    let is = sym c.in-Ok.is in
    record { value = c.from.ensures ∙ ap premium_code is; amount_after = to_z-of_z w64 c.in-Ok.premium.amount (search rules) ∙ ap (λ (r : Result Premium Refusal). amount_after r c.args.amount.now) is }

pub returns-in-Err : goal.returns-in-Err
returns-in-Err c =
    let is = sym c.in-Err.is in
    record { value = c.refused.ensures ∙ ap premium_code is; amount_after = ap (λ (r : Result Premium Refusal). amount_after r c.args.amount.now) is }

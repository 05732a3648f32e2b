use mathlib.Core.Path.{ap, sym, ◌∙◌}
use borrow.Author.Rules.{rules}
use mir.Syntax.{w64}
use mir.ValLaws.{to_z-of_z}
use Rattle.std.specs.Prelude.{Result}
use Rattle.refusals.specs.declared.Refusal.{Refusal}
use lib.IntN.{ℤ}
use Rattle.capi.specs.Codes.{done_code, value_after}
use Rattle.capi.proofs.tariff_read_field.Goals as goal

pub returns-in-Ok : goal.returns-in-Ok
returns-in-Ok c =
    let told = sym c.in-Ok.is ∙ c.read_field.ensures in
    record { value = ap done_code told; value_after = to_z-of_z w64 c.in-Ok.number (search rules) ∙ ap (λ (r : Result ℤ Refusal). value_after r c.args.value.now) told }

pub returns-in-Err : goal.returns-in-Err
returns-in-Err c =
    let told = sym c.in-Err.is ∙ c.read_field.ensures in
    record { value = c.refused.ensures ∙ ap done_code told; value_after = ap (λ (r : Result ℤ Refusal). value_after r c.args.value.now) told }

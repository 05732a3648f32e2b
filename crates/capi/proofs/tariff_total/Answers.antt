use mathlib.Core.Path.{ap, sym, ◌∙◌}
use Rattle.std.specs.Prelude.{Result}
use Rattle.refusals.specs.declared.Refusal.{Refusal}
use Prim.Native.Nat.{ℕ}
use Rattle.capi.specs.Codes.{done_code, sum_after}
use Rattle.capi.proofs.tariff_total.Goals as goal

pub returns-in-Ok : goal.returns-in-Ok
returns-in-Ok c =
    let told = sym c.in-Ok.is ∙ c.total.ensures in
    record { value = ap done_code told; sum_after = ap (λ (r : Result ℕ Refusal). sum_after r c.args.sum.now) told }

pub returns-in-Err : goal.returns-in-Err
returns-in-Err c =
    let told = sym c.in-Err.is ∙ c.total.ensures in
    record { value = c.refused.ensures ∙ ap done_code told; sum_after = ap (λ (r : Result ℕ Refusal). sum_after r c.args.sum.now) told }

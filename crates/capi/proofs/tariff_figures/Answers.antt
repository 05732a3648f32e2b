use mathlib.Core.Path.{ap, sym, ◌∙◌}
use mathlib.Core.List.{[], ◌∷◌}
use Rattle.base.proofs.Copies.{stored_none, stored_more}
use Rattle.std.specs.Prelude.{Result}
use Rattle.refusals.specs.declared.Refusal.{Refusal}
use Rattle.session.specs.declared.Shown.{Shown}
use Rattle.capi.specs.Codes.{figures_code, figures_after}
use Rattle.capi.proofs.tariff_figures.Goals as goal

pub returns-in-Ok : goal.returns-in-Ok
returns-in-Ok c =
    let told = sym c.in-Ok.is ∙ c.figures.ensures in
    record {
      value = ap figures_code told;
      out_after = stored_more c.args.out.now (_ ∷ _ ∷ _ ∷ []) _
          (stored_more c.args.out.now (_ ∷ _ ∷ []) _ (stored_more c.args.out.now (_ ∷ []) _ (stored_more c.args.out.now [] _ (stored_none c.args.out.now) c.put.ensures) c.put-in-Ok.ensures) c.put-in-Ok-2.ensures)
          c.put-in-Ok-3.ensures
          ∙ ap (λ (r : Result Shown Refusal). figures_after r c.args.out.now) told;
    }

pub returns-in-Err : goal.returns-in-Err
returns-in-Err c =
    let told = sym c.in-Err.is ∙ c.figures.ensures in
    record { value = c.refused.ensures ∙ ap figures_code told; out_after = ap (λ (r : Result Shown Refusal). figures_after r c.args.out.now) told }

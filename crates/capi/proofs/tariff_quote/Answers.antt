use mathlib.Core.Path.{ap, sym, ◌∙◌}
use mathlib.Core.List.{[], ◌∷◌}
use Rattle.base.proofs.Copies.{stored_none, stored_more}
use Rattle.std.specs.Prelude.{Result}
use Rattle.refusals.specs.declared.Refusal.{Refusal}
use Rattle.quote.specs.declared.Quote.{Quote}
use Rattle.capi.specs.Codes.{quote_code, quote_after, ceiling_after}
use Rattle.capi.proofs.tariff_quote.Goals as goal

pub returns-in-Ok : goal.returns-in-Ok
returns-in-Ok c =
    let told = sym c.in-Ok.is ∙ c.quote_script.ensures in
    record {
      value = ap quote_code told;
      out_after = stored_more c.args.out.now (_ ∷ _ ∷ []) _ (stored_more c.args.out.now (_ ∷ []) _ (stored_more c.args.out.now [] _ (stored_none c.args.out.now) c.put.ensures) c.put-in-Ok.ensures) c.put-in-Ok-2.ensures
          ∙ ap (λ (r : Result Quote Refusal). quote_after r c.args.out.now) told;
      ceiling_after = ap (λ (r : Result Quote Refusal). ceiling_after r c.args.ceiling.now) told;
    }

pub returns-in-Err : goal.returns-in-Err
returns-in-Err c =
    let told = sym c.in-Err.is ∙ c.quote_script.ensures in
    record { value = c.refused.ensures ∙ ap quote_code told; out_after = ap (λ (r : Result Quote Refusal). quote_after r c.args.out.now) told; ceiling_after = ap (λ (r : Result Quote Refusal). ceiling_after r c.args.ceiling.now) told }

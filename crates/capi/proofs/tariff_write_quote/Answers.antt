use mathlib.Core.Path.{◌≡◌, ap, ◌∙◌}
use lib.IntN.{ℤ}
use lib.ListN.{length}
use mir.Syntax.{w64}
use mir.Val.{to_z, of_z}
use mir.ValLaws.{to_z-of_z}
use Rattle.packed.specs.Packed.{record_written, record_after}
use Rattle.capi.specs.Codes.{count_code}
use Rattle.capi.proofs.tariff_write_quote.Goals as goal

pub returns : goal.returns
returns c =
    let as-came : (X : Type 0) (f : ℤ → ℤ → ℤ → X) → f (to_z w64 (of_z w64 c.args.base)) (to_z w64 (of_z w64 c.args.premium)) (to_z w64 (of_z w64 c.args.open_lines)) ≡ f c.args.base c.args.premium c.args.open_lines = λ X f. rw (to_z-of_z w64 c.args.base c.ranges.base, to_z-of_z w64 c.args.premium c.ranges.premium, to_z-of_z w64 c.args.open_lines c.ranges.open_lines) in
    record {
      value = c.count_code.ensures
          ∙ ap count_code (c.write_quote.ensures.value ∙ as-came _ (λ (b p l : ℤ). record_written c.args.map b p l (length c.args.out.now)));
      out_after = c.write_quote.ensures.out_after ∙ as-came _ (λ (b p l : ℤ). record_after c.args.map b p l c.args.out.now);
    }

use mathlib.Core.Path.{ap, ◌∙◌}
use lib.IntN.{ℤ}
use lib.ListN.{length}
use mir.Syntax.{w64}
use mir.ValLaws.{to_z-of_z}
use Rattle.packed.specs.Packed.{field_written, field_after}
use Rattle.capi.specs.Codes.{count_code}
use Rattle.capi.proofs.tariff_write_field.Goals as goal

pub returns : goal.returns
returns c =
    let value = to_z-of_z w64 c.args.value c.ranges.value in record {
      value = c.count_code.ensures
          ∙ ap count_code (c.write_field.ensures.value ∙ ap (λ (v : ℤ). field_written v c.args.bytes (length c.args.out.now)) value);
      out_after = c.write_field.ensures.out_after ∙ ap (λ (v : ℤ). field_after v c.args.bytes c.args.out.now) value;
    }

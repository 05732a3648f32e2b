use Rattle.std.proofs.Common.{◌≤◌, arith, length}
use Rattle.std.proofs.lemmas.Result.{err_from_is_err_and}
use lib.Seq.{length-take-le}
use mir.Syntax.{w64}
use mir.ValLaws.{to_z-of_z}
use Rattle.packed.specs.Packed.{max_bytes}
use Rattle.packed.proofs.FieldLaws.{field_refused, field_fits, field_done}
use Rattle.packed.proofs.write_field.Goals as goal
use Rattle.packed.proofs.write_field.Goals.{In_ok-field_refusal}

pub returns-in_err-field_refusal : goal.returns-in_err-field_refusal
returns-in_err-field_refusal c =
    let p = err_from_is_err_and c.from_residual.result c.from_residual.ensures.1 in
    let said = field_refused c.args.value _ (to_z-of_z w64 c.args.value c.ranges.value) c.args.bytes c.args.out.now _ c.field_refusal.ensures _ c.in_err-field_refusal.was in
    record { value = rw (p.1, p.2) said.0; out_after = said.1 }

-- what is not refused has a good length, and the room
fits : (c : In_ok-field_refusal) → (1 ≤ c.args.bytes) × (c.args.bytes ≤ max_bytes) × (c.args.bytes ≤ length c.args.out.now)
fits c = field_fits c.args.value _ (to_z-of_z w64 c.args.value c.ranges.value) c.args.bytes c.args.out.now _ c.field_refusal.ensures c.in_ok-field_refusal.was

pub slice_bounds-put_field-end : goal.slice_bounds-put_field-end
slice_bounds-put_field-end c = (fits c).2

pub slice_bounds-put_field-end-2 : goal.slice_bounds-put_field-end-2
slice_bounds-put_field-end-2 c =
    let room = (fits (goal.at.slice_bounds-put_field-end-2 c).In_ok-field_refusal).2 in
    omega (arith, length-take-le c.args.bytes c.args.out.now room)

pub put_field-requires : goal.put_field-requires
put_field-requires c =
    let within = fits (goal.at.put_field-requires c).In_ok-field_refusal in
    omega (arith, within.0, length-take-le c.args.bytes c.args.out.now within.2)

pub overflow_cast-result : goal.overflow_cast-result
overflow_cast-result c = omega (arith, (fits (goal.at.overflow_cast-result c).In_ok-field_refusal).1)

pub returns : goal.returns
returns c =
    let said = field_done c.args.value _ (to_z-of_z w64 c.args.value c.ranges.value) c.args.bytes c.args.out.now _ c.field_refusal.ensures _ c.in_ok-field_refusal.was c.put_field.ensures in
    record { value = said.0; out_after = said.1 }

use Rattle.std.proofs.Common.{◌≡◌, ◌∙◌, arith}
use Rattle.std.specs.Prelude.{true, Some, length}
use Rattle.packed.specs.Packed.{length_within}
use Rattle.packed.proofs.FormLaws.{length_in, length_over}
use Rattle.packed.proofs.FieldLaws.{unread, number_small, read_closed}
use Rattle.packed.proofs.read_field.Goals as goal

pub returns-then-front-ge-MAX_BYTES : goal.returns-then-front-ge-MAX_BYTES
returns-then-front-ge-MAX_BYTES c = unread _ (length_over _ (omega (arith, c.in-Some.ensures.cases.1)))

pub closed-requires : goal.closed-requires
closed-requires c =
    let within : length_within (length c.args.bytes.now) ≡ true = length_in _ (omega (arith, c.in-Some.ensures.cases.1)) (omega (arith, c.in-Some.ensures.cases.1)) in
    let some : c.number_in.result ≡ Some c.in_ok-number.number = grind arith in
    number_small _ within _ _ c.in-Some.ensures.cases _ c.number_in.ensures _ some

pub returns : goal.returns
returns c =
    let within : length_within (length c.args.bytes.now) ≡ true = length_in _ (omega (arith, c.in-Some.ensures.cases.1)) (omega (arith, c.in-Some.ensures.cases.1)) in
    let some : c.number_in.result ≡ Some c.in_ok-number.number = grind arith in
    c.closed.ensures ∙ read_closed _ within _ _ c.in-Some.ensures.cases _ c.number_in.ensures _ some

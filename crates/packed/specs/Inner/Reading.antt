-- What the private functions that read packed decimal promise: the digits of a field before its last byte, that byte, and a part of a record.
use Rattle.std.specs.Prelude.{ℕ, ◌+◌, ◌*◌, ◌/◌, ◌%◌, Bool, cond, ◌&&◌, List, ℤ, pos, Option, Some, None, Result, Ok, Err}
use Rattle.base.specs.Lists.{all}
use Rattle.packed.specs.Packed.{nibbles_of, is_digit, is_sign, decimal, signed, field_answer}
use Rattle.refusals.specs.declared.Refusal.{Refusal}
use Rattle.refusals.specs.declared.Refusal.TheVariants.{PackedForm}

-- the number that all nibbles of some bytes write, where they are digits
unfoldable pub number_in : List ℕ → Option ℕ
number_in bytes = cond (all is_digit (nibbles_of bytes)) (Some (decimal 0 (nibbles_of bytes))) None

-- a last byte, behind digits that write a number
unfoldable pub closed_by : ℕ → ℕ → Result ℤ Refusal
closed_by number last = cond (is_digit (last / 16) && is_sign (last % 16)) (Ok (signed (last % 16) (10 * number + last / 16))) (Err PackedForm)

unfoldable pub part_answer : Bool → List ℕ → Result ℤ Refusal
part_answer present bytes = cond present (field_answer bytes) (Ok (pos 0))

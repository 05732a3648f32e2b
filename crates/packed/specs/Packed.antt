-- Request K8, amounts from the policy host: packed decimal fields and the quote record, how they are written and how they are read.
use Rattle.std.specs.Prelude.{ℕ, zero, suc, ◌+◌, ◌*◌, ◌-◌, ◌/◌, ◌%◌, ◌^◌, Bool, true, cond, ◌&&◌, ◌||◌, List, [], ◌∷◌, ◌++◌, leb, ltb, eqb, length, get_or, take, drop, ℤ, pos, negsuc, neg_ℤ, nat_abs, ⊤, Result, Ok, Err}
use Rattle.base.specs.Lists.{all, copied}
use Rattle.packed.specs.declared.QuoteRecord.{QuoteRecord}
use Rattle.refusals.specs.declared.Refusal.{Refusal}
use Rattle.refusals.specs.declared.Refusal.TheVariants.{PackedForm, PackedDigits, ShortMemory}

-- A byte is two nibbles (the request's half bytes), the high one first. One nibble left over makes no byte.
unfoldable pub nibbles_of : List ℕ → List ℕ
nibbles_of [] = []
nibbles_of (byte ∷ bytes) = byte / 16 ∷ byte % 16 ∷ nibbles_of bytes

unfoldable pub bytes_of : List ℕ → List ℕ
bytes_of [] = []
bytes_of (nibble ∷ []) = []
bytes_of (high ∷ low ∷ nibbles) = (16 * high + low) ∷ bytes_of nibbles

-- A field is 1 to 7 bytes; all of its nibbles but the last are digits, the last is a sign: hexadecimal C plus, D minus, F plus too.
abbrev pub max_bytes : ℕ
max_bytes = 7

unfoldable pub length_within : ℕ → Bool
length_within bytes = leb 1 bytes && leb bytes max_bytes

abbrev pub digits_in : ℕ → ℕ
digits_in bytes = 2 * bytes - 1

abbrev pub plus : ℕ
plus = 12

abbrev pub minus : ℕ
minus = 13

abbrev pub other_plus : ℕ
other_plus = 15

-- Writing: so many digits of a number, the highest first; the sign, which for zero is plus; the field.
unfoldable pub digits : ℕ → ℕ → List ℕ
digits zero n = []
digits (suc places) n = digits places (n / 10) ++ (n % 10 ∷ [])

unfoldable pub sign_of : ℤ → ℕ
sign_of (pos n) = plus
sign_of (negsuc n) = minus

unfoldable pub field_of : ℕ → ℤ → List ℕ
field_of bytes value = bytes_of (digits (digits_in bytes) (nat_abs value) ++ (sign_of value ∷ []))

-- a value within the digits of a field of so many bytes
unfoldable pub value_within : ℕ → ℤ → Bool
value_within bytes value = ltb (nat_abs value) (10 ^ digits_in bytes)

-- Reading: the digits and the sign of a field, when they are good, and the value that they write.
abbrev pub digits_of : List ℕ → List ℕ
digits_of bytes = take (digits_in (length bytes)) (nibbles_of bytes)

abbrev pub sign_in : List ℕ → ℕ
sign_in bytes = get_or (nibbles_of bytes) (digits_in (length bytes)) 0

unfoldable pub is_digit : ℕ → Bool
is_digit nibble = leb nibble 9

unfoldable pub is_sign : ℕ → Bool
is_sign nibble = eqb nibble plus || eqb nibble minus || eqb nibble other_plus

unfoldable pub field_good : List ℕ → Bool
field_good bytes = length_within (length bytes) && all is_digit (digits_of bytes) && is_sign (sign_in bytes)

-- the number that decimal digits write, after n
unfoldable pub decimal : ℕ → List ℕ → ℕ
decimal n [] = n
decimal n (digit ∷ more) = decimal (10 * n + digit) more

abbrev pub signed : ℕ → ℕ → ℤ
signed sign n = cond (eqb sign minus) (neg_ℤ (pos n)) (pos n)

unfoldable pub field_value : List ℕ → ℤ
field_value bytes = signed (sign_in bytes) (decimal 0 (digits_of bytes))

-- 23, a malformed field, is the only refusal in reading
unfoldable pub field_answer : List ℕ → Result ℤ Refusal
field_answer bytes = cond (field_good bytes) (Ok (field_value bytes)) (Err PackedForm)

-- A quote record is one byte of bit map, then only the fields whose bit stands, 7 bytes each: bit 0 base, bit 1 premium, bit 2 open lines; higher bits are 0.
unfoldable pub stands : ℕ → ℕ → Bool
stands map bit = eqb (map / 2 ^ bit % 2) 1

unfoldable pub map_within : ℕ → Bool
map_within map = ltb map 8

-- how many of the lowest so many bits stand; where a bit's field begins, and where the record ends
unfoldable pub standing : ℕ → ℕ → ℕ
standing map zero = 0
standing map (suc bits) = standing map bits + cond (stands map bits) 1 0

abbrev pub place_of : ℕ → ℕ → ℕ
place_of map bit = 1 + max_bytes * standing map bit

abbrev pub record_length : ℕ → ℕ
record_length map = place_of map 3

-- Writing: a value whose bit does not stand is neither looked at nor written.
unfoldable pub part : Bool → ℤ → List ℕ
part present value = cond present (field_of max_bytes value) []

unfoldable pub record_of : ℕ → ℤ → ℤ → ℤ → List ℕ
record_of map base premium open_lines = map ∷ (part (stands map 0) base ++ (part (stands map 1) premium ++ part (stands map 2) open_lines))

unfoldable pub part_within : Bool → ℤ → Bool
part_within present value = cond present (value_within max_bytes value) true

unfoldable pub values_within : ℕ → ℤ → ℤ → ℤ → Bool
values_within map base premium open_lines = part_within (stands map 0) base && part_within (stands map 1) premium && part_within (stands map 2) open_lines

-- The refusals in writing, of a length or a map, of values and of room: 23, then 24, then 10.
abbrev pub write_refusal : Bool → Bool → Bool → Result ⊤ Refusal
write_refusal form values room = cond form (cond values (cond room (Ok tt) (Err ShortMemory)) (Err PackedDigits)) (Err PackedForm)

unfoldable pub field_refusal : ℤ → ℕ → ℕ → Result ⊤ Refusal
field_refusal value bytes room = write_refusal (length_within bytes) (value_within bytes value) (leb bytes room)

unfoldable pub record_refusal : ℕ → ℤ → ℤ → ℤ → ℕ → Result ⊤ Refusal
record_refusal map base premium open_lines room = write_refusal (map_within map) (values_within map base premium open_lines) (leb (record_length map) room)

-- What writing answers, how many bytes are written, and what the lent bytes then are: a refusal leaves them, and what is lent behind stays.
abbrev pub written_by : Result ⊤ Refusal → List ℕ → Result ℕ Refusal
written_by (Ok good) bytes = Ok (length bytes)
written_by (Err refusal) bytes = Err refusal

abbrev pub left_by : Result ⊤ Refusal → List ℕ → List ℕ → List ℕ
left_by (Ok good) bytes out = copied bytes out
left_by (Err refusal) bytes out = out

unfoldable pub field_written : ℤ → ℕ → ℕ → Result ℕ Refusal
field_written value bytes room = written_by (field_refusal value bytes room) (field_of bytes value)

unfoldable pub field_after : ℤ → ℕ → List ℕ → List ℕ
field_after value bytes out = left_by (field_refusal value bytes (length out)) (field_of bytes value) out

unfoldable pub record_written : ℕ → ℤ → ℤ → ℤ → ℕ → Result ℕ Refusal
record_written map base premium open_lines room = written_by (record_refusal map base premium open_lines room) (record_of map base premium open_lines)

unfoldable pub record_after : ℕ → ℤ → ℤ → ℤ → List ℕ → List ℕ
record_after map base premium open_lines out = left_by (record_refusal map base premium open_lines (length out)) (record_of map base premium open_lines) out

-- Reading: the map is the first byte; a value whose bit does not stand is read as 0.
abbrev pub map_of : List ℕ → ℕ
map_of bytes = get_or bytes 0 0

abbrev pub part_at : ℕ → List ℕ → List ℕ
part_at place bytes = take max_bytes (drop place bytes)

unfoldable pub part_good : Bool → List ℕ → Bool
part_good present bytes = cond present (field_good bytes) true

unfoldable pub part_value : Bool → List ℕ → ℤ
part_value present bytes = cond present (field_value bytes) (pos 0)

abbrev pub part_of : ℕ → List ℕ → List ℕ
part_of bit bytes = part_at (place_of (map_of bytes) bit) bytes

abbrev pub good_at : ℕ → List ℕ → Bool
good_at bit bytes = part_good (stands (map_of bytes) bit) (part_of bit bytes)

abbrev pub value_at : ℕ → List ℕ → ℤ
value_at bit bytes = part_value (stands (map_of bytes) bit) (part_of bit bytes)

unfoldable pub record_good : List ℕ → Bool
record_good bytes = map_within (map_of bytes) && eqb (length bytes) (record_length (map_of bytes)) && good_at 0 bytes && good_at 1 bytes && good_at 2 bytes

abbrev pub quote_of : ℕ → ℤ → ℤ → ℤ → QuoteRecord
quote_of map base premium open_lines = record { map = map; base = base; premium = premium; open_lines = open_lines }

unfoldable pub record_answer : List ℕ → Result QuoteRecord Refusal
record_answer bytes = cond (record_good bytes) (Ok (quote_of (map_of bytes) (value_at 0 bytes) (value_at 1 bytes) (value_at 2 bytes))) (Err PackedForm)

-- What the theorems of `packed` say, in the request's words: fields and records byte by byte, as they are written and as they are good, which refusal comes when, what is read, and what is written again of it.
use Rattle.std.specs.Prelude.{ℕ, zero, suc, ◌+◌, ◌*◌, ◌-◌, ◌/◌, ◌%◌, ◌^◌, ◌≤◌, ◌<◌, List, ◌↔◌, ◌⊎◌, ◌≡◌, length, get_or, take, drop, set, ℤ, pos, nat_abs, Result, Ok, Err}
use Rattle.packed.specs.Packed.{field_of, field_answer, map_of}
use Rattle.refusals.specs.declared.Refusal.{Refusal}
use Rattle.refusals.specs.declared.Refusal.TheVariants.{PackedForm, PackedDigits, ShortMemory}

-- Fields.
abbrev pub last_byte : List ℕ → ℕ
last_byte bytes = get_or bytes (length bytes - 1) 0

-- 1 to 7 bytes; the high half of each and the low half of each but the last are digits; the low half of the last is C, D or F.
pub record GoodField (bytes : List ℕ) : Type 0 where
  pub some_bytes : 1 ≤ length bytes
  pub few_bytes : length bytes ≤ 7
  pub high_digits : (i : ℕ) → i < length bytes → get_or bytes i 0 / 16 ≤ 9
  pub low_digits : (i : ℕ) → i + 1 < length bytes → get_or bytes i 0 % 16 ≤ 9
  pub sign : (last_byte bytes % 16 ≡ 12) ⊎ (last_byte bytes % 16 ≡ 13) ⊎ (last_byte bytes % 16 ≡ 15)

-- So many bytes that a value is written in: two digits a byte, the highest first and in the high half; in the low half of the last one C from zero on, and D below.
pub record PackedAs (count : ℕ) (value : ℤ) (bytes : List ℕ) : Type 0 where
  pub so_many : length bytes ≡ count
  pub high_halves : (i : ℕ) → i < count → get_or bytes i 0 / 16 ≡ nat_abs value / 10 ^ (2 * count - 2 - 2 * i) % 10
  pub low_halves : (i : ℕ) → i + 1 < count → get_or bytes i 0 % 16 ≡ nat_abs value / 10 ^ (2 * count - 3 - 2 * i) % 10
  pub plus : value ≡ pos (nat_abs value) → last_byte bytes % 16 ≡ 12
  pub minus : (value ≡ pos (nat_abs value) → ⊥) → last_byte bytes % 16 ≡ 13

-- In writing, of a form, of values and of room: each refusal (23, 24, 10) exactly where it is due, and so many bytes written exactly where none is.
pub record RefusedWhere (answer : Result ℕ Refusal) (count : ℕ) (Form Values Room : Type 0) : Type 0 where
  pub bad_form : (answer ≡ Err PackedForm) ↔ (Form → ⊥)
  pub too_large : (answer ≡ Err PackedDigits) ↔ (Form × (Values → ⊥))
  pub too_short : (answer ≡ Err ShortMemory) ↔ (Form × Values × (Room → ⊥))
  pub accepted : (answer ≡ Ok count) ↔ (Form × Values × Room)
  pub no_other : (refusal : Refusal) → answer ≡ Err refusal → (refusal ≡ PackedForm) ⊎ (refusal ≡ PackedDigits) ⊎ (refusal ≡ ShortMemory)

-- A field that was read and is written again: the same bytes, but that the sign F, and the D of a minus zero, is C.
pub record WrittenAgain (bytes again : List ℕ) (value : ℤ) : Type 0 where
  pub same : (last_byte bytes % 16 ≡ 12) ⊎ ((last_byte bytes % 16 ≡ 13) × (value ≡ pos 0 → ⊥)) → again ≡ bytes
  pub turned : (last_byte bytes % 16 ≡ 15) ⊎ ((last_byte bytes % 16 ≡ 13) × (value ≡ pos 0))
      → again ≡ set bytes (length bytes - 1) (16 * (last_byte bytes / 16) + 12)

-- Records. A bit of the map, 0 or 1: bit 0 base, bit 1 premium, bit 2 open lines; and the length of a record.
abbrev pub base_bit : ℕ → ℕ
base_bit map = map % 2

abbrev pub premium_bit : ℕ → ℕ
premium_bit map = map / 2 % 2

abbrev pub lines_bit : ℕ → ℕ
lines_bit map = map / 4 % 2

abbrev pub bytes_under : ℕ → ℕ
bytes_under map = 1 + 7 * (base_bit map + premium_bit map + lines_bit map)

-- the bytes of each field, where its bit stands
abbrev pub base_field : List ℕ → List ℕ
base_field bytes = take 7 (drop 1 bytes)

abbrev pub premium_field : List ℕ → List ℕ
premium_field bytes = take 7 (drop (1 + 7 * base_bit (map_of bytes)) bytes)

abbrev pub lines_field : List ℕ → List ℕ
lines_field bytes = take 7 (drop (1 + 7 * (base_bit (map_of bytes) + premium_bit (map_of bytes))) bytes)

-- A record as it is written: the map, then the fields whose bit stands, and nothing else.
pub record RecordLaid (map : ℕ) (base premium open_lines : ℤ) (bytes : List ℕ) : Type 0 where
  pub map_first : map_of bytes ≡ map
  pub so_many : length bytes ≡ bytes_under map
  pub base_laid : base_bit map ≡ 1 → base_field bytes ≡ field_of 7 base
  pub premium_laid : premium_bit map ≡ 1 → premium_field bytes ≡ field_of 7 premium
  pub lines_laid : lines_bit map ≡ 1 → lines_field bytes ≡ field_of 7 open_lines

-- No higher bit is set, the length is that of the bits that stand, and their fields are good.
pub record GoodRecord (bytes : List ℕ) : Type 0 where
  pub no_higher_bit : map_of bytes < 8
  pub right_length : length bytes ≡ bytes_under (map_of bytes)
  pub good_base : base_bit (map_of bytes) ≡ 1 → GoodField (base_field bytes)
  pub good_premium : premium_bit (map_of bytes) ≡ 1 → GoodField (premium_field bytes)
  pub good_lines : lines_bit (map_of bytes) ≡ 1 → GoodField (lines_field bytes)

-- What is read of a record: its map, each value whose bit stands from its own field, and 0 for the others.
pub record RecordRead (bytes : List ℕ) (map : ℕ) (base premium open_lines : ℤ) : Type 0 where
  pub map_read : map ≡ map_of bytes
  pub base_read : base_bit map ≡ 1 → field_answer (base_field bytes) ≡ Ok base
  pub base_absent : base_bit map ≡ 0 → base ≡ pos 0
  pub premium_read : premium_bit map ≡ 1 → field_answer (premium_field bytes) ≡ Ok premium
  pub premium_absent : premium_bit map ≡ 0 → premium ≡ pos 0
  pub lines_read : lines_bit map ≡ 1 → field_answer (lines_field bytes) ≡ Ok open_lines
  pub lines_absent : lines_bit map ≡ 0 → open_lines ≡ pos 0

-- the values whose bit stands have at most 13 digits
abbrev pub Within13 : ℕ → ℤ → ℤ → ℤ → Type 0
Within13 map base premium open_lines = (base_bit map ≡ 1 → nat_abs base < 10 ^ 13) × (premium_bit map ≡ 1 → nat_abs premium < 10 ^ 13) × (lines_bit map ≡ 1 → nat_abs open_lines < 10 ^ 13)

-- a value as it is read back, by its bit: 0 where that does not stand
abbrev pub kept : ℕ → ℤ → ℤ
kept zero value = pos 0
kept (suc n) value = value

-- A record that was read and is written again: as long, the same map, and field by field as a field is.
pub record RecordAgain (bytes again : List ℕ) (base premium open_lines : ℤ) : Type 0 where
  pub as_long : length again ≡ length bytes
  pub same_map : map_of again ≡ map_of bytes
  pub base_again : base_bit (map_of bytes) ≡ 1 → WrittenAgain (base_field bytes) (base_field again) base
  pub premium_again : premium_bit (map_of bytes) ≡ 1 → WrittenAgain (premium_field bytes) (premium_field again) premium
  pub lines_again : lines_bit (map_of bytes) ≡ 1 → WrittenAgain (lines_field bytes) (lines_field again) open_lines

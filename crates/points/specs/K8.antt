-- Points of request K8, evaluated: fields and quote records written and read, both sides of their limits, and the order of the refusals.
use Rattle.std.specs.Prelude.{ℕ, ◌≡◌, refl, List, [], ◌∷◌, ◌++◌, pos, Ok, Err}
use Rattle.base.specs.Lists.{all, copied}
use Rattle.packed.specs.Packed.{nibbles_of, bytes_of, length_within, digits, sign_of, field_of, value_within, is_digit, is_sign, field_good, decimal, field_value, field_answer, stands, map_within, standing, part, record_of, part_within, values_within, field_refusal, record_refusal, field_written, field_after, record_written, record_after, part_good, part_value, record_good, quote_of, record_answer}
use Rattle.refusals.specs.Refusals.{number_of}
use Rattle.refusals.specs.declared.Refusal.TheVariants.{PackedForm, PackedDigits, ShortMemory}
use Rattle.points.specs.K1.{minus}

-- the fields of a record: base 12,345, premium −250, 3 open lines
abbrev base_bytes : List ℕ
base_bytes = 0 ∷ 0 ∷ 0 ∷ 0 ∷ 18 ∷ 52 ∷ 92 ∷ []

abbrev premium_bytes : List ℕ
premium_bytes = 0 ∷ 0 ∷ 0 ∷ 0 ∷ 0 ∷ 37 ∷ 13 ∷ []

abbrev lines_bytes : List ℕ
lines_bytes = 0 ∷ 0 ∷ 0 ∷ 0 ∷ 0 ∷ 0 ∷ 60 ∷ []

pub record Points : Type 0 where
  -- The numbers of the refusals.
  pub form_is_23 : number_of PackedForm ≡ 23
  pub digits_are_24 : number_of PackedDigits ≡ 24
  pub memory_is_10 : number_of ShortMemory ≡ 10
  -- Writing a field: the digits, the sign, zero with C, and both sides of the digits of 1, 2 and 7 bytes.
  pub in_two : field_of 2 (pos 123) ≡ 18 ∷ 60 ∷ []
  pub in_seven : field_of 7 (minus 12345) ≡ 0 ∷ 0 ∷ 0 ∷ 0 ∷ 18 ∷ 52 ∷ 93 ∷ []
  pub zero_in_one : field_of 1 (pos 0) ≡ 12 ∷ []
  pub zero_in_three : field_of 3 (pos 0) ≡ 0 ∷ 0 ∷ 12 ∷ []
  pub nine : field_of 1 (pos 9) ≡ 156 ∷ []
  pub minus_nine : field_of 1 (minus 9) ≡ 157 ∷ []
  pub nines : field_of 2 (pos 999) ≡ 153 ∷ 156 ∷ []
  pub million_millions : field_of 7 (pos 1000000000000) ≡ 16 ∷ 0 ∷ 0 ∷ 0 ∷ 0 ∷ 0 ∷ 12 ∷ []
  pub minus_million_millions : field_of 7 (minus 1000000000000) ≡ 16 ∷ 0 ∷ 0 ∷ 0 ∷ 0 ∷ 0 ∷ 13 ∷ []
  pub most : field_of 7 (pos 9999999999999) ≡ 153 ∷ 153 ∷ 153 ∷ 153 ∷ 153 ∷ 153 ∷ 156 ∷ []
  pub behind_stays : field_after (pos 123) 2 (1 ∷ 2 ∷ 3 ∷ 4 ∷ []) ≡ 18 ∷ 60 ∷ 3 ∷ 4 ∷ []
  pub two_bytes : field_written (pos 123) 2 4 ≡ Ok 2
  -- The refusals of writing a field: 23, then 24, then 10, which leave the lent bytes.
  pub no_length : field_written (pos 10) 0 0 ≡ Err PackedForm
  pub length_over : field_written (pos 0) 8 9 ≡ Err PackedForm
  pub ten_in_one : field_written (pos 10) 1 1 ≡ Err PackedDigits
  pub ten_before_room : field_written (pos 10) 1 0 ≡ Err PackedDigits
  pub minus_ten : field_written (minus 10) 1 1 ≡ Err PackedDigits
  pub thousand_in_two : field_written (pos 1000) 2 2 ≡ Err PackedDigits
  pub most_over : field_written (pos 10000000000000) 7 7 ≡ Err PackedDigits
  pub least_number : field_written (minus 9223372036854775808) 7 7 ≡ Err PackedDigits
  pub no_room : field_written (pos 9) 1 0 ≡ Err ShortMemory
  pub room_short : field_written (pos 9) 3 2 ≡ Err ShortMemory
  pub refused_stays : field_after (pos 9) 3 (1 ∷ 2 ∷ []) ≡ 1 ∷ 2 ∷ []
  pub over_stays : field_after (pos 1000) 2 (1 ∷ 2 ∷ 3 ∷ []) ≡ 1 ∷ 2 ∷ 3 ∷ []
  -- Reading a field: the signs, a minus zero, and half bytes that are bad.
  pub read_in_two : field_answer (18 ∷ 60 ∷ []) ≡ Ok (pos 123)
  pub read_minus : field_answer (0 ∷ 0 ∷ 0 ∷ 0 ∷ 18 ∷ 52 ∷ 93 ∷ []) ≡ Ok (minus 12345)
  pub minus_zero : field_answer (13 ∷ []) ≡ Ok (pos 0)
  pub f_zero : field_answer (15 ∷ []) ≡ Ok (pos 0)
  pub f_nine : field_answer (159 ∷ []) ≡ Ok (pos 9)
  pub sign_a : field_answer (10 ∷ []) ≡ Err PackedForm
  pub sign_b : field_answer (11 ∷ []) ≡ Err PackedForm
  pub sign_e : field_answer (14 ∷ []) ≡ Err PackedForm
  pub sign_0 : field_answer (0 ∷ []) ≡ Err PackedForm
  pub digit_a : field_answer (172 ∷ []) ≡ Err PackedForm
  pub digit_f : field_answer (252 ∷ []) ≡ Err PackedForm
  pub both_f : field_answer (255 ∷ []) ≡ Err PackedForm
  pub low_a : field_answer (26 ∷ 60 ∷ []) ≡ Err PackedForm
  pub no_bytes : field_answer [] ≡ Err PackedForm
  pub eight_bytes : field_answer (0 ∷ 0 ∷ 0 ∷ 0 ∷ 0 ∷ 0 ∷ 0 ∷ 12 ∷ []) ≡ Err PackedForm
  -- A record of all three, written and read back; a premium alone, beside values that are not looked at; no field at all.
  pub all_three : record_of 7 (pos 12345) (minus 250) (pos 3) ≡ 7 ∷ (base_bytes ++ (premium_bytes ++ lines_bytes))
  pub all_bytes : record_written 7 (pos 12345) (minus 250) (pos 3) 22 ≡ Ok 22
  pub all_read : record_answer (7 ∷ (base_bytes ++ (premium_bytes ++ lines_bytes))) ≡ Ok (quote_of 7 (pos 12345) (minus 250) (pos 3))
  pub premium_alone : record_written 2 (pos 10000000000000) (minus 250) (minus 10000000000000) 8 ≡ Ok 8
  pub premium_bytes_alone : record_of 2 (pos 10000000000000) (minus 250) (pos 3) ≡ 2 ∷ premium_bytes
  pub premium_read : record_answer (2 ∷ premium_bytes) ≡ Ok (quote_of 2 (pos 0) (minus 250) (pos 0))
  pub no_field : record_of 0 (pos 1) (pos 2) (pos 3) ≡ 0 ∷ []
  pub no_field_read : record_answer (0 ∷ []) ≡ Ok (quote_of 0 (pos 0) (pos 0) (pos 0))
  pub two_fields : record_of 5 (pos 12345) (minus 250) (pos 3) ≡ 5 ∷ (base_bytes ++ lines_bytes)
  pub lines_minus : record_answer (4 ∷ 0 ∷ 0 ∷ 0 ∷ 0 ∷ 0 ∷ 0 ∷ 93 ∷ []) ≡ Ok (quote_of 4 (pos 0) (pos 0) (minus 5))
  pub base_by_f : record_answer (1 ∷ 0 ∷ 0 ∷ 0 ∷ 0 ∷ 0 ∷ 4 ∷ 47 ∷ []) ≡ Ok (quote_of 1 (pos 42) (pos 0) (pos 0))
  pub record_behind_stays : record_after 0 (pos 1) (pos 2) (pos 3) (9 ∷ 8 ∷ []) ≡ 0 ∷ 8 ∷ []
  -- The refusals of a record: 23, 24, then 10 in writing; 23 for a higher bit, a wrong length or a bad half byte in reading.
  pub higher_bit : record_written 8 (pos 1) (pos 2) (pos 3) 30 ≡ Err PackedForm
  pub bit_before_value : record_written 9 (pos 10000000000000) (pos 2) (pos 3) 0 ≡ Err PackedForm
  pub highest_bit : record_written 128 (pos 1) (pos 2) (pos 3) 30 ≡ Err PackedForm
  pub value_before_room : record_written 1 (pos 10000000000000) (pos 2) (pos 3) 0 ≡ Err PackedDigits
  pub third_value : record_written 7 (pos 1) (pos 2) (minus 10000000000000) 22 ≡ Err PackedDigits
  pub room_of_14 : record_written 5 (pos 1) (pos 2) (pos 3) 14 ≡ Err ShortMemory
  pub room_of_15 : record_written 5 (pos 1) (pos 2) (pos 3) 15 ≡ Ok 15
  pub no_record_room : record_written 0 (pos 1) (pos 2) (pos 3) 0 ≡ Err ShortMemory
  pub record_over_stays : record_after 1 (pos 10000000000000) (pos 2) (pos 3) (9 ∷ 8 ∷ []) ≡ 9 ∷ 8 ∷ []
  pub record_refused_stays : record_after 8 (pos 1) (pos 2) (pos 3) (9 ∷ 8 ∷ []) ≡ 9 ∷ 8 ∷ []
  pub read_higher_bit : record_answer (8 ∷ []) ≡ Err PackedForm
  pub surplus_byte : record_answer (0 ∷ 0 ∷ []) ≡ Err PackedForm
  pub missing_byte : record_answer (2 ∷ 0 ∷ 0 ∷ 0 ∷ 0 ∷ 0 ∷ 2 ∷ []) ≡ Err PackedForm
  pub no_record : record_answer [] ≡ Err PackedForm
  pub bad_field : record_answer (5 ∷ (base_bytes ++ (0 ∷ 0 ∷ 0 ∷ 0 ∷ 0 ∷ 0 ∷ 62 ∷ []))) ≡ Err PackedForm

pub points : Points
unfolding all copied nibbles_of bytes_of length_within digits sign_of field_of value_within is_digit is_sign field_good decimal field_value field_answer stands map_within standing part record_of part_within values_within field_refusal record_refusal field_written field_after record_written record_after part_good part_value record_good record_answer
points =
    record {
      form_is_23 = refl;
      digits_are_24 = refl;
      memory_is_10 = refl;
      in_two = refl;
      in_seven = refl;
      zero_in_one = refl;
      zero_in_three = refl;
      nine = refl;
      minus_nine = refl;
      nines = refl;
      million_millions = refl;
      minus_million_millions = refl;
      most = refl;
      behind_stays = refl;
      two_bytes = refl;
      no_length = refl;
      length_over = refl;
      ten_in_one = refl;
      ten_before_room = refl;
      minus_ten = refl;
      thousand_in_two = refl;
      most_over = refl;
      least_number = refl;
      no_room = refl;
      room_short = refl;
      refused_stays = refl;
      over_stays = refl;
      read_in_two = refl;
      read_minus = refl;
      minus_zero = refl;
      f_zero = refl;
      f_nine = refl;
      sign_a = refl;
      sign_b = refl;
      sign_e = refl;
      sign_0 = refl;
      digit_a = refl;
      digit_f = refl;
      both_f = refl;
      low_a = refl;
      no_bytes = refl;
      eight_bytes = refl;
      all_three = refl;
      all_bytes = refl;
      all_read = refl;
      premium_alone = refl;
      premium_bytes_alone = refl;
      premium_read = refl;
      no_field = refl;
      no_field_read = refl;
      two_fields = refl;
      lines_minus = refl;
      base_by_f = refl;
      record_behind_stays = refl;
      higher_bit = refl;
      bit_before_value = refl;
      highest_bit = refl;
      value_before_room = refl;
      third_value = refl;
      room_of_14 = refl;
      room_of_15 = refl;
      no_record_room = refl;
      record_over_stays = refl;
      record_refused_stays = refl;
      read_higher_bit = refl;
      surplus_byte = refl;
      missing_byte = refl;
      no_record = refl;
      bad_field = refl;
    }

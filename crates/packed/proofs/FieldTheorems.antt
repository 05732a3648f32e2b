-- Packed decimal fields, as request K8 states them: how they are written, what is refused, what survives, what is read, and what is written again.
use Prim.Native.Nat.{ℕ, zero, suc, ◌+◌, ◌*◌, ◌-◌, ◌/◌, ◌%◌, ◌^◌, ◌≤◌, ◌<◌}
use mathlib.Core.Bool.{Bool, true, false, cond, ◌||◌, false≢true}
use mathlib.Core.List.{List, [], ◌∷◌, ◌++◌}
use mathlib.Core.Logic.{◌↔◌, ◌⊎◌, inl, inr}
use mathlib.Core.Path.{◌≡◌, refl, sym, ap, ap₂, ◌∙◌}
use native.Mathlib.Nat.{one-le-pow}
use native.Mathlib.Omega.{arith}
use borrow.Author.Tests.{leb-true, le-leb, ltb-true, lt-ltb, eqb-true}
use lib.Dec.{leb, eqb}
use lib.IntN.{ℤ, pos, negsuc, neg_ℤ, nat_abs}
use lib.ListN.{length, get_or, take, drop, set, replicate, replicate-append-replicate, get_or-append}
use lib.Seq.{take_at, drop_at, get_or_at, take_all, get_or-take, set-get_or, length-take-le}
use Rattle.base.specs.Lists.{all, copied}
use Rattle.base.proofs.Bools.{both, either}
use Rattle.base.proofs.Lists.{all_both, all_imply, all_at}
use Rattle.base.proofs.Signed.{size_turned}
use Rattle.packed.specs.Packed.{nibbles_of, bytes_of, length_within, digits_in, digits, sign_of, field_of, value_within, digits_of, sign_in, is_digit, is_sign, field_good, decimal, signed, field_value, field_answer, write_refusal, field_refusal, written_by, left_by, field_written, field_after}
use Rattle.packed.specs.Statement.{last_byte, GoodField, PackedAs, RefusedWhere, WrittenAgain}
use Rattle.std.specs.Prelude.{Result, Ok, Err}
use Rattle.refusals.specs.declared.Refusal.{Refusal}
use Rattle.refusals.specs.declared.Refusal.TheVariants.{PackedForm}
use Rattle.packed.proofs.NibbleLaws.{small, nibbles_of_bytes, length_digits_of, high_at, low_at, digits_split, sign_last, sign_changed}
use Rattle.packed.proofs.DigitLaws.{length_digits, is_digit_lem, digit_most, digits_good, decimal_digits, digits_decimal, digit_at}
use Rattle.packed.proofs.FormLaws.{length_in, length_parts}
use Rattle.packed.proofs.FieldLaws.{packed, nibbles_count, length_packed, length_field, good_parts, field_told, value_small}

surely : {A B : Type 0} → A → B → A ↔ B
surely a b = (λ x. b, λ y. a)

neither : {A B : Type 0} → (A → ⊥) → (B → ⊥) → A ↔ B
neither f g = (λ a. absurd (f a), λ b. absurd (g b))

-- Writing, of a form, of values and of room: each refusal exactly where its test is the first that fails.
pub refused_where : {Form Values Room : Type 0} (form values room : Bool) → (form ≡ true) ↔ Form → (values ≡ true) ↔ Values → (room ≡ true) ↔ Room
    → (bytes : List ℕ) (count : ℕ) → (Form → length bytes ≡ count) → RefusedWhere (written_by (write_refusal form values room) bytes) count Form Values Room
refused_where {Form} {Values} {Room} false values room f v r bytes count long =
    let bad : Form → ⊥ = λ k. false≢true (f.1 k) in
    record {
      bad_form = surely refl bad;
      too_large = neither (λ e. cc) (λ k. bad k.0);
      too_short = neither (λ e. cc) (λ k. bad k.0);
      accepted = neither (λ e. cc) (λ k. bad k.0);
      no_other = λ n e. inl (cc);
    }
refused_where {Form} {Values} {Room} true false room f v r bytes count long =
    let bad : Values → ⊥ = λ k. false≢true (v.1 k) in
    record {
      bad_form = neither (λ e. cc) (λ k. k (f.0 refl));
      too_large = surely refl (f.0 refl, bad);
      too_short = neither (λ e. cc) (λ k. bad k.1);
      accepted = neither (λ e. cc) (λ k. bad k.1);
      no_other = λ n e. inr (inl (cc));
    }
refused_where {Form} {Values} {Room} true true false f v r bytes count long =
    let bad : Room → ⊥ = λ k. false≢true (r.1 k) in
    record {
      bad_form = neither (λ e. cc) (λ k. k (f.0 refl));
      too_large = neither (λ e. cc) (λ k. k.1 (v.0 refl));
      too_short = surely refl (f.0 refl, v.0 refl, bad);
      accepted = neither (λ e. cc) (λ k. bad k.2);
      no_other = λ n e. inr (inr (cc));
    }
refused_where {Form} {Values} {Room} true true true f v r bytes count long =
    record {
      bad_form = neither (λ e. cc) (λ k. k (f.0 refl));
      too_large = neither (λ e. cc) (λ k. k.1 (v.0 refl));
      too_short = neither (λ e. cc) (λ k. k.2 (r.0 refl));
      accepted = surely (ap Ok (long (f.0 refl))) (f.0 refl, v.0 refl, r.0 refl);
      no_other = λ n e. cc;
    }

-- What was written stands in front, and what is lent behind stays.
pub written_whole : (form values room : Bool) (bytes out : List ℕ) (n : ℕ) → (form ≡ true → room ≡ true → length bytes ≤ length out)
    → written_by (write_refusal form values room) bytes ≡ Ok n
    → (form ≡ true) × (values ≡ true)
    × (take n (left_by (write_refusal form values room) bytes out) ≡ bytes)
    × (drop n (left_by (write_refusal form values room) bytes out) ≡ drop n out)
unfolding copied
written_whole false values room bytes out n fits e = cc
written_whole true false room bytes out n fits e = cc
written_whole true true false bytes out n fits e = cc
written_whole true true true bytes out n fits e =
    let count : length bytes ≡ n = cc in
    let placed : copied bytes out ≡ bytes ++ drop n out = ap₂ (λ (x : List ℕ) (k : ℕ). x ++ drop k out) (take_all (length out) bytes (fits refl refl)) count in
    (refl, refl, rw placed (take_at bytes (drop n out) n count), rw placed (drop_at bytes (drop n out) n count))

pub refused_stays : (r : Result (Unit {0}) Refusal) (bytes out : List ℕ) (refusal : Refusal) → written_by r bytes ≡ Err refusal → left_by r bytes out ≡ out
refused_stays (Ok good) bytes out refusal e = cc
refused_stays (Err other) bytes out refusal e = refl

-- the tests, in the request's words
length_is : (bytes : ℕ) → (length_within bytes ≡ true) ↔ ((1 ≤ bytes) × (bytes ≤ 7))
length_is bytes = (length_parts bytes, λ h. length_in bytes h.0 h.1)

pub value_is : (value : ℤ) (bytes : ℕ) → (value_within bytes value ≡ true) ↔ (nat_abs value < 10 ^ digits_in bytes)
unfolding value_within
value_is value bytes = (ltb-true (nat_abs value) (10 ^ digits_in bytes), lt-ltb (nat_abs value) (10 ^ digits_in bytes))

sign_is : (nibble : ℕ) → (is_sign nibble ≡ true) ↔ ((nibble ≡ 12) ⊎ (nibble ≡ 13) ⊎ (nibble ≡ 15))
unfolding is_sign
sign_is nibble = (λ e. outer (either (eqb nibble 12 || eqb nibble 13) (eqb nibble 15) e), back)
  where
    inner : (eqb nibble 12 ≡ true) ⊎ (eqb nibble 13 ≡ true) → (nibble ≡ 12) ⊎ (nibble ≡ 13) ⊎ (nibble ≡ 15)
    inner (inl e) = inl (eqb-true nibble 12 e)
    inner (inr e) = inr (inl (eqb-true nibble 13 e))

    outer : ((eqb nibble 12 || eqb nibble 13) ≡ true) ⊎ (eqb nibble 15 ≡ true) → (nibble ≡ 12) ⊎ (nibble ≡ 13) ⊎ (nibble ≡ 15)
    outer (inl e) = inner (either (eqb nibble 12) (eqb nibble 13) e)
    outer (inr e) = inr (inr (eqb-true nibble 15 e))

    back : (nibble ≡ 12) ⊎ (nibble ≡ 13) ⊎ (nibble ≡ 15) → (eqb nibble 12 || eqb nibble 13 || eqb nibble 15) ≡ true
    back (inl e) = rw e
    back (inr (inl e)) = rw e
    back (inr (inr e)) = rw e

-- What is read from the bytes of a number's digits and a sign.
module _ (bytes n sign : ℕ) (some : 1 ≤ bytes) (good : is_sign sign ≡ true) where
  digit-small : (d : ℕ) → is_digit d ≡ true → small d ≡ true
  digit-small d e = let most = digit_most d e in le-leb d 15 (omega arith)

  sign_small : (sign ≡ 12) ⊎ (sign ≡ 13) ⊎ (sign ≡ 15) → all small (sign ∷ []) ≡ true
  unfolding all
  sign_small (inl e) = rw e
  sign_small (inr (inl e)) = rw e
  sign_small (inr (inr e)) = rw e

  nibbles_packed : nibbles_of (packed bytes n sign) ≡ digits (digits_in bytes) n ++ (sign ∷ [])
  nibbles_packed =
      nibbles_of_bytes bytes (digits (digits_in bytes) n ++ (sign ∷ [])) (nibbles_count bytes n sign some)
      (all_both small (digits (digits_in bytes) n) (sign ∷ [])
      (all_imply is_digit small digit-small (digits (digits_in bytes) n) (digits_good (digits_in bytes) n))
      (sign_small ((sign_is sign).0 good)))

  digits_packed : digits_of (packed bytes n sign) ≡ digits (digits_in bytes) n
  digits_packed =
      ap₂ (λ (k : ℕ) (l : List ℕ). take (digits_in k) l) (length_packed bytes n sign some) nibbles_packed
      ∙ take_at (digits (digits_in bytes) n) (sign ∷ []) (digits_in bytes) (length_digits (digits_in bytes) n)

  sign_packed : sign_in (packed bytes n sign) ≡ sign
  sign_packed =
      ap₂ (λ (k : ℕ) (l : List ℕ). get_or l (digits_in k) 0) (length_packed bytes n sign some) nibbles_packed
      ∙ get_or_at (digits (digits_in bytes) n) sign [] 0 (digits_in bytes) (length_digits (digits_in bytes) n)

  good_packed : bytes ≤ 7 → field_good (packed bytes n sign) ≡ true
  unfolding field_good
  good_packed few =
      rw (sign_packed, digits_packed, length_packed bytes n sign some)
      (both (both ((length_is bytes).1 (some, few)) (digits_good (digits_in bytes) n)) good)

  read_packed : bytes ≤ 7 → n < 10 ^ digits_in bytes → field_answer (packed bytes n sign) ≡ Ok (signed sign n)
  unfolding field_answer field_value
  read_packed few h = rw (good_packed few, sign_packed, digits_packed, decimal_digits (digits_in bytes) n h)

-- Written fields are such bytes: their sign, and what is read from them.
sign_good : (value : ℤ) → is_sign (sign_of value) ≡ true
unfolding is_sign sign_of
sign_good (pos n) = refl
sign_good (negsuc n) = refl

signed_back : (value : ℤ) → signed (sign_of value) (nat_abs value) ≡ value
unfolding sign_of
signed_back (pos n) = refl
signed_back (negsuc n) = refl

pub field_read_back : (value : ℤ) (bytes : ℕ) → length_within bytes ≡ true → value_within bytes value ≡ true → field_answer (field_of bytes value) ≡ Ok value
unfolding field_of
field_read_back value bytes form within =
    let h = (length_is bytes).0 form in
    read_packed bytes (nat_abs value) (sign_of value) h.0 (sign_good value) h.1 ((value_is value bytes).0 within) ∙ ap Ok (signed_back value)

-- 23 for a length of 0 or over 7, then 24 for a value over the field's digits, then 10 for too few lent bytes.
pub field_numbers : (value : ℤ) (bytes room : ℕ)
    → RefusedWhere (field_written value bytes room) bytes ((1 ≤ bytes) × (bytes ≤ 7)) (nat_abs value < 10 ^ (2 * bytes - 1)) (bytes ≤ room)
unfolding field_written field_refusal
field_numbers value bytes room =
    refused_where (length_within bytes) (value_within bytes value) (leb bytes room) (length_is bytes) (value_is value bytes) (leb-true bytes room, le-leb bytes room)
    (field_of bytes value) bytes (λ h. length_field bytes value h.0)

module _ (value : ℤ) (bytes : ℕ) (out : List ℕ) where
  whole : (n : ℕ) → field_written value bytes (length out) ≡ Ok n
      → (length_within bytes ≡ true) × (value_within bytes value ≡ true) × (take n (field_after value bytes out) ≡ field_of bytes value) × (drop n (field_after value bytes out) ≡ drop n out)
  unfolding field_written field_after field_refusal
  whole n e =
      written_whole (length_within bytes) (value_within bytes value) (leb bytes (length out)) (field_of bytes value) out n
      (λ form room. omega (arith, length_field bytes value ((length_is bytes).0 form).0, leb-true bytes (length out) room)) e

  -- What is written stands in front, and what is lent behind it stays.
  pub field_behind : (n : ℕ) → field_written value bytes (length out) ≡ Ok n → (take n (field_after value bytes out) ≡ field_of bytes value) × (drop n (field_after value bytes out) ≡ drop n out)
  field_behind n e = ((whole n e).2, (whole n e).3)

  -- A refusal writes nothing.
  pub field_stays : (refusal : Refusal) → field_written value bytes (length out) ≡ Err refusal → field_after value bytes out ≡ out
  unfolding field_written field_after
  field_stays refusal e = refused_stays (field_refusal value bytes (length out)) (field_of bytes value) out refusal e

-- Every value within its field's digits survives writing and reading.
pub field_survives : (value : ℤ) (bytes : ℕ) (out : List ℕ) → 1 ≤ bytes → bytes ≤ 7 → nat_abs value < 10 ^ (2 * bytes - 1) → bytes ≤ length out
    → (field_written value bytes (length out) ≡ Ok bytes) × (field_answer (take bytes (field_after value bytes out)) ≡ Ok value)
field_survives value bytes out some few digits-fit room =
    let wrote = (field_numbers value bytes (length out)).accepted.1 ((some, few), digits-fit, room) in
    let stored = whole value bytes out bytes wrote in
    (wrote, rw stored.2 (field_read_back value bytes stored.0 stored.1))

nibbles_good : (xs : List ℕ) → ((i : ℕ) → i < length xs → (get_or xs i 0 / 16 ≤ 9) × (get_or xs i 0 % 16 ≤ 9)) → all is_digit (nibbles_of xs) ≡ true
unfolding nibbles_of all
nibbles_good [] each = refl
nibbles_good (x ∷ xs) each =
    let here = each 0 (omega arith) in
    both (is_digit_lem (x / 16) here.0) (both (is_digit_lem (x % 16) here.1) (nibbles_good xs (λ i h. each (suc i) (omega arith))))

module _ (bytes : List ℕ) where
  nibble-most : all is_digit (digits_of bytes) ≡ true → (k : ℕ) → k < digits_in (length bytes) → get_or (nibbles_of bytes) k 0 ≤ 9
  nibble-most e k h =
      let shown = get_or-take (digits_in (length bytes)) (nibbles_of bytes) k 0 h in
      digit_most (get_or (nibbles_of bytes) k 0) (rw shown at (all_at is_digit (digits_of bytes) 0 e k (omega (arith, length_digits_of bytes))))

  pub good_is : (field_good bytes ≡ true) ↔ GoodField bytes
  unfolding field_good all
  good_is = (told, tested)
    where
      told : field_good bytes ≡ true → GoodField bytes
      told e =
          let parts = good_parts bytes e in
          let long = (length_is (length bytes)).0 parts.0 in
          record {
            some_bytes = long.0;
            few_bytes = long.1;
            high_digits = λ i h. rw high_at at (nibble-most parts.1 (2 * i) (omega arith));
            low_digits = λ i h. rw low_at at (nibble-most parts.1 (2 * i + 1) (omega arith));
            sign = rw (sign_last bytes long.0) at ((sign_is (sign_in bytes)).0 parts.2);
          }

      front : List ℕ
      front = take (length bytes - 1) bytes

      tested : GoodField bytes → field_good bytes ≡ true
      tested good =
          let shorter : length front ≡ length bytes - 1 = length-take-le (length bytes - 1) bytes (omega arith) in
          let last_digit : all is_digit (last_byte bytes / 16 ∷ []) ≡ true = rw (is_digit_lem (last_byte bytes / 16) (good.high_digits (length bytes - 1) (omega arith))) in
          rw (sign_last bytes good.some_bytes, digits_split bytes good.some_bytes)
          (both
          (both ((length_is (length bytes)).1 (good.some_bytes, good.few_bytes))
          (all_both is_digit (nibbles_of front) (last_byte bytes / 16 ∷ [])
          (nibbles_good front
          (λ i h. let is = get_or-take (length bytes - 1) bytes i 0 (omega arith) in rw is (good.high_digits i (omega arith), good.low_digits i (omega arith))))
          last_digit))
          ((sign_is (last_byte bytes % 16)).1 good.sign))

  -- Read exactly if 1 to 7 bytes, all half bytes but the last digits, the last C, D or F.
  pub field_exactly : ((v : ℤ) × (field_answer bytes ≡ Ok v)) ↔ GoodField bytes
  unfolding field_answer
  field_exactly = (λ r. good_is.0 (field_told bytes r.0 r.1).0, λ good. (field_value bytes, rw (good_is.1 good)))

  -- 23 is the only refusal in reading.
  pub field_only_23 : (refusal : Refusal) → field_answer bytes ≡ Err refusal → refusal ≡ PackedForm
  unfolding field_answer
  field_only_23 refusal e = go (field_good bytes) e
    where
      go : (t : Bool) → cond t (Ok (field_value bytes)) (Err PackedForm) ≡ Err refusal → refusal ≡ PackedForm
      go true q = cc
      go false q = cc

-- the sign that is written, by the value
sign_from_zero : (v : ℤ) → v ≡ pos (nat_abs v) → sign_of v ≡ 12
unfolding sign_of
sign_from_zero (pos n) e = refl
sign_from_zero (negsuc n) e = let z : ◌≡◌ {A = ℕ} 0 1 = cc in absurd (omega arith)

sign_below : (v : ℤ) → (v ≡ pos (nat_abs v) → ⊥) → sign_of v ≡ 13
unfolding sign_of
sign_below (pos n) e = absurd (e refl)
sign_below (negsuc n) e = refl

minus_sign : (v : ℤ) (n : ℕ) → v ≡ neg_ℤ (pos n) → (v ≡ pos 0 → ⊥) → sign_of v ≡ 13
unfolding sign_of
minus_sign v zero e h = absurd (h e)
minus_sign v (suc n) e h = rw e

-- what is read, written again
pub again_is : (bytes : List ℕ) (v : ℤ) → field_answer bytes ≡ Ok v → (nat_abs v < 10 ^ digits_in (length bytes)) × GoodField bytes × WrittenAgain bytes (field_of (length bytes) v) v
unfolding field_value field_of sign_of
again_is bytes v e = (below, good, record { same = same; turned = turned })
  where
    told : (field_good bytes ≡ true) × (field_value bytes ≡ v)
    told = field_told bytes v e

    good : GoodField bytes
    good = (good_is bytes).0 told.0

    all_digits : all is_digit (digits_of bytes) ≡ true
    all_digits = (good_parts bytes told.0).1

    size : nat_abs v ≡ decimal 0 (digits_of bytes)
    size = ap nat_abs (sym told.1) ∙ size_turned (eqb (sign_in bytes) 13) (decimal 0 (digits_of bytes))

    value : v ≡ signed (last_byte bytes % 16) (decimal 0 (digits_of bytes))
    value = sym told.1 ∙ rw (sign_last bytes good.some_bytes)

    below : nat_abs v < 10 ^ digits_in (length bytes)
    below = rw (← told.1) (value_small bytes told.0)

    changed : field_of (length bytes) v ≡ set bytes (length bytes - 1) (16 * (last_byte bytes / 16) + sign_of v)
    changed =
        ap (λ (l : List ℕ). bytes_of (l ++ (sign_of v ∷ [])))
        (ap (digits (digits_in (length bytes))) size ∙ digits_decimal (digits_in (length bytes)) (digits_of bytes) (length_digits_of bytes) all_digits)
        ∙ sign_changed bytes good.some_bytes (sign_of v)

    kept : sign_of v ≡ last_byte bytes % 16 → field_of (length bytes) v ≡ bytes
    kept is =
        let whole : 16 * (last_byte bytes / 16) + sign_of v ≡ last_byte bytes = omega arith in
        changed ∙ rw whole (set-get_or bytes (length bytes - 1) 0)

    plus-now : sign_of v ≡ 12 → field_of (length bytes) v ≡ set bytes (length bytes - 1) (16 * (last_byte bytes / 16) + 12)
    plus-now is = changed ∙ rw is

    same : (last_byte bytes % 16 ≡ 12) ⊎ ((last_byte bytes % 16 ≡ 13) × (v ≡ pos 0 → ⊥)) → field_of (length bytes) v ≡ bytes
    same (inl h) = kept (rw (value, h))
    same (inr h) = kept (minus_sign v (decimal 0 (digits_of bytes)) (value ∙ rw h.0) h.1 ∙ sym h.0)

    turned : (last_byte bytes % 16 ≡ 15) ⊎ ((last_byte bytes % 16 ≡ 13) × (v ≡ pos 0)) → field_of (length bytes) v ≡ set bytes (length bytes - 1) (16 * (last_byte bytes / 16) + 12)
    turned (inl h) = plus-now (rw (value, h))
    turned (inr h) = plus-now (rw h.1)

-- A field that was read and is written again: as long, and the same bytes but for the sign F and that of a minus zero.
pub field_again : (bytes : List ℕ) (v : ℤ) → field_answer bytes ≡ Ok v → (out : List ℕ) → length bytes ≤ length out
    → (field_written v (length bytes) (length out) ≡ Ok (length bytes)) × WrittenAgain bytes (take (length bytes) (field_after v (length bytes) out)) v
field_again bytes v e out room =
    let again = again_is bytes v e in
    let good = again.1 in
    let wrote = (field_numbers v (length bytes) (length out)).accepted.1 ((good.some_bytes, good.few_bytes), again.0, room) in
    (wrote, rw (field_behind v (length bytes) out (length bytes) wrote).0 again.2)

-- A written field is good.
pub written_good : (value : ℤ) (bytes : ℕ) → 1 ≤ bytes → bytes ≤ 7 → GoodField (field_of bytes value)
unfolding field_of
written_good value bytes some few =
    (good_is (packed bytes (nat_abs value) (sign_of value))).0 (good_packed bytes (nat_abs value) (sign_of value) some (sign_good value) few)

digit_placed : (value : ℤ) (bytes k : ℕ) → k < digits_in bytes → get_or (nibbles_of (field_of bytes value)) k 0 ≡ nat_abs value / 10 ^ (digits_in bytes - 1 - k) % 10
unfolding field_of
digit_placed value bytes k h =
    rw (nibbles_packed bytes (nat_abs value) (sign_of value) (omega arith) (sign_good value))
    (get_or-append (digits (digits_in bytes) (nat_abs value)) (sign_of value ∷ []) 0 k (omega (arith, length_digits (digits_in bytes) (nat_abs value)))
    ∙ digit_at (digits_in bytes) (nat_abs value) k h)

-- Two digits a byte, the highest first and in the high half; the sign is C from zero on and D below, so that F is never written.
pub written_as : (value : ℤ) (bytes : ℕ) → 1 ≤ bytes → PackedAs bytes value (field_of bytes value)
unfolding field_of
written_as value bytes some =
    record {
      so_many = length_field bytes value some;
      high_halves = λ i h.
          let place : 2 * bytes - 2 - 2 * i ≡ digits_in bytes - 1 - 2 * i = omega arith in
          rw place (sym (high_at (field_of bytes value) i) ∙ digit_placed value bytes (2 * i) (omega arith));
      low_halves = λ i h.
          let place : 2 * bytes - 3 - 2 * i ≡ digits_in bytes - 1 - (2 * i + 1) = omega arith in
          rw place (sym (low_at (field_of bytes value) i) ∙ digit_placed value bytes (2 * i + 1) (omega arith));
      plus = λ e. sign ∙ sign_from_zero value e;
      minus = λ e. sign ∙ sign_below value e;
    }
  where
    sign : last_byte (field_of bytes value) % 16 ≡ sign_of value
    sign =
        let long = length_field bytes value some in
        sym (sign_last (field_of bytes value) (omega arith)) ∙ sign_packed bytes (nat_abs value) (sign_of value) some (sign_good value)

-- zero's digits with any sign
zeros : (bytes sign : ℕ) → 1 ≤ bytes → packed bytes 0 sign ≡ replicate (bytes - 1) 0 ++ (sign ∷ [])
unfolding digits bytes_of
zeros bytes sign some =
    let odd : digits_in bytes ≡ suc (2 * (bytes - 1)) = omega arith in
    rw (odd, noughts (suc (2 * (bytes - 1)))) (halved (bytes - 1))
  where
    noughts : (places : ℕ) → digits places 0 ≡ replicate places 0
    noughts zero = refl
    noughts (suc places) =
        let one_more_lem : places + 1 ≡ suc places = omega arith in
        ap (λ (l : List ℕ). l ++ (0 ∷ [])) (noughts places) ∙ replicate-append-replicate places 1 0 ∙ ap (λ (n : ℕ). replicate n 0) one_more_lem

    halved : (n : ℕ) → bytes_of (replicate (suc (2 * n)) 0 ++ (sign ∷ [])) ≡ replicate n 0 ++ (sign ∷ [])
    halved zero = let alone : 16 * 0 + sign ≡ sign = omega arith in rw alone
    halved (suc n) =
        let two-more : 2 * suc n ≡ suc (suc (2 * n)) = omega arith in
        rw two-more (ap (λ (l : List ℕ). 0 ∷ l) (halved n))

-- Zero is written with C.
pub zero_written : (bytes : ℕ) → 1 ≤ bytes → field_of bytes (pos 0) ≡ replicate (bytes - 1) 0 ++ (12 ∷ [])
unfolding field_of sign_of
zero_written bytes some = zeros bytes 12 some

-- A minus zero is read as zero.
pub minus_zero : (n : ℕ) → n ≤ 6 → field_answer (replicate n 0 ++ (13 ∷ [])) ≡ Ok (pos 0)
unfolding is_sign
minus_zero n h =
    let one_less : suc n - 1 ≡ n = omega arith in
    ap field_answer (sym (rw one_less at (zeros (suc n) 13 (omega arith))))
    ∙ read_packed (suc n) 0 13 (omega arith) refl (omega arith) (one-le-pow (digits_in (suc n)) 10 (omega arith))

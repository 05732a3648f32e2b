-- How long a written field is, and over which bytes it is put; what reading one answers, by its leading digits and its last byte, and what that tells.
use Prim.Native.Nat.{ℕ, ◌+◌, ◌*◌, ◌-◌, ◌/◌, ◌%◌, ◌^◌, ◌≤◌, ◌<◌}
use mathlib.Core.Bool.{Bool, true, false, cond, ◌&&◌}
use mathlib.Core.Path.{◌≡◌, refl, sym, ap, ap₂, subst, ◌∙◌}
use mathlib.Core.List.{List, [], ◌∷◌, ◌++◌}
use native.Mathlib.Nat.{pow-le-pow_right}
use native.Mathlib.Omega.{arith}
use lib.Dec.{eqb}
use lib.IntN.{ℤ, nat_abs}
use lib.ListN.{length, get_or, take, drop}
use lib.Seq.{length-take-le, take_all, take_at, get_or_at}
use Rattle.base.specs.Lists.{all, copied}
use Rattle.base.proofs.Bools.{and_parts}
use Rattle.base.proofs.Lists.{all_more, length_more}
use Rattle.base.proofs.Signed.{size_turned}
use Rattle.packed.specs.Packed.{bytes_of, minus, length_within, digits_in, digits, sign_of, field_of, is_digit, is_sign, decimal, signed, digits_of, sign_in, field_good, field_value, field_answer, max_bytes, field_refusal, field_written, field_after}
use Rattle.packed.specs.Statement.{last_byte}
use Rattle.packed.specs.Inner.Reading.{number_in, closed_by}
use Rattle.std.specs.Prelude.{Option, Some, None, Result, Ok, Err}
use Rattle.refusals.specs.declared.Refusal.{Refusal}
use Rattle.refusals.specs.declared.Refusal.TheVariants.{PackedForm}
use Rattle.packed.proofs.NibbleLaws.{leading_nibbles, length_nibbles, length_bytes, length_digits_of, digits_split, sign_last}
use Rattle.packed.proofs.DigitLaws.{length_digits, decimal_more, decimal_below}
use Rattle.packed.proofs.FormLaws.{length_parts, field_unrefused, refused_so, written_so}

-- bytes of a number's digits and any sign
abbrev pub packed : ℕ → ℕ → ℕ → List ℕ
packed bytes n sign = bytes_of (digits (digits_in bytes) n ++ (sign ∷ []))

module _ (bytes n sign : ℕ) (some : 1 ≤ bytes) where
  pub nibbles_count : length (digits (digits_in bytes) n ++ (sign ∷ [])) ≡ 2 * bytes
  nibbles_count = length_more (digits (digits_in bytes) n) sign ∙ rw (length_digits (digits_in bytes) n) (omega arith)

  pub length_packed : length (packed bytes n sign) ≡ bytes
  length_packed = length_bytes bytes (digits (digits_in bytes) n ++ (sign ∷ [])) nibbles_count

pub length_field : (bytes : ℕ) (value : ℤ) → 1 ≤ bytes → length (field_of bytes value) ≡ bytes
unfolding field_of
length_field bytes value some = length_packed bytes (nat_abs value) (sign_of value) some

-- a field that is put over the front bytes
pub field_front : (bytes : ℕ) (value : ℤ) {v : ℤ} → v ≡ value → (out : List ℕ) {field : List ℕ} → 1 ≤ bytes → bytes ≤ length out → field ≡ field_of (length (take bytes out)) v
    → field ++ drop bytes out ≡ copied (field_of bytes value) out
unfolding copied
field_front bytes value ev out h room is =
    let long : length (field_of bytes value) ≡ bytes = length_field bytes value h in
    ap (λ (l : List ℕ). l ++ drop bytes out) (is ∙ ap₂ field_of (length-take-le bytes out room) ev)
    ∙ sym (ap₂ (λ (l : List ℕ) (n : ℕ). l ++ drop n out) (take_all (length out) (field_of bytes value) (omega arith)) long)

-- What writing a value answers and leaves, as the code comes to it: by a refusal of the machine's number `v`.
module _ (value v : ℤ) (same : v ≡ value) (bytes : ℕ) (out : List ℕ) (r : Result (Unit {0}) Refusal) (told : r ≡ field_refusal v bytes (length out)) where
  is : r ≡ field_refusal value bytes (length out)
  is = told ∙ ap (λ (x : ℤ). field_refusal x bytes (length out)) same

  pub field_refused : (refusal : Refusal) → r ≡ Err refusal → (Err refusal ≡ field_written value bytes (length out)) × (out ≡ field_after value bytes out)
  unfolding field_written field_after
  field_refused refusal e = refused_so (field_of bytes value) out refusal (field_refusal value bytes (length out)) (sym is ∙ e)

  pub field_fits : r ≡ Ok tt → (1 ≤ bytes) × (bytes ≤ max_bytes) × (bytes ≤ length out)
  field_fits e = field_unrefused value bytes (length out) (sym is ∙ e)

  pub field_done : (field : List ℕ) → r ≡ Ok tt → field ≡ field_of (length (take bytes out)) v → (Ok bytes ≡ field_written value bytes (length out)) × (field ++ drop bytes out ≡ field_after value bytes out)
  unfolding field_written field_after
  field_done field e put =
      let fits = field_fits e in
      written_so (field_of bytes value) out bytes (field_refusal value bytes (length out)) (field ++ drop bytes out) (sym is ∙ e) (sym (length_field bytes value fits.0))
      (field_front bytes value same out fits.0 fits.2 put)

pub unread : (bytes : List ℕ) → length_within (length bytes) ≡ false → Err PackedForm ≡ field_answer bytes
unfolding field_answer field_good
unread bytes e = rw e

-- a field of 1 to 7 bytes, by its parts
module _ (bytes : List ℕ) (within : length_within (length bytes) ≡ true) where
  abbrev some : 1 ≤ length bytes
  some = (length_parts (length bytes) within).0

  abbrev leads : List ℕ
  leads = leading_nibbles bytes

  abbrev last : ℕ
  last = last_byte bytes

  good_split : field_good bytes ≡ ((all is_digit leads && is_digit (last / 16)) && is_sign (last % 16))
  unfolding field_good
  good_split = rw (within, digits_split bytes some, sign_last bytes some, all_more is_digit leads (last / 16))

  value_split : field_value bytes ≡ signed (last % 16) (10 * decimal 0 leads + last / 16)
  unfolding field_value
  value_split = rw (digits_split bytes some, sign_last bytes some, decimal_more 0 leads (last / 16))

  answer_split : field_answer bytes ≡ cond (all is_digit leads) (closed_by (decimal 0 leads) last) (Err PackedForm)
  unfolding field_answer closed_by
  answer_split = rw (good_split, value_split) (parted (all is_digit leads) (is_digit (last / 16)) (is_sign (last % 16)) (Ok (signed (last % 16) (10 * decimal 0 leads + last / 16))))
    where
      parted : (a d s : Bool) (v : Result ℤ Refusal) → cond ((a && d) && s) v (Err PackedForm) ≡ cond a (cond (d && s) v (Err PackedForm)) (Err PackedForm)
      parted true d s v = refl
      parted false d s v = refl

  -- as the code comes to it: by the last byte, and by what the bytes before it write, if their nibbles are digits
  module _ (end : ℕ) (front : List ℕ) (split : (bytes ≡ front ++ (end ∷ [])) × (length front + 1 ≡ length bytes)) where
    front-is : take (length bytes - 1) bytes ≡ front
    front-is =
        let size : length front ≡ length bytes - 1 = omega (arith, split.1) in
        ap (λ (l : List ℕ). take (length bytes - 1) l) split.0 ∙ take_at front (end ∷ []) (length bytes - 1) size

    last-is : last ≡ end
    last-is =
        let size : length bytes - 1 ≡ length front = omega (arith, split.1) in
        ap₂ (λ (l : List ℕ) (i : ℕ). get_or l i 0) split.0 size ∙ get_or_at front end [] 0 (length front) refl

    module _ (found : Option ℕ) (is : found ≡ number_in front) where
      led : (b : Bool) → all is_digit leads ≡ b → found ≡ cond b (Some (decimal 0 leads)) None
      unfolding number_in
      led b q = is ∙ ap number_in (sym front-is) ∙ ap (λ (t : Bool). cond t (Some (decimal 0 leads)) None) q

      pub read_bad : found ≡ None → Err PackedForm ≡ field_answer bytes
      read_bad none = go (all is_digit leads) refl
        where
          go : (b : Bool) → all is_digit leads ≡ b → Err PackedForm ≡ field_answer bytes
          go true q = let z : Some (decimal 0 leads) ≡ None = sym (led true q) ∙ none in cc
          go false q = sym (answer_split ∙ ap (λ (t : Bool). cond t (closed_by (decimal 0 leads) last) (Err PackedForm)) q)

      pub read_number : (n : ℕ) → found ≡ Some n → (n ≡ decimal 0 leads) × (all is_digit leads ≡ true)
      read_number n some = go (all is_digit leads) refl
        where
          go : (b : Bool) → all is_digit leads ≡ b → (n ≡ decimal 0 leads) × (all is_digit leads ≡ true)
          go true q = let z : Some n ≡ Some (decimal 0 leads) = sym some ∙ led true q in ((cc), q)
          go false q = let z : Some n ≡ None = sym some ∙ led false q in cc

      pub number_small : (n : ℕ) → found ≡ Some n → n < 1000000000000
      number_small n e =
          let few : length leads ≤ 12
          = omega (arith, length_nibbles (take (length bytes - 1) bytes), length-take-le (length bytes - 1) bytes (omega arith), (length_parts (length bytes) within).1) in
          let most : 10 ^ length leads ≤ 10 ^ 12 = pow-le-pow_right {n = 10} (omega arith) {i = length leads} {j = 12} few in
          omega (arith, decimal_below leads (read_number n e).1, (read_number n e).0)

      pub read_closed : (n : ℕ) → found ≡ Some n → closed_by n end ≡ field_answer bytes
      read_closed n e =
          ap₂ closed_by (read_number n e).0 (sym last-is)
          ∙ sym (answer_split ∙ ap (λ (t : Bool). cond t (closed_by (decimal 0 leads) last) (Err PackedForm)) (read_number n e).1)

-- a good field by its tests, and what an answer tells
module _ (bytes : List ℕ) where
  pub good_parts : field_good bytes ≡ true → (length_within (length bytes) ≡ true) × (all is_digit (digits_of bytes) ≡ true) × (is_sign (sign_in bytes) ≡ true)
  unfolding field_good
  good_parts e =
      let outer = and_parts (length_within (length bytes) && all is_digit (digits_of bytes)) (is_sign (sign_in bytes)) e in
      let inner = and_parts (length_within (length bytes)) (all is_digit (digits_of bytes)) outer.0 in
      (inner.0, inner.1, outer.1)

  pub field_told : (v : ℤ) → field_answer bytes ≡ Ok v → (field_good bytes ≡ true) × (field_value bytes ≡ v)
  unfolding field_answer
  field_told v e = go (field_good bytes) refl e
    where
      go : (t : Bool) → field_good bytes ≡ t → cond t (Ok (field_value bytes)) (Err PackedForm) ≡ Ok v → (field_good bytes ≡ true) × (field_value bytes ≡ v)
      go true p q = (p, cc)
      go false p q = cc

  -- a value that is read is within the digits of its field
  pub value_small : field_good bytes ≡ true → nat_abs (field_value bytes) < 10 ^ digits_in (length bytes)
  unfolding field_value
  value_small good =
      let most = decimal_below (digits_of bytes) (good_parts good).1 in
      rw (size_turned (eqb (sign_in bytes) minus) (decimal 0 (digits_of bytes)))
      (subst (λ (n : ℕ). decimal 0 (digits_of bytes) < 10 ^ n) (length_digits_of bytes) most)

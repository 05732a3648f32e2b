-- A field as it is read: the bytes before its last one, byte by byte.
use Prim.Native.Nat.{ℕ, ◌+◌, ◌*◌, ◌/◌, ◌%◌, ◌^◌, ◌≤◌, ◌<◌}
use mathlib.Core.Bool.{true, false}
use mathlib.Core.Path.{◌≡◌, refl, sym, ap, ◌∙◌}
use mathlib.Core.Logic.{◌⊎◌, inl, inr}
use mathlib.Core.List.{List, [], ◌∷◌, ◌++◌, append_assoc}
use native.Mathlib.Nat.{pow-le-pow_right}
use native.Mathlib.Numerals.{add-one}
use native.Mathlib.Omega.{arith}
use lib.ListN.{length, get_or, take}
use lib.Seq.{take-suc, take_all, length-take-le}
use Rattle.base.specs.Lists.{all}
use Rattle.base.proofs.Bools.{refuted}
use Rattle.base.proofs.Lists.{all_at, all_both}
use Rattle.std.specs.Prelude.{Some, None}
use Rattle.packed.specs.Packed.{nibbles_of, is_digit, decimal}
use Rattle.packed.specs.Inner.Reading.{number_in}
use Rattle.packed.proofs.NibbleLaws.{nibbles_append, length_nibbles, high_at, low_at}
use Rattle.packed.proofs.DigitLaws.{is_digit_lem, digit_most, decimal_more, decimal_below}

-- all nibbles before a place are digits, and write a number
pub record ReadBefore (bytes : List ℕ) (number at : ℕ) : Type 0 where
  pub good : all is_digit (nibbles_of (take at bytes)) ≡ true
  pub is : number ≡ decimal 0 (nibbles_of (take at bytes))

pub read_none : (bytes : List ℕ) → ReadBefore bytes 0 0
unfolding nibbles_of all decimal
read_none bytes = record { good = refl; is = refl }

module _ (bytes : List ℕ) (number at : ℕ) (r : ReadBefore bytes number at) where
  abbrev before : List ℕ
  before = nibbles_of (take at bytes)

  pub read_all : length bytes ≤ at → Some number ≡ number_in bytes
  unfolding number_in
  read_all h =
      let whole : take at bytes ≡ bytes = take_all at bytes h in
      let good : all is_digit (nibbles_of bytes) ≡ true = rw whole at r.good in
      rw good (ap Some (r.is ∙ ap (λ (l : List ℕ). decimal 0 (nibbles_of l)) whole))

  -- the byte at the place
  module _ (h : at < length bytes) where
    abbrev byte : ℕ
    byte = get_or bytes at 0

    -- a number of at most 12 digits
    pub read_small : length bytes ≤ 6 → number < 1000000000000
    read_small few_bytes =
        let few : length before ≤ 12 = omega (arith, length_nibbles (take at bytes), length-take-le at bytes (omega arith)) in
        let most : 10 ^ length before ≤ 10 ^ 12 = pow-le-pow_right {n = 10} (omega arith) {i = length before} {j = 12} few in
        omega (arith, decimal_below before r.good, r.is)

    nibbles-more : nibbles_of (take (at + 1) bytes) ≡ before ++ (byte / 16 ∷ byte % 16 ∷ [])
    unfolding nibbles_of
    nibbles-more = rw (add-one at, take-suc bytes at 0 h) (nibbles_append (take at bytes) (byte ∷ []))

    pub read_more : byte / 16 ≤ 9 → byte % 16 ≤ 9 → ReadBefore bytes (100 * number + 10 * (byte / 16) + byte % 16) (at + 1)
    unfolding all
    read_more high low =
        record {
          good =
              ap (all is_digit) nibbles-more
              ∙ all_both is_digit before (byte / 16 ∷ byte % 16 ∷ []) r.good (rw (is_digit_lem (byte / 16) high, is_digit_lem (byte % 16) low));
          is =
              let two : decimal 0 (before ++ (byte / 16 ∷ byte % 16 ∷ [])) ≡ 10 * (10 * decimal 0 before + byte / 16) + byte % 16
              = ap (decimal 0) (sym (append_assoc before (byte / 16 ∷ []) (byte % 16 ∷ [])))
              ∙ decimal_more 0 (before ++ (byte / 16 ∷ [])) (byte % 16) ∙ ap (λ (n : ℕ). 10 * n + byte % 16) (decimal_more 0 before (byte / 16)) in
              omega (arith, r.is, two, ap (decimal 0) nibbles-more);
        }

    -- a nibble that is no digit
    bad : (i : ℕ) → i < length (nibbles_of bytes) → 9 < get_or (nibbles_of bytes) i 0 → None ≡ number_in bytes
    unfolding number_in
    bad i h k =
        let no : all is_digit (nibbles_of bytes) ≡ false
        = refuted _ (λ (e : all is_digit (nibbles_of bytes) ≡ true). let most : get_or (nibbles_of bytes) i 0 ≤ 9 = digit_most _ (all_at is_digit (nibbles_of bytes) 0 e i h) in omega arith) in
        rw no

    pub read_other : (9 < byte / 16) ⊎ (9 < byte % 16) → None ≡ number_in bytes
    read_other (inl k) = bad (2 * at) (omega (arith, length_nibbles bytes)) (rw (high_at bytes at) k)
    read_other (inr k) = bad (2 * at + 1) (omega (arith, length_nibbles bytes)) (rw (low_at bytes at) k)

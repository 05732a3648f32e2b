-- The digits of a word as the loop over its bytes meets them, and the token of a word by its first byte.
use Prim.Native.Nat.{ℕ, suc, ◌+◌, ◌*◌, ◌-◌, ◌^◌, ◌≤◌, ◌<◌}
use mathlib.Core.Path.{◌≡◌, refl, ap, sym, ◌∙◌}
use mathlib.Core.Bool.{Bool, true, false, cond}
use mathlib.Core.List.{List, [], ◌∷◌}
use native.Mathlib.Nat.{pow-le-pow_right}
use native.Mathlib.Numerals.{add-one}
use native.Mathlib.Omega.{arith}
use borrow.Author.Tests.{le-leb, eq-eqb, ne_eqb}
use lib.Dec.{eqb}
use lib.ListN.{length, get_or, take, drop, length-drop, drop_of_length-le}
use lib.Seq.{drop-cons, take_all}
use Rattle.std.specs.List.{take_while}
use Rattle.std.specs.Prelude.{not}
use Rattle.std.proofs.lemmas.List.Sums.{take_while-cons}
use Rattle.base.specs.Lists.{until, all}
use Rattle.base.proofs.Until.{until_none, until_stop, until_more}
use Rattle.book.specs.Text.{Token, decimal, is_digit, unsigned, literal, close, invalid, negative_token, unsigned_token, token_of}
use Rattle.book.specs.Answer.{digits_of}
use Rattle.book.specs.Formula.{positive, negative}
use Rattle.std.specs.Prelude.{Option, Some, None}
use Rattle.book.proofs.DecimalLaws.{digit_true, digit_false, unsigned_false}

-- Up to i no byte from `at` on passes the test.
pub record Running (stop : ℕ → Bool) (text : List ℕ) (at i : ℕ) : Type 0 where
  pub ahead : at ≤ i
  pub within : i ≤ length text
  pub same_end : i + length (until stop (drop i text)) ≡ at + length (until stop (drop at text))

module _ {stop : ℕ → Bool} {text : List ℕ} {at i : ℕ} (r : Running stop text at i) where
  pub running_step : i < length text → stop (get_or text i 0) ≡ false → Running stop text at (i + 1)
  running_step h e =
      let more : length (until stop (drop i text)) ≡ suc (length (until stop (drop (suc i) text))) = ap (λ (xs : List ℕ). length (until stop xs)) (drop-cons text i 0 h) ∙ ap length (until_more stop (get_or text i 0) (drop (suc i) text) e) in
      rw add-one (record { ahead = omega (arith, r.ahead); within = h; same_end = omega (arith, r.same_end, more) })

  pub running_stop : i < length text → stop (get_or text i 0) ≡ true → i ≡ at + length (until stop (drop at text))
  running_stop h e =
      let none : length (until stop (drop i text)) ≡ 0 = ap (λ (xs : List ℕ). length (until stop xs)) (drop-cons text i 0 h) ∙ ap length (until_stop stop (get_or text i 0) (drop (suc i) text) e) in
      omega (arith, r.same_end, none)

  pub running_end : length text ≤ i → i ≡ at + length (until stop (drop at text))
  running_end h =
      let none : length (until stop (drop i text)) ≡ 0 = ap (λ (xs : List ℕ). length (until stop xs)) (drop_of_length-le text h) ∙ ap length (until_none stop) in
      omega (arith, r.same_end, none)

-- how many bytes the iterator takes from `at` on before the first that passes the test
taken_until : (stop : ℕ → Bool) (xs : List ℕ) → take_while (λ (b : ℕ). not (stop b)) xs ≡ until stop xs
unfolding until
taken_until stop [] = refl
taken_until stop (x ∷ xs) = take_while-cons (λ (b : ℕ). not (stop b)) x xs ∙ go (stop x) (taken_until stop xs)
  where
    go : (s : Bool) → take_while (λ (b : ℕ). not (stop b)) xs ≡ until stop xs
        → cond (not s) (x ∷ take_while (λ (b : ℕ). not (stop b)) xs) [] ≡ cond s [] (x ∷ until stop xs)
    go true e = refl
    go false e = ap (λ (t : List ℕ). x ∷ t) e

pub count_until : (stop : ℕ → Bool) (text : List ℕ) (at : ℕ) → length (take_while (λ (b : ℕ). not (stop b)) (take (length text - at) (drop at text))) ≡ length (until stop (drop at text))
count_until stop text at = rw (take_all (length text - at) (drop at text) (rw (length-drop at text) (omega arith))) (ap length (taken_until stop (drop at text)))

-- what the loop knows at byte i: the rest of the word decides, from the value so far on
pub record DigitsSoFar (word : List ℕ) (value i : ℕ) : Type 0 where
  pub within : i ≤ length word
  pub same_value : decimal value (drop i word) ≡ decimal 0 word
  pub same_digits : all is_digit (drop i word) ≡ all is_digit word
  pub small : value < 10 ^ i

pub digits_step : {word : List ℕ} {value i : ℕ} → DigitsSoFar word value i → i < length word → 48 ≤ get_or word i 0 → get_or word i 0 ≤ 57
    → DigitsSoFar word (10 * value + (get_or word i 0 - 48)) (i + 1)
unfolding decimal all
digits_step {word} {value} {i} r h low high =
    record {
      within = omega arith;
      same_value = rw add-one (sym (ap (decimal value) (drop-cons word i 0 h)) ∙ r.same_value);
      same_digits = rw add-one (sym (ap (all is_digit) (drop-cons word i 0 h) ∙ rw (digit_true (get_or word i 0) low high)) ∙ r.same_digits);
      small = rw add-one (omega (arith, r.small));
    }

-- with fewer than 9 digits before it, one more digit fits 32 bits
pub value_small : {word : List ℕ} {value i : ℕ} → DigitsSoFar word value i → i < 9 → value < 100000000
value_small {word} {value} {i} r h =
    let p : 10 ^ i ≤ 10 ^ 8 = pow-le-pow_right {n = 10} (omega arith) {i = i} {j = 8} (omega arith) in
    omega (arith, r.small)

pub not_a_digit : {word : List ℕ} {value i : ℕ} → DigitsSoFar word value i → i < length word → (48 ≤ get_or word i 0 → 57 < get_or word i 0)
    → None ≡ digits_of word
unfolding all
not_a_digit {word} {value} {i} r h e =
    let bad : all is_digit word ≡ false = sym r.same_digits ∙ ap (all is_digit) (drop-cons word i 0 h) ∙ rw (digit_false (get_or word i 0) e) in
    rw (unsigned_false word bad)

pub all_digits : {word : List ℕ} {value i : ℕ} → DigitsSoFar word value i → length word ≤ i → 1 ≤ length word → length word ≤ 9
    → Some value ≡ digits_of word
unfolding all unsigned decimal
all_digits {word} {value} {i} r h low high =
    let good : all is_digit word ≡ true = sym r.same_digits ∙ ap (all is_digit) (drop_of_length-le word h) in
    let is : decimal 0 word ≡ value = sym r.same_value ∙ ap (decimal value) (drop_of_length-le word h) in
    rw (le-leb 1 (length word) low, le-leb (length word) 9 high, good, is)

-- what the number behind a `-` says, and a number without one
abbrev pub signed : Option ℕ → Token
signed None = invalid
signed (Some v) = cond (eqb v 0) invalid (literal (2 * v + 1))

abbrev pub plain : Option ℕ → Token
plain None = invalid
plain (Some v) = cond (eqb v 0) close (literal (2 * v))

signed_digits : (digits : List ℕ) → signed (digits_of digits) ≡ negative_token digits
unfolding negative_token
signed_digits digits = go (unsigned digits)
  where
    go : (u : Bool) → signed (cond u (Some (decimal 0 digits)) None)
        ≡ cond u (cond (eqb (decimal 0 digits) 0) invalid (literal (negative (decimal 0 digits)))) invalid
    go true = refl
    go false = refl

plain_digits : (digits : List ℕ) → plain (digits_of digits) ≡ unsigned_token digits
unfolding unsigned_token
plain_digits digits = go (unsigned digits)
  where
    go : (u : Bool) → plain (cond u (Some (decimal 0 digits)) None)
        ≡ cond u (cond (eqb (decimal 0 digits) 0) close (literal (positive (decimal 0 digits)))) invalid
    go true = refl
    go false = refl

-- the token of a word without bytes, of one that begins with `-`, by the answer to what is behind it, and of another one, by the answer to the word
pub token_empty : (word : List ℕ) → length word ≡ 0 → invalid ≡ token_of word
unfolding token_of
token_empty [] e = refl
token_empty (b ∷ bytes) e = absurd (omega arith)

module _ (word : List ℕ) (b : ℕ) (bytes : List ℕ) (d : Option ℕ) (parts : word ≡ b ∷ bytes) where
  pub token_signed : b ≡ 45 → d ≡ digits_of bytes → signed d ≡ token_of word
  unfolding token_of
  token_signed e answer = rw (parts, eq-eqb b 45 e) (ap signed answer ∙ signed_digits bytes)

  pub token_unsigned : (b ≡ 45 → ⊥) → d ≡ digits_of word → plain d ≡ token_of word
  unfolding token_of
  token_unsigned e answer = ap plain answer ∙ plain_digits word ∙ rw (parts, ne_eqb b 45 e)

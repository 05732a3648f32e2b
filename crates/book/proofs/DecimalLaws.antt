-- What the decimal digits of a word write, and what the answer of `number` says of them.
use Prim.Native.Nat.{ℕ, ◌+◌, ◌*◌, ◌-◌, ◌^◌, ◌≤◌, ◌<◌}
use mathlib.Core.Path.{◌≡◌, refl}
use mathlib.Core.Bool.{Bool, true, false, cond, ◌&&◌, and-false}
use mathlib.Core.List.{List, [], ◌∷◌}
use native.Mathlib.Nat.{pow-le-pow_right, pow-suc, mul-le-mul_right}
use native.Mathlib.Omega.{arith}
use borrow.Author.Tests.{le-leb, lt-leb, leb-true}
use lib.Dec.{leb}
use lib.ListN.{length}
use Rattle.base.specs.Lists.{all, begins}
use Rattle.base.proofs.Bools.{and_parts}
use Rattle.book.specs.Text.{decimal, is_digit, unsigned, unsigned_token, token_of}
use Rattle.book.specs.Answer.{digits_of}
use Rattle.std.specs.Prelude.{Some, None}
use Rattle.std.proofs.lemmas.Bool.Decides.{nat_tests}

pub digit_true : (b : ℕ) → 48 ≤ b → b ≤ 57 → is_digit b ≡ true
unfolding is_digit
digit_true b low high = rw (le-leb 48 b low, le-leb b 57 high)

pub digit_false : (b : ℕ) → (48 ≤ b → 57 < b) → is_digit b ≡ false
unfolding is_digit
digit_false b h = grind (arith, nat_tests)

pub digit_bounds : (b : ℕ) → is_digit b ≡ true → (48 ≤ b) × (b ≤ 57)
unfolding is_digit
digit_bounds b h =
    let parts = and_parts (leb 48 b) (leb b 57) h in
    (leb-true 48 b parts.0, leb-true b 57 parts.1)

pub unsigned_false : (word : List ℕ) → all is_digit word ≡ false → unsigned word ≡ false
unfolding unsigned
unsigned_false word e = rw e (and-false (leb 1 (length word) && leb (length word) 9))

pub word_too_short : (word : List ℕ) → length word ≡ 0 → None ≡ digits_of word
unfolding unsigned
word_too_short word e = rw (lt-leb 1 (length word) (omega arith))

pub word_too_long : (word : List ℕ) → 9 < length word → None ≡ digits_of word
unfolding unsigned
word_too_long word h = rw (le-leb 1 (length word) (omega arith), lt-leb (length word) 9 h)

-- decimal digits write less than a 1 with as many zeros
decimal_below : (digits : List ℕ) (n : ℕ) → all is_digit digits ≡ true → decimal n digits < (n + 1) * 10 ^ length digits
unfolding decimal all
decimal_below [] n e = omega arith
decimal_below (d ∷ digits) n e =
    let high : d ≤ 57 = (digit_bounds d (and_parts (is_digit d) (all is_digit digits) e).0).1 in
    let rest : decimal (10 * n + (d - 48)) digits < (10 * n + (d - 48) + 1) * 10 ^ length digits
    = decimal_below digits (10 * n + (d - 48)) (and_parts (is_digit d) (all is_digit digits) e).1 in
    let more : (10 * n + (d - 48) + 1) * 10 ^ length digits ≤ (10 * (n + 1)) * 10 ^ length digits
    = mul-le-mul_right (10 ^ length digits) (omega arith) in
    rw (pow-suc 10 (length digits)) (omega arith)

-- what an answer of `number` says of the word
pub word_unsigned : (word : List ℕ) (v : ℕ) → Some v ≡ digits_of word → (unsigned word ≡ true) × (decimal 0 word ≡ v)
word_unsigned word v e = go (unsigned word) refl e
  where
    go : (u : Bool) → unsigned word ≡ u → Some v ≡ cond u (Some (decimal 0 word)) None → (unsigned word ≡ true) × (decimal 0 word ≡ v)
    go true q h = (q, (cc))
    go false q h = let z : ◌≡◌ {A = ℕ} 0 1 = cc in absurd (omega arith)

pub word_not_unsigned : (word : List ℕ) → None ≡ digits_of word → unsigned word ≡ false
word_not_unsigned word e = go (unsigned word) refl e
  where
    go : (u : Bool) → unsigned word ≡ u → None ≡ cond u (Some (decimal 0 word)) None → unsigned word ≡ false
    go true q h = let z : ◌≡◌ {A = ℕ} 0 1 = cc in absurd (omega arith)
    go false q h = q

pub value_below : (word : List ℕ) (v : ℕ) → Some v ≡ digits_of word → v < 1000000000
unfolding unsigned
value_below word v e =
    let u : unsigned word ≡ true = (word_unsigned word v e).0 in
    let ab : leb 1 (length word) && leb (length word) 9 ≡ true = (and_parts (leb 1 (length word) && leb (length word) 9) (all is_digit word) u).0 in
    let short : length word ≤ 9 = leb-true (length word) 9 (and_parts (leb 1 (length word)) (leb (length word) 9) ab).1 in
    let p : 10 ^ length word ≤ 10 ^ 9 = pow-le-pow_right {n = 10} (omega arith) {i = length word} {j = 9} (omega arith) in
    let d : decimal 0 word < (0 + 1) * 10 ^ length word
    = decimal_below word 0 (and_parts (leb 1 (length word) && leb (length word) 9) (all is_digit word) u).1 in
    omega (arith, (word_unsigned word v e).1)

pub token_plain : (word : List ℕ) → begins 45 word ≡ false → token_of word ≡ unsigned_token word
unfolding token_of begins unsigned_token unsigned
token_plain [] h = refl
token_plain (b ∷ word) h = rw h

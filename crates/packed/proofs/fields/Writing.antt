-- A field as it is written: its sign, and its bytes from the last to the first.
use Prim.Native.Nat.{ℕ, suc, ◌+◌, ◌*◌, ◌-◌, ◌/◌, ◌%◌, ◌≤◌, ◌<◌}
use mathlib.Core.Path.{◌≡◌, refl, sym, ap, ap₂, ◌∙◌}
use mathlib.Core.List.{List, [], ◌∷◌, ◌++◌, append_assoc}
use native.Mathlib.Omega.{arith}
use lib.IntN.{ℤ, pos, negsuc, nat_abs}
use lib.ListN.{length, drop, set, length-set}
use lib.Seq.{drop-cons, drop-set-lt, get_or-set_same, drop-length}
use Rattle.packed.specs.Packed.{digits_in, digits, bytes_of, sign_of, field_of}
use Rattle.packed.proofs.NibbleLaws.{bytes_append}
use Rattle.packed.proofs.DigitLaws.{length_digits}

pub sign_small : (x : ℤ) → sign_of x ≤ 15
unfolding sign_of
sign_small (pos n) = omega arith
sign_small (negsuc n) = omega arith

-- two digits more are one byte more
pair_more : (k n : ℕ) → bytes_of (digits (2 * suc k) n) ≡ bytes_of (digits (2 * k) (n / 100)) ++ ((n / 10 % 10 * 16 + n % 10) ∷ [])
unfolding digits bytes_of
pair_more k n =
    let twice : 2 * suc k ≡ suc (suc (2 * k)) = omega arith in
    let hundredth : n / 10 / 10 ≡ n / 100 = omega arith in
    let turned : 16 * (n / 10 % 10) + n % 10 ≡ n / 10 % 10 * 16 + n % 10 = omega arith in
    ap (λ (m : ℕ). bytes_of (digits m n)) twice
    ∙ ap bytes_of (append_assoc (digits (2 * k) (n / 10 / 10)) (n / 10 % 10 ∷ []) (n % 10 ∷ []))
    ∙ bytes_append k (digits (2 * k) (n / 10 / 10)) (n / 10 % 10 ∷ n % 10 ∷ []) (length_digits (2 * k) (n / 10 / 10))
    ∙ ap₂ (λ (m b : ℕ). bytes_of (digits (2 * k) m) ++ (b ∷ [])) hundredth turned

-- the last byte has a digit and the sign
last_more : (k : ℕ) (value : ℤ) → field_of (suc k) value ≡ bytes_of (digits (2 * k) (nat_abs value / 10)) ++ ((nat_abs value % 10 * 16 + sign_of value) ∷ [])
unfolding field_of digits bytes_of
last_more k value =
    let n = nat_abs value in
    let places : digits_in (suc k) ≡ suc (2 * k) = omega arith in
    let turned : 16 * (n % 10) + sign_of value ≡ n % 10 * 16 + sign_of value = omega arith in
    ap (λ (m : ℕ). bytes_of (digits m n ++ (sign_of value ∷ []))) places
    ∙ ap bytes_of (append_assoc (digits (2 * k) (n / 10)) (n % 10 ∷ []) (sign_of value ∷ []))
    ∙ bytes_append k (digits (2 * k) (n / 10)) (n % 10 ∷ sign_of value ∷ []) (length_digits (2 * k) (n / 10))
    ∙ ap (λ (b : ℕ). bytes_of (digits (2 * k) (n / 10)) ++ (b ∷ [])) turned

-- what is stored at a place, with what stands behind it
stored : (out : List ℕ) (at b : ℕ) → at < length out → drop at (set out at b) ≡ b ∷ drop (suc at) out
stored out at b h =
    let inside : at < length (set out at b) = rw (length-set out at b) h in
    drop-cons (set out at b) at 0 inside ∙ ap₂ (λ (x : ℕ) (l : List ℕ). x ∷ l) (get_or-set_same out at b 0 h) (drop-set-lt (suc at) out at b (omega arith))

-- From a start on: what is left to write, with what is written behind the place, stays the same.
pub record PutBehind (out₀ : List ℕ) (at₀ rest₀ : ℕ) (out : List ℕ) (at rest : ℕ) : Type 0 where
  pub same_length : length out ≡ length out₀
  pub inside : at < length out
  pub joined : bytes_of (digits (2 * at) rest) ++ drop at out ≡ bytes_of (digits (2 * at₀) rest₀) ++ drop at₀ out₀

pub put_none : (out : List ℕ) (at rest : ℕ) → at < length out → PutBehind out at rest out at rest
put_none out at rest h = record { same_length = refl; inside = h; joined = refl }

module _ (out₀ : List ℕ) (at₀ rest₀ : ℕ) (out : List ℕ) (at rest : ℕ) (p : PutBehind out₀ at₀ rest₀ out at rest) where
  abbrev byte : ℕ
  byte = rest / 10 % 10 * 16 + rest % 10

  pub put_more : 0 < at → PutBehind out₀ at₀ rest₀ (set out (at - 1) byte) (at - 1) (rest / 100)
  put_more h =
      let down : at ≡ suc (at - 1) = omega arith in
      let inside : at - 1 < length out = omega (arith, p.inside) in
      record {
        same_length = length-set out (at - 1) byte ∙ p.same_length;
        inside = rw (length-set out (at - 1) byte) inside;
        joined =
            ap (λ (l : List ℕ). bytes_of (digits (2 * (at - 1)) (rest / 100)) ++ l) (stored out (at - 1) byte inside)
            ∙ sym (append_assoc (bytes_of (digits (2 * (at - 1)) (rest / 100))) (byte ∷ []) (drop (suc (at - 1)) out))
            ∙ ap (λ (l : List ℕ). l ++ drop (suc (at - 1)) out) (sym (pair_more (at - 1) rest))
            ∙ ap (λ (n : ℕ). bytes_of (digits (2 * n) rest) ++ drop n out) (sym down)
            ∙ p.joined;
      }

-- from the last byte on, all bytes are the field
pub put_all : (entry : List ℕ) (value : ℤ) {size sign : ℕ} (out : List ℕ) (at rest : ℕ) → 1 ≤ length entry → size ≡ nat_abs value → sign ≡ sign_of value
    → PutBehind (set entry (length entry - 1) (size % 10 * 16 + sign)) (length entry - 1) (size / 10) out at rest → at ≤ 0
    → out ≡ field_of (length entry) value
unfolding digits bytes_of
put_all entry value {size} {sign} out at rest h es eg p z =
    let k = length entry - 1 in
    let up : suc k ≡ length entry = omega arith in
    let none : at ≡ 0 = omega arith in
    let nothing : bytes_of (digits (2 * at) rest) ++ drop at out ≡ out = ap (λ (n : ℕ). bytes_of (digits (2 * n) rest) ++ drop n out) none in
    let last : drop (suc k) entry ≡ [] = ap (λ (n : ℕ). drop n entry) up ∙ drop-length entry in
    sym nothing
    ∙ p.joined
    ∙ ap (λ (l : List ℕ). bytes_of (digits (2 * k) (size / 10)) ++ l) (stored entry k (size % 10 * 16 + sign) (omega arith))
    ∙ ap (λ (l : List ℕ). bytes_of (digits (2 * k) (size / 10)) ++ ((size % 10 * 16 + sign) ∷ l)) last
    ∙ ap₂ (λ (m s : ℕ). bytes_of (digits (2 * k) (m / 10)) ++ ((m % 10 * 16 + s) ∷ [])) es eg
    ∙ sym (last_more k value)
    ∙ ap (λ (n : ℕ). field_of n value) up

-- Decimal digits: the digits of a number, the number that digits write, and each of them from the other.
use Prim.Native.Nat.{ℕ, zero, suc, ◌+◌, ◌*◌, ◌-◌, ◌/◌, ◌%◌, ◌^◌, ◌≤◌, ◌<◌}
use mathlib.Core.Bool.{true, ◌&&◌}
use mathlib.Core.Path.{◌≡◌, refl, sym, ap, ap₂, subst, ◌∙◌}
use mathlib.Core.List.{List, [], ◌∷◌, ◌++◌}
use mathlib.Core.Logic.{◌⊎◌, inl, inr}
use native.Mathlib.Nat.{pow-suc, pow-succ', mul-le-mul_right, div-div-eq-div-mul}
use native.Mathlib.Omega.{arith}
use borrow.Author.Tests.{le-leb, leb-true}
use lib.ListN.{length, get_or, take, get_or-append}
use lib.Seq.{take-suc, take-length, length-take-le, get_or_at}
use Rattle.base.specs.Lists.{all}
use Rattle.base.proofs.Bools.{below, and_parts}
use Rattle.base.proofs.Lists.{all_both, all_append, length_more}
use Rattle.packed.specs.Packed.{digits, decimal, is_digit}

pub length_digits : (places n : ℕ) → length (digits places n) ≡ places
unfolding digits
length_digits zero n = refl
length_digits (suc places) n = length_more (digits places (n / 10)) (n % 10) ∙ ap suc (length_digits places (n / 10))

pub is_digit_lem : (d : ℕ) → d ≤ 9 → is_digit d ≡ true
unfolding is_digit
is_digit_lem d h = le-leb d 9 h

pub digit_most : (d : ℕ) → is_digit d ≡ true → d ≤ 9
unfolding is_digit
digit_most d e = leb-true d 9 e

pub digits_good : (places n : ℕ) → all is_digit (digits places n) ≡ true
unfolding digits all
digits_good zero n = refl
digits_good (suc places) n =
    all_both is_digit (digits places (n / 10)) (n % 10 ∷ []) (digits_good places (n / 10)) (rw (is_digit_lem (n % 10) (omega arith)))

pub decimal_more : (n : ℕ) (ds : List ℕ) (d : ℕ) → decimal n (ds ++ (d ∷ [])) ≡ 10 * decimal n ds + d
unfolding decimal
decimal_more n [] d = refl
decimal_more n (x ∷ ds) d = decimal_more (10 * n + x) ds d

-- digits write less than a 1 with as many zeros
below_by : (ds : List ℕ) (n : ℕ) → all is_digit ds ≡ true → decimal n ds < (n + 1) * 10 ^ length ds
unfolding decimal all
below_by [] n e = omega arith
below_by (d ∷ ds) n e =
    let parts = and_parts (is_digit d) (all is_digit ds) e in
    let most : d ≤ 9 = digit_most d parts.0 in
    let rest : decimal (10 * n + d) ds < (10 * n + d + 1) * 10 ^ length ds = below_by ds (10 * n + d) parts.1 in
    let more : (10 * n + d + 1) * 10 ^ length ds ≤ (10 * (n + 1)) * 10 ^ length ds = mul-le-mul_right (10 ^ length ds) (omega arith) in
    rw (pow-suc 10 (length ds)) (omega arith)

pub decimal_below : (ds : List ℕ) → all is_digit ds ≡ true → decimal 0 ds < 10 ^ length ds
decimal_below ds e = let h : decimal 0 ds < (0 + 1) * 10 ^ length ds = below_by ds 0 e in omega arith

-- the digits of a number write it
pub decimal_digits : (places n : ℕ) → n < 10 ^ places → decimal 0 (digits places n) ≡ n
unfolding digits decimal
decimal_digits zero n h = none n h
  where
    none : (n : ℕ) → n < 10 ^ 0 → 0 ≡ n
    none n h = omega arith
decimal_digits (suc places) n h =
    let tenth : n / 10 < 10 ^ places = low n (10 ^ places) (subst (λ (m : ℕ). n < m) (pow-suc 10 places) h) in
    let whole : 10 * (n / 10) + n % 10 ≡ n = omega arith in
    decimal_more 0 (digits places (n / 10)) (n % 10) ∙ ap (λ (m : ℕ). 10 * m + n % 10) (decimal_digits places (n / 10) tenth) ∙ whole
  where
    low : (n p : ℕ) → n < p * 10 → n / 10 < p
    low n p h = omega arith

-- and digits are those of the number that they write
pub digits_decimal : (places : ℕ) (ds : List ℕ) → length ds ≡ places → all is_digit ds ≡ true → digits places (decimal 0 ds) ≡ ds
unfolding digits all
digits_decimal zero [] e g = refl
digits_decimal zero (d ∷ ds) e g = absurd (omega arith)
digits_decimal (suc places) ds e g =
    let front = take places ds in
    let d = get_or ds places 0 in
    let split : ds ≡ front ++ (d ∷ []) = sym (take-length ds) ∙ ap (λ (n : ℕ). take n ds) e ∙ take-suc ds places 0 (omega arith) in
    let good : (all is_digit front && (is_digit d && true)) ≡ true = sym (all_append is_digit front (d ∷ [])) ∙ ap (all is_digit) (sym split) ∙ g in
    let parts = and_parts (all is_digit front) (is_digit d && true) good in
    let most : d ≤ 9 = digit_most d (and_parts (is_digit d) true parts.1).0 in
    let value : decimal 0 ds ≡ 10 * decimal 0 front + d = ap (decimal 0) split ∙ decimal_more 0 front d in
    let tenth : decimal 0 ds / 10 ≡ decimal 0 front = omega arith in
    let rest : decimal 0 ds % 10 ≡ d = omega arith in
    ap₂ (λ (m : ℕ) (l : List ℕ). digits places m ++ l) tenth (ap (λ (m : ℕ). m ∷ []) rest)
    ∙ ap (λ (l : List ℕ). l ++ (d ∷ [])) (digits_decimal places front (length-take-le places ds (omega arith)) parts.0)
    ∙ sym split

-- the digit at a place, the highest first
pub digit_at : (places n k : ℕ) → k < places → get_or (digits places n) k 0 ≡ n / 10 ^ (places - 1 - k) % 10
unfolding digits
digit_at zero n k h = absurd (omega arith)
digit_at (suc places) n k h = go (below k places) (digit_at places (n / 10) k)
  where
    front : List ℕ
    front = digits places (n / 10)

    go : (k < places) ⊎ (places ≤ k) → (k < places → get_or front k 0 ≡ n / 10 / 10 ^ (places - 1 - k) % 10)
        → get_or (front ++ (n % 10 ∷ [])) k 0 ≡ n / 10 ^ (suc places - 1 - k) % 10
    go (inl low) higher =
        let one_more_lem : suc places - 1 - k ≡ suc (places - 1 - k) = omega arith in
        get_or-append front (n % 10 ∷ []) 0 k (omega (arith, length_digits places (n / 10)))
        ∙ higher low
        ∙ ap (λ (m : ℕ). m % 10) (div-div-eq-div-mul n 10 (10 ^ (places - 1 - k)))
        ∙ rw (one_more_lem, pow-succ' 10 (places - 1 - k))
    go (inr high) higher =
        let none : suc places - 1 - k ≡ 0 = omega arith in
        let whole : n % 10 ≡ n / 1 % 10 = omega arith in
        get_or_at front (n % 10) [] 0 k (length_digits places (n / 10) ∙ omega arith) ∙ rw none whole

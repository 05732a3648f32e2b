-- Decimal digits: how many places are given does not matter where they are enough, and the last digit comes last.
use Prim.Native.Nat.{ℕ, zero, suc, ◌+◌, ◌/◌, ◌%◌, ◌^◌, ◌≤◌, ◌<◌}
use native.Mathlib.Nat.{pow-succ'}
use native.Mathlib.Omega.{arith}
use mathlib.Core.Path.{◌≡◌, refl, sym, ap, ◌∙◌}
use mathlib.Core.Bool.{Bool, true, false}
use mathlib.Core.List.{List, [], ◌∷◌, ◌++◌}
use lib.Dec.{ltb}
use borrow.Author.Tests.{lt-ltb, le-ltb, ltb-true, ltb-false, eq-eqb, ne_eqb}
use Rattle.book.specs.Printer.{digits}
use Rattle.script.specs.Answers.{numeral, signed}

one_digit : (places n : ℕ) → n < 10 → digits (suc places) n ≡ (48 + n) ∷ []
unfolding digits
one_digit places n h = rw (lt-ltb n 10 h)

last_digit : (places n : ℕ) → 10 ≤ n → digits (suc places) n ≡ digits places (n / 10) ++ ((48 + n % 10) ∷ [])
unfolding digits
last_digit places n h = rw (le-ltb n 10 h)

pub digits_enough : (p q n : ℕ) → n < 10 ^ suc p → n < 10 ^ suc q → digits (suc p) n ≡ digits (suc q) n
digits_enough zero q n hp hq = one_digit zero n (omega arith) ∙ sym (one_digit q n (omega arith))
digits_enough (suc p) zero n hp hq = one_digit (suc p) n (omega arith) ∙ sym (one_digit zero n (omega arith))
digits_enough (suc p) (suc q) n hp hq =
    go (ltb n 10) refl λ (h : 10 ≤ n). digits_enough p q (n / 10) (omega (arith, pow-succ' 10 (suc p))) (omega (arith, pow-succ' 10 (suc q)))
  where
    go : (b : Bool) → ltb n 10 ≡ b → (10 ≤ n → digits (suc p) (n / 10) ≡ digits (suc q) (n / 10)) → digits (suc (suc p)) n ≡ digits (suc (suc q)) n
    go true e ih = one_digit (suc p) n (ltb-true n 10 e) ∙ sym (one_digit (suc q) n (ltb-true n 10 e))
    go false e ih =
        last_digit (suc p) n (ltb-false n 10 e)
        ∙ ap (λ (ds : List ℕ). ds ++ ((48 + n % 10) ∷ [])) (ih (ltb-false n 10 e))
        ∙ sym (last_digit (suc q) n (ltb-false n 10 e))

pub numeral_one : (n : ℕ) → n < 10 → numeral n ≡ (48 + n % 10) ∷ []
numeral_one n h = one_digit 19 n h ∙ ap (λ (d : ℕ). (48 + d) ∷ []) (omega arith)

pub numeral_more : (n : ℕ) → 10 ≤ n → n < 10 ^ 20 → numeral n ≡ numeral (n / 10) ++ ((48 + n % 10) ∷ [])
numeral_more n low high =
    last_digit 19 n low
    ∙ ap (λ (ds : List ℕ). ds ++ ((48 + n % 10) ∷ [])) (digits_enough 18 19 (n / 10) (omega arith) (omega arith))

-- a literal by its sign
pub signed_negative : (l : ℕ) → l % 2 ≡ 1 → 45 ∷ numeral (l / 2) ≡ signed l
unfolding signed
signed_negative l e = rw (eq-eqb (l % 2) 1 e)

pub signed_positive : (l : ℕ) → (l % 2 ≡ 1 → ⊥) → numeral (l / 2) ≡ signed l
unfolding signed
signed_positive l e = rw (ne_eqb (l % 2) 1 e)

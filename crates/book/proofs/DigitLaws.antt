-- The printed digits of a number are read back as that number.
use Prim.Native.Nat.{ℕ, zero, suc, ◌+◌, ◌*◌, ◌-◌, ◌/◌, ◌%◌, ◌^◌, ◌≤◌, ◌<◌}
use native.Mathlib.Nat.{pow-succ'}
use native.Mathlib.Omega.{arith}
use mathlib.Core.Path.{◌≡◌, refl, sym, ap, ◌∙◌}
use mathlib.Core.Bool.{Bool, true, false, cond, not, true≢false}
use mathlib.Core.List.{List, [], ◌∷◌, ◌++◌}
use lib.Dec.{ltb}
use lib.ListN.{length, length-append}
use borrow.Author.Tests.{lt-ltb, ltb-true, le-leb, ne_eqb}
use Rattle.base.specs.Lists.{all, begins}
use Rattle.base.proofs.Bools.{and_parts}
use Rattle.base.proofs.Lists.{all_both}
use Rattle.book.specs.Text.{decimal, is_digit, unsigned, blank}
use Rattle.book.specs.Printer.{digits, print_number}
use Rattle.book.proofs.DecimalLaws.{digit_true, digit_bounds}

-- a digit more
pub decimal_more : (n : ℕ) (ds : List ℕ) (d : ℕ) → decimal n (ds ++ (d ∷ [])) ≡ 10 * decimal n ds + (d - 48)
unfolding decimal
decimal_more n [] d = refl
decimal_more n (x ∷ ds) d = decimal_more (10 * n + (x - 48)) ds d

-- what is printed: at least one digit, at most so many, and the number
pub record Printed (places n : ℕ) (ds : List ℕ) : Type 0 where
  pub some_digit : 1 ≤ length ds
  pub few_digits : length ds ≤ places
  pub all_digits : all is_digit ds ≡ true
  pub number_back : decimal 0 ds ≡ n

printed_digit : (places n : ℕ) → n < 10 → Printed (suc places) n ((48 + n) ∷ [])
unfolding all decimal
printed_digit places n h =
    record { some_digit = omega arith; few_digits = omega arith; all_digits = rw (digit_true (48 + n) (omega arith) (omega arith)); number_back = omega arith }

printed_digits : (places n : ℕ) (ds : List ℕ) → Printed places (n / 10) ds → Printed (suc places) n (ds ++ ((48 + n % 10) ∷ []))
unfolding all
printed_digits places n ds p = record {
  some_digit = rw length-append (omega arith);
  few_digits = rw length-append (omega arith);
  all_digits = all_both is_digit ds ((48 + n % 10) ∷ []) p.all_digits (rw (digit_true (48 + n % 10) (omega arith) (omega arith)));
  number_back = rw (decimal_more, p.number_back) (omega arith);
}

printed : (places n : ℕ) → n < 10 ^ suc places → Printed (suc places) n (digits (suc places) n)
unfolding digits
printed zero n h = rw (lt-ltb n 10 h) (printed_digit 0 n h)
printed (suc places) n h = go (ltb n 10) refl (printed places (n / 10))
  where
    go : (b : Bool) → ltb n 10 ≡ b → (n / 10 < 10 ^ suc places → Printed (suc places) (n / 10) (digits (suc places) (n / 10)))
        → Printed (suc (suc places)) n (cond b ((48 + n) ∷ []) (digits (suc places) (n / 10) ++ ((48 + n % 10) ∷ [])))
    go true e ih = printed_digit (suc places) n (ltb-true n 10 e)
    go false e ih = printed_digits (suc places) n (digits (suc places) (n / 10)) (ih (omega (arith, pow-succ' 10 (suc places))))

-- a number below 1,000,000,000
pub number_printed : (n : ℕ) → n < 1000000000 → Printed 9 n (print_number n)
number_printed n h = printed 8 n h

pub printed_unsigned : (n : ℕ) → n < 1000000000 → unsigned (print_number n) ≡ true
unfolding unsigned
printed_unsigned n h =
    let p = number_printed n h in
    rw (le-leb 1 (length (print_number n)) p.some_digit, le-leb (length (print_number n)) 9 p.few_digits, p.all_digits)

-- digits are no blanks
pub digit_not_blank : (b : ℕ) → is_digit b ≡ true → not (blank b) ≡ true
unfolding blank
digit_not_blank b h =
    let bounds = digit_bounds b h in
    rw (ne_eqb b 32 (λ e. omega arith), ne_eqb b 9 (λ e. omega arith), ne_eqb b 13 (λ e. omega arith), ne_eqb b 10 (λ e. omega arith))

-- digits begin with no other byte
pub digits_begin : (b : ℕ) (ds : List ℕ) → is_digit b ≡ false → all is_digit ds ≡ true → begins b ds ≡ false
unfolding begins all
digits_begin b [] other h = refl
digits_begin b (d ∷ ds) other h =
    ne_eqb d b (λ e. true≢false (sym (and_parts (is_digit d) (all is_digit ds) h).0 ∙ ap is_digit e ∙ other))

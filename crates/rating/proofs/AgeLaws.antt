-- The base scaled by a factor: its size; and what a call that prices by age answers.
use Prim.Native.Nat.{ℕ, ◌*◌, ◌≤◌}
use mathlib.Core.Bool.{true}
use mathlib.Core.List.{List}
use mathlib.Core.Path.{◌≡◌, sym}
use native.Mathlib.Omega.{arith}
use borrow.Author.Tests.{ne_eqb}
use lib.IntN.{ℤ, pos, nat_abs, ◌*ℤ◌}
use Rattle.base.proofs.Signed.{product_within}
use Rattle.bands.specs.Bands.{max_factor, factor_answer}
use Rattle.book.specs.Numbers.{formula_of}
use Rattle.layout.specs.Layout.{held}
use Rattle.std.specs.Prelude.{Result, Ok, Err}
use Rattle.refusals.specs.declared.Refusal.{Refusal}
use Rattle.refusals.specs.Refusals.{checked}
use Rattle.refusals.proofs.OutcomeLaws.{outcome_refused}
use Rattle.rating.specs.Pricing.{max_base, max_running, base_within, lines_of, price_refusal}
use Rattle.rating.specs.Ages.{scaled, age_premium, age_answer}
use Rattle.rating.proofs.PricingLaws.{rounded_size}
use Rattle.rating.proofs.AnswerLaws.{base_most}

module _ (base : ℤ) (factor : ℕ) (within : base_within base ≡ true) (h : factor ≤ max_factor) where
  pub product_most : nat_abs (base *ℤ pos factor) ≤ max_base * max_factor
  product_most = product_within base (pos factor) max_base max_factor (base_most base within) h

  -- no running amount beyond its own limit
  pub scaled_small : nat_abs (scaled base factor) ≤ max_running
  unfolding scaled
  scaled_small = omega (arith, rounded_size (base *ℤ pos factor), product_most)

-- the answer, refused before the table is looked at, or by what the table answers
module _ (book session : List ℕ) (base : ℤ) (table : List ℕ) (age : ℕ) (numbers : List ℤ) where
  pub age_refused : (r : Refusal) → Err r ≡ checked (price_refusal book session base numbers) → Err r ≡ age_answer book session base table age numbers
  unfolding age_answer
  age_refused r e =
      let refused = outcome_refused _ _ r (sym e) in
      rw (ne_eqb (price_refusal book session base numbers) 0 refused.0, refused.1)

  pub age_answered : 0 ≡ price_refusal book session base numbers → (answer : Result ℕ Refusal) → answer ≡ factor_answer table age
      → age_premium base (lines_of numbers) answer (Ok (held (formula_of book) session)) ≡ age_answer book session base table age numbers
  unfolding age_answer
  age_answered e answer is = rw (← e, is)

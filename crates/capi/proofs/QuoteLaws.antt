-- What a call that prices answers, with its base, fits a quote record.
use Prim.Native.Nat.{ℕ, ◌≤◌}
use mathlib.Core.List.{List}
use mathlib.Core.Path.{◌≡◌}
use native.Mathlib.Omega.{arith}
use Rattle.std.specs.Prelude.{Ok}
use lib.IntN.{ℤ, pos, nat_abs}
use Rattle.packed.proofs.RecordTheorems.{record_survives}
use Rattle.rating.specs.Pricing.{max_lines, max_running, premium_answer}
use Rattle.rating.specs.Ages.{age_answer}
use Rattle.rating.proofs.AnswerLaws.{base_small, answered, accepted_price}
use Rattle.rating.proofs.Premiums.{amount_bounded}
use Rattle.rating.proofs.AgePremiums.{age_accepted, age_bounded}
use Rattle.capi.specs.Quotes.{FitsRecord}

small_fits : (base amount : ℤ) (count : ℕ) → nat_abs base ≤ max_running → nat_abs amount ≤ max_running → count ≤ max_lines → FitsRecord base amount count
small_fits base amount count b a c map out low room =
    record_survives map base amount (pos count) out low (λ stood. omega arith, λ stood. omega arith, λ stood. omega arith) room

module _ (book session : List ℕ) (base : ℤ) (numbers : List ℤ) (amount : ℤ) (count : ℕ) where
  -- Whatever `price` answers, with its base, fits.
  pub premium_fits : premium_answer book session base numbers ≡ Ok (record { amount = amount; open_lines = count }) → FitsRecord base amount count
  premium_fits e =
      let within = amount_bounded book session base numbers amount count e in
      let known = accepted_price book session base numbers (answered book session base numbers amount count e).0 in
      small_fits base amount count (base_small base known.base_right) within.amount_within (omega (arith, within.few_open, within.few_lines))

  -- Whatever `price_for_age` answers, with its base, fits.
  pub age_premium_fits : (table : List ℕ) (age : ℕ) → age_answer book session base table age numbers ≡ Ok (record { amount = amount; open_lines = count }) → FitsRecord base amount count
  age_premium_fits table age e =
      let within = age_bounded book session base table age numbers amount count e in
      let known = accepted_price book session base numbers (age_accepted book session base table age numbers amount count e) in
      small_fits base amount count (base_small base known.base_right) within.amount_within (omega (arith, within.few_open, within.few_lines))

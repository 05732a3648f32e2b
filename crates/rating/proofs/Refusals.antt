-- Each refusal exactly where the text says, and where the running amount goes beyond its limit.
use Prim.Native.Nat.{ℕ, ◌<◌}
use mathlib.Core.Bool.{Bool, true, false, cond}
use mathlib.Core.List.{List, [], ◌∷◌}
use mathlib.Core.Logic.{◌↔◌, ◌⊎◌, inl, inr}
use mathlib.Core.Path.{◌≡◌, refl, sym, ap, ◌∙◌}
use native.Mathlib.Omega.{arith}
use borrow.Author.Tests.{leb-false}
use lib.Dec.{leb, lit<}
use lib.IntN.{ℤ, nat_abs}
use Rattle.book.specs.Numbers.{well_formed, formula_of}
use Rattle.run.specs.Trail.{is_true}
use Rattle.run.specs.Run.{Run, in_conflict}
use Rattle.layout.specs.Layout.{held}
use Rattle.validation.specs.Validation.{passes, call_refusal}
use Rattle.refusals.specs.declared.Refusal.{Refusal}
use Rattle.refusals.specs.declared.Refusal.TheVariants as refusal
use Rattle.refusals.specs.Refusals.{number_of, refusals, first_with, refusal_of, outcome}
use Rattle.refusals.proofs.OutcomeLaws.{refusal_number}
use Rattle.std.specs.Prelude.{Result, Err, Option, Some, None}
use Rattle.rating.specs.Pricing.{max_running, lines_of, rates_within, applied, limited, stepped, priced_by, open_lines, offered, premium_of, price_refusal, premium_answer}
use Rattle.rating.specs.Statement.{GoesBeyond, RefusedEarly, RefusedWhere}
use Rattle.rating.specs.declared.RateLine.{RateLine}
use Rattle.rating.specs.declared.Premium.{Premium}
use Rattle.rating.proofs.PricingLaws.{limited_over, priced_append, priced_beyond}

module _ (holds : ℕ → Bool) where
  -- a line before
  later : (line : RateLine) (lines : List RateLine) (start next : ℤ) → stepped holds (Some start) line ≡ Some next → GoesBeyond holds next lines → GoesBeyond holds start (line ∷ lines)
  unfolding priced_by
  later line lines start next e g =
      record {
        front = line ∷ g.front;
        line = g.line;
        back = g.back;
        running = g.running;
        list = ap (λ (rest : List RateLine). line ∷ rest) g.list;
        before = ap (λ (state : Option ℤ). priced_by holds state g.front) e ∙ g.before;
        applies = g.applies;
        beyond = g.beyond;
      }

  goes : (lines : List RateLine) (start : ℤ) → priced_by holds (Some start) lines ≡ None → GoesBeyond holds start lines
  unfolding priced_by stepped limited
  goes [] start e = cc
  goes (line ∷ lines) start e = go (goes lines) (holds line.literal) (leb (nat_abs next) max_running) refl refl e
    where
      next : ℤ
      next = applied start line.change

      is : (t w : Bool) → holds line.literal ≡ t → leb (nat_abs next) max_running ≡ w → stepped holds (Some start) line ≡ cond t (cond w (Some next) None) (Some start)
      is t w p q = rw (p, q)

      go : ((x : ℤ) → priced_by holds (Some x) lines ≡ None → GoesBeyond holds x lines)
          → (t w : Bool) → holds line.literal ≡ t → leb (nat_abs next) max_running ≡ w
          → priced_by holds (stepped holds (Some start) line) lines ≡ None → GoesBeyond holds start (line ∷ lines)
      go rest false w p q r = later line lines start start (is false w p q) (rest start (rw (is false w p q) at r))
      go rest true true p q r = later line lines start next (is true true p q) (rest next (rw (is true true p q) at r))
      go rest true false p q r =
          record { front = []; line = line; back = lines; running = start; list = refl; before = refl; applies = p; beyond = leb-false (nat_abs next) max_running q }

  gone : (lines : List RateLine) (start : ℤ) → GoesBeyond holds start lines → priced_by holds (Some start) lines ≡ None
  unfolding priced_by stepped
  gone lines start g =
      ap (priced_by holds (Some start)) g.list
      ∙ priced_append holds g.front (g.line ∷ g.back) (Some start)
      ∙ ap (λ (state : Option ℤ). priced_by holds state (g.line ∷ g.back)) g.before
      ∙ rw (g.applies, ← limited_over (applied g.running g.line.change) g.beyond) (priced_beyond holds g.back)

-- An answer by what is tested in turn: the book, the session, the conflict, the ranges; then by what is left.
abbrev pub said : Bool → Bool → Bool → Bool → Result Premium Refusal → Result Premium Refusal
said w p c r rest = cond w (cond p (cond c (Err refusal.InConflict) (cond r rest (Err refusal.PriceInput))) (Err refusal.Session)) (Err refusal.Book)

-- what a refusal tells of the tests
abbrev Told : Bool → Bool → Bool → Bool → Result Premium Refusal → Refusal → Type 0
Told w p c r rest m =
    ((m ≡ refusal.Book) × (w ≡ false))
    ⊎ ((m ≡ refusal.Session) × (w ≡ true) × (p ≡ false))
    ⊎ ((m ≡ refusal.InConflict) × ((w ≡ true) × (p ≡ true)) × (c ≡ true))
    ⊎ ((m ≡ refusal.PriceInput) × ((w ≡ true) × (p ≡ true)) × (c ≡ false) × (r ≡ false))
    ⊎ (((w ≡ true) × (p ≡ true)) × (c ≡ false) × (r ≡ true) × (rest ≡ Err m))

tells : (w p c r : Bool) (rest : Result Premium Refusal) (m : Refusal) → said w p c r rest ≡ Err m → Told w p c r rest m
tells false p c r rest m e = inl (cc, refl)
tells true false c r rest m e = inr (inl (cc, refl, refl))
tells true true true r rest m e = inr (inr (inl (cc, (refl, refl), refl)))
tells true true false false rest m e = inr (inr (inr (inl (cc, (refl, refl), refl, refl))))
tells true true false true rest m e = inr (inr (inr (inr ((refl, refl), refl, refl, e))))

-- two refusals are the same exactly if they have one number
pub number : {a b : Refusal} → a ≡ b → number_of a ≡ number_of b
number e = ap number_of e

pub sole : (a b : Refusal) → number_of a ≡ number_of b → a ≡ b
sole a b e = sym (refusal_number a) ∙ ap refusal_of e ∙ refusal_number b

-- Each refusal exactly where it is due, where what is left has higher numbers:
module _ (w p c r : Bool) (rest : Result Premium Refusal) (late : r ≡ true → (m : Refusal) → rest ≡ Err m → 19 < number_of m) where
  said_11 : (said w p c r rest ≡ Err refusal.Book) ↔ (w ≡ false)
  said_11 = (λ e. go (tells w p c r rest refusal.Book e), λ k. rw k)
    where
      go : Told w p c r rest refusal.Book → w ≡ false
      go (inl k) = k.1
      go (inr (inl k)) = absurd (omega (arith, number k.0))
      go (inr (inr (inl k))) = absurd (omega (arith, number k.0))
      go (inr (inr (inr (inl k)))) = absurd (omega (arith, number k.0))
      go (inr (inr (inr (inr k)))) = absurd (omega (arith, late k.2 refusal.Book k.3))

  said_12 : (said w p c r rest ≡ Err refusal.Session) ↔ ((w ≡ true) × (p ≡ false))
  said_12 = (λ e. go (tells w p c r rest refusal.Session e), λ k. rw (k.0, k.1))
    where
      go : Told w p c r rest refusal.Session → (w ≡ true) × (p ≡ false)
      go (inl k) = absurd (omega (arith, number k.0))
      go (inr (inl k)) = (k.1, k.2)
      go (inr (inr (inl k))) = absurd (omega (arith, number k.0))
      go (inr (inr (inr (inl k)))) = absurd (omega (arith, number k.0))
      go (inr (inr (inr (inr k)))) = absurd (omega (arith, late k.2 refusal.Session k.3))

  said_14 : (said w p c r rest ≡ Err refusal.InConflict) ↔ (((w ≡ true) × (p ≡ true)) × (c ≡ true))
  said_14 = (λ e. go (tells w p c r rest refusal.InConflict e), λ k. rw (k.0.0, k.0.1, k.1))
    where
      go : Told w p c r rest refusal.InConflict → ((w ≡ true) × (p ≡ true)) × (c ≡ true)
      go (inl k) = absurd (omega (arith, number k.0))
      go (inr (inl k)) = absurd (omega (arith, number k.0))
      go (inr (inr (inl k))) = (k.1, k.2)
      go (inr (inr (inr (inl k)))) = absurd (omega (arith, number k.0))
      go (inr (inr (inr (inr k)))) = absurd (omega (arith, late k.2 refusal.InConflict k.3))

  pub said_19 : (said w p c r rest ≡ Err refusal.PriceInput) ↔ (((w ≡ true) × (p ≡ true)) × (c ≡ false) × (r ≡ false))
  said_19 = (λ e. go (tells w p c r rest refusal.PriceInput e), λ k. rw (k.0.0, k.0.1, k.1, k.2))
    where
      go : Told w p c r rest refusal.PriceInput → ((w ≡ true) × (p ≡ true)) × (c ≡ false) × (r ≡ false)
      go (inl k) = absurd (omega (arith, number k.0))
      go (inr (inl k)) = absurd (omega (arith, number k.0))
      go (inr (inr (inl k))) = absurd (omega (arith, number k.0))
      go (inr (inr (inr (inl k)))) = (k.1, k.2, k.3)
      go (inr (inr (inr (inr k)))) = absurd (omega (arith, late k.2 refusal.PriceInput k.3))

  pub said_late : (m : Refusal) → 19 < number_of m → (said w p c r rest ≡ Err m) ↔ (((w ≡ true) × (p ≡ true)) × (c ≡ false) × (r ≡ true) × (rest ≡ Err m))
  said_late m h = (λ e. go (tells w p c r rest m e), λ k. rw (k.0.0, k.0.1, k.1, k.2) k.3)
    where
      go : Told w p c r rest m → ((w ≡ true) × (p ≡ true)) × (c ≡ false) × (r ≡ true) × (rest ≡ Err m)
      go (inl k) = absurd (omega (arith, number k.0))
      go (inr (inl k)) = absurd (omega (arith, number k.0))
      go (inr (inr (inl k))) = absurd (omega (arith, number k.0))
      go (inr (inr (inr (inl k)))) = absurd (omega (arith, number k.0))
      go (inr (inr (inr (inr k)))) = k

  pub said_other : (m : Refusal) → said w p c r rest ≡ Err m
      → (number_of m ≡ 11) ⊎ (number_of m ≡ 12) ⊎ (number_of m ≡ 14) ⊎ (number_of m ≡ 19) ⊎ ((r ≡ true) × (rest ≡ Err m))
  said_other m e = go (tells w p c r rest m e)
    where
      go : Told w p c r rest m → (number_of m ≡ 11) ⊎ (number_of m ≡ 12) ⊎ (number_of m ≡ 14) ⊎ (number_of m ≡ 19) ⊎ ((r ≡ true) × (rest ≡ Err m))
      go (inl k) = inl (number k.0)
      go (inr (inl k)) = inr (inl (number k.0))
      go (inr (inr (inl k))) = inr (inr (inl (number k.0)))
      go (inr (inr (inr (inl k)))) = inr (inr (inr (inl (number k.0))))
      go (inr (inr (inr (inr k)))) = inr (inr (inr (inr (k.2, k.3))))

-- so of an answer on a book and a session
pub refused_early : (book session : List ℕ) (answer : Result Premium Refusal) (r : Bool) (rest : Result Premium Refusal) → (r ≡ true → (m : Refusal) → rest ≡ Err m → 19 < number_of m)
    → answer ≡ said (well_formed book) (passes (formula_of book) session) (in_conflict (held (formula_of book) session)) r rest → RefusedEarly book session answer
refused_early book session answer r rest late is =
    let w = well_formed book in
    let p = passes (formula_of book) session in
    let c = in_conflict (held (formula_of book) session) in
    record {
      book_fault = rw is (said_11 w p c r rest late);
      session_fault = rw is (said_12 w p c r rest late);
      conflict = rw is (said_14 w p c r rest late);
    }

-- what the lines come to is refused by 20 alone, and exactly where the running amount goes beyond its limit
pub offered_number : (n : ℕ) (state : Option ℤ) (m : Refusal) → offered n state ≡ Err m → m ≡ refusal.RunningAmount
offered_number n (Some x) m e = cc
offered_number n None m e = cc

pub offered_20 : (holds : ℕ → Bool) (start : ℤ) (lines : List RateLine) (n : ℕ) → (offered n (priced_by holds (Some start) lines) ≡ Err refusal.RunningAmount) ↔ GoesBeyond holds start lines
offered_20 holds start lines n = (
  λ e. goes holds lines start (go (priced_by holds (Some start) lines) e),
  λ g. ap (offered n) (gone holds lines start g),
)
  where
    go : (state : Option ℤ) → offered n state ≡ Err refusal.RunningAmount → state ≡ None
    go (Some x) e = cc
    go None e = refl

-- the number of open lines
abbrev pub open_count : List ℕ → List ℕ → List ℤ → ℕ
open_count book session numbers = open_lines (is_true (held (formula_of book) session).trail) (lines_of numbers)

module _ (book session : List ℕ) (base : ℤ) (numbers : List ℤ) where
  abbrev run : Run
  run = held (formula_of book) session

  -- what the lines come to
  abbrev pub state : Option ℤ
  state = priced_by (is_true run.trail) (Some base) (lines_of numbers)

  pub said_is : premium_answer book session base numbers
      ≡ said (well_formed book) (passes (formula_of book) session) (in_conflict run) (rates_within book base numbers) (offered (open_count book session numbers) state)
  unfolding premium_answer price_refusal call_refusal refusal_of first_with refusals
  said_is = go (well_formed book) (passes (formula_of book) session) (in_conflict run) (rates_within book base numbers)
    where
      go : (w p c r : Bool)
          → premium_of base (lines_of numbers) (outcome (cond w (cond p (cond c 14 (cond r 0 19)) 12) 11) run) ≡ said w p c r (offered (open_count book session numbers) state)
      go false p c r = refl
      go true false c r = refl
      go true true true r = refl
      go true true false false = refl
      go true true false true = refl

  -- Each refusal exactly where the text says.
  pub price_numbers : RefusedWhere book session base numbers
  price_numbers =
      let w = well_formed book in
      let p = passes (formula_of book) session in
      let c = in_conflict run in
      let r = rates_within book base numbers in
      let rest = offered (open_count book session numbers) state in
      let late : r ≡ true → (m : Refusal) → rest ≡ Err m → 19 < number_of m = λ t m e. omega (arith, number (offered_number _ state m e)) in
      let beyond = offered_20 (is_true run.trail) base (lines_of numbers) (open_count book session numbers) in
      record {
        early = refused_early book session (premium_answer book session base numbers) r rest late said_is;
        range = rw said_is (said_19 w p c r rest late);
        limit =
            let both = said_late w p c r rest late refusal.RunningAmount (lit< tt) in (
              λ e. let k = both.0 (sym said_is ∙ e) in (k.0, k.1, k.2, beyond.0 k.3),
              λ k. said_is ∙ both.1 (k.0, k.1, k.2, beyond.1 k.3),
            );
        no_other = λ m e. other m (said_other w p c r rest late m (sym said_is ∙ e));
      }
    where
      other : (r : Refusal) → (number_of r ≡ 11) ⊎ (number_of r ≡ 12) ⊎ (number_of r ≡ 14) ⊎ (number_of r ≡ 19) ⊎ ((rates_within book base numbers ≡ true) × (offered (open_count book session numbers) state ≡ Err r))
          → (number_of r ≡ 11) ⊎ (number_of r ≡ 12) ⊎ (number_of r ≡ 14) ⊎ (number_of r ≡ 19) ⊎ (number_of r ≡ 20)
      other r (inl k) = inl k
      other r (inr (inl k)) = inr (inl k)
      other r (inr (inr (inl k))) = inr (inr (inl k))
      other r (inr (inr (inr (inl k)))) = inr (inr (inr (inl k)))
      other r (inr (inr (inr (inr k)))) = inr (inr (inr (inr (number (offered_number _ state r k.1)))))

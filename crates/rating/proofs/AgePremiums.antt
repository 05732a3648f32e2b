-- What holds of every premium by age: each refusal where it is due, the neutral table, faults at every age, any order of the bands; and three of the theorems on every premium.
use Prim.Native.Nat.{ℕ, suc, ◌+◌, ◌*◌, ◌/◌, ◌≤◌, ◌<◌}
use mathlib.Core.Bool.{Bool, true, false, cond, ◌&&◌}
use mathlib.Core.List.{List, [], ◌∷◌}
use mathlib.Core.Logic.{◌↔◌, ◌⊎◌, inl, inr}
use mathlib.Core.Path.{◌≡◌, refl, sym, ap, subst, ◌∙◌}
use native.Mathlib.Omega.{arith}
use borrow.Author.Tests.{eqb-true, leb-true, le-leb}
use lib.Dec.{leb, eqb, lit<}
use lib.IntN.{ℤ, pos, negsuc, ◌*ℤ◌}
use Rattle.base.specs.Lists.{all, keep, table, by_three, member, Reordered}
use Rattle.base.proofs.Bools.{both, and_parts}
use Rattle.bands.specs.Bands.{max_age, bands_of, are_bands, band_within, table_within, lies_in, bands_at, at_fault, checked_table, factor_at, factor_by, factor_answer}
use Rattle.bands.specs.Statement.{GoodTable, LowestFault}
use Rattle.bands.specs.declared.Band.{Band}
use Rattle.bands.specs.declared.TableFault.{TableFault}
use Rattle.bands.specs.declared.TableFault.TheVariants.{Malformed, Gap, Overlap}
use Rattle.std.specs.Prelude.{Result, Ok, Err, Some, ⊤}
use Rattle.refusals.specs.declared.Refusal.{Refusal}
use Rattle.refusals.specs.declared.Refusal.TheVariants as refusal
use Rattle.refusals.specs.Refusals.{number_of, refusals, first_with, refusal_of, outcome}
use Rattle.bands.proofs.Checker.{in_range, good_exactly, fault_exactly, malformed_exactly}
use Rattle.bands.proofs.Factors.{factor_told, factor_most, own_factor, any_order_factor}
use Rattle.bands.proofs.TableLaws.{outside, factor_by_lem}
use Rattle.book.specs.Numbers.{well_formed, formula_of}
use Rattle.run.specs.Trail.{is_true, decisions}
use Rattle.run.specs.Run.{Run, in_conflict}
use Rattle.run.specs.Closure.{Closure}
use Rattle.layout.specs.Layout.{held}
use Rattle.validation.specs.Validation.{passes, call_refusal, read_refusal}
use Rattle.rating.specs.Pricing.{lines_of, base_within, rounded, priced_by, open_lines, offered, premium_of, rates_within, run_refusal, price_refusal, premium_answer}
use Rattle.rating.specs.Ages.{scaled, age_premium, age_answer}
use Rattle.rating.specs.Statement.{Nearest, GoesBeyond, Passes, Bounded}
use Rattle.rating.specs.AgeStatement.{neutral, age_base, all_within, AgeRefusedWhere}
use Rattle.rating.specs.declared.Premium.{Premium}
use Rattle.rating.proofs.AnswerLaws.{accepted_price, offered_of}
use Rattle.rating.proofs.AgeLaws.{scaled_small, age_answered}
use Rattle.rating.proofs.Premiums.{bounded_from, offered_by_closure, same_offered, same_refusal}
use Rattle.rating.proofs.Refusals.{number, sole, said, said_19, said_late, said_other, refused_early, offered_number, offered_20}
use Rattle.rating.proofs.Rounding.{rounded_nearest}

module _ (book session : List ℕ) (base : ℤ) (table : List ℕ) (age : ℕ) (numbers : List ℤ) where
  abbrev run : Run
  run = held (formula_of book) session

  -- what is left where base, list, age and table are within their ranges, by the report on the table
  abbrev by : Result ⊤ TableFault → Result Premium Refusal
  by report = age_premium base (lines_of numbers) (factor_by age (bands_of table) report) (Ok run)

  abbrev rest : Result Premium Refusal
  rest = by (checked_table table)

  abbrev within : Bool
  within = all_within book base table age numbers

  age_said : age_answer book session base table age numbers
      ≡ said (well_formed book) (passes (formula_of book) session) (in_conflict run) within rest
  unfolding age_answer price_refusal call_refusal factor_answer refusal_of first_with refusals
  age_said = go (well_formed book) (passes (formula_of book) session) (in_conflict run) (rates_within book base numbers) (leb age max_age) (table_within table) refl
    where
      go : (w p c r a t : Bool) → table_within table ≡ t →
          let early : ℕ = cond w (cond p (cond c 14 (cond r 0 19)) 12) 11 in
          age_premium base (lines_of numbers) (cond a (factor_by age (bands_of table) (checked_table table)) (Err refusal.PriceInput)) (outcome early run) ≡ said w p c (r && (a && t)) rest
      go false p c r a t e = refl
      go true false c r a t e = refl
      go true true true r a t e = refl
      go true true false false a t e = refl
      go true true false true false t e = refl
      go true true false true true true e = refl
      go true true false true true false e = ap by (sym (outside table e))

  -- the parts of what is within its range
  ranges : within ≡ true → (rates_within book base numbers ≡ true) × (age ≤ max_age) × (table_within table ≡ true)
  ranges e =
      let parts = and_parts (rates_within book base numbers) (leb age max_age && table_within table) e in
      let inner = and_parts (leb age max_age) (table_within table) parts.1 in
      (parts.0, leb-true age max_age inner.0, inner.1)

  -- what is left is refused by the fault of the table, or by 20
  abbrev Left : Refusal → Type 0
  Left m =
      ((m ≡ refusal.RunningAmount) × (checked_table table ≡ Ok tt))
      ⊎ ((m ≡ refusal.AgeGap) × ((lowest : ℕ) × (checked_table table ≡ Err (Gap lowest))))
      ⊎ ((m ≡ refusal.AgeOverlap) × ((lowest : ℕ) × (checked_table table ≡ Err (Overlap lowest))))

  left : (report : Result ⊤ TableFault) → checked_table table ≡ report → table_within table ≡ true → (m : Refusal) → by report ≡ Err m → Left m
  left (Ok good) e is_within m q =
      inl (offered_number (open_lines (is_true run.trail) (lines_of numbers)) (priced_by (is_true run.trail) (Some (age_base base table age)) (lines_of numbers)) m q, e)
  left (Err Malformed) e is_within m q = absurd ((malformed_exactly table).0 e ((in_range table).0 is_within))
  left (Err (Gap lowest)) e is_within m q = inr (inl (cc, (lowest, e)))
  left (Err (Overlap lowest)) e is_within m q = inr (inr (cc, (lowest, e)))

  late : within ≡ true → (m : Refusal) → rest ≡ Err m → 19 < number_of m
  late r m q = go (left (checked_table table) refl (ranges r).2 m q)
    where
      go : Left m → 19 < number_of m
      go (inl k) = omega (arith, number k.0)
      go (inr (inl k)) = omega (arith, number k.0)
      go (inr (inr k)) = omega (arith, number k.0)

  -- What a refusal by the table is due to: 25, 26.
  abbrev FaultWhere : Refusal → ℕ → Type 0
  FaultWhere m number = (age_answer book session base table age numbers ≡ Err m)
      ↔ (Passes book session × (in_conflict run ≡ false) × (within ≡ true) × ((lowest : ℕ) × LowestFault table number lowest))

  gap_where : FaultWhere refusal.AgeGap 25
  gap_where =
      let exactly = said_late (well_formed book) (passes (formula_of book) session) (in_conflict run) within rest late refusal.AgeGap (lit< tt) in (
        λ e. let k = exactly.0 (sym age_said ∙ e) in (k.0, k.1, k.2, go (left (checked_table table) refl (ranges k.2).2 refusal.AgeGap k.3)),
        λ k. age_said ∙ exactly.1 (k.0, k.1, k.2, ap by ((fault_exactly table k.3.0).0.1 k.3.1)),
      )
    where
      go : Left refusal.AgeGap → (lowest : ℕ) × LowestFault table 25 lowest
      go (inl k) = absurd (omega (arith, number k.0))
      go (inr (inl k)) = (k.1.0, (fault_exactly table k.1.0).0.0 k.1.1)
      go (inr (inr k)) = absurd (omega (arith, number k.0))

  overlap_where : FaultWhere refusal.AgeOverlap 26
  overlap_where =
      let exactly = said_late (well_formed book) (passes (formula_of book) session) (in_conflict run) within rest late refusal.AgeOverlap (lit< tt) in (
        λ e. let k = exactly.0 (sym age_said ∙ e) in (k.0, k.1, k.2, go (left (checked_table table) refl (ranges k.2).2 refusal.AgeOverlap k.3)),
        λ k. age_said ∙ exactly.1 (k.0, k.1, k.2, ap by ((fault_exactly table k.3.0).1.1 k.3.1)),
      )
    where
      go : Left refusal.AgeOverlap → (lowest : ℕ) × LowestFault table 26 lowest
      go (inl k) = absurd (omega (arith, number k.0))
      go (inr (inl k)) = absurd (omega (arith, number k.0))
      go (inr (inr k)) = (k.1.0, (fault_exactly table k.1.0).1.0 k.1.1)

  limit_where : (age_answer book session base table age numbers ≡ Err refusal.RunningAmount)
      ↔ (Passes book session × (in_conflict run ≡ false) × (within ≡ true) × (GoodTable table × GoesBeyond (is_true run.trail) (age_base base table age) (lines_of numbers)))
  limit_where =
      let exactly = said_late (well_formed book) (passes (formula_of book) session) (in_conflict run) within rest late refusal.RunningAmount (lit< tt) in (
        λ e.
            let k = exactly.0 (sym age_said ∙ e) in
            let good = go (left (checked_table table) refl (ranges k.2).2 refusal.RunningAmount k.3) in
            (k.0, k.1, k.2, ((good_exactly table).0 good, beyond.0 (sym (ap by good) ∙ k.3))),
        λ k. age_said ∙ exactly.1 (k.0, k.1, k.2, ap by ((good_exactly table).1 k.3.0) ∙ beyond.1 k.3.1),
      )
    where
      beyond : (by (Ok tt) ≡ Err refusal.RunningAmount) ↔ GoesBeyond (is_true run.trail) (age_base base table age) (lines_of numbers)
      beyond = offered_20 (is_true run.trail) (age_base base table age) (lines_of numbers) (open_lines (is_true run.trail) (lines_of numbers))

      go : Left refusal.RunningAmount → checked_table table ≡ Ok tt
      go (inl k) = k.1
      go (inr (inl k)) = absurd (omega (arith, number k.0))
      go (inr (inr k)) = absurd (omega (arith, number k.0))

  -- Each refusal exactly where the text says.
  pub age_numbers : AgeRefusedWhere book session base table age numbers
  age_numbers =
      let w = well_formed book in
      let p = passes (formula_of book) session in
      let c = in_conflict run in
      record {
        early = refused_early book session (age_answer book session base table age numbers) within rest late age_said;
        range = rw age_said (said_19 w p c within rest late);
        in_none = gap_where;
        in_several = overlap_where;
        limit = limit_where;
        no_other = λ r e. other r (said_other w p c within rest late r (sym age_said ∙ e));
      }
    where
      last : (r : Refusal) → Left r
          → (number_of r ≡ 11) ⊎ (number_of r ≡ 12) ⊎ (number_of r ≡ 14) ⊎ (number_of r ≡ 19) ⊎ (number_of r ≡ 20) ⊎ (number_of r ≡ 25) ⊎ (number_of r ≡ 26)
      last r (inl k) = inr (inr (inr (inr (inl (number k.0)))))
      last r (inr (inl k)) = inr (inr (inr (inr (inr (inl (number k.0))))))
      last r (inr (inr k)) = inr (inr (inr (inr (inr (inr (number k.0))))))

      other : (r : Refusal) → (number_of r ≡ 11) ⊎ (number_of r ≡ 12) ⊎ (number_of r ≡ 14) ⊎ (number_of r ≡ 19) ⊎ ((within ≡ true) × (rest ≡ Err r))
          → (number_of r ≡ 11) ⊎ (number_of r ≡ 12) ⊎ (number_of r ≡ 14) ⊎ (number_of r ≡ 19) ⊎ (number_of r ≡ 20) ⊎ (number_of r ≡ 25) ⊎ (number_of r ≡ 26)
      other r (inl k) = inl k
      other r (inr (inl k)) = inr (inl k)
      other r (inr (inr (inl k))) = inr (inr (inl k))
      other r (inr (inr (inr (inl k)))) = inr (inr (inr (inl k)))
      other r (inr (inr (inr (inr k)))) = last r (left (checked_table table) refl (ranges k.0).2 r k.1)

  -- What is answered was not refused before the table was looked at.
  pub age_accepted : (amount : ℤ) (n : ℕ) → age_answer book session base table age numbers ≡ Ok (record { amount = amount; open_lines = n }) → 0 ≡ price_refusal book session base numbers
  unfolding age_answer
  age_accepted amount n e = go (eqb (price_refusal book session base numbers) 0) refl e
    where
      go : (t : Bool) → eqb (price_refusal book session base numbers) 0 ≡ t
          → age_premium base (lines_of numbers) (factor_answer table age) (cond t (Ok run) (Err (refusal_of (price_refusal book session base numbers)))) ≡ Ok (record { amount = amount; open_lines = n }) → 0 ≡ price_refusal book session base numbers
      go true p r = sym (eqb-true _ 0 p)
      go false p r = cc

  -- An amount that is answered is within its limit at every line, from the scaled base on.
  pub age_bounded : (amount : ℤ) (n : ℕ) → age_answer book session base table age numbers ≡ Ok (record { amount = amount; open_lines = n }) → Bounded book session (age_base base table age) numbers amount n
  unfolding age_answer
  age_bounded amount n e = go (eqb (price_refusal book session base numbers) 0) (factor_answer table age) refl refl e
    where
      go : (t : Bool) (answer : Result ℕ Refusal) → eqb (price_refusal book session base numbers) 0 ≡ t → factor_answer table age ≡ answer
          → age_premium base (lines_of numbers) answer (cond t (Ok run) (Err (refusal_of (price_refusal book session base numbers)))) ≡ Ok (record { amount = amount; open_lines = n }) → Bounded book session (age_base base table age) numbers amount n
      go true (Ok f) p q r =
          let known = accepted_price book session base numbers (sym (eqb-true _ 0 p)) in
          let parts = offered_of (open_lines (is_true run.trail) (lines_of numbers)) (priced_by (is_true run.trail) (Some (scaled base f)) (lines_of numbers)) amount n r in
          subst (λ (x : ℕ). Bounded book session (scaled base x) numbers amount n) (factor_told table age f (sym q)).2
          (bounded_from book session (scaled base f) numbers (scaled_small base f known.base_right (factor_most table age f (sym q))) known.list_right amount n parts.0 parts.1)
      go true (Err refused) p q r = cc
      go false answer p q r = cc

  -- On a good table, as `price_by_closure` says it from the base itself on.
  pub age_by_closure : 0 ≡ price_refusal book session base numbers → GoodTable table → age ≤ max_age
      → (holds : ℕ → Bool) → ((l : ℕ) → (holds l ≡ true) ↔ Closure (formula_of book) (decisions run.trail) l)
      → age_answer book session base table age numbers ≡ offered (open_lines holds (lines_of numbers)) (priced_by holds (Some (age_base base table age)) (lines_of numbers))
  age_by_closure e good h holds by-closure =
      let known = accepted_price book session base numbers e in
      sym (age_answered book session base table age numbers e _ (factor_by_lem table age h (Ok tt) (sym ((good_exactly table).1 good))))
      ∙ offered_by_closure book session (age_base base table age) numbers known.passes known.out holds by-closure

-- On a good table the scaled base is base × factor ÷ 1,000 to the nearest cent, by the factor of the one band that the age lies in.
pub own_base : (base : ℤ) (table : List ℕ) → GoodTable table → (age : ℕ) → age ≤ max_age
    → (own : Band) × (bands_at age (bands_of table) ≡ own ∷ []) × Nearest (base *ℤ pos own.factor) (age_base base table age)
unfolding scaled
own_base base table good age h =
    let own = own_factor table good age h in
    (own.0, own.1, rw own.2 (rounded_nearest (base *ℤ pos own.0.factor)))

-- Where it is within the range of a base exactly if the given one is, the answer is the price from it on.
pub age_is_price : (book session : List ℕ) (base : ℤ) (table : List ℕ) → GoodTable table → (age : ℕ) → age ≤ max_age → base_within (age_base base table age) ≡ base_within base
    → (numbers : List ℤ) → age_answer book session base table age numbers ≡ premium_answer book session (age_base base table age) numbers
unfolding age_answer premium_answer price_refusal
age_is_price book session base table good age h same numbers =
    rw (same, ← factor_by_lem table age h (Ok tt) (sym ((good_exactly table).1 good))) (go (eqb (price_refusal book session base numbers) 0))
  where
    go : (t : Bool) →
        let run = held (formula_of book) session in
        let number = call_refusal book session (run_refusal (rates_within book base numbers)) in
        age_premium base (lines_of numbers) (Ok (factor_at age (bands_of table))) (cond t (Ok run) (Err (refusal_of number)))
        ≡ premium_of (age_base base table age) (lines_of numbers) (cond t (Ok run) (Err (refusal_of number)))
    go true = refl
    go false = refl

-- A table at fault is refused by its number at every age from 0 to 120.
pub fault_whatever_age : (book session : List ℕ) (base : ℤ) (table : List ℕ) (age other : ℕ) (numbers : List ℤ) → other ≤ max_age
    → (r : Refusal) → (number_of r ≡ 25) ⊎ (number_of r ≡ 26) → age_answer book session base table age numbers ≡ Err r → age_answer book session base table other numbers ≡ Err r
fault_whatever_age book session base table age other numbers h r which e = go which
  where
    at_other : (m : Refusal) (n : ℕ) → FaultWhere book session base table age numbers m n → FaultWhere book session base table other numbers m n → r ≡ m
        → age_answer book session base table other numbers ≡ Err r
    at_other m n here there is =
        let k = here.0 (e ∙ ap Err is) in
        let parts = ranges book session base table age numbers k.2 in
        there.1 (k.0, k.1, both parts.0 (both (le-leb other max_age h) parts.2), k.3) ∙ ap Err (sym is)

    go : (number_of r ≡ 25) ⊎ (number_of r ≡ 26) → age_answer book session base table other numbers ≡ Err r
    go (inl n) = at_other refusal.AgeGap 25 (gap_where book session base table age numbers) (gap_where book session base table other numbers) (sole r refusal.AgeGap n)
    go (inr n) = at_other refusal.AgeOverlap 26 (overlap_where book session base table age numbers) (overlap_where book session base table other numbers) (sole r refusal.AgeOverlap n)

-- The order of the bands does not matter.
pub bands_any_order : (book session : List ℕ) (base : ℤ) (table others : List ℕ) → are_bands table ≡ true → are_bands others ≡ true → Reordered (bands_of table) (bands_of others)
    → (age : ℕ) (numbers : List ℤ) → age_answer book session base table age numbers ≡ age_answer book session base others age numbers
unfolding age_answer
bands_any_order book session base table others whole whole-too r age numbers = rw (any_order_factor table others whole whole-too r age)

-- Two sessions on one book that pass and hold the same decisions are priced alike by age, refused or not.
pub same_decisions_same_age_price : (book a b : List ℕ) → read_refusal book a ≡ 0 → read_refusal book b ≡ 0
    → ((l : ℕ) → member l (decisions (held (formula_of book) a).trail) ≡ member l (decisions (held (formula_of book) b).trail))
    → (base : ℤ) (table : List ℕ) (age : ℕ) (numbers : List ℤ) → age_answer book a base table age numbers ≡ age_answer book b base table age numbers
unfolding age_answer
same_decisions_same_age_price book a b e f same base table age numbers =
    rw (same_refusal book a b e f same base numbers) (go (eqb (price_refusal book b base numbers) 0) (factor_answer table age) refl)
  where
    go : (t : Bool) (answer : Result ℕ Refusal) → eqb (price_refusal book b base numbers) 0 ≡ t
        → age_premium base (lines_of numbers) answer (cond t (Ok (held (formula_of book) a)) (Err (refusal_of (price_refusal book b base numbers))))
        ≡ age_premium base (lines_of numbers) answer (cond t (Ok (held (formula_of book) b)) (Err (refusal_of (price_refusal book b base numbers))))
    go true (Ok thousandths) q = same_offered book a b e f same base numbers (sym (eqb-true _ 0 q)) (scaled base thousandths)
    go true (Err refused) q = refl
    go false answer q = refl

-- The neutral table has the factor 1,000 at every age,
neutral_good : checked_table neutral ≡ Ok tt
unfolding checked_table table_within are_bands bands_of band_within by_three all keep table at_fault bands_at lies_in
neutral_good = refl

neutral_factor : (age : ℕ) → age ≤ max_age → factor_at age (bands_of neutral) ≡ 1000
unfolding factor_at bands_at bands_of by_three keep lies_in
neutral_factor age h = rw (le-leb 0 age (omega arith), le-leb age max_age h)

-- which scales no base,
neutral_scaled : (base : ℤ) → scaled base 1000 ≡ base
unfolding scaled rounded
neutral_scaled (pos n) = let same : (n * 1000 + 500) / 1000 ≡ n = omega arith in ap pos same
neutral_scaled (negsuc n) =
    let one_less : suc n * 1000 ≡ suc (n * 1000 + 999) = omega arith in
    let same : (suc (n * 1000 + 999) + 500) / 1000 ≡ suc n = omega arith in
    rw (one_less, same)

-- so that by it a price by age is the price.
pub neutral_table : (book session : List ℕ) (base : ℤ) (age : ℕ) (numbers : List ℤ) → age ≤ max_age → age_answer book session base neutral age numbers ≡ premium_answer book session base numbers
neutral_table book session base age numbers h =
    let is : age_base base neutral age ≡ base = ap (scaled base) (neutral_factor age h) ∙ neutral_scaled base in
    age_is_price book session base neutral ((good_exactly neutral).0 neutral_good) age h (ap base_within is) numbers ∙ ap (λ (start : ℤ). premium_answer book session start numbers) is

-- The range of the base, what figures tell, the refusals in their order, and what an answer tells.
use Prim.Native.Nat.{ℕ, ◌≤◌}
use mathlib.Core.Bool.{Bool, true, false, cond, and-false}
use mathlib.Core.List.{List}
use mathlib.Core.Path.{◌≡◌, refl, sym, ap, ◌∙◌}
use native.Mathlib.Omega.{arith}
use borrow.Author.Tests.{le-leb, leb-true, eqb-true, ne_eqb}
use lib.Dec.{eqb}
use lib.IntN.{ℤ, pos, negsuc, nat_abs}
use mir.Syntax.{w64}
use mir.Val.{SFits, to_z, of_z}
use mir.ValLaws.{to_z-of_z}
use lib.Signed.{le_z}
use Rattle.base.proofs.Bools.{never, and_parts}
use Rattle.book.specs.Numbers.{well_formed, variables_of, formula_of}
use Rattle.run.specs.Trail.{is_true}
use Rattle.run.specs.Run.{Run, in_conflict}
use Rattle.run.proofs.Conflicts.{quiet_out, out_quiet}
use Rattle.layout.specs.Layout.{held}
use Rattle.validation.specs.Validation.{passes, call_refusal, read_refusal}
use Rattle.std.specs.Prelude.{Result, Ok, Err, Option, Some, None}
use Rattle.refusals.specs.declared.Refusal.{Refusal}
use Rattle.refusals.specs.Refusals.{refusal_of, checked}
use Rattle.refusals.proofs.OutcomeLaws.{passed, outcome_accepted, outcome_refused, refused_alike}
use Rattle.session.specs.Outcomes.{figures_answer}
use Rattle.session.specs.declared.Shown.{Shown}
use Rattle.session.proofs.ToldLaws.{shown_refused, shown_conflict}
use Rattle.session.proofs.AnswerLaws.{refused_alike_first}
use Rattle.session.proofs.PassedLaws.{none_first, own_refusal}
use Rattle.rating.specs.Pricing.{max_base, max_running, base_within, list_within, lines_of, priced_by, open_lines, offered, premium_of, rates_within, run_refusal, price_refusal, premium_answer}
use Rattle.rating.specs.declared.Premium.{Premium}

pub base_negative : (x : ℤ) → le_z (pos 0) x ≡ false → le_z (pos 0) x ≡ base_within x
unfolding base_within
base_negative (pos n) e = absurd (never (le-leb 0 n (omega arith)) e)
base_negative (negsuc n) e = refl

pub base_natural : (x : ℤ) → le_z (pos 0) x ≡ true → le_z x (pos max_base) ≡ base_within x
unfolding base_within
base_natural (pos n) e = refl
base_natural (negsuc n) e = absurd (never e refl)

pub base_most : (x : ℤ) → base_within x ≡ true → nat_abs x ≤ max_base
unfolding base_within
base_most (pos n) e = leb-true n max_base e
base_most (negsuc n) e = absurd (never e refl)

-- so it is no running amount beyond its own limit
pub base_small : (x : ℤ) → base_within x ≡ true → nat_abs x ≤ max_running
base_small x e = omega (arith, base_most x e)

-- what the lines come to where there is an amount
pub offered_of : (count : ℕ) (state : Option ℤ) (amount : ℤ) (n : ℕ) → offered count state ≡ Ok (record { amount = amount; open_lines = n }) → (state ≡ Some amount) × (count ≡ n)
offered_of count (Some x) amount n e =
    let same : ◌≡◌ {A = Premium} (record { amount = x; open_lines = count }) (record { amount = amount; open_lines = n }) = cc in
    (ap Some (ap (λ (p : Premium). p.amount) same), ap (λ (p : Premium). p.open_lines) same)
offered_of count None amount n e = cc

module _ (book session : List ℕ) where
  abbrev run : Run
  run = held (formula_of book) session

  -- what is refused before the base and the lines are looked at
  abbrev session_refusal : ℕ
  session_refusal = call_refusal book session (run_refusal true)

  pub figures_refuse : (r : Refusal) → Err r ≡ figures_answer book session → Err r ≡ checked session_refusal
  unfolding figures_answer
  figures_refuse r e =
      refused_alike_first book session (run_refusal true) r (sym (refused_alike (read_refusal book session) run tt r (shown_refused r _ e)))

  module _ (shown : Shown) (e : Ok shown ≡ figures_answer book session) where
    figures_tell : (0 ≡ read_refusal book session) × (shown.conflict ≡ run.conflict)
    unfolding figures_answer
    figures_tell =
        let told = shown_conflict shown _ e in
        let of_run = outcome_accepted (read_refusal book session) run told.0 told.1 in
        (sym of_run.0, told.2 ∙ sym (ap (λ (r : Run). r.conflict) of_run.1))

    pub figures_conflict : (shown.conflict ≡ 0 → ⊥) → 14 ≡ session_refusal
    figures_conflict h = sym (own_refusal book session figures_tell.0 (run_refusal true) ∙ rw (← figures_tell.1, ne_eqb shown.conflict 0 h))

    pub figures_quiet : shown.conflict ≡ 0 → 0 ≡ session_refusal
    figures_quiet z = sym (own_refusal book session figures_tell.0 (run_refusal true) ∙ rw (quiet_out run (sym figures_tell.1 ∙ z)))

  module _ (base : ℤ) (numbers : List ℤ) where
    abbrev right : Bool
    right = rates_within book base numbers

    refused_before : (n : ℕ) → n ≡ session_refusal → (n ≡ 0 → ⊥) → n ≡ price_refusal book session base numbers
    unfolding price_refusal call_refusal
    refused_before n e h = go (well_formed book) (passes (formula_of book) session) (in_conflict run) e
      where
        go : (w p c : Bool) → n ≡ cond w (cond p (cond c 14 0) 12) 11 → n ≡ cond w (cond p (cond c 14 (cond right 0 19)) 12) 11
        go true true true q = q
        go true true false q = absurd (h q)
        go true false c q = q
        go false p c q = q

    pub session_refused : (r : Refusal) → Err r ≡ checked session_refusal → Err r ≡ checked (price_refusal book session base numbers)
    session_refused r e = let refused = outcome_refused _ _ r (sym e) in rw (← refused_before session_refusal refl refused.0) e

    module _ (quiet : 0 ≡ session_refusal) where
      own : cond right 0 19 ≡ price_refusal book session base numbers
      unfolding price_refusal
      own =
          let none = none_first book session (run_refusal true) quiet in
          let out = go (in_conflict run) (quiet ∙ own_refusal book session none (run_refusal true)) in
          sym (own_refusal book session none (run_refusal right) ∙ rw out)
        where
          go : (c : Bool) → ◌≡◌ {A = ℕ} 0 (cond c 14 0) → c ≡ false
          go true q = absurd (omega arith)
          go false q = refl

      pub base_outside : false ≡ base_within base → 19 ≡ price_refusal book session base numbers
      base_outside e = rw (← e) at own

      pub list_outside : false ≡ list_within (variables_of book) numbers → 19 ≡ price_refusal book session base numbers
      list_outside e = rw (← e, and-false (base_within base)) at own

      pub none_outside : true ≡ base_within base → true ≡ list_within (variables_of book) numbers → 0 ≡ price_refusal book session base numbers
      none_outside b l = rw (← b, ← l) at own

    -- what is known where nothing is refused before the first line
    pub record Accepted : Type 0 where
      pub passes : read_refusal book session ≡ 0
      pub out : run.conflict ≡ 0
      pub base_right : base_within base ≡ true
      pub list_right : list_within (variables_of book) numbers ≡ true

    -- a call that passes the check of the number that the machine read
    pub price_passed : SFits w64 base → Ok tt ≡ checked (price_refusal book session (to_z w64 (of_z w64 base)) numbers) → 0 ≡ price_refusal book session base numbers
    price_passed fits e = passed _ _ (e ∙ ap (λ (x : ℤ). checked (price_refusal book session x numbers)) (to_z-of_z w64 base fits))

    pub accepted_price : 0 ≡ price_refusal book session base numbers → Accepted
    unfolding price_refusal
    accepted_price e =
        let none = none_first book session (run_refusal right) e in
        let parts = go (in_conflict run) right (e ∙ own_refusal book session none (run_refusal right)) in
        let both = and_parts (base_within base) (list_within (variables_of book) numbers) parts.1 in
        record { passes = sym none; out = out_quiet run parts.0; base_right = both.0; list_right = both.1 }
      where
        go : (c w : Bool) → ◌≡◌ {A = ℕ} 0 (cond c 14 (cond w 0 19)) → (c ≡ false) × (w ≡ true)
        go true w q = absurd (omega arith)
        go false true q = (refl, refl)
        go false false q = absurd (omega arith)

    -- the answer, refused or not
    pub answers_refused : (r : Refusal) → Err r ≡ checked (price_refusal book session base numbers) → Err r ≡ premium_answer book session base numbers
    unfolding premium_answer
    answers_refused r e =
        let refused = outcome_refused _ _ r (sym e) in
        rw (ne_eqb (price_refusal book session base numbers) 0 refused.0, refused.1)

    pub answers_premium : 0 ≡ price_refusal book session base numbers → (p : Result Premium Refusal) → p ≡ premium_of base (lines_of numbers) (Ok run)
        → p ≡ premium_answer book session base numbers
    unfolding premium_answer
    answers_premium e p is = is ∙ rw (← e)

    -- what an amount and a number of open lines tell
    pub answered : (amount : ℤ) (n : ℕ) → premium_answer book session base numbers ≡ Ok (record { amount = amount; open_lines = n })
        → (0 ≡ price_refusal book session base numbers)
        × (priced_by (is_true run.trail) (Some base) (lines_of numbers) ≡ Some amount)
        × (open_lines (is_true run.trail) (lines_of numbers) ≡ n)
    unfolding premium_answer
    answered amount n e = go (eqb (price_refusal book session base numbers) 0) refl e
      where
        go : (t : Bool) → eqb (price_refusal book session base numbers) 0 ≡ t
            → premium_of base (lines_of numbers) (cond t (Ok run) (Err (refusal_of (price_refusal book session base numbers)))) ≡ Ok (record { amount = amount; open_lines = n })
            → (0 ≡ price_refusal book session base numbers)
            × (priced_by (is_true run.trail) (Some base) (lines_of numbers) ≡ Some amount)
            × (open_lines (is_true run.trail) (lines_of numbers) ≡ n)
        go true p q = let parts = offered_of _ _ amount n q in (sym (eqb-true _ 0 p), parts.0, parts.1)
        go false p q = cc

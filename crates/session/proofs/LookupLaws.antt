-- What lookup answers, by the run that the session holds: positive or negative with the level of the literal that is true, and open.
use Rattle.refusals.specs.declared.Refusal.{Refusal}
use Rattle.refusals.specs.Refusals.{number_of, refusals, first_with, refusal_of, outcome}
use Rattle.refusals.proofs.OutcomeLaws.{outcome_refused}
use Rattle.session.specs.Outcomes.{assigned_of}
use Rattle.run.specs.Run.{Run}
use Rattle.std.specs.Prelude.{Result, Ok, Err}
use Prim.Native.Nat.{ℕ, ◌≤◌}
use native.Mathlib.Omega.{arith}
use mathlib.Core.Path.{◌≡◌, refl, ap, sym, ◌∙◌}
use mathlib.Core.Bool.{Bool, true, false, cond, ◌&&◌, ◌||◌}
use mathlib.Core.List.{List}
use mathlib.Core.Logic.{◌⊎◌, inl, inr, ◌↔◌, ⊎_elim}
use borrow.Author.Tests.{eqb-true, leb-true}
use lib.Dec.{leb, eqb}
use Rattle.base.proofs.Bools.{never, and_parts}
use Rattle.book.specs.Formula.{positive, negative}
use Rattle.book.specs.Numbers.{well_formed, formula_of, variables_of}
use Rattle.run.specs.Trail.{Entry, is_true, is_assigned, level}
use Rattle.run.proofs.Opposites.{opposite_positive}
use Rattle.run.proofs.Trails.{true_unfalse}
use Rattle.layout.specs.Layout.{held}
use Rattle.validation.specs.Validation.{passes, call_refusal, read_refusal}
use Rattle.session.specs.Outcomes.{lookup_refusal, lookup_answer}
use Rattle.session.specs.declared.Assigned.TheVariants.{Open, Positive, Negative}
use Rattle.session.proofs.PassedLaws.{none_first, own_refusal, facts}
use Rattle.session.proofs.AnswerLaws.{variable_refusal, answered_by}

module _ (book session : List ℕ) where
  abbrev trail : List Entry
  trail = (held (formula_of book) session).trail

  -- a variable is not true both ways
  pub not_both : 0 ≡ read_refusal book session → (v : ℕ) → is_true trail (positive v) ≡ true → is_true trail (negative v) ≡ true → ⊥
  not_both none v t f =
      never f (ap (is_true trail) (sym (opposite_positive v)) ∙ true_unfalse trail (facts book session none).0.trail_distinct (positive v) t)

  module _ (none : 0 ≡ read_refusal book session) (v : ℕ) (low : 1 ≤ v) (high : v ≤ variables_of book) where
    pub shows_positive : (n : ℕ) → (lookup_answer book session v ≡ Ok (Positive n)) ↔ ((is_true trail (positive v) ≡ true) × (level trail (positive v) ≡ n))
    shows_positive n = (
      λ a. go (is_true trail (positive v)) (is_true trail (negative v)) refl refl a,
      λ k. answered_by book session none v low high true (is_true trail (negative v)) k.0 refl ∙ ap (λ (m : ℕ). Ok (Positive m)) k.1,
    )
      where
        go : (t f : Bool) → is_true trail (positive v) ≡ t → is_true trail (negative v) ≡ f → lookup_answer book session v ≡ Ok (Positive n)
            → (t ≡ true) × (level trail (positive v) ≡ n)
        go true f p q a = let w = sym (answered_by book session none v low high true f p q) ∙ a in (refl, cc)
        go false true p q a = let w = sym (answered_by book session none v low high false true p q) ∙ a in let z : ◌≡◌ {A = ℕ} 0 1 = cc in absurd (omega arith)
        go false false p q a = let w = sym (answered_by book session none v low high false false p q) ∙ a in let z : ◌≡◌ {A = ℕ} 0 1 = cc in absurd (omega arith)

    pub shows_negative : (n : ℕ) → (lookup_answer book session v ≡ Ok (Negative n)) ↔ ((is_true trail (negative v) ≡ true) × (level trail (negative v) ≡ n))
    shows_negative n = (λ a. go (is_true trail (positive v)) (is_true trail (negative v)) refl refl a, λ k. back (is_true trail (positive v)) refl k)
      where
        go : (t f : Bool) → is_true trail (positive v) ≡ t → is_true trail (negative v) ≡ f → lookup_answer book session v ≡ Ok (Negative n)
            → (f ≡ true) × (level trail (negative v) ≡ n)
        go true f p q a = let w = sym (answered_by book session none v low high true f p q) ∙ a in let z : ◌≡◌ {A = ℕ} 0 1 = cc in absurd (omega arith)
        go false true p q a = let w = sym (answered_by book session none v low high false true p q) ∙ a in (refl, cc)
        go false false p q a = let w = sym (answered_by book session none v low high false false p q) ∙ a in let z : ◌≡◌ {A = ℕ} 0 1 = cc in absurd (omega arith)

        back : (t : Bool) → is_true trail (positive v) ≡ t → (is_true trail (negative v) ≡ true) × (level trail (negative v) ≡ n)
            → lookup_answer book session v ≡ Ok (Negative n)
        back true p k = absurd (not_both none v p k.0)
        back false p k = answered_by book session none v low high false true p k.0 ∙ ap (λ (m : ℕ). Ok (Negative m)) k.1

    pub shows_open : (lookup_answer book session v ≡ Ok Open) ↔ ((is_true trail (positive v) ≡ false) × (is_true trail (negative v) ≡ false))
    shows_open = (λ a. go (is_true trail (positive v)) (is_true trail (negative v)) refl refl a, λ k. answered_by book session none v low high false false k.0 k.1)
      where
        go : (t f : Bool) → is_true trail (positive v) ≡ t → is_true trail (negative v) ≡ f → lookup_answer book session v ≡ Ok Open
            → (t ≡ false) × (f ≡ false)
        go true f p q a = let w = sym (answered_by book session none v low high true f p q) ∙ a in let z : ◌≡◌ {A = ℕ} 0 1 = cc in absurd (omega arith)
        go false true p q a = let w = sym (answered_by book session none v low high false true p q) ∙ a in let z : ◌≡◌ {A = ℕ} 0 1 = cc in absurd (omega arith)
        go false false p q a = (refl, refl)

    pub shown_assigned : (lookup_answer book session v ≡ Ok Open → ⊥) → is_assigned trail (positive v) ≡ true
    shown_assigned n = rw (opposite_positive v) (go (is_true trail (positive v)) (is_true trail (negative v)) refl refl)
      where
        go : (t f : Bool) → is_true trail (positive v) ≡ t → is_true trail (negative v) ≡ f → (t || f) ≡ true
        go true f p q = refl
        go false true p q = refl
        go false false p q = absurd (n (shows_open.1 (p, q)))

  -- where it is not refused, the session passed and the variable is one of the book's
  pub record Looked (v : ℕ) : Type 0 where
    pub none : 0 ≡ read_refusal book session
    pub low : 1 ≤ v
    pub high : v ≤ variables_of book

  not_refused : (v : ℕ) → ((r : Refusal) → lookup_answer book session v ≡ Err r → ⊥) → Looked v
  unfolding lookup_answer lookup_refusal
  not_refused v shown = accepted (go (eqb (lookup_refusal book session v) 0) refl)
    where
      go : (b : Bool) → eqb (lookup_refusal book session v) 0 ≡ b → lookup_refusal book session v ≡ 0
      go true e = eqb-true (lookup_refusal book session v) 0 e
      go false e = absurd (shown (refusal_of (lookup_refusal book session v)) (rw e))

      accepted : lookup_refusal book session v ≡ 0 → Looked v
      accepted z =
          let passed = none_first book session (variable_refusal book v) (sym z) in
          let own : ◌≡◌ {A = ℕ} (cond (leb 1 v && leb v (variables_of book)) 0 13) 0 =
          sym (own_refusal book session passed (variable_refusal book v)) ∙ z in
          let parts = and_parts (leb 1 v) (leb v (variables_of book)) (within (leb 1 v && leb v (variables_of book)) refl own) in
          record { none = passed; low = leb-true 1 v parts.0; high = leb-true v (variables_of book) parts.1 }
        where
          within : (b : Bool) → (leb 1 v && leb v (variables_of book)) ≡ b → ◌≡◌ {A = ℕ} (cond b 0 13) 0 → (leb 1 v && leb v (variables_of book)) ≡ true
          within true e own = e
          within false e own = absurd (omega arith)

  pub positive_shown : (v n : ℕ) → lookup_answer book session v ≡ Ok (Positive n) → Looked v × ((is_true trail (positive v) ≡ true) × (level trail (positive v) ≡ n))
  positive_shown v n a =
      let looked = not_refused v (λ number r. let z : Ok (Positive n) ≡ Err number = sym a ∙ r in let w : ◌≡◌ {A = ℕ} 0 1 = cc in omega arith) in
      (looked, (shows_positive looked.none v looked.low looked.high n).0 a)

  pub negative_shown : (v n : ℕ) → lookup_answer book session v ≡ Ok (Negative n) → Looked v × ((is_true trail (negative v) ≡ true) × (level trail (negative v) ≡ n))
  negative_shown v n a =
      let looked = not_refused v (λ number r. let z : Ok (Negative n) ≡ Err number = sym a ∙ r in let w : ◌≡◌ {A = ℕ} 0 1 = cc in omega arith) in
      (looked, (shows_negative looked.none v looked.low looked.high n).0 a)

  pub open_shown : (v : ℕ) → lookup_answer book session v ≡ Ok Open → Looked v × ((is_true trail (positive v) ≡ false) × (is_true trail (negative v) ≡ false))
  open_shown v a =
      let looked = not_refused v (λ number r. let z : Ok Open ≡ Err number = sym a ∙ r in let w : ◌≡◌ {A = ℕ} 0 1 = cc in omega arith) in
      (looked, (shows_open looked.none v looked.low looked.high).0 a)

  -- where it is refused, the number is 11, 12 or 13
  refusal-number : (v : ℕ)
      → (lookup_refusal book session v ≡ 0) ⊎ ((11 ≤ number_of (refusal_of (lookup_refusal book session v))) × (number_of (refusal_of (lookup_refusal book session v)) ≤ 13))
  unfolding lookup_refusal call_refusal refusal_of first_with refusals
  refusal-number v = go (well_formed book) (passes (formula_of book) session) (leb 1 v && leb v (variables_of book))
    where
      go : (w p b : Bool)
          → let number : ℕ = cond w (cond p (cond b 0 13) 12) 11 in
          (number ≡ 0) ⊎ ((11 ≤ number_of (refusal_of number)) × (number_of (refusal_of number) ≤ 13))
      go true true true = inl refl
      go true true false = inr (omega arith, omega arith)
      go true false b = inr (omega arith, omega arith)
      go false p b = inr (omega arith, omega arith)

  pub refused_shown : (v : ℕ) (r : Refusal) → lookup_answer book session v ≡ Err r → (11 ≤ number_of r) × (number_of r ≤ 13)
  unfolding lookup_answer
  refused_shown v r a = go (outcome (lookup_refusal book session v) (held (formula_of book) session)) refl a
    where
      go : (o : Result Run Refusal) → outcome (lookup_refusal book session v) (held (formula_of book) session) ≡ o → assigned_of v o ≡ Err r
          → (11 ≤ number_of r) × (number_of r ≤ 13)
      go (Ok run) e a = let z : ◌≡◌ {A = ℕ} 0 1 = cc in absurd (omega arith)
      go (Err s) e a =
          let same : s ≡ r = cc in
          let refused = outcome_refused (lookup_refusal book session v) (held (formula_of book) session) s e in
          rw (← same, refused.1) (⊎_elim (λ zero. absurd (refused.0 zero)) (λ few. few) (refusal-number v))

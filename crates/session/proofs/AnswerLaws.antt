-- Decision, backtrack, lookup and what only reads, way out by way out: the refusals in their order, and what an accepted call answers and leaves.
use Rattle.std.specs.Prelude.{Ok, Err}
use Rattle.refusals.specs.declared.Refusal.{Refusal}
use Rattle.refusals.specs.declared.Refusal.TheVariants as refusal
use Rattle.refusals.specs.Refusals.{refusals, first_with, refusal_of, checked}
use Rattle.refusals.proofs.OutcomeLaws.{outcome_refused}
use Rattle.run.proofs.Opposites.{opposite_positive}
use Rattle.layout.specs.Layout.{length_at, decisions_at, conflict_at, backtracks_at, fixed_at, required_length, held}
use Rattle.book.specs.Formula.{max_variables, literal_within, positive, negative}
use Rattle.session.proofs.PassedLaws.{refused_first, none_first, well, own_refusal, facts, holding, long, conflict_is, decisions_are, count_is, count_within, backtracks_are, fixed_are}
use Rattle.session.proofs.OpenLaws.{head_answer_lem, becomes_overwritten}
use Prim.Native.Nat.{ℕ, suc, ◌+◌, ◌*◌, ◌≤◌, ◌<◌}
use mathlib.Core.Path.{◌≡◌, refl, ap, sym, ◌∙◌}
use mathlib.Core.Bool.{and-false, Bool, true, false, cond, ◌&&◌, ◌||◌}
use mathlib.Core.List.{List}
use mathlib.Core.Logic.{◌⊎◌, inl, inr, ⊎_elim}
use native.Mathlib.Omega.{arith}
use borrow.Author.Tests.{ne_eqb, le-leb, lt-leb}
use lib.Dec.{leb}
use lib.ListN.{length, get_or}
use Rattle.book.specs.Numbers.{formula_of, variables_of, clauses_of}
use Rattle.book.proofs.WellFormedLaws.{well_formed_sound}
use Rattle.run.specs.Trail.{Entry, is_true, is_false, decisions, level}
use Rattle.run.specs.Run.{Run, decide, backtrack}
use Rattle.run.specs.Calls.{decide_refusal, backtrack_refusal, max_backtracks}
use Rattle.run.proofs.Conflicts.{quiet_out}
use Rattle.run.proofs.Theorems.{decide_valid, backtrack_valid, decide_longer}
use Rattle.run.proofs.Fixed.{none_or_over_16}
use Rattle.validation.specs.Validation.{call_refusal, read_refusal}
use Rattle.session.specs.Outcomes.{session_decide_refusal, decide_answer, decide_numbers, session_backtrack_refusal, backtrack_answer, backtrack_numbers, lookup_refusal, lookup_answer, figures_answer, total_answer, copy_answer, copy_numbers}
use Rattle.layout.specs.Values.{value_in}
use Rattle.layout.proofs.ValueLaws.{value_true, value_false, value_open}
use Rattle.engine.specs.Engine.{Becomes, Holding}
use Rattle.session.specs.Inner.Answers.{head_answer}
use Rattle.layout.specs.declared.values.Value.{Value}
use Rattle.session.specs.declared.Assigned.TheVariants as assigned
use Rattle.layout.specs.declared.values.Value.TheVariants as value

-- what a lookup itself refuses
abbrev pub variable_refusal : List ℕ → ℕ → Run → ℕ
variable_refusal book v run = cond (leb 1 v && leb v (variables_of book)) 0 13

module _ (book session : List ℕ) where
  module _ (none : 0 ≡ read_refusal book session) where
    -- a decision, refusal by refusal
    outside-literal : (l : ℕ) → literal_within (variables_of book) l ≡ false → 13 ≡ session_decide_refusal book session l
    unfolding session_decide_refusal decide_refusal
    outside-literal l e = sym (own_refusal book session none (decide_refusal (formula_of book) l) ∙ rw e)

    pub literal_low : (l : ℕ) → l < 2 → 13 ≡ session_decide_refusal book session l
    unfolding literal_within
    literal_low l h = outside-literal l (rw (lt-leb 2 l h))

    pub literal_high : (l : ℕ) → 2 * variables_of book + 1 < l → 13 ≡ session_decide_refusal book session l
    unfolding literal_within
    literal_high l h = outside-literal l (rw (lt-leb l (2 * variables_of book + 1) h) (and-false (leb 2 l)))

    module _ (l : ℕ) (low : 2 ≤ l) (high : l ≤ 2 * variables_of book + 1) where
      inside : literal_within (variables_of book) l ≡ true
      unfolding literal_within
      inside = rw (le-leb 2 l low, le-leb l (2 * variables_of book + 1) high)

      pub decision_conflict : (get_or session conflict_at 0 ≡ 0 → ⊥) → 14 ≡ session_decide_refusal book session l
      unfolding session_decide_refusal decide_refusal
      decision_conflict n = sym (own_refusal book session none (decide_refusal (formula_of book) l) ∙ rw (inside, ne_eqb (held (formula_of book) session).conflict 0 (λ z. n (conflict_is book session none ∙ z))))

      module _ (quiet : get_or session conflict_at 0 ≡ 0) where
        by_value : (t f : Bool) → is_true (held (formula_of book) session).trail l ≡ t → is_false (held (formula_of book) session).trail l ≡ f
            → session_decide_refusal book session l ≡ cond (t || f) 15 0
        unfolding session_decide_refusal decide_refusal
        by_value t f p q =
            own_refusal book session none (decide_refusal (formula_of book) l)
            ∙ rw (inside, quiet_out (held (formula_of book) session) (sym (conflict_is book session none) ∙ quiet), p, q)

        pub decision_open : value.Open ≡ value_in (held (formula_of book) session).trail l → 0 ≡ session_decide_refusal book session l
        decision_open e = let none_true = value_open (held (formula_of book) session).trail l (sym e) in sym (by_value false false none_true.0 none_true.1)

        pub decision_assigned : (v : Value) → (v ≡ value.Open → ⊥) → v ≡ value_in (held (formula_of book) session).trail l → 15 ≡ session_decide_refusal book session l
        unfolding value_in
        decision_assigned v n e = go (is_true (held (formula_of book) session).trail l) (is_false (held (formula_of book) session).trail l) refl refl e
          where
            go : (t f : Bool) → is_true (held (formula_of book) session).trail l ≡ t → is_false (held (formula_of book) session).trail l ≡ f
                → v ≡ cond t value.True (cond f value.False value.Open) → 15 ≡ session_decide_refusal book session l
            go true f p q z = sym (by_value true f p q)
            go false true p q z = sym (by_value false true p q)
            go false false p q z = absurd (n z)

    -- a backtrack, refusal by refusal
    pub back_none_or_over : (k : ℕ) → (k ≡ 0) ⊎ (get_or session decisions_at 0 < k + get_or session fixed_at 0) → 16 ≡ session_backtrack_refusal book session k
    unfolding session_backtrack_refusal
    back_none_or_over k h =
        sym (own_refusal book session none (backtrack_refusal k)
        ∙ none_or_over_16 k (held (formula_of book) session) (⊎_elim inl (λ over. inr (rw (decisions_are book session none, fixed_are book session none) at over)) h))

    module _ (k : ℕ) (some : k ≡ 0 → ⊥) (free : k + get_or session fixed_at 0 ≤ get_or session decisions_at 0) where
      back_by : (b : Bool) → leb max_backtracks (held (formula_of book) session).backtracks ≡ b → session_backtrack_refusal book session k ≡ cond b 17 0
      unfolding session_backtrack_refusal backtrack_refusal
      back_by b e =
          own_refusal book session none (backtrack_refusal k)
          ∙ rw (le-leb 1 k (omega (arith, some)), le-leb (k + (held (formula_of book) session).fixed) (length (decisions (held (formula_of book) session).trail)) (omega (arith, some, decisions_are book session none, fixed_are book session none)), e)

      pub back_spent : max_backtracks ≤ get_or session backtracks_at 0 → 17 ≡ session_backtrack_refusal book session k
      back_spent h = sym (back_by true (le-leb max_backtracks (held (formula_of book) session).backtracks (omega (arith, backtracks_are book session none))))

      pub back_accepted : get_or session backtracks_at 0 < max_backtracks → 0 ≡ session_backtrack_refusal book session k
      back_accepted h = sym (back_by false (lt-leb max_backtracks (held (formula_of book) session).backtracks (omega (arith, backtracks_are book session none))))

    -- a lookup
    outside-variable : (v : ℕ) → (leb 1 v && leb v (variables_of book)) ≡ false → Err refusal.NoVariable ≡ lookup_answer book session v
    unfolding lookup_answer lookup_refusal refusal_of first_with refusals
    outside-variable v e = rw (own_refusal book session none (variable_refusal book v), e)

    pub variable_none : (v : ℕ) → v ≡ 0 → Err refusal.NoVariable ≡ lookup_answer book session v
    variable_none v z = outside-variable v (rw (lt-leb 1 v (omega arith)))

    pub variable_over : (v : ℕ) → variables_of book < v → Err refusal.NoVariable ≡ lookup_answer book session v
    variable_over v h = outside-variable v (rw (lt-leb v (variables_of book) h) (and-false (leb 1 v)))

    -- what is read for the positive literal of a variable is what is answered, with the level of the literal that is true
    module _ (v : ℕ) (low : 1 ≤ v) (high : v ≤ variables_of book) where
      abbrev trail : List Entry
      trail = (held (formula_of book) session).trail

      pub answered_by : (t f : Bool) → is_true trail (positive v) ≡ t → is_true trail (negative v) ≡ f
          → lookup_answer book session v ≡ Ok (cond t (assigned.Positive (level trail (positive v))) (cond f (assigned.Negative (level trail (negative v))) assigned.Open))
      unfolding lookup_answer lookup_refusal
      answered_by t f p q =
          rw (own_refusal book session none (variable_refusal book v), le-leb 1 v low, le-leb v (variables_of book) high, p, q)

      negative-is : is_true trail (negative v) ≡ is_false trail (positive v)
      negative-is = ap (is_true trail) (sym (opposite_positive v))

      pub answered_open : value.Open ≡ value_in trail (positive v) → Ok assigned.Open ≡ lookup_answer book session v
      answered_open e = let none_true = value_open trail (positive v) (sym e) in sym (answered_by false false none_true.0 (negative-is ∙ none_true.1))

      pub answered_true : value.True ≡ value_in trail (positive v) → (is_true trail (positive v) ≡ true) × (Ok (assigned.Positive (level trail (positive v))) ≡ lookup_answer book session v)
      answered_true e = let t = value_true trail (positive v) (sym e) in (t, sym (answered_by true (is_true trail (negative v)) t refl))

      pub answered_false : value.False ≡ value_in trail (positive v) → (is_true trail (negative v) ≡ true) × (Ok (assigned.Negative (level trail (negative v))) ≡ lookup_answer book session v)
      answered_false e =
          let other = value_false trail (positive v) (sym e) in
          (negative-is ∙ other.1, sym (answered_by false true other.0 (negative-is ∙ other.1)))

  -- what a refused session call answers and leaves
  pub decide_refused : (l : ℕ) (r : Refusal) → Err r ≡ checked (session_decide_refusal book session l)
      → (Err r ≡ decide_answer book session l) × (session ≡ decide_numbers book session l)
  unfolding decide_answer decide_numbers
  decide_refused l r e =
      let refused = outcome_refused _ _ r (sym e) in
      (rw (ne_eqb (session_decide_refusal book session l) 0 refused.0, refused.1), rw (ne_eqb (session_decide_refusal book session l) 0 refused.0))

  pub back_refused : (k : ℕ) (r : Refusal) → Err r ≡ checked (session_backtrack_refusal book session k)
      → (Err r ≡ backtrack_answer book session k) × (session ≡ backtrack_numbers book session k)
  unfolding backtrack_answer backtrack_numbers
  back_refused k r e =
      let refused = outcome_refused _ _ r (sym e) in
      (rw (ne_eqb (session_backtrack_refusal book session k) 0 refused.0, refused.1), rw (ne_eqb (session_backtrack_refusal book session k) 0 refused.0))

  -- a call that examines the session and refuses by more is refused by 11 and 12 first
  pub refused_alike_first : (own : Run → ℕ) (r : Refusal) → Err r ≡ checked (read_refusal book session) → Err r ≡ checked (call_refusal book session own)
  refused_alike_first own r e =
      let refused = outcome_refused _ _ r (sym e) in
      let same = refused_first book session own (read_refusal book session) refl refused.0 in
      rw (← same) e

  pub lookup_refused : (v : ℕ) (r : Refusal) → Err r ≡ checked (read_refusal book session) → Err r ≡ lookup_answer book session v
  unfolding lookup_answer lookup_refusal
  lookup_refused v r e =
      let refused = outcome_refused _ _ r (sym e) in
      rw (← (refused_first book session (variable_refusal book v) (read_refusal book session) refl refused.0), ne_eqb (read_refusal book session) 0 refused.0, refused.1)

  pub total_refused : (r : Refusal) → Err r ≡ checked (read_refusal book session) → Err r ≡ total_answer book session
  unfolding total_answer
  total_refused r e = let refused = outcome_refused _ _ r (sym e) in rw (ne_eqb (read_refusal book session) 0 refused.0, refused.1)

  pub copy_refused : (part : Run → List ℕ) (out : List ℕ) (r : Refusal) → Err r ≡ checked (read_refusal book session)
      → (Err r ≡ copy_answer book session part) × (out ≡ copy_numbers book session part out)
  unfolding copy_answer copy_numbers
  copy_refused part out r e =
      let refused = outcome_refused _ _ r (sym e) in
      (rw (ne_eqb (read_refusal book session) 0 refused.0, refused.1), rw (ne_eqb (read_refusal book session) 0 refused.0))

  pub figures_refused : (r : Refusal) → Err r ≡ checked (read_refusal book session) → Err r ≡ figures_answer book session
  unfolding figures_answer
  figures_refused r e = let refused = outcome_refused _ _ r (sym e) in rw (ne_eqb (read_refusal book session) 0 refused.0, refused.1)

  -- what an accepted call answers and leaves
  module _ (l : ℕ) (accepted : 0 ≡ session_decide_refusal book session l) where
    pub decide_none : 0 ≡ read_refusal book session
    unfolding session_decide_refusal
    decide_none = none_first book session (decide_refusal (formula_of book) l) accepted

    pub decide_own : decide_refusal (formula_of book) l (held (formula_of book) session) ≡ 0
    unfolding session_decide_refusal
    decide_own = sym (accepted ∙ own_refusal book session decide_none (decide_refusal (formula_of book) l))

    pub decide_done : (now : List ℕ) → Becomes book session now (decide (formula_of book) l (held (formula_of book) session))
        → (Ok (head_answer now (get_or session length_at 0 + 1)) ≡ decide_answer book session l) × (now ≡ decide_numbers book session l)
    unfolding decide_answer decide_numbers
    decide_done now b =
        let next : Run = decide (formula_of book) l (held (formula_of book) session) in
        let before : get_or session length_at 0 + 1 ≡ suc (length (held (formula_of book) session).trail) = omega (arith, count_is book session decide_none) in (
          rw (← accepted, before) (ap Ok (head_answer_lem (formula_of book) now next (suc (length (held (formula_of book) session).trail)) b.encodes)),
          rw (← accepted)
              (becomes_overwritten book session now next (well book session decide_none)
              (decide_valid (formula_of book) l (held (formula_of book) session) (well_formed_sound book (well book session decide_none)) (facts book session decide_none).0 decide_own)
              b),
        )

    pub decide_grows : (now : List ℕ) → Becomes book session now (decide (formula_of book) l (held (formula_of book) session)) → get_or session length_at 0 + 1 ≤ get_or now length_at 0
    decide_grows now b =
        let longer = decide_longer (formula_of book) l (held (formula_of book) session) in
        omega (arith, count_is book session decide_none, b.encodes.trail.count)

    abbrev pub decide_holding : Holding book session
    decide_holding = holding book session decide_none

    pub decide_room : get_or session length_at 0 ≤ max_variables
    decide_room = count_within book session decide_none

    pub decide_long : required_length (variables_of book) (clauses_of book) ≤ length session
    decide_long = long book session decide_none

  module _ (k : ℕ) (accepted : 0 ≡ session_backtrack_refusal book session k) where
    pub back_first : 0 ≡ read_refusal book session
    unfolding session_backtrack_refusal
    back_first = none_first book session (backtrack_refusal k) accepted

    pub back_own : backtrack_refusal k (held (formula_of book) session) ≡ 0
    unfolding session_backtrack_refusal
    back_own = sym (accepted ∙ own_refusal book session back_first (backtrack_refusal k))

    abbrev pub back_holding : Holding book session
    back_holding = holding book session back_first

    pub back_done : (now : List ℕ) → Becomes book session now (backtrack k (held (formula_of book) session))
        → (Ok tt ≡ backtrack_answer book session k) × (now ≡ backtrack_numbers book session k)
    unfolding backtrack_answer backtrack_numbers
    back_done now b = (
      rw (← accepted),
      rw (← accepted)
          (becomes_overwritten book session now (backtrack k (held (formula_of book) session)) (well book session back_first)
          (backtrack_valid (formula_of book) k (held (formula_of book) session) (well_formed_sound book (well book session back_first)) (facts book session back_first).0 back_own)
          b),
    )

-- What is known behind `validate(book, session)?`: the laws of PassedLaws and AnswerLaws, by what `validate` answered.
use Rattle.std.specs.Prelude.{Result, Ok, Err, sum}
use Prim.Native.Nat.{ℕ, ◌+◌, ◌-◌, ◌*◌, ◌/◌, ◌≤◌, ◌<◌}
use mathlib.Core.Bool.{true}
use mathlib.Core.List.{List, []}
use mathlib.Core.Logic.{◌⊎◌, inl, inr}
use mathlib.Core.Path.{◌≡◌, refl, ap, ap₂, sym, ◌∙◌}
use native.Mathlib.Omega.{arith}
use lib.ListN.{length, get_or, take, drop, length-take, length-drop}
use Rattle.std.specs.Result.{IsErrAnd}
use Rattle.base.specs.Lists as lists
use Rattle.base.specs.Lists.{copied}
use Rattle.session.proofs.copies.Laws.{sum_same}
use Rattle.book.specs.Formula.{max_variables, max_clauses, variable_of, positive, negative}
use Rattle.book.specs.Numbers.{variables_of, clauses_of, formula_of}
use Rattle.run.specs.Trail.{is_true, level}
use Rattle.run.specs.Run.{decide, backtrack, trail_behind}
use Rattle.engine.specs.Engine.{Becomes, Holding}
use Rattle.run.specs.Calls.{decide_refusal, backtrack_refusal, fix_refusal, max_backtracks}
use Rattle.layout.specs.Layout.{Fits, TrailFits, required_length, checks_at, value_slot, level_before, held, length_at, decisions_at, conflict_at, backtracks_at, fixed_at, trail_at}
use Rattle.layout.specs.Values.{value_read, value_in}
use Rattle.layout.specs.declared.values.Value.{Value}
use Rattle.layout.specs.declared.values.Value.TheVariants as value
use Rattle.refusals.specs.declared.Refusal.{Refusal}
use Rattle.refusals.specs.declared.Refusal.TheVariants as refusal
use Rattle.refusals.specs.Refusals.{checked}
use Rattle.refusals.proofs.OutcomeLaws.{passed, accepted_as, refused_as}
use Rattle.validation.specs.Validation.{read_refusal}
use Rattle.session.specs.Inner.Answers.{head_answer}
use Rattle.session.specs.declared.Propagated.{Propagated}
use Rattle.session.specs.Outcomes.{decide_answer, decide_numbers, backtrack_answer, backtrack_numbers, session_decide_refusal, session_backtrack_refusal, session_fix_refusal, figures_answer, fixed_answer, total_answer, lookup_answer, copy_answer, copy_numbers, checks_of_run}
use Rattle.session.specs.declared.Assigned.TheVariants as assigned
use Rattle.session.proofs.PassedLaws as p
use Rattle.session.proofs.AnswerLaws as a
use Rattle.session.proofs.fixing.Laws.{fix_in_conflict, fix_below, fix_over, fix_within, fixed_is}

-- a refusal that `?` hands on
pub handed_on : {A : Type 0} (r said : Result A Refusal) (e : Refusal) → IsErrAnd r (λ y. y ≡ e) → Err e ≡ said → r ≡ said
handed_on (Ok x) said e h q = absurd h
handed_on (Err y) said e h q = rw h q

-- a call that `validate` refuses is refused alike
module _ (book session : List ℕ) (r : Refusal) (e : Err r ≡ checked (read_refusal book session)) where
  pub decide_alike : (l : ℕ) → Err r ≡ checked (session_decide_refusal book session l)
  unfolding session_decide_refusal
  decide_alike l = a.refused_alike_first book session (decide_refusal (formula_of book) l) r e

  pub backtrack_alike : (k : ℕ) → Err r ≡ checked (session_backtrack_refusal book session k)
  unfolding session_backtrack_refusal
  backtrack_alike k = a.refused_alike_first book session (backtrack_refusal k) r e

  pub fix_alike : (f : ℕ) → Err r ≡ checked (session_fix_refusal book session f)
  unfolding session_fix_refusal
  fix_alike f = a.refused_alike_first book session (fix_refusal f) r e

module _ (book session : List ℕ) (ok : Ok tt ≡ checked (read_refusal book session)) where
  none : 0 ≡ read_refusal book session
  none = passed _ tt ok

  pub read_header : (read_refusal book session ≡ 0) × (5 ≤ length session)
  read_header = (sym none, omega (arith, p.long book session none))

  pub read_figures : Ok (record { decisions = get_or session decisions_at 0; backtracks = get_or session backtracks_at 0; trail = get_or session length_at 0; conflict = get_or session conflict_at 0 }) ≡ figures_answer book session
  read_figures = p.figures_are book session none

  pub read_fixed : Ok (get_or session fixed_at 0) ≡ fixed_answer book session
  read_fixed = fixed_is book session none

  -- no more decisions are fixed than are in force
  pub fixed_within : get_or session fixed_at 0 ≤ get_or session decisions_at 0
  fixed_within = omega (arith, p.fixed_are book session none, p.decisions_are book session none, (p.facts book session none).0.fixed_within_lem)

  -- a backtrack
  pub backtrack_none : (k : ℕ) → k ≡ 0 → Err refusal.BacktrackRange ≡ checked (session_backtrack_refusal book session k)
  backtrack_none k h = refused_as _ tt refusal.BacktrackRange (a.back_none_or_over book session none k (inl h))

  pub backtrack_over : (k : ℕ) → get_or session decisions_at 0 - get_or session fixed_at 0 < k → Err refusal.BacktrackRange ≡ checked (session_backtrack_refusal book session k)
  backtrack_over k h = refused_as _ tt refusal.BacktrackRange (a.back_none_or_over book session none k (inr (omega arith)))

  module _ (k : ℕ) (some : k ≡ 0 → ⊥) (free : k ≤ get_or session decisions_at 0 - get_or session fixed_at 0) where
    pub backtrack_spent : max_backtracks ≤ get_or session backtracks_at 0 → Err refusal.BacktrackCount ≡ checked (session_backtrack_refusal book session k)
    backtrack_spent h = refused_as _ tt refusal.BacktrackCount (a.back_spent book session none k some (omega (arith, fixed_within)) h)

    pub backtrack_free : get_or session backtracks_at 0 < max_backtracks → Ok tt ≡ checked (session_backtrack_refusal book session k)
    backtrack_free h = accepted_as _ tt (a.back_accepted book session none k some (omega (arith, fixed_within)) h)

  -- a fixing
  module _ (f : ℕ) where
    pub fixing_in_conflict : (get_or session conflict_at 0 ≡ 0 → ⊥) → Err refusal.InConflict ≡ checked (session_fix_refusal book session f)
    fixing_in_conflict h = refused_as _ tt refusal.InConflict (fix_in_conflict book session none f h)

    module _ (quiet : get_or session conflict_at 0 ≡ 0) where
      pub fixing_below : f < get_or session fixed_at 0 → Err refusal.FixingRange ≡ checked (session_fix_refusal book session f)
      fixing_below h = refused_as _ tt refusal.FixingRange (fix_below book session none f quiet h)

      pub fixing_over : get_or session decisions_at 0 < f → Err refusal.FixingRange ≡ checked (session_fix_refusal book session f)
      fixing_over h = refused_as _ tt refusal.FixingRange (fix_over book session none f quiet h)

      pub fixing_within : get_or session fixed_at 0 ≤ f → f ≤ get_or session decisions_at 0 → Ok tt ≡ checked (session_fix_refusal book session f)
      fixing_within h k = accepted_as _ tt (fix_within book session none f quiet h k)

  -- the trail's literals behind the first ones, copied
  module _ (before : ℕ) (out now : List ℕ) where
    pub trail_copied_none : get_or session length_at 0 ≤ before → now ≡ copied [] out
        → (Ok 0 ≡ copy_answer book session (trail_behind before)) × (now ≡ copy_numbers book session (trail_behind before) out)
    trail_copied_none h e = p.copy_is book session none (trail_behind before) [] out now 0 (p.trail_none book session none before h) refl e

    pub trail_copied : before < get_or session length_at 0
        → now ≡ copied (take (trail_at + get_or session length_at 0 - (trail_at + before)) (drop (trail_at + before) session)) out
        → (Ok (get_or session length_at 0 - before) ≡ copy_answer book session (trail_behind before)) × (now ≡ copy_numbers book session (trail_behind before) out)
    trail_copied h e =
        p.copy_is book session none (trail_behind before) _ out now _
        (p.trail_behind_lem book session none before (trail_at + before) (trail_at + get_or session length_at 0) refl refl (omega arith))
        (simp (length-take, length-drop) (omega (arith, p.trail_inside book session none)))
        e

  pub trail_inside : trail_at + get_or session length_at 0 ≤ length session
  trail_inside = p.trail_inside book session none

  pub trail_small : get_or session length_at 0 ≤ max_variables
  trail_small = p.count_within book session none

  module _ (v : ℕ) (v-is : v ≡ variables_of book) where
    pub few : v ≤ max_variables
    few = omega (arith, p.few_variables book session none)

    -- a decision
    pub literal_low : (l : ℕ) → l < 2 → Err refusal.NoVariable ≡ checked (session_decide_refusal book session l)
    literal_low l h = refused_as _ tt refusal.NoVariable (a.literal_low book session none l h)

    pub literal_high : (l : ℕ) → 2 * v + 1 < l → Err refusal.NoVariable ≡ checked (session_decide_refusal book session l)
    literal_high l h = refused_as _ tt refusal.NoVariable (a.literal_high book session none l (omega arith))

    module _ (l : ℕ) (low : 2 ≤ l) (high : l ≤ 2 * v + 1) where
      pub literal_there : TrailFits v session × (2 ≤ l) × (variable_of l ≤ v)
      literal_there = (p.trail_fits book session none v v-is, low, omega arith)

      pub decision_in_conflict : (get_or session conflict_at 0 ≡ 0 → ⊥) → Err refusal.InConflict ≡ checked (session_decide_refusal book session l)
      decision_in_conflict h = refused_as _ tt refusal.InConflict (a.decision_conflict book session none l low (omega arith) h)

      module _ (quiet : get_or session conflict_at 0 ≡ 0) (r : Value) (read : r ≡ value_read (get_or session (value_slot v l) 0) l) where
        r-is : r ≡ value_in (held (formula_of book) session).trail l
        r-is = p.value_answers book session none v l r v-is low (omega arith) read

        pub decision_of_open : r ≡ value.Open → Ok tt ≡ checked (session_decide_refusal book session l)
        decision_of_open e = accepted_as _ tt (a.decision_open book session none l low (omega arith) quiet (sym e ∙ r-is))

        pub decision_of_assigned : (r ≡ value.True) ⊎ (r ≡ value.False) → Err refusal.AssignedAlready ≡ checked (session_decide_refusal book session l)
        decision_of_assigned e = refused_as _ tt refusal.AssignedAlready (a.decision_assigned book session none l low (omega arith) quiet r (λ o. not_open o e) r-is)
          where
            not_open : r ≡ value.Open → (r ≡ value.True) ⊎ (r ≡ value.False) → ⊥
            not_open o (inl e) = cc
            not_open o (inr e) = cc

    -- a lookup
    pub variable_none : (x : ℕ) → x ≡ 0 → Err refusal.NoVariable ≡ lookup_answer book session x
    variable_none x h = a.variable_none book session none x h

    pub variable_over : (x : ℕ) → v < x → Err refusal.NoVariable ≡ lookup_answer book session x
    variable_over x h = a.variable_over book session none x (omega arith)

    module _ (x : ℕ) (some : x ≡ 0 → ⊥) (within : x ≤ v) where
      pub variable_small : x ≤ max_variables
      variable_small = omega (arith, few)

      pub variable_there : TrailFits v session × (2 ≤ 2 * x) × (variable_of (2 * x) ≤ v)
      variable_there = (p.trail_fits book session none v v-is, omega (arith, some), omega arith)

      module _ (r : Value) (read : r ≡ value_read (get_or session (value_slot v (2 * x)) 0) (2 * x)) where
        x-is : r ≡ value_in (held (formula_of book) session).trail (positive x)
        x-is = p.value_answers book session none v (2 * x) r v-is (omega (arith, some)) (omega arith) read

        pub shown_open : r ≡ value.Open → Ok assigned.Open ≡ lookup_answer book session x
        shown_open e = a.answered_open book session none x (omega (arith, some)) (omega arith) (sym e ∙ x-is)

        pub true_known : r ≡ value.True → (read_refusal book session ≡ 0) × (is_true (held (formula_of book) session).trail (positive x) ≡ true)
        true_known e = (sym none, (a.answered_true book session none x (omega (arith, some)) (omega arith) (sym e ∙ x-is)).0)

        pub shown_true : r ≡ value.True → (n : ℕ) → n ≡ level (held (formula_of book) session).trail (positive x) → Ok (assigned.Positive n) ≡ lookup_answer book session x
        shown_true e n q = rw q (a.answered_true book session none x (omega (arith, some)) (omega arith) (sym e ∙ x-is)).1

        pub false_known : r ≡ value.False → (read_refusal book session ≡ 0) × (is_true (held (formula_of book) session).trail (negative x) ≡ true)
        false_known e = (sym none, (a.answered_false book session none x (omega (arith, some)) (omega arith) (sym e ∙ x-is)).0)

        pub shown_false : r ≡ value.False → (n : ℕ) → n ≡ level (held (formula_of book) session).trail (negative x) → Ok (assigned.Negative n) ≡ lookup_answer book session x
        shown_false e n q = rw q (a.answered_false book session none x (omega (arith, some)) (omega arith) (sym e ∙ x-is)).1

    -- the part of the checks
    module _ (c : ℕ) (c-is : c ≡ clauses_of book) where
      pub sizes_small : (v ≤ max_variables) × (c ≤ max_clauses)
      sizes_small = (few, omega (arith, p.few_clauses book session none))

      module _ (from : ℕ) (from-is : from ≡ checks_at v c) where
        pub checks_inside : (from + c ≤ length session) × (from ≤ 100000)
        checks_inside =
            let room : Fits v c session = p.fits book session none v c v-is c-is in
            (omega arith, omega arith)

        checks-are : take (from + c - from) (drop from session) ≡ (held (formula_of book) session).checks
        checks-are = p.checks_part book session none from c (from-is ∙ ap₂ checks_at v-is c-is) c-is

        pub checks_few : length (take (from + c - from) (drop from session)) ≤ max_clauses
        checks_few = rw checks-are (omega (arith, p.checks_count book session none, p.few_clauses book session none))

        pub checks_summed : (n : ℕ) → n ≡ sum (take (from + c - from) (drop from session)) → Ok n ≡ total_answer book session
        checks_summed n e = p.total_is book session none n (e ∙ sum_same _ ∙ ap lists.sum checks-are)

        pub checks_copied : (out now : List ℕ) → now ≡ copied (take (from + c - from) (drop from session)) out
            → (Ok c ≡ copy_answer book session checks_of_run) × (now ≡ copy_numbers book session checks_of_run out)
        checks_copied out now e = p.copy_is book session none checks_of_run _ out now c checks-are (omega (arith, ap length checks-are, p.checks_count book session none)) e

-- the value of a true literal, and the place that it names
module _ (book session : List ℕ) (zero : read_refusal book session ≡ 0) (l : ℕ) (t : is_true (held (formula_of book) session).trail l ≡ true) (v : ℕ) (v-is : v ≡ variables_of book) where
  pub true_literal : (v ≤ max_variables) × (2 ≤ l)
  true_literal = (omega (arith, p.few_variables book session (sym zero)), (p.true_within book session (sym zero) l t).0)

  module _ (slot : ℕ) (slot-is : slot ≡ value_slot v l) where
    pub slot_inside : (slot < length session) × (slot ≤ 12000)
    slot_inside =
        let within = p.true_within book session (sym zero) l t in
        let few = p.few_variables book session (sym zero) in
        let enough = p.long book session (sym zero) in
        (omega arith, omega arith)

    slot-of-book : slot ≡ value_slot (variables_of book) l
    slot-of-book = slot-is ∙ ap (λ (x : ℕ). value_slot x l) v-is

    pub place_there : TrailFits v session × (get_or session slot 0 / 2 ≤ v)
    place_there = (p.trail_fits book session (sym zero) v v-is, rw (slot-of-book, v-is) (p.half_within book session (sym zero) l t))

    pub level_known : level_before v session (get_or session slot 0 / 2) ≡ level (held (formula_of book) session).trail l
    level_known = rw (slot-of-book, v-is) (p.level_is book session (sym zero) l t)

-- a decision that is not refused: what the engine's decision requires, and what it comes to
module _ (book session : List ℕ) (l : ℕ) (ok : Ok tt ≡ checked (session_decide_refusal book session l)) where
  abbrev pub decide_holds : Holding book session
  decide_holds = a.decide_holding book session l (passed _ tt ok)

  pub decide_allowed : decide_refusal (formula_of book) l (held (formula_of book) session) ≡ 0
  decide_allowed = a.decide_own book session l (passed _ tt ok)

  pub decide_room : (get_or session length_at 0 ≤ max_variables) × (required_length (variables_of book) (clauses_of book) ≤ length session)
  decide_room = (a.decide_room book session l (passed _ tt ok), a.decide_long book session l (passed _ tt ok))

  module _ (now : List ℕ) (b : Becomes book session now (decide (formula_of book) l (held (formula_of book) session))) where
    pub decide_leaves : (trail_at ≤ length now) × (get_or session length_at 0 + 1 ≤ get_or now length_at 0)
    decide_leaves = (omega (arith, b.encodes.long), a.decide_grows book session l (passed _ tt ok) now b)

    pub decide_ends : (said : Propagated) → said ≡ head_answer now (get_or session length_at 0 + 1) → (Ok said ≡ decide_answer book session l) × (now ≡ decide_numbers book session l)
    decide_ends said e = let done = a.decide_done book session l (passed _ tt ok) now b in (ap Ok e ∙ done.0, done.1)

-- a backtrack that is not refused
module _ (book session : List ℕ) (k : ℕ) (ok : Ok tt ≡ checked (session_backtrack_refusal book session k)) where
  abbrev pub backtrack_holds : Holding book session
  backtrack_holds = a.back_holding book session k (passed _ tt ok)

  pub backtrack_allowed : backtrack_refusal k (held (formula_of book) session) ≡ 0
  backtrack_allowed = a.back_own book session k (passed _ tt ok)

  pub backtrack_ends : (now : List ℕ) → Becomes book session now (backtrack k (held (formula_of book) session))
      → (Ok tt ≡ backtrack_answer book session k) × (now ≡ backtrack_numbers book session k)
  backtrack_ends = a.back_done book session k (passed _ tt ok)

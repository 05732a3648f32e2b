-- A session that passes: 11 and 12 come first, and what is read in its numbers is what the run that it holds has.
use Rattle.std.specs.Prelude.{Ok}
use Rattle.layout.specs.Layout.{Fits, TrailFits, SessionFits, length_at, decisions_at, conflict_at, backtracks_at, fixed_at, trail_at, required_length, checks_at, held, value_slot, level_before}
use Rattle.book.specs.Formula.{max_variables, max_clauses, variable_of}
use Rattle.layout.proofs.FitsLaws.{held_fits, session_fits, session_trail_fits}
use Rattle.layout.proofs.ValueLaws.{held_value}
use Rattle.layout.proofs.TrailLaws.{place_read, place_read_none, level_read}
use Prim.Native.Nat.{ℕ, suc, ◌+◌, ◌-◌, ◌/◌, ◌%◌, ◌≤◌}
use mathlib.Core.Path.{◌≡◌, refl, ap, sym, ◌∙◌}
use mathlib.Core.Bool.{Bool, true, false, cond}
use mathlib.Core.List.{List, []}
use native.Mathlib.Omega.{arith}
use lib.ListN.{length, get_or, take, drop, length-take, length-drop, drop_of_length-le}
use lib.Seq.{ext_get_or, get_or-take, get_or-drop, drop-drop}
use Rattle.base.specs.Lists.{table, sum, copied}
use Rattle.book.specs.Numbers.{well_formed, formula_of, variables_of, clauses_of}
use Rattle.book.proofs.PartLaws.{clauses_counted}
use Rattle.book.proofs.WellFormedLaws.{well_formed_sound, well_formed_limited}
use Rattle.run.specs.Trail.{place, literal_at, is_true, decisions, level}
use Rattle.run.specs.Run.{Run, trail_behind}
use Rattle.run.specs.Valid.{Valid}
use Rattle.run.proofs.Propagation.{valid_structure}
use Rattle.run.proofs.Validity.{trail_short}
use Rattle.validation.specs.Validation.{passes, call_refusal, read_refusal}
use Rattle.session.specs.Outcomes.{figures_answer, total_answer, copy_answer, copy_numbers}
use Rattle.layout.specs.Encodes.{Encodes}
use Rattle.layout.specs.Values.{value_read, value_in}
use Rattle.engine.specs.Engine.{Holding}
use Rattle.layout.specs.declared.values.Value.{Value}
use mathlib.Core.Logic.{⊎_elim}
use Rattle.base.proofs.Bools.{alike}
use Rattle.base.proofs.Lists.{part_taken}
use Rattle.book.proofs.SoundLaws.{literal_parts}
use Rattle.run.proofs.Trails.{true_place, place_within}
use Rattle.base.proofs.Tables.{get_or-table, length-table}
use Rattle.validation.proofs.PassLaws.{passes_encodes}

-- numbers 11 and 12
module _ (book session : List ℕ) where
  -- a session call is refused by 11 and 12 first
  pub refused_first : (own : Run → ℕ) (n : ℕ) → n ≡ read_refusal book session → (n ≡ 0 → ⊥) → n ≡ call_refusal book session own
  unfolding read_refusal call_refusal
  refused_first own n e h = go (well_formed book) (passes (formula_of book) session) e
    where
      go : (w p : Bool) → n ≡ cond w (cond p 0 12) 11 → n ≡ cond w (cond p (own (held (formula_of book) session)) 12) 11
      go true true q = absurd (h q)
      go true false q = q
      go false p q = q

  -- an accepted call was not refused by 11 and 12
  pub none_first : (own : Run → ℕ) → 0 ≡ call_refusal book session own → 0 ≡ read_refusal book session
  unfolding read_refusal call_refusal
  none_first own e = go (well_formed book) (passes (formula_of book) session) e
    where
      go : (w p : Bool) → ◌≡◌ {A = ℕ} 0 (cond w (cond p (own (held (formula_of book) session)) 12) 11) → ◌≡◌ {A = ℕ} 0 (cond w (cond p 0 12) 11)
      go true true q = refl
      go true false q = q
      go false p q = q

  passed : 0 ≡ read_refusal book session → (well_formed book ≡ true) × (passes (formula_of book) session ≡ true)
  unfolding read_refusal call_refusal
  passed e = go (well_formed book) (passes (formula_of book) session) refl refl e
    where
      go : (w p : Bool) → well_formed book ≡ w → passes (formula_of book) session ≡ p → ◌≡◌ {A = ℕ} 0 (cond w (cond p 0 12) 11)
          → (well_formed book ≡ true) × (passes (formula_of book) session ≡ true)
      go true true a b q = (a, b)
      go true false a b q = absurd (omega arith)
      go false p a b q = absurd (omega arith)

  module _ (none : 0 ≡ read_refusal book session) where
    pub well : well_formed book ≡ true
    well = (passed none).0

    pub own_refusal : (own : Run → ℕ) → call_refusal book session own ≡ own (held (formula_of book) session)
    unfolding call_refusal
    own_refusal own = rw (well, (passed none).1)

    pub facts : Valid (formula_of book) (held (formula_of book) session) × Encodes (formula_of book) session (held (formula_of book) session)
    facts = (passes_encodes (formula_of book) (well_formed_sound book well) session).0 (passed none).1

    abbrev pub holding : Holding book session
    holding = record { well = well; run = held (formula_of book) session; encodes = facts.1; valid = facts.0 }

    -- the parts of the session are there
    parts-there : SessionFits book session
    parts-there = held_fits well facts.1

    pub long : required_length (variables_of book) (clauses_of book) ≤ length session
    long = parts-there.long

    pub few_variables : variables_of book ≤ max_variables
    few_variables = (well_formed_limited book well).variables

    pub fits : (v c : ℕ) → v ≡ variables_of book → c ≡ clauses_of book → Fits v c session
    fits v c a b = session_fits v c a b parts-there

    pub trail_fits : (v : ℕ) → v ≡ variables_of book → TrailFits v session
    trail_fits v e = session_trail_fits v e parts-there

    -- what is read for a literal answers for the trail
    pub value_answers : (x l : ℕ) (r : Value) → x ≡ variables_of book → 2 ≤ l → variable_of l ≤ x
        → r ≡ value_read (get_or session (value_slot x l) 0) l
        → r ≡ value_in (held (formula_of book) session).trail l
    value_answers x l r e low h q =
        q ∙ rw e (held_value (variables_of book) session (held (formula_of book) session).trail facts.1.trail facts.0.trail_distinct l low (omega arith))

    -- the value of a true literal's variable is read, and its half is the literal's place, where its level stands
    module _ (l : ℕ) (t : is_true (held (formula_of book) session).trail l ≡ true) where
      pub true_within : (2 ≤ l) × (variable_of l ≤ variables_of book)
      true_within = let parts = literal_parts (variables_of book) l (facts.0.trail_within_lem l t) in (parts.0, omega arith)

      half_is : get_or session (value_slot (variables_of book) l) 0 / 2 ≡ place (held (formula_of book) session).trail l
      half_is =
          let trail = (held (formula_of book) session).trail in
          let within = facts.0.trail_within_lem l t in
          ⊎_elim (λ same. place_read (variables_of book) session trail facts.1.trail facts.0.trail_distinct l (variable_of l) refl within same)
          (λ other.
          absurd (omega (arith, true_place trail l t, place_read_none (variables_of book) session trail facts.1.trail facts.0.trail_distinct l (variable_of l) refl within other)))
          (alike (get_or session (value_slot (variables_of book) l) 0 % 2) (l % 2))

      pub half_within : get_or session (value_slot (variables_of book) l) 0 / 2 ≤ variables_of book
      half_within =
          omega (arith, half_is, place_within (held (formula_of book) session).trail l, trail_short (valid_structure facts.0).trailed)

      pub level_is : level_before (variables_of book) session (get_or session (value_slot (variables_of book) l) 0 / 2) ≡ level (held (formula_of book) session).trail l
      unfolding level_before
      level_is =
          let trail = (held (formula_of book) session).trail in
          let on = true_place trail l t in
          let behind-one : place trail l ≡ suc (place trail l - 1) = omega arith in
          ap (level_before (variables_of book) session) (half_is ∙ behind-one)
          ∙ level_read (variables_of book) session trail facts.1.trail facts.0.trail_distinct l on (trail_short (valid_structure facts.0).trailed)

    -- the header's numbers
    pub conflict_is : get_or session conflict_at 0 ≡ (held (formula_of book) session).conflict
    conflict_is = facts.1.conflict

    pub decisions_are : get_or session decisions_at 0 ≡ length (decisions (held (formula_of book) session).trail)
    decisions_are = facts.1.trail.decided

    pub count_is : get_or session length_at 0 ≡ length (held (formula_of book) session).trail
    count_is = facts.1.trail.count

    pub count_within : get_or session length_at 0 ≤ max_variables
    count_within = omega (arith, count_is, few_variables, trail_short (valid_structure facts.0).trailed)

    pub trail_inside : trail_at + get_or session length_at 0 ≤ length session
    trail_inside = omega (arith, count_is, long, trail_short (valid_structure facts.0).trailed)

    pub backtracks_are : get_or session backtracks_at 0 ≡ (held (formula_of book) session).backtracks
    backtracks_are = facts.1.backtracks

    pub fixed_are : get_or session fixed_at 0 ≡ (held (formula_of book) session).fixed
    fixed_are = facts.1.fixed

    pub figures_are : Ok (record { decisions = get_or session decisions_at 0; backtracks = get_or session backtracks_at 0; trail = get_or session length_at 0; conflict = get_or session conflict_at 0 }) ≡ figures_answer book session
    unfolding figures_answer
    figures_are = rw (← none, conflict_is, decisions_are, count_is, backtracks_are)

    -- the part of the counts of checks
    pub checks_part : (from clauses : ℕ) → from ≡ checks_at (variables_of book) (clauses_of book) → clauses ≡ clauses_of book
        → take (from + clauses - from) (drop from session) ≡ (held (formula_of book) session).checks
    unfolding held
    checks_part from clauses f c =
        let size : from + clauses - from ≡ length (formula_of book).clauses = omega (arith, clauses_counted book) in
        rw (size, f, clauses_counted book)

    pub checks_count : length (held (formula_of book) session).checks ≡ clauses_of book
    checks_count = facts.0.checks_length ∙ clauses_counted book

    pub few_clauses : clauses_of book ≤ max_clauses
    few_clauses = (well_formed_limited book well).clauses

    pub total_is : (n : ℕ) → n ≡ sum (held (formula_of book) session).checks → Ok n ≡ total_answer book session
    unfolding total_answer
    total_is n e = rw (← none, e)

    pub copy_is : (part : Run → List ℕ) (source out now : List ℕ) (n : ℕ) → source ≡ part (held (formula_of book) session) → n ≡ length source → now ≡ copied source out
        → (Ok n ≡ copy_answer book session part) × (now ≡ copy_numbers book session part out)
    unfolding copy_answer copy_numbers
    copy_is part source out now n p l e = (rw (← none, l, p), rw (← none, e, p))

    -- the trail's literals in trail order
    trail-part : take (get_or session length_at 0) (drop trail_at session) ≡ table (length (held (formula_of book) session).trail) (λ (i : ℕ). literal_at (held (formula_of book) session).trail (suc i))
    trail-part =
        let n : ℕ = length (held (formula_of book) session).trail in
        let short : length (held (formula_of book) session).trail ≤ variables_of book = trail_short (valid_structure facts.0).trailed in
        let front : length (take (get_or session length_at 0) (drop trail_at session)) ≡ n = simp (length-take, length-drop) (omega (arith, count_is, long)) in
        ext_get_or 0 _ _ (front ∙ sym (length-table n (λ (i : ℕ). literal_at (held (formula_of book) session).trail (suc i))))
        (λ i h.
        get_or-take (get_or session length_at 0) (drop trail_at session) i 0 (omega (arith, count_is))
        ∙ get_or-drop trail_at session i 0
        ∙ facts.1.trail.literals i (omega arith)
        ∙ sym (get_or-table n (λ (k : ℕ). literal_at (held (formula_of book) session).trail (suc k)) i 0 (omega arith)))

    pub trail_behind_lem : (before from to : ℕ) → from ≡ trail_at + before → to ≡ trail_at + get_or session length_at 0 → before ≤ get_or session length_at 0
        → take (to - from) (drop from session) ≡ trail_behind before (held (formula_of book) session)
    unfolding trail_behind
    trail_behind_lem before from to f t h =
        let width : to - from ≡ get_or session length_at 0 - before = omega arith in
        rw (width, f) (sym (ap (take (get_or session length_at 0 - before)) (drop-drop before trail_at session)) ∙ part_taken before (get_or session length_at 0) (drop trail_at session) h ∙ ap (drop before) trail-part)

    pub trail_none : (before : ℕ) → get_or session length_at 0 ≤ before → [] ≡ trail_behind before (held (formula_of book) session)
    unfolding trail_behind
    trail_none before h =
        let n : ℕ = length (held (formula_of book) session).trail in
        let all : List ℕ = table n (λ (i : ℕ). literal_at (held (formula_of book) session).trail (suc i)) in
        let short : length all ≤ before = omega (arith, count_is, length-table n (λ (i : ℕ). literal_at (held (formula_of book) session).trail (suc i))) in
        sym (drop_of_length-le all short)

-- The opening over the session's numbers: cleared numbers, the clauses of one literal, and all of it together.
use Prim.Native.Nat.{ℕ, suc, ◌+◌, ◌*◌, ◌≤◌, ◌<◌}
use native.Mathlib.Numerals.{add-one}
use native.Mathlib.Omega.{arith}
use mathlib.Core.Bool.{Bool, true, false, cond, not}
use mathlib.Core.List.{List, [], ◌++◌}
use mathlib.Core.Logic.{⊎_elim}
use mathlib.Core.Path.{◌≡◌, refl, sym, ap, ◌∙◌}
use borrow.Author.Tests.{eq-eqb, ne_eqb}
use lib.Dec.{eqb}
use Rattle.std.proofs.lemmas.List.{length-append}
use Rattle.std.proofs.lemmas.Slice.{drop-append-drop}
use lib.ListN.{length, get_or, set, take, drop, length-take, length-drop, length-set, drop_of_length-le}
use lib.Seq.{drop-cons, drop-set-lt}
use Rattle.base.proofs.Bools.{never}
use Rattle.book.specs.Formula.{variable_of, literal_within}
use Rattle.book.specs.Numbers.{variables_of, clauses_of, clause_at, formula_of, well_formed}
use Rattle.book.proofs.PartLaws.{clause_of_formula, clauses_counted}
use Rattle.book.proofs.SoundLaws.{literal_parts, clause_parts, clause_literal}
use Rattle.book.proofs.WellFormedLaws.{well_formed_sound, well_formed_clause}
use Rattle.run.specs.Trail.{is_true, is_false}
use Rattle.run.specs.Run.{Run, clause_of, size, on_trail, with_conflict, in_conflict, fresh, assign_unit, assign_units, propagate, open_run}
use Rattle.run.proofs.Clauses.{literal_within_lem}
use Rattle.run.specs.Progress.{Opened}
use Rattle.run.proofs.Opening.{fresh_opened, unit_outcome, opening_state}
use Rattle.run.proofs.Conflicts.{quiet_out}
use Rattle.layout.specs.Layout.{required_length, conflict_at, length_at, value_slot}
use Rattle.layout.specs.Encodes.{Encodes}
use Rattle.layout.specs.Values.{value_read}
use Rattle.engine.specs.Inner.Trail.{assign_nums, SameBeside}
use Rattle.layout.specs.declared.values.Value.{Value}
use Rattle.layout.specs.declared.values.Value.TheVariants.{Open, True, False}
use Rattle.engine.specs.Inner.Propagation.{Propagating}
use Rattle.engine.specs.Engine.{Becomes}
use Rattle.engine.specs.Inner.Opening.{Units, UnitDone}
use Rattle.engine.proofs.trail.Laws.{assign_beside}
use Rattle.engine.specs.Inner.Scan.{ValueSays}
use Rattle.engine.proofs.propagation.Laws.{becomes_then}
use Rattle.engine.proofs.visit.StoreLaws.{trail_room, encodes_implied}
use Rattle.engine.proofs.visit.SpotLaws.{held_says}
use Rattle.engine.proofs.StepLaws.{beside_behind, encodes_conflict}

-- what was read of clause c: literals of the formula
pub clause_read : (book : List ℕ) (c : ℕ) (literals : List ℕ) → well_formed book ≡ true → c < clauses_of book → literals ≡ clause_at book c
    → (i : ℕ) → i < length literals → (2 ≤ get_or literals i 0) × (get_or literals i 0 ≤ 2 * variables_of book + 1)
clause_read book c literals w h read =
    rw read
    (λ i k. literal_parts (variables_of book) (get_or (clause_at book c) i 0)
    (clause_literal (variables_of book) (clause_at book c) (clause_parts (variables_of book) (clause_at book c) (well_formed_clause book w c h)) i k))

-- One clause, of which `literals` were read.
module _ {book numbers : List ℕ} {c : ℕ} (inside : c < clauses_of book) {literals : List ℕ} (read : literals ≡ clause_at book c)
    (at : Units book numbers c) where
  is-clause : literals ≡ clause_of (formula_of book) c
  is-clause = read ∙ sym (clause_of_formula book c inside)

  -- nothing happens
  same_done : assign_unit c (clause_of (formula_of book) c) at.run ≡ at.run → UnitDone book numbers numbers c at.run false
  same_done e =
      record {
        becomes = rw e (record { encodes = at.encodes; same_length = refl; same_behind = refl });
        says = rw e (sym (quiet_out at.run at.opened.quiet));
      }

  pub unit_other : (length literals ≡ 1 → ⊥) → UnitDone book numbers numbers c at.run false
  unfolding assign_unit
  unit_other n = same_done (rw (ne_eqb (size (formula_of book) c) 1 (λ e. n (ap length is-clause ∙ e))))

  -- it has one literal
  module _ (one : length literals ≡ 1) {v : ℕ} (v-is : v ≡ variables_of book) where
    abbrev literal : ℕ
    literal = get_or (clause_of (formula_of book) c) 0 0

    size_one : size (formula_of book) c ≡ 1
    size_one = ap length (sym is-clause) ∙ one

    within : literal_within (variables_of book) literal ≡ true
    within = literal_within_lem (formula_of book) (well_formed_sound book at.well) c 0 (omega (arith, size_one))

    pub unit_bounds : (2 ≤ get_or literals 0 0) × (variable_of (get_or literals 0 0) ≤ v)
    unit_bounds = let b = literal_parts (variables_of book) literal within in rw is-clause (b.0, omega arith)

    module _ {value : Value} (reads : value ≡ value_read (get_or numbers (value_slot v (get_or literals 0 0)) 0) (get_or literals 0 0)) where
      says-of : (x : Value) → value ≡ x → ValueSays at.run.trail literal x
      says-of x e =
          let b = unit_bounds in
          rw (← is-clause)
          (held_says {v = v} {numbers = numbers} (rw v-is at.encodes.trail) at.opened.structure.trailed.once (omega (arith, at.encodes.long))
          (get_or literals 0 0) b.0 b.1 x (sym e ∙ reads))

      pub unit_true_lem : value ≡ True → UnitDone book numbers numbers c at.run false
      unfolding assign_unit
      unit_true_lem e = same_done (rw (eq-eqb (size (formula_of book) c) 1 size_one, (says-of True e).0))

      pub unit_false : value ≡ False → UnitDone book numbers (set numbers conflict_at (c + 1)) c at.run true
      unfolding assign_unit with_conflict
      unit_false e =
          rw add-one
          (record {
            becomes =
                rw conflict
                (record {
                  encodes = encodes_conflict (suc c) at.opened.structure.watched at.encodes;
                  same_length = length-set numbers conflict_at (suc c);
                  same_behind = drop-set-lt (required_length (variables_of book) (clauses_of book)) numbers conflict_at (suc c) (omega arith);
                });
            says = rw conflict (sym (loud c));
          })
        where
          conflict : assign_unit c (clause_of (formula_of book) c) at.run ≡ with_conflict (suc c) at.run
          conflict = let s = says-of False e in rw (eq-eqb (size (formula_of book) c) 1 size_one, s.0, s.1)

          loud : (n : ℕ) → not (eqb (suc n) 0) ≡ true
          loud n = rw (ne_eqb (suc n) 0 (λ z. omega arith))

      module _ (e : value ≡ Open) where
        untrue : is_true at.run.trail literal ≡ false
        untrue = (says-of Open e).0

        unfalse : is_false at.run.trail literal ≡ false
        unfalse = (says-of Open e).1

        implied : assign_unit c (clause_of (formula_of book) c) at.run ≡ on_trail literal false at.run
        unfolding assign_unit
        implied = rw (eq-eqb (size (formula_of book) c) 1 size_one, untrue, unfalse)

        pub unit_room : get_or numbers length_at 0 < v
        unit_room = omega (arith, at.encodes.trail.count, trail_room at.opened.structure.trailed literal within untrue unfalse)

        pub unit_open : {after : List ℕ} → after ≡ assign_nums v numbers (get_or literals 0 0) 0 → UnitDone book numbers after c at.run false
        unfolding on_trail
        unit_open {after} after_is =
            rw (after_is, v-is, is-clause)
            (record {
              becomes =
                  rw implied
                  (record {
                    encodes =
                        encodes_implied (formula_of book) numbers at.run at.encodes at.opened.structure.watched
                        at.opened.structure.trailed literal 0 (sym (at.encodes.trail.decided ∙ at.opened.undecided)) within untrue unfalse;
                    same_length = beside.same_length;
                    same_behind = beside_behind beside (required_length (variables_of book) (clauses_of book)) (omega arith);
                  });
              says = rw implied (sym (quiet_out at.run at.opened.quiet));
            })
          where
            beside : SameBeside (variables_of book) numbers (assign_nums (variables_of book) numbers literal 0)
            beside =
                let bounds = literal_parts (variables_of book) literal within in
                assign_beside (variables_of book) numbers literal 0 (omega (arith, unit_room)) bounds.0 (omega arith)

-- The one-literal clauses before clause c are on the trail, on the way from the numbers `before`.
pub record FirstUnits (book before numbers : List ℕ) (c : ℕ) : Type 0 where
  pub run : Run
  pub becomes : Becomes book before numbers run
  pub opened : Opened (formula_of book) c run
  pub rest : assign_units c (drop c (formula_of book).clauses) run ≡ assign_units 0 (formula_of book).clauses (fresh (formula_of book))

units_step : (clauses : List (List ℕ)) (c : ℕ) (run whole : Run) → c < length clauses → assign_units c (drop c clauses) run ≡ whole
    → cond (in_conflict (assign_unit c (get_or clauses c []) run)) (assign_unit c (get_or clauses c []) run)
    (assign_units (suc c) (drop (suc c) clauses) (assign_unit c (get_or clauses c []) run))
    ≡ whole
unfolding assign_units
units_step clauses c run whole h e = rw (drop-cons clauses c [] h) at e

module _ (book before : List ℕ) (well : well_formed book ≡ true) where
  pub units_begin : Encodes (formula_of book) before (fresh (formula_of book)) → FirstUnits book before before 0
  units_begin e =
      record {
        run = fresh (formula_of book);
        becomes = record { encodes = e; same_length = refl; same_behind = refl };
        opened = fresh_opened (formula_of book) (well_formed_sound book well);
        rest = refl;
      }

  abbrev pub units_at : {numbers : List ℕ} (c : ℕ) → FirstUnits book before numbers c → Units book numbers c
  units_at c k = record { well = well; run = k.run; encodes = k.becomes.encodes; opened = k.opened }

  -- a conflict ends it
  pub units_conflict : {numbers after : List ℕ} (c : ℕ) → c < clauses_of book → (k : FirstUnits book before numbers c)
      → (r : Bool) → r ≡ true → UnitDone book numbers after c k.run r
      → Becomes book before after (assign_units 0 (formula_of book).clauses (fresh (formula_of book)))
  units_conflict c h k r is d =
      rw (sym (rw (sym d.says ∙ is) at (units_step (formula_of book).clauses c k.run (assign_units 0 (formula_of book).clauses (fresh (formula_of book))) (omega (arith, clauses_counted book)) k.rest)))
      (becomes_then k.becomes d.becomes)

  pub units_next : {numbers after : List ℕ} (c : ℕ) → c < clauses_of book → (k : FirstUnits book before numbers c)
      → (r : Bool) → r ≡ false → UnitDone book numbers after c k.run r → FirstUnits book before after (c + 1)
  units_next c h k r is d =
      rw add-one
      (record {
        run = assign_unit c (clause_of (formula_of book) c) k.run;
        becomes = becomes_then k.becomes d.becomes;
        opened =
            ⊎_elim (λ o. o) (λ e. absurd (never e.loud (sym d.says ∙ is)))
            (unit_outcome (formula_of book) (well_formed_sound book well) c k.run k.opened);
        rest =
            rw (sym d.says ∙ is) at
            (units_step (formula_of book).clauses c k.run (assign_units 0 (formula_of book).clauses (fresh (formula_of book)))
            (omega (arith, clauses_counted book)) k.rest);
      })

  pub units_end : {numbers : List ℕ} (c : ℕ) → clauses_of book ≤ c → FirstUnits book before numbers c
      → Becomes book before numbers (assign_units 0 (formula_of book).clauses (fresh (formula_of book)))
  unfolding assign_units
  units_end c h k =
      let all : length (formula_of book).clauses ≤ c = omega (arith, clauses_counted book) in
      rw (sym (rw (drop_of_length-le (formula_of book).clauses all) at k.rest)) k.becomes

-- The opening as a whole.
module _ (book : List ℕ) (well : well_formed book ≡ true) where
  abbrev pub opening_begun : {numbers : List ℕ} → Encodes (formula_of book) numbers (assign_units 0 (formula_of book).clauses (fresh (formula_of book)))
      → Propagating book numbers 0
  opening_begun e =
      record {
        well = well;
        run = assign_units 0 (formula_of book).clauses (fresh (formula_of book));
        encodes = e;
        state = opening_state (formula_of book) (well_formed_sound book well);
      }

  -- from numbers of which a first part was stored
  pub opening_done : (before filled : List ℕ) (count : ℕ) → count ≡ required_length (variables_of book) (clauses_of book)
      → required_length (variables_of book) (clauses_of book) ≤ length before → length filled ≡ length (take count before)
      → {watched units numbers : List ℕ} → Becomes book (filled ++ drop count before) watched (fresh (formula_of book))
      → Becomes book watched units (assign_units 0 (formula_of book).clauses (fresh (formula_of book)))
      → Becomes book units numbers (propagate (formula_of book) 0 (assign_units 0 (formula_of book).clauses (fresh (formula_of book))))
      → Becomes book before numbers (open_run (formula_of book))
  unfolding open_run
  opening_done before filled count count_is long stored w u p =
      let b = becomes_then w (becomes_then u p) in
      let part : length filled ≡ count = omega (arith, length-take count before) in
      record {
        encodes = b.encodes;
        same_length = b.same_length ∙ simp (length-append, length-drop) (omega arith);
        same_behind = b.same_behind ∙ drop-append-drop count before filled (required_length (variables_of book) (clauses_of book)) (omega arith) part;
      }

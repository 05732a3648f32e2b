-- What an accepted opening and an accepted decision report, by the run that they lead to.
use Rattle.std.specs.Prelude.{Result, Ok}
use Rattle.refusals.specs.declared.Refusal.{Refusal}
use Rattle.session.specs.declared.Propagated.{Propagated}
use Prim.Native.Nat.{ℕ, zero, suc, ◌+◌, ◌-◌, ◌≤◌, ◌<◌}
use native.Mathlib.Omega.{arith}
use mathlib.Core.Bool.{Bool, true, false, cond}
use mathlib.Core.List.{List, [], ◌∷◌}
use mathlib.Core.Logic.{◌↔◌, ◌⊎◌, inl, inr, ⊎_elim}
use mathlib.Core.Path.{◌≡◌, refl, sym, ap, ◌∙◌}
use lib.ListN.{length, get_or, length-drop}
use lib.Seq.{get_or-drop}
use Rattle.base.specs.Lists.{member, distinct, table}
use Rattle.base.proofs.Bools.{true_or_false, never}
use Rattle.base.proofs.Members.{position, member_at, positions_distinct}
use Rattle.base.proofs.Tables.{get_or-table, length-table}
use Rattle.book.specs.Formula.{Formula, sound}
use Rattle.book.specs.Numbers.{formula_of}
use Rattle.run.specs.Trail.{Entry, place, literal_at, is_true, is_false, variables_on, decisions}
use Rattle.run.specs.Run.{Run, clause_of, size, in_conflict, trail_behind, open_run, decide}
use Rattle.run.specs.Calls.{decide_refusal}
use Rattle.run.specs.Closure.{Closure, BothWays}
use Rattle.run.specs.Valid.{Valid}
use Rattle.run.proofs.Trails.{true_place, place_true, true_grows, place_new, place_cases, place_within, place_of_literal}
use Rattle.run.proofs.Conflicts.{quiet_out, out_quiet}
use Rattle.run.proofs.Validity.{decision_accepted}
use Rattle.run.proofs.Theorems.{open_valid, decide_valid, assigned_is_closure, conflict_is_both_ways, open_undecided, decide_decisions, decide_longer, decide_gains}
use Rattle.layout.proofs.TrailLaws.{at_place}
use Rattle.session.specs.Outcomes.{propagated_answer}
use Rattle.session.specs.Statement.{Reported}
use Rattle.session.specs.declared.Propagated.TheVariants.{Implied, Conflict}

-- the literals behind the first so many of a trail are those with a later place
length_behind : (run : Run) (before : ℕ) → length (trail_behind before run) ≡ length run.trail - before
unfolding trail_behind
length_behind run before = length-drop before _ ∙ ap (λ (n : ℕ). n - before) (length-table (length run.trail) (λ (i : ℕ). literal_at run.trail (suc i)))

module _ (run : Run) (once : distinct (variables_on run.trail) ≡ true) (before : ℕ) where
  behind_at : (i : ℕ) → before + i < length run.trail → get_or (trail_behind before run) i 0 ≡ literal_at run.trail (suc (before + i))
  unfolding trail_behind
  behind_at i h =
      get_or-drop before (table (length run.trail) (λ (i : ℕ). literal_at run.trail (suc i))) i 0
      ∙ get_or-table (length run.trail) (λ (i : ℕ). literal_at run.trail (suc i)) (before + i) 0 h

  behind_later : (m : ℕ) → member m (trail_behind before run) ≡ true → before < place run.trail m
  behind_later m k =
      let at = position m (trail_behind before run) k in
      let within : before + at.0 < length run.trail = omega (arith, length_behind run before) in
      let is : literal_at run.trail (suc (before + at.0)) ≡ m = sym (behind_at at.0 within) ∙ at.2 in
      let p : place run.trail m ≡ suc (before + at.0) = ap (place run.trail) (sym is) ∙ place_of_literal run.trail (before + at.0) once within in
      omega arith

  later_behind : (m : ℕ) → before < place run.trail m → member m (trail_behind before run) ≡ true
  later_behind m h =
      let i : ℕ = place run.trail m - 1 - before in
      let top = place_within run.trail m in
      let index : suc (before + i) ≡ place run.trail m = omega arith in
      let is : get_or (trail_behind before run) i 0 ≡ m = behind_at i (omega arith) ∙ ap (literal_at run.trail) index ∙ at_place run.trail m (omega arith) in
      ap (λ (x : ℕ). member x (trail_behind before run)) (sym is) ∙ member_at (trail_behind before run) i (omega (arith, length_behind run before))

  behind_distinct : distinct (trail_behind before run) ≡ true
  behind_distinct =
      positions_distinct (trail_behind before run)
      (λ i j h k e.
      let at : (m : ℕ) → m < length (trail_behind before run) → place run.trail (get_or (trail_behind before run) m 0) ≡ suc (before + m)
      = λ m g.
      let within : before + m < length run.trail = omega (arith, length_behind run before) in
      ap (place run.trail) (behind_at m within) ∙ place_of_literal run.trail (before + m) once within in
      let same : suc (before + i) ≡ suc (before + j) = sym (at i h) ∙ ap (place run.trail) e ∙ at j k in
      omega arith)

-- An answer by the run that a call leads to, where the literals behind the first so many are those that were not there before.
module _ (book : List ℕ) (s : sound (formula_of book) ≡ true) (run : Run) (valid : Valid (formula_of book) run) (ds : List ℕ)
    (in-force : decisions run.trail ≡ ds) (before : ℕ) (within : before ≤ length run.trail) (Before : ℕ → Type 0)
    (gains : (m : ℕ) → (before < place run.trail m) ↔ ((is_true run.trail m ≡ true) × (Before m → ⊥))) where
  abbrev formula : Formula
  formula = formula_of book

  both_ways_lem : (in_conflict run ≡ true) ↔ BothWays (Closure formula ds)
  both_ways_lem = rw (← in-force) (conflict_is_both_ways formula run s valid)

  loud : (name : ℕ) → ◌≡◌ {A = Result Propagated Refusal} (Ok (propagated_answer before run)) (Ok (Conflict name)) → (in_conflict run ≡ true) × (run.conflict ≡ name)
  unfolding propagated_answer
  loud name e = go (in_conflict run) refl e
    where
      go : (b : Bool) → in_conflict run ≡ b → ◌≡◌ {A = Result Propagated Refusal} (Ok (cond b (Conflict run.conflict) (Implied (length run.trail - before)))) (Ok (Conflict name))
          → (in_conflict run ≡ true) × (run.conflict ≡ name)
      go true p q = (p, cc)
      go false p q = let z : ◌≡◌ {A = ℕ} 0 1 = cc in absurd (omega arith)

  answers_conflict : in_conflict run ≡ true → ◌≡◌ {A = Result Propagated Refusal} (Ok (propagated_answer before run)) (Ok (Conflict run.conflict))
  unfolding propagated_answer
  answers_conflict e = rw e

  answers_implied : in_conflict run ≡ false → ◌≡◌ {A = Result Propagated Refusal} (Ok (propagated_answer before run)) (Ok (Implied (length run.trail - before)))
  unfolding propagated_answer
  answers_implied e = rw e

  pub reported : Reported (formula_of book) ds Before run (Ok (propagated_answer before run))
  reported =
      record {
        conflicts = (λ k. both_ways_lem.0 (loud k.0 k.1).0, λ b. (run.conflict, answers_conflict (both_ways_lem.1 b)));
        named = λ name e. let c = loud name e in by_name name c.1 run.conflict refl c.0;
        gained = λ n. otherwise (⊎_elim (λ e. absurd (n (both_ways_lem.0 e))) (λ e. e) (true_or_false (in_conflict run)));
      }
    where
      by_name : (name : ℕ) → run.conflict ≡ name → (k : ℕ) → run.conflict ≡ k → in_conflict run ≡ true
          → (c : ℕ) × (name ≡ suc c) × (0 < size formula c) × ((m : ℕ) → member m (clause_of formula c) ≡ true → is_false run.trail m ≡ true)
      by_name name e zero q l = absurd (never l (quiet_out run q))
      by_name name e (suc c) q l = let f = valid.conflict_false c q in (c, sym e ∙ q, f.0, f.1)

      same_place : length run.trail - (length run.trail - before) ≡ before
      same_place = omega arith

      otherwise : in_conflict run ≡ false
          → (n : ℕ) × (◌≡◌ {A = Result Propagated Refusal} (Ok (propagated_answer before run)) (Ok (Implied n)))
          × (length (trail_behind (length run.trail - n) run) ≡ n)
          × (distinct (trail_behind (length run.trail - n) run) ≡ true)
          × ((l : ℕ) → (member l (trail_behind (length run.trail - n) run) ≡ true) ↔ (Closure formula ds l × (Before l → ⊥)))
      otherwise e = (
        length run.trail - before,
        answers_implied e,
        rw same_place (length_behind run before),
        rw same_place (behind_distinct run valid.trail_distinct before),
        λ l. rw same_place (
          λ k. let g = (gains l).0 (behind_later run valid.trail_distinct before l k) in ((closed e l).0 g.0, g.1),
          λ k. later_behind run valid.trail_distinct before l ((gains l).1 ((closed e l).1 k.0, k.1)),
        ),
      )
        where
          closed : in_conflict run ≡ false → (l : ℕ) → (is_true run.trail l ≡ true) ↔ Closure formula ds l
          closed e l = rw (← in-force) (assigned_is_closure formula run s valid (out_quiet run e) l)

module _ (book : List ℕ) (s : sound (formula_of book) ≡ true) where
  pub open_run_reported : Reported (formula_of book) [] (λ l. ⊥) (open_run (formula_of book)) (Ok (propagated_answer 0 (open_run (formula_of book))))
  open_run_reported =
      let run : Run = open_run (formula_of book) in
      reported book s run (open_valid (formula_of book) s) [] (open_undecided (formula_of book)) 0 (omega arith) (λ l. ⊥)
      (λ m. (λ h. (place_true run.trail m h, λ x. x), λ k. true_place run.trail m k.0))

  pub decide_run_reported : (l : ℕ) (run : Run) → Valid (formula_of book) run → decide_refusal (formula_of book) l run ≡ 0
      → Reported (formula_of book) (l ∷ decisions run.trail) (λ m. (m ≡ l) ⊎ Closure (formula_of book) (decisions run.trail) m)
      (decide (formula_of book) l run) (Ok (propagated_answer (suc (length run.trail)) (decide (formula_of book) l run)))
  decide_run_reported l run valid z =
      let next = decide_valid (formula_of book) l run s valid z in
      reported book s (decide (formula_of book) l run) next (l ∷ decisions run.trail) (decide_decisions (formula_of book) l run)
      (suc (length run.trail)) (decide_longer (formula_of book) l run)
      (λ m. (m ≡ l) ⊎ Closure (formula_of book) (decisions run.trail) m)
      (λ m. (
        λ h. let g = (decide_gains (formula_of book) l run next.trail_distinct m).0 h in (g.0, λ b. g.1 (before-true m b)),
        λ k. (decide_gains (formula_of book) l run next.trail_distinct m).1 (k.0, λ t. k.1 (true-before m t)),
      ))
    where
      e : Entry
      e = record { literal = l; decided = true }

      before-true : (m : ℕ) → (m ≡ l) ⊎ Closure (formula_of book) (decisions run.trail) m → is_true (e ∷ run.trail) m ≡ true
      before-true m (inl q) = rw q (place_true (e ∷ run.trail) l (omega (arith, place_new e run.trail)))
      before-true m (inr k) =
          true_grows e run.trail m ((assigned_is_closure (formula_of book) run s valid (decision_accepted (formula_of book) l run z).quiet m).1 k)

      true-before : (m : ℕ) → is_true (e ∷ run.trail) m ≡ true → (m ≡ l) ⊎ Closure (formula_of book) (decisions run.trail) m
      true-before m t =
          ⊎_elim (λ p. inl (sym p.0))
          (λ p. inr ((assigned_is_closure (formula_of book) run s valid (decision_accepted (formula_of book) l run z).quiet m).0
          (place_true run.trail m (omega (arith, true_place (e ∷ run.trail) m t)))))
          (place_cases e run.trail m)

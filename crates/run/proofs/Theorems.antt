-- The theorems of the reference run: validity, closure, what a decision and a backtrack change, agreement of runs, fuel.
use Prim.Native.Nat.{ℕ, suc, ◌+◌, ◌≤◌, ◌<◌}
use native.Mathlib.Omega.{arith}
use mathlib.Core.Bool.{Bool, true, false, cond, not}
use mathlib.Core.List.{List, [], ◌∷◌, ◌++◌}
use mathlib.Core.Logic.{inl, ◌↔◌}
use mathlib.Core.Path.{◌≡◌, refl, sym, ap, ◌∙◌}
use borrow.Author.Tests.{eqb-true, ne_eqb, lt-leb}
use lib.Dec.{eqb}
use lib.ListN.{length, get_or, drop}
use Rattle.base.specs.Lists.{all, member, distinct, times}
use Rattle.base.proofs.Bools.{never, same_test, refuted}
use Rattle.base.proofs.ForAll.{member-times}
use Rattle.book.specs.Formula.{Formula, positive, sound}
use Rattle.run.specs.Trail.{Entry, place, is_true, is_false, is_assigned, is_met, variables_on, decisions, cut}
use Rattle.run.specs.Scan.{Cell}
use Rattle.run.specs.Run.{Run, clause_of, size, no_cell, cell_of, list_of, Action, moves, action, on_trail, in_conflict, propagate_from, fresh, assign_units, open_run, decide, backtrack, fix}
use Rattle.run.specs.Calls.{Call, decision, backtrack_by, fix_by, decide_refusal, backtrack_refusal, fix_refusal, refusal, perform_call, step, step_all, reference}
use Rattle.run.specs.Valid.{Valid}
use Rattle.run.specs.Closure.{Closure, UnitClosed, Contains, BothWays}
use Rattle.run.proofs.ScanLaws.{scan_found}
use Rattle.run.proofs.Growth.{Grown, same, grown_by, grown_decisions, grown_suffix, grown_gains, units_grow, propagating_grows}
use Rattle.run.proofs.Validity.{propagated, fuel_enough, decision_accepted, decision_going, decided_valid, backtrack_accepted, backtracked_valid, fix_accepted, fixed_valid}
use Rattle.run.proofs.Opening.{opening_state}
use Rattle.run.proofs.ClosureLaws.{closure_within, closure_holds, closure_closed, decisions_true, closure_true, both_ways_conflict, assigned_closure, conflict_both_ways}
use Rattle.run.proofs.MetLaws.{all_met}
use Rattle.run.proofs.Levels.{suffix_length, suffix_append, cut_suffix, cut_decisions}
use Rattle.run.proofs.Actions.{Case, staying, moving, implying, conflicting, action_case}

-- Every reference run is valid.
pub open_valid : (formula : Formula) → sound formula ≡ true → Valid formula (open_run formula)
unfolding open_run
open_valid formula s = propagated formula s 0 (assign_units 0 formula.clauses (fresh formula)) (opening_state formula s)

pub decide_valid : (formula : Formula) (l : ℕ) (run : Run) → sound formula ≡ true → Valid formula run → decide_refusal formula l run ≡ 0
    → Valid formula (decide formula l run)
decide_valid formula l run s v z = decided_valid formula l run s v (decision_accepted formula l run z)

pub backtrack_valid : (formula : Formula) (k : ℕ) (run : Run) → sound formula ≡ true → Valid formula run → backtrack_refusal k run ≡ 0
    → Valid formula (backtrack k run)
backtrack_valid formula k run s v z = let a = backtrack_accepted k run z in backtracked_valid k run v a.0 a.1 a.2

pub fix_valid : (formula : Formula) (f : ℕ) (run : Run) → Valid formula run → fix_refusal f run ≡ 0 → Valid formula (fix f run)
fix_valid formula f run v z = fixed_valid f run v (fix_accepted f run z).2

perform_valid : (formula : Formula) (run : Run) → sound formula ≡ true → (call : Call) → Valid formula run → refusal formula call run ≡ 0
    → Valid formula (perform_call formula call run)
unfolding perform_call refusal
perform_valid formula run s (decision l) v z = decide_valid formula l run s v z
perform_valid formula run s (backtrack_by k) v z = backtrack_valid formula k run s v z
perform_valid formula run s (fix_by f) v z = fix_valid formula f run v z

-- what holds after a call, by its number: where that is 0 the call is performed, else nothing changes
pub by_number : (P : Run → Type 0) (number : ℕ) (after run : Run) → (number ≡ 0 → P after) → P run → P (cond (eqb number 0) after run)
by_number P number after run accepted refused = go (eqb number 0) refl
  where
    go : (b : Bool) → eqb number 0 ≡ b → P (cond b after run)
    go true e = accepted (eqb-true number 0 e)
    go false e = refused

pub step_valid : (formula : Formula) (run : Run) → sound formula ≡ true → (call : Call) → Valid formula run
    → Valid formula (step formula run call)
unfolding step
step_valid formula run s call v = by_number (Valid formula) (refusal formula call run) (perform_call formula call run) run (perform_valid formula run s call v) v

pub step_refused : (formula : Formula) (run : Run) (call : Call) → (refusal formula call run ≡ 0 → ⊥) → step formula run call ≡ run
unfolding step
step_refused formula run call n = rw (ne_eqb (refusal formula call run) 0 n)

pub all_valid : (formula : Formula) → sound formula ≡ true → (calls : List Call) (run : Run) → Valid formula run
    → Valid formula (step_all formula run calls)
unfolding step_all
all_valid formula s [] run v = v
all_valid formula s (call ∷ calls) run v = all_valid formula s calls (step formula run call) (step_valid formula run s call v)

pub reference_valid : (formula : Formula) → sound formula ≡ true → (calls : List Call) → Valid formula (reference formula calls)
unfolding reference
reference_valid formula s calls = all_valid formula s calls (open_run formula) (open_valid formula s)

-- The closure is the least set that holds the decisions and is closed under the unit rule; any valid run holds just the closure of its
-- decisions out of conflict, and is in conflict just where the closure has some variable both ways.
pub closure_least : (formula : Formula) (ds : List ℕ)
    → Contains ds (Closure formula ds)
    × UnitClosed formula (Closure formula ds)
    × ((S : ℕ → Type 0) → Contains ds S → UnitClosed formula S → (l : ℕ) → Closure formula ds l → S l)
closure_least formula ds = (closure_holds formula ds, closure_closed formula ds, λ S holds closed l k. closure_within S holds closed k)

pub assigned_is_closure : (formula : Formula) (run : Run) → sound formula ≡ true → Valid formula run → run.conflict ≡ 0 → (l : ℕ)
    → (is_true run.trail l ≡ true) ↔ Closure formula (decisions run.trail) l
assigned_is_closure formula run s v = assigned_closure formula s run v

pub conflict_is_both_ways : (formula : Formula) (run : Run) → sound formula ≡ true → Valid formula run
    → (in_conflict run ≡ true) ↔ BothWays (Closure formula (decisions run.trail))
conflict_is_both_ways formula run s v = conflict_both_ways formula s run v

pub conflict_clause_false : (formula : Formula) (run : Run) → Valid formula run → (c : ℕ) → run.conflict ≡ suc c
    → (0 < size formula c) × ((m : ℕ) → member m (clause_of formula c) ≡ true → is_false run.trail m ≡ true)
conflict_clause_false formula run v c e = v.conflict_false c e

-- A clause of no literals, which is always met, watches nothing, stands in no list and is never the conflict clause.
pub always_met_idle : (formula : Formula) (run : Run) → Valid formula run → (c : ℕ) → size formula c ≡ 0
    → (cell_of run c ≡ no_cell) × ((l : ℕ) → member c (list_of run.lists l) ≡ false)
always_met_idle formula run v c z =
    let few : size formula c < 2 = omega arith in
    let nowhere : (l : ℕ) → times c (list_of run.lists l) ≡ 0 = λ l. rw (v.listed l c, lt-leb 2 (size formula c) few) in
    (v.unwatched c few, λ l. refuted (member c (list_of run.lists l)) (λ m. omega (arith, nowhere l, member-times c (list_of run.lists l) m)))

pub always_met_never_named : (formula : Formula) (run : Run) → Valid formula run → (c : ℕ) → size formula c ≡ 0 → run.conflict ≡ suc c → ⊥
always_met_never_named formula run v c z e = let some = (v.conflict_false c e).0 in omega arith

-- Out of conflict with no variable open every clause is met.
pub nothing_open_all_met : (formula : Formula) (run : Run) → sound formula ≡ true → Valid formula run → run.conflict ≡ 0
    → ((x : ℕ) → 1 ≤ x → x ≤ formula.variables → is_assigned run.trail (positive x) ≡ true)
    → (c : ℕ) → c < length formula.clauses → is_met run.trail (clause_of formula c) ≡ true
nothing_open_all_met formula run s v quiet none_open c h = all_met formula s run v quiet none_open c

-- An opening makes no decision, and a decision one.
open_grown : (formula : Formula) → Grown [] (open_run formula).trail
unfolding open_run fresh
open_grown formula =
    propagating_grows (suc formula.variables) formula 0 [] (assign_units 0 formula.clauses (fresh formula))
    (units_grow 0 formula.clauses [] (fresh formula) same)

pub decide_grown : (formula : Formula) (l : ℕ) (run : Run) → Grown (record { literal = l; decided = true } ∷ run.trail) (decide formula l run).trail
unfolding decide on_trail
decide_grown formula l run =
    propagating_grows (suc formula.variables) formula (length run.trail) (record { literal = l; decided = true } ∷ run.trail)
    (on_trail l true run) same

pub open_undecided : (formula : Formula) → decisions (open_run formula).trail ≡ []
unfolding decisions
open_undecided formula = grown_decisions (open_grown formula)

pub decide_decisions : (formula : Formula) (l : ℕ) (run : Run) → decisions (decide formula l run).trail ≡ l ∷ decisions run.trail
unfolding decisions
decide_decisions formula l run = grown_decisions (decide_grown formula l run)

-- What a decision gains on the trail: the literals behind its own place.
pub decide_longer : (formula : Formula) (l : ℕ) (run : Run) → length run.trail < length (decide formula l run).trail
decide_longer formula l run = suffix_length (grown_suffix (decide_grown formula l run))

pub decide_gains : (formula : Formula) (l : ℕ) (run : Run) → distinct (variables_on (decide formula l run).trail) ≡ true → (m : ℕ)
    → (suc (length run.trail) < place (decide formula l run).trail m)
    ↔ ((is_true (decide formula l run).trail m ≡ true) × (is_true (record { literal = l; decided = true } ∷ run.trail) m ≡ true → ⊥))
decide_gains formula l run = grown_gains (decide_grown formula l run)

-- A decision puts its literal and implied ones on the trail and changes nothing before them. A backtrack of k leaves the trail up to
-- before the k-th last decision, moves no watch, pointer or list, makes no check, ends a conflict, counts one, and leaves how many are fixed.
pub decide_extends : (formula : Formula) (l : ℕ) (run : Run)
    → (new : List Entry)
    × (all (λ (e : Entry). not e.decided) new ≡ true)
    × ((decide formula l run).trail ≡ new ++ (record { literal = l; decided = true } ∷ run.trail))
decide_extends formula l run = grown_by (decide_grown formula l run)

pub backtrack_keeps : (k : ℕ) (run : Run)
    → ((backtrack k run).trail ≡ cut k run.trail)
    × ((backtrack k run).cells ≡ run.cells)
    × ((backtrack k run).lists ≡ run.lists)
    × ((backtrack k run).checks ≡ run.checks)
    × ((backtrack k run).conflict ≡ 0)
    × ((backtrack k run).backtracks ≡ suc run.backtracks)
    × ((backtrack k run).fixed ≡ run.fixed)
    × (decisions (cut k run.trail) ≡ drop k (decisions run.trail))
    × ((left : List Entry) × (run.trail ≡ left ++ cut k run.trail))
unfolding backtrack
backtrack_keeps k run = (refl, refl, refl, refl, refl, refl, refl, cut_decisions k run.trail, suffix_append (cut_suffix k run.trail))

-- Valid runs of one formula, neither in conflict, agree where each decision in force in the one is true in the other.
pub true_decisions_agree : (formula : Formula) (a b : Run) → sound formula ≡ true → Valid formula a → Valid formula b
    → Contains (decisions a.trail) (λ (l : ℕ). is_true b.trail l ≡ true)
    → Contains (decisions b.trail) (λ (l : ℕ). is_true a.trail l ≡ true)
    → a.conflict ≡ 0 → b.conflict ≡ 0 → (l : ℕ) → is_true a.trail l ≡ is_true b.trail l
true_decisions_agree formula a b s v w in_b in-a p q l =
    same_test (is_true a.trail l) (is_true b.trail l)
    (λ t. closure_true formula s b w (decisions a.trail) in_b q l ((assigned_closure formula s a v p l).0 t))
    (λ t. closure_true formula s a v (decisions b.trail) in-a p l ((assigned_closure formula s b w q l).0 t))

-- Where the decisions of one in conflict are true in the other, the other is in conflict, too.
pub true_decisions_conflict : (formula : Formula) (a b : Run) → sound formula ≡ true → Valid formula a → Valid formula b
    → Contains (decisions a.trail) (λ (l : ℕ). is_true b.trail l ≡ true) → in_conflict a ≡ true → in_conflict b ≡ true
true_decisions_conflict formula a b s v w in_b e =
    both_ways_conflict formula s b w (decisions a.trail) in_b ((conflict_both_ways formula s a v).0 e)

-- Both hold where the same decisions are in force, in any order.
pub same_decisions_agree : (formula : Formula) (a b : Run) → sound formula ≡ true → Valid formula a → Valid formula b
    → ((l : ℕ) → member l (decisions a.trail) ≡ member l (decisions b.trail))
    → a.conflict ≡ 0 → b.conflict ≡ 0 → (l : ℕ) → is_true a.trail l ≡ is_true b.trail l
same_decisions_agree formula a b s v w same-ds =
    true_decisions_agree formula a b s v w
    (λ l h. decisions_true b.trail l (sym (same-ds l) ∙ h)) (λ l h. decisions_true a.trail l (same-ds l ∙ h))

pub conflicting_decisions : (formula : Formula) (a b : Run) → sound formula ≡ true → Valid formula a → Valid formula b
    → ((l : ℕ) → member l (decisions a.trail) ≡ member l (decisions b.trail))
    → in_conflict a ≡ true → in_conflict b ≡ true
conflicting_decisions formula a b s v w same-ds =
    true_decisions_conflict formula a b s v w (λ l h. decisions_true b.trail l (sym (same-ds l) ∙ h))

-- The fuel never runs out: with any larger fuel the opening and an accepted decision are the same.
pub fuel_suffices : (formula : Formula) → sound formula ≡ true → (extra : ℕ)
    → (propagate_from (suc formula.variables + extra) formula 0 (assign_units 0 formula.clauses (fresh formula)) ≡ open_run formula)
    × ((l : ℕ) (run : Run) → Valid formula run → decide_refusal formula l run ≡ 0
    → propagate_from (suc formula.variables + extra) formula (length run.trail) (on_trail l true run) ≡ decide formula l run)
unfolding open_run decide
fuel_suffices formula s extra = (
  fuel_enough formula s extra 0 (assign_units 0 formula.clauses (fresh formula)) (opening_state formula s),
  λ l run v z. fuel_enough formula s extra (length run.trail) (on_trail l true run)
      (inl (decision_going v (decision_accepted formula l run z))),
)

-- A clause is never pushed onto the list being read. (That it stands once in each watch's list and in no other is `Valid.listed`.)
pub never_pushed_on_the_list_read : (trail : List Entry) (clause : List ℕ) (cell : Cell) (q position made : ℕ)
    → cell.pointer < length clause
    → is_false trail q ≡ true → action trail clause cell q ≡ moves position made → get_or clause position 0 ≡ q → ⊥
never_pushed_on_the_list_read trail clause cell q position made within f e = go (action_case trail clause cell q) e
  where
    go : {a : Action} → Case trail clause cell q a → a ≡ moves position made → get_or clause position 0 ≡ q → ⊥
    go (staying t) z on = let n : ◌≡◌ {A = ℕ} 0 1 = cc in omega arith
    go (moving p u found) z on =
        let same_place : p ≡ position = cc in
        never f (rw (sym on ∙ ap (λ (i : ℕ). get_or clause i 0) (sym same_place)) (scan_found trail clause cell p within found).2)
    go (implying u n g) z on = let n : ◌≡◌ {A = ℕ} 0 1 = cc in omega arith
    go (conflicting u n g) z on = let n : ◌≡◌ {A = ℕ} 0 1 = cc in omega arith

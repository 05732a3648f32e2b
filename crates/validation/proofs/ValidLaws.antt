-- The test of the validation holds exactly of valid runs: the eleven tests in a row.
use Prim.Native.Nat.{ℕ, ◌+◌, ◌*◌, ◌≤◌, ◌<◌}
use native.Mathlib.Omega.{arith}
use mathlib.Core.Bool.{Bool, true, ◌&&◌}
use mathlib.Core.List.{map}
use mathlib.Core.Logic.{⊎_elim, ◌↔◌}
use mathlib.Core.Path.{◌≡◌, refl}
use borrow.Author.Tests.{eqb-true, eq-eqb, leb-true, le-leb}
use lib.Dec.{leb, eqb}
use lib.ListN.{length, get_or-eq_default}
use Rattle.base.specs.Lists.{all, distinct, up_to}
use Rattle.base.proofs.Bools.{and_parts, below, both}
use Rattle.book.specs.Formula.{Formula, variable_of, literal_within, sound}
use Rattle.run.specs.Trail.{Entry, decisions}
use Rattle.run.specs.Run.{Run, size, no_cell, cell_of, max_count}
use Rattle.run.specs.Calls.{max_backtracks}
use Rattle.run.specs.Valid.{Watching, Valid}
use Rattle.run.proofs.Clauses.{clause_exists}
use Rattle.validation.specs.Validation.{is_justified, is_watching, is_conflict, is_listed, is_valid}
use Rattle.base.proofs.ForAll.{upto_at, upto_all}
use Rattle.validation.proofs.ConditionLaws.{within_said, within_tests, counts_said, counts_test, justified_said, justified_tests, watching_said, watching_tests, unwatched_said, unwatched_tests, listed_said, listed_tests, conflict_said, conflict_tests}

module _ (formula : Formula) (run : Run) where
  abbrev trail_within : Bool
  trail_within = all (λ (e : Entry). literal_within formula.variables e.literal) run.trail

  abbrev cells_long : Bool
  cells_long = eqb (length run.cells) (length formula.clauses)

  abbrev lists_long : Bool
  lists_long = eqb (length run.lists) (2 * formula.variables + 2)

  abbrev checks_long : Bool
  checks_long = eqb (length run.checks) (length formula.clauses)

  abbrev checks_within : Bool
  checks_within = all (λ (n : ℕ). leb n max_count) run.checks

  abbrev backtracks_within : Bool
  backtracks_within = leb run.backtracks max_backtracks

  abbrev fixed_within : Bool
  fixed_within = leb run.fixed (length (decisions run.trail))

  abbrev once_each : Bool
  once_each = distinct (map (λ (e : Entry). variable_of e.literal) run.trail)

  abbrev watching_at : ℕ → Bool
  watching_at c = is_watching (size formula c) (cell_of run c)

  abbrev watching_all : Bool
  watching_all = up_to (length formula.clauses) watching_at

  abbrev up_to_lists : Bool
  up_to_lists = trail_within && cells_long && lists_long

  abbrev up_to_fixed : Bool
  up_to_fixed = up_to_lists && checks_long && checks_within && backtracks_within && fixed_within

  abbrev up_to_justified : Bool
  up_to_justified = up_to_fixed && once_each && is_justified formula run.trail

  -- two of the tests, of the cells and of the lists
  watching_all_lem : length run.cells ≡ length formula.clauses → watching_all ≡ true
      → ((c : ℕ) → 2 ≤ size formula c → Watching (size formula c) (cell_of run c)) × ((c : ℕ) → size formula c < 2 → cell_of run c ≡ no_cell)
  watching_all_lem long e = (
    λ c two. watching_said (size formula c) (cell_of run c) two
        (upto_at (length formula.clauses) watching_at e c (clause_exists formula c (omega arith))),
    λ c few. ⊎_elim (λ h. unwatched_said (size formula c) (cell_of run c) few (upto_at (length formula.clauses) watching_at e c h))
        (λ h. get_or-eq_default run.cells no_cell (omega arith))
        (below c (length formula.clauses)),
  )

  valid_said : sound formula ≡ true → is_valid formula run ≡ true → Valid formula run
  unfolding is_valid
  valid_said s e =
      let k = and_parts (up_to_justified && watching_all && is_listed formula run) (is_conflict formula run run.conflict) e in
      let j = and_parts (up_to_justified && watching_all) (is_listed formula run) k.0 in
      let i = and_parts up_to_justified watching_all j.0 in
      let h = and_parts (up_to_fixed && once_each) (is_justified formula run.trail) i.0 in
      let g = and_parts up_to_fixed once_each h.0 in
      let fixed = and_parts (up_to_lists && checks_long && checks_within && backtracks_within) fixed_within g.0 in
      let f = and_parts (up_to_lists && checks_long && checks_within) backtracks_within fixed.0 in
      let d = and_parts (up_to_lists && checks_long) checks_within f.0 in
      let c = and_parts up_to_lists checks_long d.0 in
      let b = and_parts (trail_within && cells_long) lists_long c.0 in
      let a = and_parts trail_within cells_long b.0 in
      let cells-long = eqb-true (length run.cells) (length formula.clauses) a.1 in
      let lists-long = eqb-true (length run.lists) (2 * formula.variables + 2) b.1 in
      let watches = watching_all_lem cells-long i.1 in
      let state = conflict_said formula run run.conflict refl k.1 in
      record {
        trail_within_lem = within_said formula.variables run.trail a.0;
        cells_length = cells-long;
        lists_length = lists-long;
        checks_length = eqb-true (length run.checks) (length formula.clauses) c.1;
        checks_within_lem = counts_said max_count run.checks d.1;
        backtracks_within_lem = leb-true run.backtracks max_backtracks f.1;
        fixed_within_lem = leb-true run.fixed (length (decisions run.trail)) fixed.1;
        trail_distinct = g.1;
        justified = justified_said formula run.trail h.1;
        watching = watches.0;
        unwatched = watches.1;
        listed = listed_said formula run s lists-long watches.0 j.1;
        fixpoint = state.fixpoint;
        conflict_false = state.conflict_false;
        fixpoint_below = state.fixpoint_below;
      }

  valid_tests : Valid formula run → is_valid formula run ≡ true
  unfolding is_valid
  valid_tests v =
      both
      (both
      (both
      (both
      (both
      (both
      (both
      (both
      (both
      (both
      (both (within_tests formula.variables run.trail v.trail_within_lem)
      (eq-eqb (length run.cells) (length formula.clauses) v.cells_length))
      (eq-eqb (length run.lists) (2 * formula.variables + 2) v.lists_length))
      (eq-eqb (length run.checks) (length formula.clauses) v.checks_length))
      (counts_test max_count run.checks v.checks_within_lem))
      (le-leb run.backtracks max_backtracks v.backtracks_within_lem))
      (le-leb run.fixed (length (decisions run.trail)) v.fixed_within_lem))
      v.trail_distinct)
      (justified_tests formula run.trail v.justified))
      (upto_all (length formula.clauses) watching_at
      (λ c h. ⊎_elim
      (λ few. rw (v.unwatched c few) (unwatched_tests (size formula c) few))
      (λ two. watching_tests (size formula c) (cell_of run c) two (v.watching c two)) (below (size formula c) 2))))
      (listed_tests formula run v.listed))
      (conflict_tests formula run run.conflict refl
      (record { fixpoint = v.fixpoint; conflict_false = v.conflict_false; fixpoint_below = v.fixpoint_below }))

pub valid_test : (formula : Formula) (run : Run) → sound formula ≡ true → (is_valid formula run ≡ true) ↔ Valid formula run
valid_test formula run s = (valid_said formula run s, valid_tests formula run)

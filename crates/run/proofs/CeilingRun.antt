-- The ceiling on one clause of a run: what a visit of any clause, a longer trail, a conflict and a backtrack leave of it.
use Prim.Native.Nat.{ℕ, suc, ◌+◌, ◌≤◌, ◌<◌, min}
use native.Mathlib.Omega.{arith}
use mathlib.Core.Path.{◌≡◌, refl}
use mathlib.Core.Logic.{◌⊎◌, inl, inr}
use mathlib.Core.Bool.{Bool, true, false}
use mathlib.Core.List.{List}
use lib.Dec.{eqb}
use lib.ListN.{length, get_or}
use lib.Seq.{get_or-set_same, get_or-set_other}
use borrow.Author.Tests.{eqb-true, eqb-false, ne_eqb}
use Rattle.base.proofs.Bools.{never}
use Rattle.base.proofs.Lists.{get_or-set_cases}
use Rattle.book.specs.Formula.{Formula}
use Rattle.run.specs.Run.{Run, clause_of, size, no_cell, cell_of, max_count, add_checks, moved, Action, stays, moves, implies, conflicts, action, on_trail, with_watches, with_conflict, counted, perform_action, visit, in_conflict, fix}
use Rattle.run.specs.Ceiling.{checks_of, ceiling}
use Rattle.run.specs.Progress.{Structure}
use Rattle.run.proofs.Clauses.{clause_exists}
use Rattle.run.proofs.Visits.{Seen}
use Rattle.run.proofs.CeilingClause.{VisitedClause, Spending, Spent, spending_within, spending_stays, visit_spends}

-- one count grows by the checks made, or by less where it saturates; the others stay
added_at_most : (checks : List ℕ) (c made : ℕ) → get_or (add_checks checks c made) c 0 ≤ get_or checks c 0 + made
unfolding add_checks
added_at_most checks c made = go (get_or-set_cases checks c c (min (get_or checks c 0 + made) max_count) 0)
  where
    go : (get_or (add_checks checks c made) c 0 ≡ get_or checks c 0)
        ⊎ ((c ≡ c) × (get_or (add_checks checks c made) c 0 ≡ min (get_or checks c 0 + made) max_count))
        → get_or (add_checks checks c made) c 0 ≤ get_or checks c 0 + made
    go (inl e) = omega arith
    go (inr (h, e)) = omega arith

pub added_elsewhere : (checks : List ℕ) (c d made : ℕ) → (c ≡ d → ⊥) → get_or (add_checks checks d made) c 0 ≡ get_or checks c 0
unfolding add_checks
added_elsewhere checks c d made h = get_or-set_other checks d c (min (get_or checks d 0 + made) max_count) 0 h

-- a count within 32 bits never falls
pub added_grows : (checks : List ℕ) (c d made : ℕ) → get_or checks c 0 ≤ max_count → get_or checks c 0 ≤ get_or (add_checks checks d made) c 0
unfolding add_checks
added_grows checks c d made h = go (get_or-set_cases checks d c (min (get_or checks d 0 + made) max_count) 0)
  where
    go : (get_or (add_checks checks d made) c 0 ≡ get_or checks c 0)
        ⊎ ((c ≡ d) × (get_or (add_checks checks d made) c 0 ≡ min (get_or checks d 0 + made) max_count))
        → get_or checks c 0 ≤ get_or (add_checks checks d made) c 0
    go (inl e) = omega arith
    go (inr (same, e)) = let g : get_or checks c 0 ≡ get_or checks d 0 = rw same in omega arith

-- Clause c of a run, in a period that began with the count `before`: it spends its checks, or they are within the ceiling and the run is in
-- conflict.
pub data InPeriod (formula : Formula) (c before : ℕ) (run : Run) : Type 0 where
  spends : Spending (clause_of formula c) before run.trail (cell_of run c) (checks_of run c) → InPeriod formula c before run
  stopped : in_conflict run ≡ true → checks_of run c ≤ before + ceiling (size formula c) → InPeriod formula c before run

pub period_within : (formula : Formula) (c before : ℕ) (run : Run) → 2 ≤ size formula c → InPeriod formula c before run
    → checks_of run c ≤ before + ceiling (size formula c)
period_within formula c before run h (spends s) = spending_within (clause_of formula c) before run.trail (cell_of run c) (checks_of run c) h s
period_within formula c before run h (stopped t few) = few

pub period_grows : (formula : Formula) (c before l : ℕ) (decided : Bool) (run : Run) → InPeriod formula c before run
    → InPeriod formula c before (on_trail l decided run)
unfolding on_trail
period_grows formula c before l decided run (spends s) =
    spends (spending_stays (record { literal = l; decided = decided }) (clause_of formula c) before run.trail (cell_of run c) (checks_of run c) s)
period_grows formula c before l decided run (stopped t few) = stopped t few

pub period_conflict : (formula : Formula) (c before d : ℕ) (run : Run) → 2 ≤ size formula c → InPeriod formula c before run
    → InPeriod formula c before (with_conflict (suc d) run)
unfolding with_conflict
period_conflict formula c before d run h p = stopped (rw (ne_eqb (suc d) 0 (λ g. omega arith))) (period_within formula c before run h p)

pub period_fix : (formula : Formula) (c before f : ℕ) (run : Run) → InPeriod formula c before run → InPeriod formula c before (fix f run)
unfolding fix
period_fix formula c before f run (spends s) = spends s
period_fix formula c before f run (stopped t few) = stopped t few

-- the clause itself is visited
visited_itself : (formula : Formula) (c before q : ℕ) (run : Run) → c < length run.cells → (a : Action)
    → Spent (clause_of formula c) before run.trail (cell_of run c) (checks_of run c) q a → InPeriod formula c before (perform_action formula q c a run)
unfolding perform_action counted with_watches on_trail with_conflict
visited_itself formula c before q run h stays s = spends s
visited_itself formula c before q run h (moves position made) s =
    spends
    (rw (get_or-set_same run.cells c (moved (clause_of formula c) (cell_of run c) q position) no_cell h)
    (s (get_or (add_checks run.checks c made) c 0) (added_at_most run.checks c made)))
visited_itself formula c before q run h (implies made) s =
    spends (s (get_or (add_checks run.checks c made) c 0) (added_at_most run.checks c made))
visited_itself formula c before q run h (conflicts made) s =
    stopped (rw (ne_eqb (suc c) 0 (λ g. omega arith))) (s (get_or (add_checks run.checks c made) c 0) (added_at_most run.checks c made))

-- another clause is visited
visited_another : (formula : Formula) (c d before q : ℕ) (run : Run) → (c ≡ d → ⊥) → (a : Action)
    → Spending (clause_of formula c) before run.trail (cell_of run c) (checks_of run c) → InPeriod formula c before (perform_action formula q d a run)
unfolding perform_action counted with_watches on_trail with_conflict
visited_another formula c d before q run other stays s = spends s
visited_another formula c d before q run other (moves position made) s =
    spends
    (rw
    (get_or-set_other run.cells d c (moved (clause_of formula d) (cell_of run d) q position) no_cell other, added_elsewhere run.checks c d made other)
    s)
visited_another formula c d before q run other (implies made) s =
    spends
    (rw (added_elsewhere run.checks c d made other)
    (spending_stays _ (clause_of formula c) before run.trail (cell_of run c) (checks_of run c) s))
visited_another formula c d before q run other (conflicts made) s = spends (rw (added_elsewhere run.checks c d made other) s)

pub period_visit : (formula : Formula) (c before q d : ℕ) (run : Run) → in_conflict run ≡ false → Structure formula run → Seen formula q d run
    → InPeriod formula c before run → InPeriod formula c before (visit formula q d run)
unfolding visit
period_visit formula c before q d run quiet structure v (stopped t few) = absurd (never t quiet)
period_visit formula c before q d run quiet structure v (spends s) = go (eqb c d) refl
  where
    visited : VisitedClause run.trail (clause_of formula d) (cell_of run d) q
    visited = record { watching = v.watching; sides = v.sides; q_false = v.q_false; q_untrue = v.q_untrue }

    exists : d < length run.cells
    exists = omega (arith, clause_exists formula d (omega (arith, v.two)), structure.watched.cells_length)

    done : Action
    done = action run.trail (clause_of formula d) (cell_of run d) q

    go : (t : Bool) → eqb c d ≡ t → InPeriod formula c before (visit formula q d run)
    go true e =
        let same : c ≡ d = eqb-true c d e in
        let s' : Spending (clause_of formula d) before run.trail (cell_of run d) (checks_of run d) = rw same at s in
        rw same
        (visited_itself formula d before q run exists done
        (visit_spends (clause_of formula d) before run.trail (cell_of run d) (checks_of run d) q visited s'))
    go false e = visited_another formula c d before q run (eqb-false c d e) done s

-- a visit counts no backtrack, and the checks only of the clause that is visited
pub visit_backtracks : (formula : Formula) (q d : ℕ) (run : Run) → (visit formula q d run).backtracks ≡ run.backtracks
unfolding visit perform_action counted with_watches on_trail with_conflict
visit_backtracks formula q d run = go (action run.trail (clause_of formula d) (cell_of run d) q)
  where
    go : (a : Action) → (perform_action formula q d a run).backtracks ≡ run.backtracks
    go stays = refl
    go (moves position made) = refl
    go (implies made) = refl
    go (conflicts made) = refl

pub visit_checks : (formula : Formula) (q d : ℕ) (run : Run) (P : List ℕ → Type 0) → P run.checks
    → ((made : ℕ) → P (add_checks run.checks d made)) → P (visit formula q d run).checks
unfolding visit perform_action counted with_watches on_trail with_conflict
visit_checks formula q d run P same added = go (action run.trail (clause_of formula d) (cell_of run d) q)
  where
    go : (a : Action) → P (perform_action formula q d a run).checks
    go stays = same
    go (moves position made) = added made
    go (implies made) = added made
    go (conflicts made) = added made

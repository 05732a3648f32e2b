-- Induction over a list of calls: what every step of a run keeps holds of every run that calls lead to.
use Prim.Native.Nat.{ℕ, suc, ◌<◌}
use native.Mathlib.Omega.{arith}
use mathlib.Core.Path.{◌≡◌, refl}
use mathlib.Core.Bool.{Bool, true, false, cond}
use mathlib.Core.List.{List, [], ◌∷◌}
use mathlib.Core.Logic.{◌⊎◌, inl, inr, ⊎_elim}
use lib.Dec.{eqb}
use lib.ListN.{length}
use borrow.Author.Tests.{eqb-true}
use Rattle.base.proofs.Bools.{never}
use Rattle.book.specs.Formula.{Formula, sound}
use Rattle.run.specs.Run.{Run, list_of, on_trail, with_conflict, visit, in_conflict, propagate, fresh, assign_units, open_run, decide, backtrack, fix}
use Rattle.run.specs.Calls.{Call, decision, backtrack_by, fix_by, decide_refusal, backtrack_refusal, fix_refusal, refusal, perform_call, step, step_all, reference}
use Rattle.run.specs.Valid.{Valid}
use Rattle.run.specs.Ceiling.{checks_of, count_at_latest, count_before}
use Rattle.run.specs.Progress.{Structure, Going, Ended, ReadingList}
use Rattle.run.proofs.Inductions.{read_induction, next_read, read_next, propagate_induction, units_keep}
use Rattle.run.proofs.Conflicts.{quiet_out}
use Rattle.run.proofs.Visits.{Seen, seen, visit_outcome}
use Rattle.run.proofs.Validity.{reading_begins, reading_ends, short, decision_accepted, decision_going}
use Rattle.run.proofs.Opening.{opening_state}
use Rattle.run.proofs.Theorems.{open_valid, decide_valid, backtrack_valid, fix_valid, by_number}

-- What every step keeps of a run, in a period that began with a count of clause c.
pub record Keeps (formula : Formula) (c : ℕ) (K : ℕ → Run → Type 0) : Type 0 where
  pub at_literal : (before l : ℕ) (decided : Bool) (run : Run) → K before run → K before (on_trail l decided run)
  pub at_unit_conflict : (before d : ℕ) (run : Run) → K before run → K before (with_conflict (suc d) run)
  pub at_visit : (before q d : ℕ) (run : Run) → in_conflict run ≡ false → Structure formula run → Seen formula q d run → K before run
      → K before (visit formula q d run)
  pub at_backtrack : (before k : ℕ) (run : Run) → Valid formula run → backtrack_refusal k run ≡ 0 → K before run
      → K (checks_of run c) (backtrack k run)
  pub at_fix : (before f : ℕ) (run : Run) → K before run → K before (fix f run)

module _ (formula : Formula) (ok : sound formula ≡ true) (c : ℕ) (K : ℕ → Run → Type 0) (keeps : Keeps formula c K) where
  -- propagation keeps it
  visit_keeps : (before handled q d : ℕ) (unread : List ℕ) (run : Run) → ReadingList formula handled q (d ∷ unread) run → K before run
      → K before (visit formula q d run)
  visit_keeps before handled q d unread run r k =
      keeps.at_visit before q d run (quiet_out run r.going.quiet) r.going.structure (seen r) k

  abbrev Goes : ℕ → ℕ → Run → Type 0
  Goes before handled run = Going formula handled run × K before run

  abbrev Ends : ℕ → Run → Type 0
  Ends before run = Ended formula run × K before run

  reads_keep : (before handled : ℕ) (run : Run) → Goes before handled run → handled < length run.trail
      → Goes before (suc handled) (read_next formula handled run) ⊎ Ends before (read_next formula handled run)
  reads_keep before handled run g h =
      ⊎_elim (λ r. inl (reading_ends r.0, r.1)) inr
      (read_induction formula q (λ unread r. ReadingList formula handled q unread r × K before r) (Ends before) on off
      (list_of run.lists q) run (reading_begins g.0 h, g.1))
    where
      q : ℕ
      q = next_read handled run

      on : (d : ℕ) (unread : List ℕ) (r : Run) → ReadingList formula handled q (d ∷ unread) r × K before r → in_conflict (visit formula q d r) ≡ false
          → ReadingList formula handled q unread (visit formula q d r) × K before (visit formula q d r)
      on d unread r k e = (
        ⊎_elim (λ o. o) (λ o. absurd (never o.loud e)) (visit_outcome formula ok handled q d unread r k.0),
        visit_keeps before handled q d unread r k.0 k.1,
      )

      off : (d : ℕ) (unread : List ℕ) (r : Run) → ReadingList formula handled q (d ∷ unread) r × K before r → in_conflict (visit formula q d r) ≡ true
          → Ends before (visit formula q d r)
      off d unread r k e = (
        ⊎_elim (λ o. absurd (never e (quiet_out (visit formula q d r) o.going.quiet))) (λ o. o) (visit_outcome formula ok handled q d unread r k.0),
        visit_keeps before handled q d unread r k.0 k.1,
      )

  propagate_keeps : (before handled : ℕ) (run : Run) → Going formula handled run ⊎ Ended formula run → K before run
      → K before (propagate formula handled run)
  propagate_keeps before handled run state k =
      ⊎_elim (λ done. done.1.1) (λ e. e.1)
      (propagate_induction formula (Goes before) (Ends before) formula.variables (λ h r g. quiet_out r g.0.quiet) (λ r e. e.0.loud)
      (λ h r g. short formula ok h r g.0) (reads_keep before) (suc formula.variables) handled run (omega arith)
      (⊎_elim (λ g. inl (g, k)) (λ e. inr (e, k)) state))

  decide_keeps : (before l : ℕ) (run : Run) → decide_refusal formula l run ≡ 0 → Valid formula run → K before run → K before (decide formula l run)
  unfolding decide
  decide_keeps before l run accepted v k =
      propagate_keeps before (length run.trail) (on_trail l true run) (inl (decision_going v (decision_accepted formula l run accepted)))
      (keeps.at_literal before l true run k)

  -- every call keeps it
  pub calls_keep : (calls : List Call) (before : ℕ) (run : Run) → Valid formula run → K before run
      → K (count_at_latest formula c before run calls) (step_all formula run calls)
  unfolding count_at_latest step_all step refusal perform_call
  calls_keep [] before run v k = k
  calls_keep (decision l ∷ calls) before run v k =
      by_number (λ next. K (count_at_latest formula c before next calls) (step_all formula next calls)) (decide_refusal formula l run) (decide formula l run) run
      (λ z. calls_keep calls before (decide formula l run) (decide_valid formula l run ok v z) (decide_keeps before l run z v k))
      (calls_keep calls before run v k)
  calls_keep (fix_by f ∷ calls) before run v k =
      by_number (λ next. K (count_at_latest formula c before next calls) (step_all formula next calls)) (fix_refusal f run) (fix f run) run
      (λ z. calls_keep calls before (fix f run) (fix_valid formula f run v z) (keeps.at_fix before f run k))
      (calls_keep calls before run v k)
  calls_keep (backtrack_by m ∷ calls) before run v k =
      go (eqb (backtrack_refusal m run) 0) refl (λ count next. calls_keep calls count next)
    where
      go : (t : Bool) → eqb (backtrack_refusal m run) 0 ≡ t
          → ((count : ℕ) (next : Run) → Valid formula next → K count next → K (count_at_latest formula c count next calls) (step_all formula next calls))
          → K (count_at_latest formula c (cond t (checks_of run c) before) (cond t (backtrack m run) run) calls)
          (step_all formula (cond t (backtrack m run) run) calls)
      go true e later =
          let accepted : backtrack_refusal m run ≡ 0 = eqb-true (backtrack_refusal m run) 0 e in
          later (checks_of run c) (backtrack m run) (backtrack_valid formula m run ok v accepted) (keeps.at_backtrack before m run v accepted k)
      go false e later = later before run v k

  pub reference_keeps : K 0 (fresh formula) → (calls : List Call) → K (count_before formula c calls) (reference formula calls)
  unfolding open_run reference
  reference_keeps first calls =
      calls_keep calls 0 (open_run formula) (open_valid formula ok)
      (propagate_keeps 0 0 units (opening_state formula ok) (units_keep (K 0) (λ l r k. keeps.at_literal 0 l false r k) (λ d r k. keeps.at_unit_conflict 0 d r k) 0 formula.clauses (fresh formula) first))
    where
      units : Run
      units = assign_units 0 formula.clauses (fresh formula)

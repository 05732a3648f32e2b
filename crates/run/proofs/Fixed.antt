-- The fixed decisions: how many they are never falls, and they stay. They bar the way out of no conflict that calls lead to, and of every one that is lent
-- with all decisions fixed. What a fixing sets, and when 14, 16 and 22 are given.
use Prim.Native.Nat.{ℕ, suc, ◌+◌, ◌-◌, ◌≤◌, ◌<◌}
use native.Mathlib.Omega.{arith}
use mathlib.Core.Bool.{and-false, Bool, true, false, cond}
use mathlib.Core.List.{List, [], ◌∷◌}
use mathlib.Core.Logic.{◌⊎◌, inl, inr, ⊎_elim, ◌↔◌}
use mathlib.Core.Path.{◌≡◌, refl, sym, ap, ◌∙◌}
use borrow.Author.Tests.{le-leb, lt-leb}
use lib.Dec.{leb}
use lib.ListN.{length, length-drop}
use lib.Seq.{drop-drop}
use Rattle.base.proofs.Bools.{never, below}
use Rattle.book.specs.Formula.{Formula, literal_within, sound}
use Rattle.run.specs.Trail.{decisions, cut}
use Rattle.run.specs.Run.{Run, clause_of, cell_of, Action, stays, moves, implies, conflicts, action, on_trail, with_watches, with_conflict, counted, perform_action, visit, in_conflict, open_run, decide, backtrack, fix}
use Rattle.run.specs.Calls.{Call, decision, backtrack_by, fix_by, max_backtracks, decide_refusal, backtrack_refusal, fix_refusal, refusal, perform_call, step, step_all, oldest_decisions}
use Rattle.run.specs.Valid.{Valid}
use Rattle.run.proofs.Inductions.{propagating_keeps}
use Rattle.run.proofs.Validity.{backtrack_accepted, fix_accepted}
use Rattle.run.proofs.Levels.{cut_decisions}
use Rattle.run.proofs.Theorems.{open_valid, by_number, step_valid, step_refused, open_undecided, decide_decisions}
use Rattle.run.proofs.Conflicts.{quiet_out}

visit_fixed : (formula : Formula) (q c : ℕ) (run : Run) → (visit formula q c run).fixed ≡ run.fixed
unfolding visit perform_action counted with_watches on_trail with_conflict
visit_fixed formula q c run = go (action run.trail (clause_of formula c) (cell_of run c) q)
  where
    go : (a : Action) → (perform_action formula q c a run).fixed ≡ run.fixed
    go stays = refl
    go (moves position made) = refl
    go (implies made) = refl
    go (conflicts made) = refl

-- A decision leaves how many decisions are fixed.
pub decide_fixed : (formula : Formula) (l : ℕ) (run : Run) → (decide formula l run).fixed ≡ run.fixed
unfolding decide on_trail
decide_fixed formula l run =
    propagating_keeps formula (λ r. r.fixed ≡ run.fixed) (λ q c r k. visit_fixed formula q c r ∙ k)
    (suc formula.variables) (length run.trail) (on_trail l true run) refl

-- from one run to another no decision comes free, and the f oldest decisions stay
record Stays (f : ℕ) (before after : Run) : Type 0 where
  pub never_falls : before.fixed ≤ after.fixed
  pub same_oldest : oldest_decisions f after ≡ oldest_decisions f before

module _ (f : ℕ) (run : Run) (h : f ≤ run.fixed) where
  abbrev ds : List ℕ
  ds = decisions run.trail

  decided_stays : (formula : Formula) (l : ℕ) → run.fixed ≤ length ds → Stays f run (decide formula l run)
  decided_stays formula l within =
      let more : suc (length ds) - f ≡ suc (length ds - f) = omega arith in
      record { never_falls = omega (arith, decide_fixed formula l run); same_oldest = rw (decide_decisions formula l run, more) }

  backtracked_stays : (k : ℕ) → k + run.fixed ≤ length ds → Stays f run (backtrack k run)
  unfolding backtrack
  backtracked_stays k room =
      let sum : k + (length ds - k - f) ≡ length ds - f = omega arith in
      record {
        never_falls = omega arith;
        same_oldest = rw (cut_decisions k run.trail, length-drop k ds, drop-drop (length ds - k - f) k ds, sum);
      }

  fixed_stays : (g : ℕ) → run.fixed ≤ g → Stays f run (fix g run)
  unfolding fix
  fixed_stays g low = record { never_falls = low; same_oldest = refl }

module _ (formula : Formula) (s : sound formula ≡ true) where
  accepted-stays : (f : ℕ) (run : Run) → f ≤ run.fixed → Valid formula run → (call : Call) → refusal formula call run ≡ 0
      → Stays f run (perform_call formula call run)
  unfolding perform_call refusal
  accepted-stays f run h v (decision l) z = decided_stays f run h formula l v.fixed_within_lem
  accepted-stays f run h v (backtrack_by k) z = backtracked_stays f run h k (backtrack_accepted k run z).1
  accepted-stays f run h v (fix_by g) z = fixed_stays f run h g (fix_accepted g run z).1

  step_stays : (f : ℕ) (run : Run) → f ≤ run.fixed → Valid formula run → (call : Call) → Stays f run (step formula run call)
  unfolding step
  step_stays f run h v call =
      by_number (Stays f run) (refusal formula call run) (perform_call formula call run) run (accepted-stays f run h v call)
      (record { never_falls = omega arith; same_oldest = refl })

  all_stay : (f : ℕ) (calls : List Call) (run : Run) → f ≤ run.fixed → Valid formula run → Stays f run (step_all formula run calls)
  unfolding step_all
  all_stay f [] run h v = record { never_falls = omega arith; same_oldest = refl }
  all_stay f (call ∷ calls) run h v =
      let one = step_stays f run h v call in
      let rest = all_stay f calls (step formula run call) (omega (arith, one.never_falls)) (step_valid formula run s call v) in
      record { never_falls = omega (arith, one.never_falls, rest.never_falls); same_oldest = rest.same_oldest ∙ one.same_oldest }

  -- Whatever is called from a valid run on, how many decisions are fixed never falls, and those that are fixed are the same ever after.
  pub fixed_never_falls : (run : Run) → Valid formula run → (calls : List Call) → run.fixed ≤ (step_all formula run calls).fixed
  fixed_never_falls run v calls = (all_stay run.fixed calls run (omega arith) v).never_falls

  pub fixed_stay : (run : Run) → Valid formula run → (calls : List Call)
      → oldest_decisions run.fixed (step_all formula run calls) ≡ oldest_decisions run.fixed run
  fixed_stay run v calls = (all_stay run.fixed calls run (omega arith) v).same_oldest

  -- An opening fixes nothing.
  pub open_fixed : (open_run formula).fixed ≡ 0
  open_fixed = omega (arith, (open_valid formula s).fixed_within_lem, ap length (open_undecided formula))

  -- in conflict the latest decision is not fixed
  abbrev LatestNotFixed : Run → Type 0
  LatestNotFixed run = in_conflict run ≡ true → run.fixed < length (decisions run.trail)

  performed_not_fixed : (run : Run) → Valid formula run → (call : Call) → refusal formula call run ≡ 0 → LatestNotFixed (perform_call formula call run)
  unfolding perform_call refusal backtrack fix
  performed_not_fixed run v (decision l) z loud = rw (decide_decisions formula l run, decide_fixed formula l run) (omega (arith, v.fixed_within_lem))
  performed_not_fixed run v (backtrack_by k) z loud = absurd (never loud refl)
  performed_not_fixed run v (fix_by f) z loud = absurd (never loud (quiet_out run (fix_accepted f run z).0))

  step_not_fixed : (run : Run) → Valid formula run → LatestNotFixed run → (call : Call) → LatestNotFixed (step formula run call)
  unfolding step
  step_not_fixed run v free call = by_number LatestNotFixed (refusal formula call run) (perform_call formula call run) run (performed_not_fixed run v call) free

  all_not_fixed : (calls : List Call) (run : Run) → Valid formula run → LatestNotFixed run → LatestNotFixed (step_all formula run calls)
  unfolding step_all
  all_not_fixed [] run v free = free
  all_not_fixed (call ∷ calls) run v free = all_not_fixed calls (step formula run call) (step_valid formula run s call v) (step_not_fixed run v free call)

  -- Where calls lead a run that is out of conflict into one, the latest decision can be taken back, unless no backtrack is left.
  pub conflict_way_back : (run : Run) → Valid formula run → in_conflict run ≡ false → (calls : List Call) → in_conflict (step_all formula run calls) ≡ true
      → backtrack_refusal 1 (step_all formula run calls) ≡ cond (leb max_backtracks (step_all formula run calls).backtracks) 17 0
  unfolding backtrack_refusal
  conflict_way_back run v quiet calls loud =
      rw
      (le-leb (1 + (step_all formula run calls).fixed) (length (decisions (step_all formula run calls).trail))
      (let free = all_not_fixed calls run v (λ l. absurd (never l quiet)) loud in omega arith))

-- 16: k is 0, or k and the fixed decisions are together more than those in force
pub none_or_over_16 : (k : ℕ) (run : Run) → (k ≡ 0) ⊎ (length (decisions run.trail) < k + run.fixed) → backtrack_refusal k run ≡ 16
unfolding backtrack_refusal
none_or_over_16 k run (inl z) = rw (lt-leb 1 k (omega arith))
none_or_over_16 k run (inr over) = rw (lt-leb (k + run.fixed) (length (decisions run.trail)) over, and-false (leb 1 k))

-- A backtrack is refused by 16 exactly if it takes nothing, or more than is in force, or would leave fewer decisions than are fixed.
pub refused_16 : (k : ℕ) (run : Run) → (backtrack_refusal k run ≡ 16)
    ↔ ((k ≡ 0) ⊎ ((length (decisions run.trail) < k) ⊎ (length (decisions (cut k run.trail)) < run.fixed)))
unfolding backtrack_refusal
refused_16 k run = rw (cut_decisions k run.trail, length-drop k (decisions run.trail)) (forth, back)
  where
    n : ℕ
    n = length (decisions run.trail)

    small : backtrack_refusal k run ≡ 16 → (1 ≤ k) → k + run.fixed ≤ n → ⊥
    small e some room = go (leb max_backtracks run.backtracks) (rw (le-leb 1 k some, le-leb (k + run.fixed) n room) at e)
      where
        go : (b : Bool) → ◌≡◌ {A = ℕ} (cond b 17 0) 16 → ⊥
        go true z = omega arith
        go false z = omega arith

    forth : backtrack_refusal k run ≡ 16 → (k ≡ 0) ⊎ ((n < k) ⊎ (n - k < run.fixed))
    forth e =
        ⊎_elim (λ some. ⊎_elim (λ over. ⊎_elim (λ h. inr (inl h)) (λ h. inr (inr (omega arith))) (below n k)) (λ room. absurd (small e some room)) (below n (k + run.fixed)))
        (λ none. inl (omega arith)) (below 0 k)

    back : (k ≡ 0) ⊎ ((n < k) ⊎ (n - k < run.fixed)) → backtrack_refusal k run ≡ 16
    back (inl z) = none_or_over_16 k run (inl z)
    back (inr (inl more)) = none_or_over_16 k run (inr (omega arith))
    back (inr (inr fewer)) = none_or_over_16 k run (inr (omega arith))

-- A fixing sets how many decisions are fixed, and nothing else.
pub fix_keeps : (f : ℕ) (run : Run)
    → ((fix f run).fixed ≡ f)
    × ((fix f run).trail ≡ run.trail)
    × ((fix f run).cells ≡ run.cells)
    × ((fix f run).lists ≡ run.lists)
    × ((fix f run).conflict ≡ run.conflict)
    × ((fix f run).checks ≡ run.checks)
    × ((fix f run).backtracks ≡ run.backtracks)
unfolding fix
fix_keeps f run = (refl, refl, refl, refl, refl, refl, refl)

-- In conflict a decision is refused by 14 (13 of no literal), and a fixing by 14, whatever f is.
pub conflict_decide : (formula : Formula) (run : Run) → in_conflict run ≡ true → (l : ℕ) → decide_refusal formula l run ≡ cond (literal_within formula.variables l) 14 13
unfolding decide_refusal
conflict_decide formula run loud l = rw loud

pub conflict_fix : (run : Run) → in_conflict run ≡ true → (f : ℕ) → fix_refusal f run ≡ 14
unfolding fix_refusal
conflict_fix run loud f = rw loud

-- Out of conflict a fixing is refused by 22 exactly if f is below the decisions that are fixed or over those in force.
pub refused_22 : (f : ℕ) (run : Run) → in_conflict run ≡ false → (fix_refusal f run ≡ 22) ↔ ((f < run.fixed) ⊎ (length (decisions run.trail) < f))
unfolding fix_refusal
refused_22 f run quiet = (λ e. forth (below f run.fixed) (below n f) e, back)
  where
    n : ℕ
    n = length (decisions run.trail)

    forth : (f < run.fixed) ⊎ (run.fixed ≤ f) → (n < f) ⊎ (f ≤ n) → fix_refusal f run ≡ 22 → (f < run.fixed) ⊎ (n < f)
    forth (inl low) b e = inl low
    forth (inr low) (inl high) e = inr high
    forth (inr low) (inr high) e = let z : ◌≡◌ {A = ℕ} 0 22 = rw (quiet, le-leb run.fixed f low, le-leb f n high) at e in absurd (omega arith)

    back : (f < run.fixed) ⊎ (n < f) → fix_refusal f run ≡ 22
    back (inl low) = rw (quiet, lt-leb run.fixed f low)
    back (inr high) = rw (quiet, lt-leb f n high, and-false (leb run.fixed f))

-- In conflict with all decisions fixed a backtrack is refused by 16, too, so nothing changes any more.
module _ (formula : Formula) (run : Run) (loud : in_conflict run ≡ true) (all : run.fixed ≡ length (decisions run.trail)) where
  pub stuck_backtrack : (k : ℕ) → backtrack_refusal k run ≡ 16
  stuck_backtrack k = none_or_over_16 k run (⊎_elim (λ (some : 0 < k). inr (omega arith)) (λ (none : k ≤ 0). inl (omega arith)) (below 0 k))

  refused : (call : Call) → refusal formula call run ≡ 0 → ⊥
  unfolding refusal
  refused (decision l) z = go (literal_within formula.variables l) (sym (conflict_decide formula run loud l) ∙ z)
    where
      go : (b : Bool) → ◌≡◌ {A = ℕ} (cond b 14 13) 0 → ⊥
      go true e = omega arith
      go false e = omega arith
  refused (backtrack_by k) z = omega (arith, stuck_backtrack k)
  refused (fix_by f) z = omega (arith, conflict_fix run loud f)

  pub stuck : (calls : List Call) → step_all formula run calls ≡ run
  unfolding step_all
  stuck [] = refl
  stuck (call ∷ calls) = rw (step_refused formula run call (refused call)) (stuck calls)

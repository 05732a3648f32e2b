-- Since which decision a literal is true: its level tells it, a decision is at its own level, and what a call leaves of the levels.
use Prim.Native.Nat.{ℕ, zero, suc, ◌-◌, ◌≤◌, ◌<◌}
use native.Mathlib.Omega.{arith}
use mathlib.Core.Bool.{Bool, true, false, cond}
use mathlib.Core.List.{List, [], ◌∷◌}
use mathlib.Core.Logic.{◌⊎◌, inl, inr, ⊎_elim, ◌↔◌}
use mathlib.Core.Path.{◌≡◌, refl, ap, subst, ◌∙◌}
use lib.ListN.{length, get_or, length-drop}
use Rattle.base.specs.Lists.{member, distinct}
use Rattle.base.proofs.Bools.{never, below, refuted}
use Rattle.base.proofs.Members.{member_at}
use Rattle.book.specs.Formula.{Formula, sound}
use Rattle.run.specs.Trail.{Entry, place, is_true, variables_on, decisions, level, cut}
use Rattle.run.specs.Run.{Run, decide, backtrack, fix}
use Rattle.run.specs.Calls.{Call, decision, backtrack_by, fix_by, refusal, perform_call, step, oldest_decisions}
use Rattle.run.specs.Valid.{Valid}
use Rattle.run.specs.Closure.{Closure, BothWays, Since}
use Rattle.run.proofs.Trails.{true_place, untrue_place, rest_distinct}
use Rattle.run.proofs.Levels.{Suffix, whole, newer, suffix_place, suffix_compose, suffix_true, CountCase, decided_count, LevelCase, level_cases, level_within, suffix_level_on, top_level, cut_suffix, cut_decisions, true_below_cut, level_on_cut}
use Rattle.run.proofs.Growth.{Grown, grown_decisions, grown_suffix, grown_lowered}
use Rattle.run.proofs.Propagation.{valid_structure}
use Rattle.run.proofs.Validity.{trailed_older, backtrack_accepted, cut_valid}
use Rattle.run.proofs.ClosureLaws.{trail_closure, decisions_true, assigned_closure, conflict_both_ways}
use Rattle.run.proofs.Theorems.{decide_valid, by_number, decide_grown}

module _ (formula : Formula) (s : sound formula ≡ true) (run : Run) (v : Valid formula run) where
  abbrev n : ℕ
  n = length (decisions run.trail)

  -- with fewer decisions than are in force the run was out of conflict, and what was true then is the closure of these decisions
  module _ (m : ℕ) (fewer : m < n) where
    older : Run
    older =
        record {
          trail = cut (n - m) run.trail;
          cells = run.cells;
          lists = run.lists;
          conflict = 0;
          checks = run.checks;
          backtracks = 0;
          fixed = 0;
        }

    older-valid : Valid formula older
    unfolding older
    older-valid = cut_valid (n - m) run 0 0 v (omega arith) (omega arith) (omega arith)

    older-closure : (l : ℕ) → (is_true (cut (n - m) run.trail) l ≡ true) ↔ Closure formula (oldest_decisions m run) l
    unfolding older
    older-closure l = rw (cut_decisions (n - m) run.trail) at (assigned_closure formula s older older-valid refl l)

    pub older_consistent : BothWays (Closure formula (oldest_decisions m run)) → ⊥
    unfolding older
    older_consistent both =
        never ((rw (cut_decisions (n - m) run.trail) at (conflict_both_ways formula s older older-valid)).1 both) refl

  -- The level of a true literal, in conflict too, tells since which decision it is true.
  pub level_since : (l : ℕ) → is_true run.trail l ≡ true → Since formula run (level run.trail l) l
  level_since l t =
      let high = level_within run.trail l in
      let back : ℕ = n - level run.trail l in
      let still = true_below_cut back run.trail l (omega arith) (omega arith) t in
      let trailed = trailed_older (cut_suffix back run.trail) (valid_structure v).trailed in
      record {
        follows =
            subst (λ (ds : List ℕ). Closure formula ds l) (cut_decisions back run.trail)
            (trail_closure formula (cut back run.trail) trailed.justified l still.0);
        not_before = λ m fewer k.
            let low = level_on_cut (n - m) run.trail l v.trail_distinct ((older-closure m (omega arith) l).1 k) in
            omega arith;
      }

  -- And what is so since the m-th decision is true at level m, out of conflict, and in conflict below the top level.
  pub since_level : (l m : ℕ) → (run.conflict ≡ 0) ⊎ (m < n) → Since formula run m l → (is_true run.trail l ≡ true) × (level run.trail l ≡ m)
  since_level l m known since = go (below m n) known
    where
      exact : is_true run.trail l ≡ true → level run.trail l ≤ m → (is_true run.trail l ≡ true) × (level run.trail l ≡ m)
      exact t low =
          ⊎_elim (λ lower. absurd (since.not_before _ lower (level_since l t).follows)) (λ high. (t, omega arith)) (below (level run.trail l) m)

      go : (m < n) ⊎ (n ≤ m) → (run.conflict ≡ 0) ⊎ (m < n) → (is_true run.trail l ≡ true) × (level run.trail l ≡ m)
      go (inl fewer) known =
          let still = (older-closure m fewer l).1 since.follows in
          let low = level_on_cut (n - m) run.trail l v.trail_distinct still in
          exact (suffix_true (cut_suffix (n - m) run.trail) l still) (omega arith)
      go (inr all) (inl quiet) =
          let none : n - m ≡ 0 = omega arith in
          let t = (assigned_closure formula s run v quiet l).1 (rw none at since.follows) in
          exact t (omega (arith, level_within run.trail l))
      go (inr all) (inr fewer) = absurd (omega arith)

-- The decisions in force have the levels 1, 2 and so on in the order in which they were made.
module _ (e : Entry) (trail : List Entry) (once : distinct (variables_on (e ∷ trail)) ≡ true) where
  -- what is on the trail is at its level still when another literal joins
  level_kept : (l : ℕ) → is_true trail l ≡ true → level (e ∷ trail) l ≡ level trail l
  level_kept l = suffix_level_on (newer e whole) l once

  newest_level : e.decided ≡ true → level (e ∷ trail) e.literal ≡ suc (length (decisions trail))
  newest_level d = go (level_cases e trail e.literal) (decided_count e trail)
    where
      go : LevelCase e trail e.literal → CountCase e trail → level (e ∷ trail) e.literal ≡ suc (length (decisions trail))
      go (inl p) (inl q) = p.1 ∙ q.1
      go (inl p) (inr q) = absurd (never d q.0)
      go (inr p) q = absurd (p.0 refl)

pub decision_level : (trail : List Entry) → distinct (variables_on trail) ≡ true → (i : ℕ) → i < length (decisions trail)
    → level trail (get_or (decisions trail) i 0) ≡ length (decisions trail) - i
unfolding decisions
decision_level [] once i h = absurd (omega arith)
decision_level (e ∷ trail) once i h = go e.decided refl i h (decision_level trail (rest_distinct e trail once))
  where
    go : (b : Bool) → e.decided ≡ b → (i : ℕ) → i < length (cond b (e.literal ∷ decisions trail) (decisions trail))
        → ((j : ℕ) → j < length (decisions trail) → level trail (get_or (decisions trail) j 0) ≡ length (decisions trail) - j)
        → level (e ∷ trail) (get_or (cond b (e.literal ∷ decisions trail) (decisions trail)) i 0)
        ≡ length (cond b (e.literal ∷ decisions trail) (decisions trail)) - i
    go true d zero h rest = omega (arith, newest_level e trail once d)
    go true d (suc j) h rest =
        omega (arith, rest j (omega arith), level_kept e trail once _ (decisions_true trail _ (member_at (decisions trail) j (omega arith))))
    go false d i h rest = level_kept e trail once _ (decisions_true trail _ (member_at (decisions trail) i h)) ∙ rest i h

-- the f oldest of them are true at levels up to f
pub oldest_low : (f : ℕ) (run : Run) → distinct (variables_on run.trail) ≡ true → (l : ℕ)
    → member l (oldest_decisions f run) ≡ true → (is_true run.trail l ≡ true) × (level run.trail l ≤ f)
oldest_low f run once l m =
    let back : ℕ = length (decisions run.trail) - f in
    let there = decisions_true (cut back run.trail) l (rw (cut_decisions back run.trail) m) in
    let low = level_on_cut back run.trail l once there in
    (suffix_true (cut_suffix back run.trail) l there, omega arith)

-- What is left of a literal and its level: it stays true, at its level, where so many decisions are still in force, and only there; a literal that joins
-- does so with a new decision, at its level.
pub record Aged (before after : List Entry) (l : ℕ) : Type 0 where
  pub stays : is_true before l ≡ true → level before l ≤ length (decisions after) → (is_true after l ≡ true) × (level after l ≡ level before l)
  pub leaves : is_true before l ≡ true → length (decisions after) < level before l → is_true after l ≡ false
  pub joins : is_true before l ≡ false → is_true after l ≡ true → (length (decisions before) < length (decisions after)) × (level after l ≡ length (decisions after))

aged_same : (trail : List Entry) (l : ℕ) → Aged trail trail l
aged_same trail l =
    record {
      stays = λ t low. (t, refl);
      leaves = λ t high. absurd (let low = level_within trail l in omega arith);
      joins = λ none t. absurd (never t none);
    }

-- a decision and what it implies stand above the trail before
aged_decision : (m : ℕ) (old trail : List Entry) → Grown (record { literal = m; decided = true } ∷ old) trail → distinct (variables_on trail) ≡ true
    → (l : ℕ) → Aged old trail l
unfolding decisions
aged_decision m old trail g once l =
    let one_more_lem = ap length (grown_decisions g) in
    record {
      stays = λ t low. (suffix_true s l t, suffix_level_on s l once t);
      leaves = λ t high. absurd (let low = level_within old l in omega arith);
      joins = λ none t. (
        omega arith,
        top_level trail l
            (rw (grown_lowered g)
            (⊎_elim (λ above. above) (λ under. absurd (let here = suffix_place s l under in omega (arith, true_place trail l t, untrue_place old l none)))
            (below (length old) (place trail l)))),
      );
    }
  where
    s : Suffix old trail
    s = suffix_compose (newer (record { literal = m; decided = true }) whole) (grown_suffix g)

aged_cut : (k : ℕ) (trail : List Entry) → distinct (variables_on trail) ≡ true → k ≤ length (decisions trail) → (l : ℕ) → Aged trail (cut k trail) l
aged_cut k trail once few l =
    let left : length (decisions (cut k trail)) ≡ length (decisions trail) - k = ap length (cut_decisions k trail) ∙ length-drop k (decisions trail) in
    record {
      stays = λ t low. true_below_cut k trail l few (omega arith) t;
      leaves = λ t high. refuted (is_true (cut k trail) l) (λ still. let low = level_on_cut k trail l once still in omega arith);
      joins = λ none t. absurd (never (suffix_true (cut_suffix k trail) l t) none);
    }

-- So it is after every call on a valid run, refused or not.
module _ (formula : Formula) (s : sound formula ≡ true) (run : Run) (v : Valid formula run) (l : ℕ) where
  performed : (call : Call) → refusal formula call run ≡ 0 → Aged run.trail (perform_call formula call run).trail l
  unfolding refusal perform_call backtrack fix
  performed (decision m) z =
      aged_decision m run.trail (decide formula m run).trail (decide_grown formula m run) (decide_valid formula m run s v z).trail_distinct l
  performed (backtrack_by k) z =
      let few = (backtrack_accepted k run z).1 in
      aged_cut k run.trail v.trail_distinct (omega arith) l
  performed (fix_by f) z = aged_same run.trail l

  pub call_ages : (call : Call) → Aged run.trail (step formula run call).trail l
  unfolding step
  call_ages call =
      by_number (λ (after : Run). Aged run.trail after.trail l) (refusal formula call run) (perform_call formula call run) run (performed call)
      (aged_same run.trail l)

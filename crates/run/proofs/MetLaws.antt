-- Clauses that are met: out of conflict, with no variable open, every clause is.
use Prim.Native.Nat.{ℕ, ◌≤◌, ◌<◌}
use native.Mathlib.Omega.{arith}
use mathlib.Core.Bool.{true, false}
use mathlib.Core.Logic.{◌⊎◌, inl, inr}
use mathlib.Core.Path.{◌≡◌, sym, ap, ◌∙◌}
use borrow.Author.Tests.{eq-eqb}
use lib.ListN.{get_or}
use Rattle.base.specs.Lists.{any, empty}
use Rattle.base.proofs.Bools.{below, never, either}
use Rattle.base.proofs.ForAll.{left_or, right_or, any_at}
use Rattle.base.proofs.Lists.{empty_test}
use Rattle.book.specs.Formula.{Formula, positive, variable_of, met, sound}
use Rattle.book.proofs.SoundLaws.{literal_parts}
use Rattle.run.specs.Trail.{opposite, is_true, is_false, is_assigned, is_met}
use Rattle.run.specs.Run.{Run, clause_of, size}
use Rattle.run.specs.Valid.{WatchesHold, first_watch, second_watch, Valid}
use Rattle.run.proofs.Clauses.{literal_within_lem}
use Rattle.run.proofs.Opposites.{same_variable, opposite_opposite}

module _ (formula : Formula) (s : sound formula ≡ true) (run : Run) (valid : Valid formula run) (quiet : run.conflict ≡ 0)
    (none_open : (x : ℕ) → 1 ≤ x → x ≤ formula.variables → is_assigned run.trail (positive x) ≡ true) where
  -- a literal of a clause is true where it is not false
  not-false-true : (c i : ℕ) → i < size formula c → is_false run.trail (get_or (clause_of formula c) i 0) ≡ false
      → is_true run.trail (get_or (clause_of formula c) i 0) ≡ true
  not-false-true c i h f =
      let l : ℕ = get_or (clause_of formula c) i 0 in
      let w = literal_parts formula.variables l (literal_within_lem formula s c i h) in
      let x : ℕ = variable_of l in
      let two_ways = either (is_true run.trail (positive x)) (is_false run.trail (positive x)) (none_open x (omega arith) (omega arith)) in
      go l f two_ways (same_variable (positive x) l (omega arith))
    where
      go : (l : ℕ) → is_false run.trail l ≡ false
          → (is_true run.trail (positive (variable_of l)) ≡ true) ⊎ (is_false run.trail (positive (variable_of l)) ≡ true)
          → (positive (variable_of l) ≡ l) ⊎ (positive (variable_of l) ≡ opposite l) → is_true run.trail l ≡ true
      go l f (inl t) (inl e) = ap (is_true run.trail) (sym e) ∙ t
      go l f (inl t) (inr e) = absurd (never (ap (is_true run.trail) (sym e) ∙ t) f)
      go l f (inr t) (inl e) = absurd (never (ap (is_false run.trail) (sym e) ∙ t) f)
      go l f (inr t) (inr e) = ap (is_true run.trail) (sym (ap opposite e ∙ opposite_opposite l)) ∙ t

  pub all_met : (c : ℕ) → is_met run.trail (clause_of formula c) ≡ true
  unfolding met
  all_met c = go (below 1 (size formula c)) (below 0 (size formula c))
    where
      met_at : (i : ℕ) → i < size formula c → is_true run.trail (get_or (clause_of formula c) i 0) ≡ true → is_met run.trail (clause_of formula c) ≡ true
      met_at i k t = right_or (empty (clause_of formula c)) (any_at (is_true run.trail) (clause_of formula c) 0 i k t)

      always : size formula c ≡ 0 → is_met run.trail (clause_of formula c) ≡ true
      always z = left_or (any (is_true run.trail) (clause_of formula c)) (empty_test (clause_of formula c) ∙ eq-eqb (size formula c) 0 z)

      watched : 2 ≤ size formula c → WatchesHold run.trail (first_watch formula run c) (second_watch formula run c) → is_met run.trail (clause_of formula c) ≡ true
      watched two (inl n) = let w = (valid.watching c two).first_within in met_at _ w (not-false-true c _ w n.0)
      watched two (inr (inl g)) = met_at _ (valid.watching c two).second_within g.1
      watched two (inr (inr g)) = met_at _ (valid.watching c two).first_within g.1

      go : (1 < size formula c) ⊎ (size formula c ≤ 1) → (0 < size formula c) ⊎ (size formula c ≤ 0) → is_met run.trail (clause_of formula c) ≡ true
      go (inl two) some = watched two ((valid.fixpoint quiet).watches c two)
      go (inr few) (inl some) = met_at 0 some ((valid.fixpoint quiet).units_true c (omega arith))
      go (inr few) (inr none) = always (omega arith)

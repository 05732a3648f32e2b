-- W bounds what a list of calls costs: the total is at most W until the first backtrack, and once more for each
-- backtrack that the list asks for.
use Prim.Native.Nat.{ℕ, suc, ◌+◌, ◌*◌, ◌≤◌}
use native.Mathlib.Omega.{arith}
use native.Mathlib.Nat.{add-mul, mul-le-mul_left, le_trans}
use mathlib.Core.Path.{◌≡◌, refl, ◌∙◌}
use mathlib.Core.Bool.{Bool, true, false, cond}
use mathlib.Core.List.{List, [], ◌∷◌, ◌++◌, map}
use lib.Dec.{leb}
use lib.ListN.{length, get_or, length-append}
use borrow.Author.Tests.{leb-true, leb-false}
use Rattle.base.specs.Lists.{all, flat, sum}
use Rattle.base.proofs.Bools.{and_parts}
use Rattle.book.specs.Formula.{Formula, max_clause, sound_clause, sound}
use Rattle.book.proofs.SoundLaws.{clause_parts, formula_parts}
use Rattle.run.specs.Run.{Run, clause_of, size, on_trail, with_conflict, fresh, assign_units, propagate, open_run, decide, backtrack, fix}
use Rattle.run.specs.Calls.{Call, decision, backtrack_by, fix_by, decide_refusal, backtrack_refusal, fix_refusal, refusal, perform_call, step, step_all, reference}
use Rattle.run.specs.Ceiling.{checks_of, ceiling, clause_worst, worst, backtracks_asked}
use Rattle.run.proofs.Inductions.{propagating_keeps, units_keep}
use Rattle.run.proofs.Theorems.{reference_valid, by_number}
use Rattle.run.proofs.CeilingRun.{visit_backtracks}
use Rattle.run.proofs.Ceiling.{ceiling_in_all, unscanned_cost_nothing}

-- counts that are each within so many ceilings are so together
sum_within : (counts : List ℕ) (clauses : List (List ℕ)) (k : ℕ) → length counts ≡ length clauses
    → ((c : ℕ) → get_or counts c 0 ≤ clause_worst (get_or clauses c []) * k) → sum counts ≤ sum (map clause_worst clauses) * k
unfolding sum
sum_within [] [] k e h = omega arith
sum_within [] (clause ∷ clauses) k e h = absurd (omega arith)
sum_within (n ∷ counts) [] k e h = absurd (omega arith)
sum_within (n ∷ counts) (clause ∷ clauses) k e h =
    let first : n ≤ clause_worst clause * k = h 0 in
    let rest : sum counts ≤ sum (map clause_worst clauses) * k = sum_within counts clauses k (omega arith) (λ c. h (suc c)) in
    let parts : (clause_worst clause + sum (map clause_worst clauses)) * k ≡ clause_worst clause * k + sum (map clause_worst clauses) * k
    = add-mul (clause_worst clause) (sum (map clause_worst clauses)) k in
    omega arith

module _ (formula : Formula) (ok : sound formula ≡ true) (calls : List Call) where
  clause_within : (c : ℕ) → checks_of (reference formula calls) c ≤ clause_worst (clause_of formula c) * ((reference formula calls).backtracks + 1)
  unfolding clause_worst
  clause_within c = go (leb 2 (size formula c)) refl
    where
      go : (b : Bool) → leb 2 (size formula c) ≡ b
          → checks_of (reference formula calls) c ≤ cond b (ceiling (size formula c)) 0 * ((reference formula calls).backtracks + 1)
      go true e = ceiling_in_all formula ok calls c (leb-true 2 (size formula c) e)
      go false e = omega (arith, unscanned_cost_nothing formula ok calls c (leb-false 2 (size formula c) e))

  -- the total is at most W in each period
  pub total_in_all : sum (reference formula calls).checks ≤ worst formula * ((reference formula calls).backtracks + 1)
  unfolding worst
  total_in_all =
      sum_within (reference formula calls).checks formula.clauses ((reference formula calls).backtracks + 1)
      (reference_valid formula ok calls).checks_length clause_within

-- w, by the number k of clauses of two or more literals: at most two checks for each literal, less 3 for each such clause, and at most 507 for each
record Priced (w literals k : ℕ) : Type 0 where
  by_literals : w + 3 * k ≤ 2 * literals
  by_clauses : w ≤ 507 * k

priced_more : (variables : ℕ) (clause : List ℕ) (clauses : List (List ℕ)) (k : ℕ) → sound_clause variables clause ≡ true
    → Priced (sum (map clause_worst clauses)) (length (flat clauses)) k
    → (more : ℕ) × Priced (sum (map clause_worst (clause ∷ clauses))) (length (flat (clause ∷ clauses))) more
unfolding clause_worst sum flat
priced_more variables clause clauses k ok p = go (leb 2 (length clause)) refl
  where
    short : length clause ≤ max_clause
    short = (clause_parts variables clause ok).short

    together : length (clause ++ flat clauses) ≡ length clause + length (flat clauses)
    together = length-append clause (flat clauses)

    go : (b : Bool) → leb 2 (length clause) ≡ b
        → (more : ℕ) × Priced (cond b (ceiling (length clause)) 0 + sum (map clause_worst clauses)) (length (clause ++ flat clauses)) more
    go true e =
        let many = leb-true 2 (length clause) e in
        (suc k, record { by_literals = omega (arith, p.by_literals, short, together); by_clauses = omega (arith, p.by_clauses, short) })
    go false e = (k, record { by_literals = omega (arith, p.by_literals, together); by_clauses = omega (arith, p.by_clauses) })

priced : (variables : ℕ) (clauses : List (List ℕ)) → all (sound_clause variables) clauses ≡ true
    → (k : ℕ) × Priced (sum (map clause_worst clauses)) (length (flat clauses)) k
unfolding sum flat all
priced variables [] ok = (0, record { by_literals = omega arith; by_clauses = omega arith })
priced variables (clause ∷ clauses) ok =
    let parts = and_parts (sound_clause variables clause) (all (sound_clause variables) clauses) ok in
    let rest = priced variables clauses parts.1 in
    priced_more variables clause clauses rest.0 parts.0 rest.1

-- W is at most 2 × 6,000 − 3 × 24: so many clauses it takes to hold 6,000 literals, and fewer clauses cost less.
pub worst_within : (formula : Formula) → sound formula ≡ true → worst formula ≤ 11928
unfolding worst
worst_within formula ok =
    let parts = formula_parts formula ok in
    let p = priced formula.variables formula.clauses parts.sound_clauses in
    omega (arith, p.1.by_literals, p.1.by_clauses, parts.few_literals)

-- An opening counts no backtrack, a call at most the one that it asks for.
module _ (formula : Formula) where
  propagated-backtracks : (handled : ℕ) (run : Run) → (propagate formula handled run).backtracks ≡ run.backtracks
  propagated-backtracks handled run =
      propagating_keeps formula (λ r. r.backtracks ≡ run.backtracks) (λ q c r k. visit_backtracks formula q c r ∙ k) (suc formula.variables) handled run refl

  decide_backtracks : (l : ℕ) (run : Run) → (decide formula l run).backtracks ≡ run.backtracks
  unfolding decide on_trail
  decide_backtracks l run = propagated-backtracks (length run.trail) (on_trail l true run)

  open_backtracks : (open_run formula).backtracks ≡ 0
  unfolding open_run fresh on_trail with_conflict
  open_backtracks =
      propagated-backtracks 0 (assign_units 0 formula.clauses (fresh formula))
      ∙ units_keep (λ r. r.backtracks ≡ 0) (λ l r k. k) (λ c r k. k) 0 formula.clauses (fresh formula) refl

  abbrev AtMost : ℕ → List Call → Run → Type 0
  AtMost n calls next = (step_all formula next calls).backtracks ≤ n

  pub steps_backtracks : (calls : List Call) (run : Run) → (step_all formula run calls).backtracks ≤ run.backtracks + backtracks_asked calls
  unfolding step_all backtracks_asked step refusal perform_call backtrack fix
  steps_backtracks [] run = omega arith
  steps_backtracks (decision l ∷ calls) run =
      by_number (AtMost (run.backtracks + backtracks_asked calls) calls) (decide_refusal formula l run) (decide formula l run) run
      (λ z. omega (arith, decide_backtracks l run, steps_backtracks calls (decide formula l run))) (steps_backtracks calls run)
  steps_backtracks (backtrack_by k ∷ calls) run =
      by_number (AtMost (run.backtracks + backtracks_asked (backtrack_by k ∷ calls)) calls) (backtrack_refusal k run) (backtrack k run) run
      (λ z. omega (arith, steps_backtracks calls (backtrack k run))) (omega (arith, steps_backtracks calls run))
  steps_backtracks (fix_by f ∷ calls) run =
      by_number (AtMost (run.backtracks + backtracks_asked calls) calls) (fix_refusal f run) (fix f run) run
      (λ z. steps_backtracks calls (fix f run)) (steps_backtracks calls run)

-- What a list of calls costs in all is at most W × (b + 1), where it asks for at most b backtracks.
pub total_quoted : (formula : Formula) → sound formula ≡ true → (calls : List Call) (b : ℕ) → backtracks_asked calls ≤ b
    → sum (reference formula calls).checks ≤ worst formula * (b + 1)
unfolding reference
total_quoted formula ok calls b asked =
    let few : (step_all formula (open_run formula) calls).backtracks + 1 ≤ b + 1
    = omega (arith, steps_backtracks formula calls (open_run formula), open_backtracks formula) in
    le_trans (total_in_all formula ok calls) (mul-le-mul_left (worst formula) few)

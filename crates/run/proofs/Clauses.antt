-- What a sound formula says of a clause and its literals.
use Prim.Native.Nat.{ℕ, ◌+◌, ◌*◌, ◌≤◌, ◌<◌}
use native.Mathlib.Omega.{arith}
use mathlib.Core.Bool.{true}
use mathlib.Core.List.{[], map}
use mathlib.Core.Logic.{◌⊎◌, inl, inr, ⊎_elim}
use mathlib.Core.Path.{◌≡◌, sym, ap, ◌∙◌}
use lib.ListN.{length, get_or, length-map, get_or-map, get_or-eq_default}
use Rattle.base.proofs.Bools.{below}
use Rattle.base.proofs.Members.{distinct_positions}
use Rattle.book.specs.Formula.{Formula, variable_of, max_clause, literal_within, sound}
use Rattle.book.proofs.SoundLaws.{literal_parts, ClauseParts, clause_parts, clause_literal, clause_of_sound}
use Rattle.run.specs.Run.{clause_of, size}

-- a clause with a literal is one of the formula's
pub clause_exists : (formula : Formula) (c : ℕ) → 0 < size formula c → c < length formula.clauses
clause_exists formula c h = go (below c (length formula.clauses))
  where
    go : (c < length formula.clauses) ⊎ (length formula.clauses ≤ c) → c < length formula.clauses
    go (inl e) = e
    go (inr e) =
        let out : clause_of formula c ≡ [] = get_or-eq_default formula.clauses [] e in
        let none : size formula c ≡ 0 = ap length out in
        omega arith

module _ (formula : Formula) (s : sound formula ≡ true) where
  parts : (c : ℕ) → c < length formula.clauses → ClauseParts formula.variables (clause_of formula c)
  parts c h = clause_parts formula.variables (clause_of formula c) (clause_of_sound formula s c h)

  -- at most 255 literals
  pub clause_short : (c : ℕ) → size formula c ≤ max_clause
  clause_short c = ⊎_elim (λ h. (parts c (clause_exists formula c h)).short) (λ h. omega arith) (below 0 (size formula c))

  pub literal_within_lem : (c i : ℕ) → i < size formula c → literal_within formula.variables (get_or (clause_of formula c) i 0) ≡ true
  literal_within_lem c i h =
      clause_literal formula.variables (clause_of formula c) (parts c (clause_exists formula c (omega arith))) i h

  -- a literal of a clause has a watch list
  pub literal_listed : (c i : ℕ) → i < size formula c → get_or (clause_of formula c) i 0 < 2 * formula.variables + 2
  literal_listed c i h = omega (arith, literal_parts formula.variables (get_or (clause_of formula c) i 0) (literal_within_lem c i h))

  pub literals_apart : (c i j : ℕ) → i < size formula c → j < size formula c
      → variable_of (get_or (clause_of formula c) i 0) ≡ variable_of (get_or (clause_of formula c) j 0) → i ≡ j
  literals_apart c i j h k e =
      distinct_positions (map variable_of (clause_of formula c)) i j
      (parts c (clause_exists formula c (omega arith))).once
      (rw (length-map (clause_of formula c) variable_of) h)
      (rw (length-map (clause_of formula c) variable_of) k)
      (get_or-map variable_of (clause_of formula c) i 0 ∙ e ∙ sym (get_or-map variable_of (clause_of formula c) j 0))

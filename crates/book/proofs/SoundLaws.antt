-- The parts of a literal within the variables, of a sound clause and of a sound formula, and the whole from its parts.
use Prim.Native.Nat.{ℕ, ◌+◌, ◌*◌, ◌≤◌, ◌<◌}
use mathlib.Core.Path.{◌≡◌, refl, ◌∙◌}
use mathlib.Core.Bool.{true}
use mathlib.Core.List.{List, [], map}
use lib.Dec.{leb}
use lib.ListN.{length, get_or}
use borrow.Author.Tests.{leb-true, le-leb}
use Rattle.base.specs.Lists.{all, distinct}
use Rattle.base.proofs.Bools.{both, and_parts, and_five, and_last}
use Rattle.base.proofs.Lists.{all_at}
use Rattle.book.specs.Formula.{Formula, literals, variable_of, max_variables, max_clauses, max_literals, max_clause, literal_within, sound_clause, sound}

pub literal_parts : (variables l : ℕ) → literal_within variables l ≡ true → (2 ≤ l) × (l ≤ 2 * variables + 1)
unfolding literal_within
literal_parts variables l h =
    let parts = and_parts (leb 2 l) (leb l (2 * variables + 1)) h in
    (leb-true _ _ parts.0, leb-true _ _ parts.1)

pub literal_whole : (variables l : ℕ) → 2 ≤ l → l ≤ 2 * variables + 1 → literal_within variables l ≡ true
unfolding literal_within
literal_whole variables l low high = both (le-leb _ _ low) (le-leb _ _ high)

pub record ClauseParts (variables : ℕ) (clause : List ℕ) : Type 0 where
  pub short : length clause ≤ max_clause
  pub within : all (literal_within variables) clause ≡ true
  pub once : distinct (map variable_of clause) ≡ true

pub clause_parts : (variables : ℕ) (clause : List ℕ) → sound_clause variables clause ≡ true → ClauseParts variables clause
unfolding sound_clause
clause_parts variables clause h =
    let parts = and_five true true (leb (length clause) max_clause) (all (literal_within variables) clause) (distinct (map variable_of clause)) h in
    record { short = leb-true _ _ parts.2; within = parts.3; once = parts.4 }

pub clause_whole : (variables : ℕ) (clause : List ℕ) → ClauseParts variables clause → sound_clause variables clause ≡ true
unfolding sound_clause
clause_whole variables clause p =
    and_last {a = true} {b = true} (distinct (map variable_of clause)) refl refl (le-leb _ _ p.short) p.within ∙ p.once

-- each literal of a sound clause is one of the V variables
pub clause_literal : (variables : ℕ) (clause : List ℕ) → ClauseParts variables clause → (i : ℕ) → i < length clause
    → literal_within variables (get_or clause i 0) ≡ true
clause_literal variables clause p i h = all_at (literal_within variables) clause 0 p.within i h

pub record FormulaParts (formula : Formula) : Type 0 where
  pub some_variable : 1 ≤ formula.variables
  pub few_variables : formula.variables ≤ max_variables
  pub few_clauses : length formula.clauses ≤ max_clauses
  pub few_literals : length (literals formula) ≤ max_literals
  pub sound_clauses : all (sound_clause formula.variables) formula.clauses ≡ true

pub formula_parts : (formula : Formula) → sound formula ≡ true → FormulaParts formula
unfolding sound
formula_parts formula h =
    let parts = and_five (leb 1 formula.variables) (leb formula.variables max_variables) (leb (length formula.clauses) max_clauses)
    (leb (length (literals formula)) max_literals) (all (sound_clause formula.variables) formula.clauses) h in
    record {
      some_variable = leb-true _ _ parts.0;
      few_variables = leb-true _ _ parts.1;
      few_clauses = leb-true _ _ parts.2;
      few_literals = leb-true _ _ parts.3;
      sound_clauses = parts.4;
    }

-- within the limits, the clauses decide
pub clauses_decide_sound : (formula : Formula) → 1 ≤ formula.variables → formula.variables ≤ max_variables
    → length formula.clauses ≤ max_clauses
    → length (literals formula) ≤ max_literals
    → sound formula ≡ all (sound_clause formula.variables) formula.clauses
unfolding sound
clauses_decide_sound formula some few clauses all-literals =
    and_last _ (le-leb _ _ some) (le-leb _ _ few) (le-leb _ _ clauses) (le-leb _ _ all-literals)

-- each clause of a sound formula is sound
pub clause_of_sound : (formula : Formula) → sound formula ≡ true → (c : ℕ) → c < length formula.clauses
    → sound_clause formula.variables (get_or formula.clauses c []) ≡ true
clause_of_sound formula h c inside = all_at (sound_clause formula.variables) formula.clauses [] (formula_parts formula h).sound_clauses c inside

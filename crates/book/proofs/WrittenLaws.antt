-- Clauses and formulas as a text writes them: their limits, what reading makes of them, and how a clause is spelled so that it reads as it was.
use Prim.Native.Nat.{ℕ, ◌≤◌}
use native.Mathlib.Omega.{arith}
use mathlib.Core.Bool.{Bool, true, ◌&&◌}
use mathlib.Core.List.{List, [], ◌∷◌, map, map-map}
use mathlib.Core.Path.{◌≡◌, refl, ◌∙◌}
use borrow.Author.Tests.{leb-true, le-leb}
use lib.Dec.{leb}
use lib.ListN.{length, length-map}
use Rattle.base.specs.Lists.{all, any, flat, empty, member, distinct}
use Rattle.base.proofs.Bools.{and_five, and_last}
use Rattle.base.proofs.Lists.{all_map, flat_shorter, map_undone}
use Rattle.book.specs.Formula.{Formula, literals, positive, negative, max_variables, max_clauses, max_literals, max_clause, literal_within, sound_clause, sound}
use Rattle.book.specs.Reading.{both_ways, as_read, read_formula}
use Rattle.book.specs.Printer.{spelled}
use Rattle.book.proofs.AsReadLaws.{as_read_none, as_read_short, as_read_within, read_once, as_read_again}
use Rattle.book.proofs.SoundLaws.{literal_whole, clause_parts, clause_whole, clauses_decide_sound}

-- a clause as written: 1 to 255 literals of the V variables, which may stand more than once
unfoldable pub written_clause : ℕ → List ℕ → Bool
written_clause variables clause = leb 1 (length clause) && leb (length clause) max_clause && all (literal_within variables) clause

pub record WrittenParts (variables : ℕ) (clause : List ℕ) : Type 0 where
  pub filled : 1 ≤ length clause
  pub short : length clause ≤ max_clause
  pub within : all (literal_within variables) clause ≡ true

pub written_parts : (variables : ℕ) (clause : List ℕ) → written_clause variables clause ≡ true → WrittenParts variables clause
unfolding written_clause
written_parts variables clause h =
    let parts = and_five true true (leb 1 (length clause)) (leb (length clause) max_clause) (all (literal_within variables) clause) h in
    record { filled = leb-true _ _ parts.2; short = leb-true _ _ parts.3; within = parts.4 }

pub written_whole : (variables : ℕ) (clause : List ℕ) → WrittenParts variables clause → written_clause variables clause ≡ true
unfolding written_clause
written_whole variables clause p =
    and_last {a = true} {b = true} (all (literal_within variables) clause) refl refl (le-leb _ _ p.filled) (le-leb _ _ p.short) ∙ p.within

-- a clause as read is sound
read_clause_sound : (variables : ℕ) (clause : List ℕ) → written_clause variables clause ≡ true → sound_clause variables (as_read clause) ≡ true
read_clause_sound variables clause h =
    let p = written_parts variables clause h in
    clause_whole variables (as_read clause)
    (record {
      short = omega (arith, as_read_short clause);
      within = as_read_within (literal_within variables) clause p.within;
      once = read_once clause;
    })

-- a formula as written, within the limits
pub record WrittenFormula (formula : Formula) : Type 0 where
  pub some_variable : 1 ≤ formula.variables
  pub few_variables : formula.variables ≤ max_variables
  pub few_clauses : length formula.clauses ≤ max_clauses
  pub few_literals : length (literals formula) ≤ max_literals
  pub written_clauses : all (written_clause formula.variables) formula.clauses ≡ true

module _ (formula : Formula) (w : WrittenFormula formula) where
  -- as read it is sound
  pub read_sound : sound (read_formula formula) ≡ true
  unfolding read_formula
  read_sound =
      clauses_decide_sound (read_formula formula) w.some_variable w.few_variables (rw length-map w.few_clauses)
      (omega (arith, w.few_literals, flat_shorter _ as_read (λ clause h. as_read_short clause) formula.clauses w.written_clauses))
      ∙ all_map _ as_read _ (read_clause_sound formula.variables) formula.clauses w.written_clauses

-- a clause as it is spelled is read as it was
read_spelled : (variables : ℕ) (clause : List ℕ) → sound_clause variables clause ≡ true → as_read (spelled clause) ≡ clause
unfolding spelled empty both_ways any member
read_spelled variables [] h = as_read_none _ refl
read_spelled variables (l ∷ ls) h = as_read_again (l ∷ ls) (clause_parts variables (l ∷ ls) h).once

pub clauses_read_back : (variables : ℕ) (clauses : List (List ℕ)) → all (sound_clause variables) clauses ≡ true → map as_read (map spelled clauses) ≡ clauses
clauses_read_back variables clauses h = map_undone _ spelled as_read (read_spelled variables) clauses h

-- and is within the limits of clauses as written
module _ (variables : ℕ) (some : 1 ≤ variables) where
  spelled-within : (clause : List ℕ) → sound_clause variables clause ≡ true → written_clause variables (spelled clause) ≡ true
  unfolding spelled empty all
  spelled-within [] h =
      written_whole variables (positive 1 ∷ negative 1 ∷ [])
      (record {
        filled = omega arith;
        short = omega arith;
        within = rw (literal_whole variables 2 (omega arith) (omega arith), literal_whole variables 3 (omega arith) (omega arith));
      })
  spelled-within (l ∷ ls) h =
      let p = clause_parts variables (l ∷ ls) h in
      written_whole variables (l ∷ ls) (record { filled = omega arith; short = p.short; within = p.within })

  pub spelled_written : (clauses : List (List ℕ)) → all (sound_clause variables) clauses ≡ true → all (written_clause variables) (map spelled clauses) ≡ true
  spelled_written clauses h = all_map _ spelled _ spelled-within clauses h

-- A clause that is read and spelled again is no longer than it was: one with a variable both ways has two literals at least.
spelled_short : (variables : ℕ) (clause : List ℕ) → written_clause variables clause ≡ true → length (spelled (as_read clause)) ≤ length clause
unfolding spelled empty distinct member
spelled_short variables [] h = absurd (omega (arith, (written_parts variables [] h).filled))
spelled_short variables (l ∷ []) h = rw (as_read_again (l ∷ []) refl) (omega arith)
spelled_short variables (l ∷ m ∷ ls) h = go (as_read (l ∷ m ∷ ls)) (as_read_short (l ∷ m ∷ ls))
  where
    go : (c : List ℕ) → length c ≤ length (l ∷ m ∷ ls) → length (spelled c) ≤ length (l ∷ m ∷ ls)
    go [] short = omega arith
    go (x ∷ c) short = short

pub clauses_spelled_short : (variables : ℕ) (clauses : List (List ℕ)) → all (written_clause variables) clauses ≡ true
    → length (flat (map spelled (map as_read clauses))) ≤ length (flat clauses)
clauses_spelled_short variables clauses h = rw map-map (flat_shorter _ _ (spelled_short variables) clauses h)

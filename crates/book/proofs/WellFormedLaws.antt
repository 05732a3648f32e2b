-- The form of book numbers taken apart: what well-formed numbers are, and that they are the numbers of a sound formula.
use Prim.Native.Nat.{ℕ, ◌+◌, ◌≤◌, ◌<◌}
use mathlib.Core.Bool.{Bool, true, false, ◌&&◌}
use mathlib.Core.List.{List}
use mathlib.Core.Path.{◌≡◌, refl}
use native.Mathlib.Omega.{arith}
use borrow.Author.Tests.{leb-true, le-leb, eqb-true, eq-eqb}
use lib.Dec.{leb, eqb}
use lib.ListN.{length, take}
use Rattle.base.specs.Lists.{all}
use Rattle.base.proofs.Bools.{and_five, and_last, refuted}
use Rattle.book.specs.Formula.{sound_clause, sound, max_clauses, max_literals, max_variables}
use Rattle.book.specs.Numbers.{variables_of, clauses_of, literals_of, start_of, clause_at, clauses_from, formula_of, numbers_of, rising, well_formed}
use Rattle.book.specs.Inner.Form.{Parted}
use Rattle.book.proofs.SoundLaws.{formula_parts, clause_of_sound}
use Rattle.book.proofs.PartLaws.{clauses_counted, clause_of_formula, length_literals, numbers_parted}

-- V, C and L within their limits
pub record Limited (numbers : List ℕ) : Type 0 where
  pub some_variables : 1 ≤ variables_of numbers
  pub variables : variables_of numbers ≤ max_variables
  pub clauses : clauses_of numbers ≤ max_clauses
  pub literals : literals_of numbers ≤ max_literals

module _ (numbers : List ℕ) where
  -- of parted numbers the formula that they hold decides
  pub formula_decides : Parted numbers → well_formed numbers ≡ sound (formula_of numbers)
  unfolding well_formed
  formula_decides parted =
      and_last
      (sound (formula_of numbers))
      (le-leb _ _ parted.long)
      (eq-eqb _ _ parted.first)
      (eq-eqb _ _ parted.last)
      parted.rises

  module _ (well : well_formed numbers ≡ true) where
    parts : (leb (clauses_of numbers + literals_of numbers + 4) (length numbers) ≡ true)
        × (eqb (start_of numbers 0) 0 ≡ true)
        × (eqb (start_of numbers (clauses_of numbers)) (literals_of numbers) ≡ true)
        × (rising numbers 0 (clauses_of numbers) ≡ true)
        × (sound (formula_of numbers) ≡ true)
    unfolding well_formed
    parts =
        and_five
        (leb (clauses_of numbers + literals_of numbers + 4) (length numbers))
        (eqb (start_of numbers 0) 0)
        (eqb (start_of numbers (clauses_of numbers)) (literals_of numbers))
        (rising numbers 0 (clauses_of numbers))
        (sound (formula_of numbers))
        well

    pub well_formed_parted : Parted numbers
    well_formed_parted =
        record {
          long = leb-true _ _ parts.0;
          first = eqb-true _ _ parts.1;
          last = eqb-true _ _ parts.2;
          rises = parts.3;
        }

    -- well-formed numbers hold a sound formula
    pub well_formed_sound : sound (formula_of numbers) ≡ true
    well_formed_sound = parts.4

    pub well_formed_limited : Limited numbers
    well_formed_limited =
        let parts = formula_parts (formula_of numbers) well_formed_sound in
        record {
          some_variables = parts.some_variable;
          variables = parts.few_variables;
          clauses = omega (arith, clauses_counted numbers, parts.few_clauses);
          literals = omega (arith, length_literals numbers well_formed_parted, parts.few_literals);
        }

    -- each clause of well-formed numbers is sound
    pub well_formed_clause : (c : ℕ) → c < clauses_of numbers → sound_clause (variables_of numbers) (clause_at numbers c) ≡ true
    well_formed_clause c h =
        rw (clause_of_formula numbers c h) at
        (clause_of_sound (formula_of numbers) well_formed_sound c (omega (arith, clauses_counted numbers)))

    -- well-formed numbers up to C + L + 4 are those of the formula that they hold
    pub well_formed_numbers : take (clauses_of numbers + literals_of numbers + 4) numbers ≡ numbers_of (formula_of numbers)
    well_formed_numbers = numbers_parted numbers well_formed_parted

  -- numbers that are not parted, or beyond the limits, are not well formed
  pub not_well_formed : (Parted numbers → Limited numbers → ⊥) → well_formed numbers ≡ false
  not_well_formed never = refuted _ λ well. never (well_formed_parted well) (well_formed_limited well)

  -- the form of book numbers, test by test
  pub well_formed_chain : well_formed numbers
      ≡ (leb (clauses_of numbers + literals_of numbers + 4) (length numbers)
      && eqb (start_of numbers 0) 0
      && eqb (start_of numbers (clauses_of numbers)) (literals_of numbers)
      && rising numbers 0 (clauses_of numbers)
      && leb 1 (variables_of numbers)
      && leb (variables_of numbers) max_variables
      && leb (clauses_of numbers) max_clauses
      && leb (literals_of numbers) max_literals
      && all (sound_clause (variables_of numbers)) (clauses_from numbers 0 (clauses_of numbers)))
  unfolding well_formed sound
  well_formed_chain =
      where_first_hold _ _ _ _ _ _ _ _ _ _ (λ long first last rises.
      within_chain (record { long = leb-true _ _ long; first = eqb-true _ _ first; last = eqb-true _ _ last; rises = rises }))
    where
      where_first_hold : (a b c d x e f g h i : Bool) → (a ≡ true → b ≡ true → c ≡ true → d ≡ true → x ≡ (e && f && g && h && i))
          → (a && b && c && d && x) ≡ (a && b && c && d && e && f && g && h && i)
      where_first_hold true true true true x e f g h i same = same refl refl refl refl
      where_first_hold true true true false x e f g h i same = refl
      where_first_hold true true false d x e f g h i same = refl
      where_first_hold true false c d x e f g h i same = refl
      where_first_hold false b c d x e f g h i same = refl

      within_chain : Parted numbers → sound (formula_of numbers)
          ≡ (leb 1 (variables_of numbers)
          && leb (variables_of numbers) max_variables
          && leb (clauses_of numbers) max_clauses
          && leb (literals_of numbers) max_literals
          && all (sound_clause (variables_of numbers)) (clauses_from numbers 0 (clauses_of numbers)))
      within_chain parted = rw (clauses_counted numbers, length_literals numbers parted)

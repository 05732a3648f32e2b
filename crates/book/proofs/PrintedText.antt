-- A printed formula within the limits is a text: 33,015 bytes at most, each below 256.
use Prim.Native.Nat.{ℕ, zero, suc, ◌+◌, ◌*◌, ◌/◌, ◌%◌, ◌^◌, ◌≤◌, ◌<◌}
use native.Mathlib.Nat.{pow-succ'}
use native.Mathlib.Omega.{arith}
use mathlib.Core.Path.{◌≡◌, refl}
use mathlib.Core.Bool.{Bool, true, false, cond}
use mathlib.Core.List.{List, [], ◌∷◌, ◌++◌, map}
use lib.Dec.{leb, ltb, eqb}
use lib.ListN.{length, length-append, length-map}
use borrow.Author.Tests.{lt-ltb, le-leb}
use Rattle.base.specs.Lists.{all, flat}
use Rattle.base.proofs.Bools.{and_parts}
use Rattle.base.proofs.Lists.{all_both, all_imply}
use Rattle.book.specs.Formula.{Formula, max_variables, max_literals, literal_within, sound}
use Rattle.book.specs.Text.{is_digit}
use Rattle.book.specs.Printer.{digits, print_number, print_literal, print_clause, spelled, print_text}
use Rattle.book.proofs.DecimalLaws.{digit_bounds}
use Rattle.book.proofs.DigitLaws.{number_printed}
use Rattle.book.proofs.SoundLaws.{literal_parts, FormulaParts, formula_parts}
use Rattle.book.proofs.WrittenLaws.{written_clause, written_parts, spelled_written}

-- a number has no more digits than the power of ten that it is below
few_digits : (places k n : ℕ) → n < 10 ^ suc k → length (digits places n) ≤ suc k
unfolding digits
few_digits zero k n h = omega arith
few_digits (suc places) zero n h = rw (lt-ltb n 10 h) (omega arith)
few_digits (suc places) (suc k) n h = go (ltb n 10) (few_digits places k (n / 10) (omega (arith, pow-succ' 10 (suc k))))
  where
    go : (b : Bool) → length (digits places (n / 10)) ≤ suc k
        → length (cond b ((48 + n) ∷ []) (digits places (n / 10) ++ ((48 + n % 10) ∷ []))) ≤ suc (suc k)
    go true ih = omega arith
    go false ih = rw length-append (omega arith)

-- a literal: a sign and three digits
literal_length : (l : ℕ) → l / 2 < 1000 → length (print_literal l) ≤ 4
unfolding print_literal
literal_length l h = go (eqb (l % 2) 1) (few_digits 9 2 (l / 2) h)
  where
    go : (b : Bool) → length (print_number (l / 2)) ≤ 3 → length (cond b (45 ∷ print_number (l / 2)) (print_number (l / 2))) ≤ 4
    go true short = omega arith
    go false short = omega arith

module _ (variables : ℕ) (few : variables ≤ max_variables) where
  -- a clause: each literal and a blank, the 0 and the end of the line
  clause_length : (clause : List ℕ) → all (literal_within variables) clause ≡ true → length (print_clause clause) ≤ 5 * length clause + 2
  unfolding print_clause all
  clause_length [] h = omega arith
  clause_length (l ∷ ls) h =
      let parts = and_parts (literal_within variables l) (all (literal_within variables) ls) h in
      let limits = literal_parts variables l parts.0 in
      rw length-append (omega (arith, literal_length l (omega arith), clause_length ls parts.1))

  clauses_length : (clauses : List (List ℕ)) → all (written_clause variables) clauses ≡ true
      → length (flat (map print_clause clauses)) ≤ 5 * length (flat clauses) + 2 * length clauses
  unfolding flat all
  clauses_length [] h = omega arith
  clauses_length (clause ∷ clauses) h =
      let parts = and_parts (written_clause variables clause) (all (written_clause variables) clauses) h in
      rw (length-append (print_clause clause) (flat (map print_clause clauses)), length-append clause (flat clauses))
      (omega (arith, clause_length clause (written_parts variables clause parts.0).within, clauses_length clauses parts.1))

-- the clauses as they are spelled
pub spelled_clauses : (formula : Formula) → FormulaParts formula → all (written_clause formula.variables) (map spelled formula.clauses) ≡ true
spelled_clauses formula p = spelled_written formula.variables p.some_variable formula.clauses p.sound_clauses

-- the header line has at most 15 bytes, 6,000 literals at most 30,000, the ends of 1,500 clauses 3,000
pub printed_within : (formula : Formula) → sound formula ≡ true → length (flat (map spelled formula.clauses)) ≤ max_literals
    → length (print_text formula) ≤ 33015
unfolding print_text
printed_within formula h few =
    let p = formula_parts formula h in
    let variables : length (print_number formula.variables) ≤ 3 = few_digits 9 2 formula.variables (omega arith) in
    let clauses : length (print_number (length formula.clauses)) ≤ 4 = few_digits 9 3 (length formula.clauses) (omega arith) in
    rw (length-append (print_number formula.variables), length-append (print_number (length formula.clauses)))
    (omega (
      arith,
      clauses_length formula.variables p.few_variables (map spelled formula.clauses) (spelled_clauses formula p),
      length-map formula.clauses spelled,
    ))

-- every byte printed is below 256
abbrev pub is_byte : ℕ → Bool
is_byte b = leb b 255

digit_byte : (b : ℕ) → is_digit b ≡ true → is_byte b ≡ true
digit_byte b h = le-leb b 255 (omega (arith, (digit_bounds b h).1))

number_bytes : (n : ℕ) → n < 1000000000 → all is_byte (print_number n) ≡ true
number_bytes n h = all_imply is_digit is_byte digit_byte (print_number n) (number_printed n h).all_digits

literal_bytes : (l : ℕ) → l / 2 < 1000000000 → all is_byte (print_literal l) ≡ true
unfolding print_literal all
literal_bytes l h = go (eqb (l % 2) 1) (number_bytes (l / 2) h)
  where
    go : (b : Bool) → all is_byte (print_number (l / 2)) ≡ true → all is_byte (cond b (45 ∷ print_number (l / 2)) (print_number (l / 2))) ≡ true
    go true bytes = bytes
    go false bytes = bytes

module _ (variables : ℕ) (few : variables ≤ max_variables) where
  clause-bytes : (clause : List ℕ) → all (literal_within variables) clause ≡ true → all is_byte (print_clause clause) ≡ true
  unfolding print_clause all
  clause-bytes [] h = refl
  clause-bytes (l ∷ ls) h =
      let parts = and_parts (literal_within variables l) (all (literal_within variables) ls) h in
      let limits = literal_parts variables l parts.0 in
      all_both is_byte (print_literal l) (32 ∷ print_clause ls) (literal_bytes l (omega arith)) (clause-bytes ls parts.1)

  clauses_bytes : (clauses : List (List ℕ)) → all (written_clause variables) clauses ≡ true → all is_byte (flat (map print_clause clauses)) ≡ true
  unfolding flat all
  clauses_bytes [] h = refl
  clauses_bytes (clause ∷ clauses) h =
      let parts = and_parts (written_clause variables clause) (all (written_clause variables) clauses) h in
      all_both is_byte (print_clause clause) (flat (map print_clause clauses))
      (clause-bytes clause (written_parts variables clause parts.0).within) (clauses_bytes clauses parts.1)

pub printed_bytes : (formula : Formula) → sound formula ≡ true → all is_byte (print_text formula) ≡ true
unfolding print_text all
printed_bytes formula h =
    let p = formula_parts formula h in
    all_both is_byte (print_number formula.variables)
    (32 ∷ (print_number (length formula.clauses) ++ (10 ∷ flat (map print_clause (map spelled formula.clauses)))))
    (number_bytes formula.variables (omega arith))
    (all_both is_byte (print_number (length formula.clauses)) (10 ∷ flat (map print_clause (map spelled formula.clauses)))
    (number_bytes (length formula.clauses) (omega arith))
    (clauses_bytes formula.variables p.few_variables (map spelled formula.clauses) (spelled_clauses formula p)))

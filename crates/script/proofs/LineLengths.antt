-- How many bytes the lines have that the script program prints.
use Prim.Native.Nat.{ℕ, zero, suc, ◌+◌, ◌*◌, ◌/◌, ◌%◌, ◌≤◌, ◌<◌}
use mathlib.Core.Path.{◌≡◌}
use mathlib.Core.Bool.{Bool, true, false, cond}
use mathlib.Core.List.{List, [], ◌∷◌, ◌++◌}
use native.Mathlib.Omega.{arith}
use borrow.Author.Tests.{ltb-true}
use lib.Dec.{ltb, eqb}
use lib.ListN.{length, length-append}
use Rattle.base.specs.Lists.{all}
use Rattle.base.proofs.Bools.{and_parts}
use Rattle.book.specs.Formula.{variable_of}
use Rattle.book.specs.Printer.{digits}
use Rattle.script.specs.declared.Cause.{Cause}
use Rattle.script.specs.declared.Cause.TheVariants.{Opening, Decision}
use Rattle.script.specs.Answers.{bytes, numeral, signed, listed, call_words, implied_line, clause_line, back_line, refused_line, end_line}
use Rattle.script.proofs.writing.DigitLaws.{digits_enough}

length_digits : (places n : ℕ) → length (digits places n) ≤ places
unfolding digits
length_digits zero n = omega arith
length_digits (suc places) n = go (ltb n 10) (length_digits places (n / 10))
  where
    go : (b : Bool) → length (digits places (n / 10)) ≤ places
        → length (cond b ((48 + n) ∷ []) (digits places (n / 10) ++ ((48 + n % 10) ∷ []))) ≤ suc places
    go true h = omega arith
    go false h = rw (length-append (digits places (n / 10)) ((48 + n % 10) ∷ [])) (omega arith)

length_numeral : (n : ℕ) → length (numeral n) ≤ 20
length_numeral n = length_digits 20 n

-- three digits, where the number has no more
numeral_short : (n : ℕ) → n < 1000 → length (numeral n) ≤ 3
numeral_short n h = rw (digits_enough 19 2 n (omega arith) (omega arith)) (length_digits 3 n)

signed_by : (b : Bool) (n places : ℕ) → length (numeral n) ≤ places → length (cond b (45 ∷ numeral n) (numeral n)) ≤ suc places
signed_by true n places h = omega arith
signed_by false n places h = omega arith

length_signed : (l : ℕ) → length (signed l) ≤ 21
unfolding signed
length_signed l = signed_by (eqb (l % 2) 1) (variable_of l) 20 (length_numeral (variable_of l))

signed_short : (l : ℕ) → l < 2000 → length (signed l) ≤ 4
unfolding signed
signed_short l h = signed_by (eqb (l % 2) 1) (variable_of l) 3 (numeral_short (variable_of l) (omega arith))

-- a literal of a variable under 1,000
abbrev pub short_literal : ℕ → Bool
short_literal l = ltb l 2000

listed_short : (literals : List ℕ) → all short_literal literals ≡ true → length (listed literals) ≤ 5 * length literals + 1
unfolding listed all
listed_short [] h = omega arith
listed_short (l ∷ literals) h =
    let parts = and_parts (short_literal l) (all short_literal literals) h in
    let first : length (signed l) ≤ 4 = signed_short l (ltb-true l 2000 parts.0) in
    let rest = listed_short literals parts.1 in
    rw (length-append (signed l) (listed literals)) (omega arith)

length_call : (cause : Cause) → length (call_words cause) ≤ 28
unfolding call_words bytes
length_call Opening = omega arith
length_call (Decision l) = let rest = length_signed l in omega arith

module _ (cause : Cause) where
  pub length_implied : (literals : List ℕ) → all short_literal literals ≡ true → length (implied_line cause literals) ≤ 5 * length literals + 58
  unfolding implied_line bytes
  length_implied literals h =
      let words = length_call cause in
      let count = length_numeral (length literals) in
      let rest = listed_short literals h in
      rw (length-append (call_words cause) _, length-append (numeral (length literals)) (58 ∷ listed literals)) (omega arith)

  pub length_clause : (clause : ℕ) → length (clause_line cause clause) ≤ 55
  unfolding clause_line bytes
  length_clause clause =
      let words = length_call cause in
      let name = length_numeral clause in
      rw (length-append (call_words cause) _, length-append (numeral clause) (10 ∷ [])) (omega arith)

pub length_back : (k : ℕ) → length (back_line k) ≤ 26
unfolding back_line bytes
length_back k = let count = length_numeral k in rw (length-append (numeral k) (10 ∷ [])) (omega arith)

pub length_refused : (number : ℕ) → length (refused_line number) ≤ 29
unfolding refused_line bytes
length_refused number = let count = length_numeral number in rw (length-append (numeral number) (10 ∷ [])) (omega arith)

pub length_end : (decisions backtracks checks : ℕ) → length (end_line decisions backtracks checks) ≤ 88
unfolding end_line bytes
length_end decisions backtracks checks =
    let a = length_numeral decisions in
    let b = length_numeral backtracks in
    let c = length_numeral checks in
    simp length-append (omega arith)

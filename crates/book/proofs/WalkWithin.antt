-- What the walk over a text's lines accepts is within document 01's limits, as written.
use Prim.Native.Nat.{ℕ, ◌+◌, ◌*◌, ◌≤◌}
use native.Mathlib.Omega.{arith}
use mathlib.Core.Path.{◌≡◌, refl}
use mathlib.Core.Bool.{Bool, true, false, cond, ◌&&◌, ◌||◌, true≢false}
use mathlib.Core.List.{List, [], ◌∷◌, ◌++◌}
use lib.Dec.{leb, ltb, eqb}
use lib.ListN.{length, length-append}
use borrow.Author.Tests.{ltb-false, leb-true, le-leb, eqb-true, eqb-false}
use Rattle.base.specs.Lists.{all, flat, empty}
use Rattle.base.proofs.Bools.{neither_left, neither_right, and_parts}
use Rattle.base.proofs.Lists.{all_both, flat_more}
use Rattle.book.specs.Formula.{Formula, variable_of, positive, negative, max_variables, max_clauses, max_literals, max_clause, literal_within}
use Rattle.book.specs.Text.{Piece, Token, literal, close, invalid, decimal, unsigned, unsigned_token, negative_token, token_of, Header, header, malformed, header_of}
use Rattle.book.specs.Faults.{outside, body_of}
use Rattle.book.specs.Reading.{Judged, refused, accepted}
use Rattle.book.specs.Inner.Walk.{walk, tokens_of, walk_under, walk_lines}
use Rattle.book.proofs.SoundLaws.{literal_whole}
use Rattle.book.proofs.WrittenLaws.{written_clause, written_whole, WrittenFormula}

-- a token of a word: its literal has a variable
unfoldable pub real : Token → Bool
real (literal l) = leb 2 l
real close = true
real invalid = true

unsigned_real : (digits : List ℕ) → real (unsigned_token digits) ≡ true
unfolding unsigned_token real
unsigned_real digits = go (unsigned digits) (eqb (decimal 0 digits) 0) refl
  where
    go : (a b : Bool) → eqb (decimal 0 digits) 0 ≡ b → real (cond a (cond b close (literal (positive (decimal 0 digits)))) invalid) ≡ true
    go false b e = refl
    go true true e = refl
    go true false e = le-leb 2 (2 * decimal 0 digits) (nonzero (eqb-false (decimal 0 digits) 0 e))
      where
        nonzero : (decimal 0 digits ≡ 0 → ⊥) → 2 ≤ 2 * decimal 0 digits
        nonzero h = omega arith

negative_real : (digits : List ℕ) → real (negative_token digits) ≡ true
unfolding negative_token real
negative_real digits = go (unsigned digits) (eqb (decimal 0 digits) 0) refl
  where
    go : (a b : Bool) → eqb (decimal 0 digits) 0 ≡ b
        → real (cond a (cond b invalid (literal (negative (decimal 0 digits)))) invalid) ≡ true
    go false b e = refl
    go true true e = refl
    go true false e = le-leb 2 (2 * decimal 0 digits + 1) (nonzero (eqb-false (decimal 0 digits) 0 e))
      where
        nonzero : (decimal 0 digits ≡ 0 → ⊥) → 2 ≤ 2 * decimal 0 digits + 1
        nonzero h = omega arith

token_real : (word : List ℕ) → real (token_of word) ≡ true
unfolding token_of real
token_real [] = refl
token_real (byte ∷ bytes) = go (eqb byte 45)
  where
    go : (b : Bool) → real (cond b (negative_token bytes) (unsigned_token (byte ∷ bytes))) ≡ true
    go true = negative_real bytes
    go false = unsigned_real (byte ∷ bytes)

tokens_real : (words : List Piece) → all real (tokens_of words) ≡ true
unfolding all tokens_of
tokens_real [] = refl
tokens_real (word ∷ words) = rw (token_real word.bytes) (tokens_real words)

-- what was passed on the way to an accepted formula was not refused
pub not_refused : (there : Bool) (n : ℕ) (rest : Judged) (formula : Formula) → cond there (refused n) rest ≡ accepted formula
    → (there ≡ false) × (rest ≡ accepted formula)
not_refused true n rest formula h = let z : ◌≡◌ {A = ℕ} 0 1 = cc in absurd (omega arith)
not_refused false n rest formula h = (refl, h)

-- what the walk has accepted so far is within the limits
record WithinLimits (variables : ℕ) (done : List (List ℕ)) (current : List ℕ) : Type 0 where
  clauses_written : all (written_clause variables) done ≡ true
  literals_within : all (literal_within variables) current ≡ true
  clause_short : length current ≤ max_clause
  literals_few : length (flat done) + length current ≤ max_literals

within_none : (variables : ℕ) → WithinLimits variables [] []
unfolding all flat
within_none variables =
    record { clauses_written = refl; literals_within = refl; clause_short = omega arith; literals_few = omega arith }

within_literal : (variables : ℕ) (done : List (List ℕ)) (current : List ℕ) (l : ℕ) → WithinLimits variables done current
    → real (literal l) ≡ true
    → ltb variables (variable_of l) ≡ false → eqb (length current) max_clause ≡ false
    → eqb (length (flat done) + length current) max_literals ≡ false → WithinLimits variables done (current ++ (l ∷ []))
unfolding real all
within_literal variables done current l w r small short few = record {
  clauses_written = w.clauses_written;
  literals_within = all_both (literal_within variables) current (l ∷ []) w.literals_within
      (rw (literal_whole variables l (leb-true 2 l r) (omega (arith, ltb-false variables (variable_of l) small))));
  clause_short = rw length-append (omega (arith, eqb-false (length current) max_clause short));
  literals_few = rw length-append (omega (arith, eqb-false (length (flat done) + length current) max_literals few));
}

clause_within : (variables : ℕ) (done : List (List ℕ)) (current : List ℕ) → WithinLimits variables done current → empty current ≡ false
    → written_clause variables current ≡ true
unfolding empty
clause_within variables done [] w filled = absurd (true≢false filled)
clause_within variables done (l ∷ ls) w filled =
    written_whole variables (l ∷ ls) (record { filled = omega arith; short = w.clause_short; within = w.literals_within })

within_close : (variables : ℕ) (done : List (List ℕ)) (current : List ℕ) → WithinLimits variables done current → empty current ≡ false
    → WithinLimits variables (done ++ (current ∷ [])) []
unfolding all flat
within_close variables done current w filled = record {
  clauses_written = all_both (written_clause variables) done (current ∷ []) w.clauses_written
      (rw (clause_within variables done current w filled));
  literals_within = refl;
  clause_short = omega arith;
  literals_few = rw (flat_more, length-append) (omega arith);
}

ended : (whole counted : Bool) (made formula : Formula) → cond (whole && counted) (accepted made) (refused 8) ≡ accepted formula
    → (counted ≡ true) × (formula ≡ made)
ended true true made formula h = (refl, cc)
ended true false made formula h = let z : ◌≡◌ {A = ℕ} 0 1 = cc in absurd (omega arith)
ended false counted made formula h = let z : ◌≡◌ {A = ℕ} 0 1 = cc in absurd (omega arith)

walk_written : (variables clauses : ℕ) (tokens : List Token) → 1 ≤ variables → variables ≤ max_variables → clauses ≤ max_clauses
    → (done : List (List ℕ)) (current : List ℕ) (formula : Formula) → all real tokens ≡ true → WithinLimits variables done current
    → walk variables clauses done current tokens ≡ accepted formula → WrittenFormula formula
unfolding walk all real
walk_written variables clauses [] v v' c done current formula r w h =
    let last = ended (empty current) (eqb (length done) clauses) (record { variables = variables; clauses = done }) formula h in
    rw last.1
    (record {
      some_variable = v;
      few_variables = v';
      few_clauses = omega (arith, eqb-true (length done) clauses last.0);
      few_literals = omega (arith, w.literals_few);
      written_clauses = w.clauses_written;
    })
walk_written variables clauses (literal l ∷ tokens) v v' c done current formula r w h =
    let r2 = and_parts (real (literal l)) (all real tokens) r in
    let t5 = not_refused _ 5 _ formula h in
    let t6 = not_refused _ 6 _ formula t5.1 in
    let t8 = not_refused (empty current && leb clauses (length done)) 8 _ formula t6.1 in
    let t9 = not_refused _ 9 _ formula t8.1 in
    walk_written variables clauses tokens v v' c done (current ++ (l ∷ [])) formula r2.1
    (within_literal variables done current l w r2.0 t5.0 t6.0 t9.0) t9.1
walk_written variables clauses (close ∷ tokens) v v' c done current formula r w h =
    let t6 = not_refused (empty current) 6 _ formula h in
    walk_written variables clauses tokens v v' c (done ++ (current ∷ [])) [] formula r (within_close variables done current w t6.0)
    t6.1
walk_written variables clauses (invalid ∷ tokens) v v' c done current formula r w h = let z : ◌≡◌ {A = ℕ} 0 1 = cc in absurd (omega arith)

inside_limits : (variables clauses : ℕ) → outside variables clauses ≡ false
    → (1 ≤ variables) × (variables ≤ max_variables) × (clauses ≤ max_clauses)
unfolding outside
inside_limits variables clauses h =
    let few = neither_right (eqb variables 0) (ltb max_variables variables || ltb max_clauses clauses) h in
    omega (
      arith,
      eqb-false variables 0 (neither_left (eqb variables 0) (ltb max_variables variables || ltb max_clauses clauses) h),
      ltb-false max_variables variables (neither_left (ltb max_variables variables) (ltb max_clauses clauses) few),
      ltb-false max_clauses clauses (neither_right (ltb max_variables variables) (ltb max_clauses clauses) few),
    )

under_written : (head : Header) (words : List Piece) (formula : Formula) → walk_under head (tokens_of words) ≡ accepted formula
    → WrittenFormula formula
unfolding walk_under
under_written malformed words formula h = let z : ◌≡◌ {A = ℕ} 0 1 = cc in absurd (omega arith)
under_written (header variables clauses) words formula h =
    let inside = not_refused (outside variables clauses) 3 (walk variables clauses [] [] (tokens_of words)) formula h in
    let limits = inside_limits variables clauses inside.0 in
    walk_written variables clauses (tokens_of words) limits.0 limits.1 limits.2 [] [] formula (tokens_real words)
    (within_none variables) inside.1

pub lines_written : (lines : List Piece) (formula : Formula) → walk_lines lines ≡ accepted formula → WrittenFormula formula
unfolding walk_lines
lines_written [] formula h = let z : ◌≡◌ {A = ℕ} 0 1 = cc in absurd (omega arith)
lines_written (line ∷ lines) formula h = under_written (header_of line) (body_of lines) formula h

-- A whole text: the limits of the header, and the book numbers of the clauses read.
use Prim.Native.Nat.{ℕ, suc, ◌+◌, ◌≤◌, ◌<◌}
use mathlib.Core.Path.{◌≡◌, ap, sym, ◌∙◌}
use mathlib.Core.Bool.{true, false, or-true}
use mathlib.Core.List.{List, [], ◌∷◌, append-nil}
use native.Mathlib.Omega.{arith}
use borrow.Author.Tests.{eq-eqb, ne_eqb, lt-ltb, le-ltb}
use lib.ListN.{length, take, drop, set}
use lib.Seq.{take-add}
use Rattle.base.specs.Lists.{flat}
use Rattle.book.specs.Formula.{max_variables, max_clauses}
use Rattle.book.specs.Numbers.{starts, numbers_of}
use Rattle.book.specs.Text.{Token, lines_of, header}
use Rattle.book.specs.Faults.{outside}
use Rattle.book.specs.Reading.{refused}
use Rattle.book.specs.Inner.Walk.{walk, walk_under, walk_start, walk_lines}
use Rattle.book.specs.Inner.Cursor.{LineStart}
use Rattle.book.specs.Inner.Body.{Written}
use Rattle.book.proofs.NumberLaws.{length_numbers}
use Rattle.book.proofs.WordLaws.{walk_lines_lem}

-- the answer to a text is the answer at its first line that is not skipped
pub text_start : (text : List ℕ) (at : ℕ) → LineStart text 0 at → walk_lines (lines_of text) ≡ walk_start at (drop at text)
text_start text at l = walk_lines_lem text ∙ l.same_walk

module _ (variables clauses : ℕ) where
  pub outside_none : variables ≡ 0 → outside variables clauses ≡ true
  unfolding outside
  outside_none e = rw (eq-eqb variables 0 e)

  pub outside_variables : max_variables < variables → outside variables clauses ≡ true
  unfolding outside
  outside_variables h = rw (lt-ltb max_variables variables h, or-true)

  pub outside_clauses : max_clauses < clauses → outside variables clauses ≡ true
  unfolding outside
  outside_clauses h = rw (lt-ltb max_clauses clauses h, or-true, or-true)

  pub within_limits : (variables ≡ 0 → ⊥) → variables ≤ max_variables → clauses ≤ max_clauses → outside variables clauses ≡ false
  unfolding outside
  within_limits n v c = rw (ne_eqb variables 0 n, le-ltb max_variables variables v, le-ltb max_clauses clauses c)

  pub header_refused : (tokens : List Token) → outside variables clauses ≡ true → walk_under (header variables clauses) tokens ≡ refused 3
  unfolding walk_under
  header_refused tokens e = rw e

  pub header_taken : (tokens : List Token) → outside variables clauses ≡ false → walk_under (header variables clauses) tokens ≡ walk variables clauses [] [] tokens
  unfolding walk_under
  header_taken tokens e = rw e

-- with V, C and L before them, the starts and literals written are the book numbers
written_front : (numbers : List ℕ) (variables clauses total : ℕ) (done : List (List ℕ)) → Written numbers clauses done [] → length done ≡ clauses → length (flat done) ≡ total
    → take (clauses + total + 4) (set (set (set numbers 0 variables) 1 clauses) 2 total) ≡ numbers_of (record { variables = variables; clauses = done })
unfolding numbers_of
written_front [] variables clauses total done w c t = absurd (omega (arith, w.long))
written_front (n₀ ∷ []) variables clauses total done w c t = absurd (omega (arith, w.long))
written_front (n₀ ∷ n₁ ∷ []) variables clauses total done w c t = absurd (omega (arith, w.long))
written_front (n₀ ∷ n₁ ∷ n₂ ∷ rest) variables clauses total done w c t =
    let count : clauses + total + 4 ≡ suc (suc (suc (suc clauses + total))) = omega arith in
    let place : clauses + 4 ≡ suc (suc (suc (suc clauses))) = omega arith in
    let heads : take (suc clauses) rest ≡ starts 0 done = ap (λ (n : ℕ). take (suc n) rest) (sym c) ∙ w.starts_written in
    let tails : take total (drop (suc clauses) rest) ≡ flat done
    = ap (λ (n : ℕ). take n (drop (suc clauses) rest)) (sym (ap length (append-nil (flat done)) ∙ t))
    ∙ (rw place at w.literals_written)
    ∙ append-nil (flat done) in
    rw (count, take-add (suc clauses) total rest, heads, tails, c, t)

-- the same where V and C are stored as they were read
pub stored_front : (numbers : List ℕ) (v c w d total : ℕ) (done : List (List ℕ)) → w ≡ v → d ≡ c → Written numbers d done [] → length done ≡ d → length (flat done) ≡ total
    → take (length (numbers_of (record { variables = w; clauses = done }))) (set (set (set numbers 0 v) 1 c) 2 total)
    ≡ numbers_of (record { variables = w; clauses = done })
stored_front numbers v c w d total done same_variables same_clauses written counted all =
    rw (length_numbers (record { variables = w; clauses = done }), counted, all, ← same_variables, ← same_clauses)
    (written_front numbers w d total done written counted all)

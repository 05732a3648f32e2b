-- The walk over the tokens of clauses within the limits, as written, accepts the formula of these clauses.
use Prim.Native.Nat.{ℕ, suc, ◌+◌, ◌≤◌, ◌<◌}
use native.Mathlib.Omega.{arith}
use mathlib.Core.Path.{◌≡◌, refl, sym, ap, ◌∙◌}
use mathlib.Core.Bool.{true, and-false}
use mathlib.Core.List.{List, [], ◌∷◌, ◌++◌, append_assoc, append-nil}
use lib.ListN.{length, length-append}
use borrow.Author.Tests.{le-ltb, lt-leb, eq-eqb, ne_eqb}
use Rattle.base.specs.Lists.{all, flat, empty}
use Rattle.base.proofs.Bools.{and_parts}
use Rattle.base.proofs.Lists.{all_middle, flat_more, empty-false}
use Rattle.book.specs.Formula.{variable_of, max_literals, max_clause, literal_within}
use Rattle.book.specs.Text.{Token, literal, close}
use Rattle.book.specs.Reading.{accepted}
use Rattle.book.specs.Inner.Walk.{walk}
use Rattle.book.proofs.SoundLaws.{literal_parts}
use Rattle.book.proofs.WrittenLaws.{written_clause, WrittenParts, written_parts}

-- the tokens of a clause, before others, and of clauses
unfoldable pub clause_tokens : List ℕ → List Token → List Token
clause_tokens [] tokens = close ∷ tokens
clause_tokens (l ∷ ls) tokens = literal l ∷ clause_tokens ls tokens

unfoldable pub tokens_for : List (List ℕ) → List Token
tokens_for [] = []
tokens_for (clause ∷ clauses) = clause_tokens clause (tokens_for clauses)

module _ (variables clauses : ℕ) (done : List (List ℕ)) (left : length done < clauses) (tokens : List Token) where
  -- one clause, of which the literals `current` are passed
  clause_walk : (current ls whole : List ℕ) → current ++ ls ≡ whole → WrittenParts variables whole
      → length (flat done) + length whole ≤ max_literals
      → walk variables clauses done current (clause_tokens ls tokens) ≡ walk variables clauses (done ++ (whole ∷ [])) [] tokens
  unfolding walk clause_tokens
  clause_walk current [] whole e p few =
      let same : current ≡ whole = sym (append-nil current) ∙ e in
      rw (same, empty-false whole p.filled)
  clause_walk current (l ∷ ls) whole e p few =
      let size : length current + suc (length ls) ≡ length whole = sym (length-append current (l ∷ ls)) ∙ ap length e in
      let limits = literal_parts variables l (all_middle (literal_within variables) current l ls (rw (← e) at p.within)) in
      let short = p.short in
      rw (
        le-ltb variables (variable_of l) (omega arith),
        ne_eqb (length current) max_clause (λ z. omega arith),
        lt-leb clauses (length done) left,
        and-false,
        ne_eqb (length (flat done) + length current) max_literals (λ z. omega arith),
      )
      (clause_walk (current ++ (l ∷ [])) ls whole (append_assoc current (l ∷ []) ls ∙ e) p few)

all_done : (variables clauses : ℕ) (done : List (List ℕ)) → length done ≡ clauses
    → walk variables clauses done [] [] ≡ accepted (record { variables = variables; clauses = done })
unfolding walk empty
all_done variables clauses done e = rw (eq-eqb (length done) clauses e)

flat-length : (clause : List ℕ) (rest : List (List ℕ)) → length (flat (clause ∷ rest)) ≡ length clause + length (flat rest)
unfolding flat
flat-length clause rest = length-append clause (flat rest)

pub clauses_walk : (variables clauses : ℕ) (done rest : List (List ℕ)) → length done + length rest ≡ clauses
    → all (written_clause variables) rest ≡ true
    → length (flat done) + length (flat rest) ≤ max_literals
    → walk variables clauses done [] (tokens_for rest) ≡ accepted (record { variables = variables; clauses = done ++ rest })
unfolding tokens_for all
clauses_walk variables clauses done [] e h few = rw append-nil (all_done variables clauses done (omega arith))
clauses_walk variables clauses done (clause ∷ rest) e h few =
    let parts = and_parts (written_clause variables clause) (all (written_clause variables) rest) h in
    let size : length (flat (clause ∷ rest)) ≡ length clause + length (flat rest) = flat-length clause rest in
    clause_walk variables clauses done (omega arith) (tokens_for rest) [] clause clause refl (written_parts variables clause parts.0)
    (omega arith)
    ∙ clauses_walk variables clauses (done ++ (clause ∷ [])) rest (rw length-append (omega arith)) parts.1
    (rw (flat_more, length-append) (omega arith))
    ∙ rw append_assoc

-- The clauses of the text as the reader's loop meets them: faults of a literal, the walk, the numbers written.
use Prim.Native.Nat.{ℕ, suc, ◌+◌, ◌≤◌, ◌<◌}
use mathlib.Core.Path.{◌≡◌, refl, ap, sym, ◌∙◌}
use mathlib.Core.Bool.{Bool, true, false, cond, ◌&&◌, and-false}
use mathlib.Core.List.{List, [], ◌∷◌, ◌++◌, append-nil, append_assoc}
use native.Mathlib.Omega.{arith}
use borrow.Author.Tests.{ltb-false, eq-eqb, ne_eqb}
use lib.Dec.{leb, ltb, eqb}
use lib.ListN.{length, take, drop, set, length-set, length-append, length-drop}
use lib.Seq.{drop-set-add, drop-set-lt, drop-append-le, take_at, take-suc-set, take-take, length-take-le}
use Rattle.std.specs.Prelude.{Result, Ok, Err}
use Rattle.refusals.specs.declared.Refusal.{Refusal}
use Rattle.refusals.specs.declared.Refusal.TheVariants.{LargeVariable, ClauseLength, ClauseCount, LiteralCount}
use Rattle.refusals.specs.Refusals.{number_of}
use Rattle.base.specs.Lists.{flat}
use Rattle.base.proofs.Lists.{length_more, flat_more, empty_test, take-drop}
use Rattle.book.specs.Formula.{variable_of, max_clause, max_literals, max_book, max_clauses}
use Rattle.book.specs.Numbers.{starts}
use Rattle.book.specs.Text.{Token, literal, close, invalid}
use Rattle.book.specs.Reading.{Judged, refused, accepted}
use Rattle.book.specs.Inner.Walk.{walk}
use Rattle.book.specs.Inner.Body.{Written, literal_fault}

-- the faults of a literal against the answers
same_refusal : {r q : Refusal} → ◌≡◌ {A = Result (Unit {0}) Refusal} (Err r) (Err q) → r ≡ q
same_refusal e = cc

chain : (over long surplus many : Bool) (rest : Judged) (r : Refusal)
    → cond over (Err LargeVariable) (cond long (Err ClauseLength) (cond surplus (Err ClauseCount) (cond many (Err LiteralCount) (Ok (tt {0}))))) ≡ Err r
    → cond over (refused 5) (cond long (refused 6) (cond surplus (refused 8) (cond many (refused 9) rest))) ≡ refused (number_of r)
chain true long surplus many rest r e = ap (λ (r : Refusal). refused (number_of r)) (same_refusal e)
chain false true surplus many rest r e = ap (λ (r : Refusal). refused (number_of r)) (same_refusal e)
chain false false true many rest r e = ap (λ (r : Refusal). refused (number_of r)) (same_refusal e)
chain false false false true rest r e = ap (λ (r : Refusal). refused (number_of r)) (same_refusal e)
chain false false false false rest r e = let no : ⊥ = cc in absurd no

chain_through : (over long surplus many : Bool) (rest : Judged)
    → cond over (Err LargeVariable) (cond long (Err ClauseLength) (cond surplus (Err ClauseCount) (cond many (Err LiteralCount) (Ok (tt {0}))))) ≡ Ok tt
    → (over ≡ false) × (long ≡ false) × (surplus ≡ false) × (many ≡ false)
    × (cond over (refused 5) (cond long (refused 6) (cond surplus (refused 8) (cond many (refused 9) rest))) ≡ rest)
chain_through true long surplus many rest e = let no : ⊥ = cc in absurd no
chain_through false true surplus many rest e = let no : ⊥ = cc in absurd no
chain_through false false true many rest e = let no : ⊥ = cc in absurd no
chain_through false false false true rest e = let no : ⊥ = cc in absurd no
chain_through false false false false rest e = (refl, refl, refl, refl, refl)

-- one token of the walk
module _ (variables clauses : ℕ) (done : List (List ℕ)) (current : List ℕ) where
  -- the first fault of a literal here
  abbrev pub fault_here : ℕ → Result (Unit {0}) Refusal
  fault_here l = literal_fault variables clauses (length done) (length current) (length (flat done) + length current) l

  pub walk_invalid : (tokens : List Token) → walk variables clauses done current (invalid ∷ tokens) ≡ refused 4
  unfolding walk
  walk_invalid tokens = refl

  pub walk_short : (tokens : List Token) → length current ≡ 0 → walk variables clauses done current (close ∷ tokens) ≡ refused 6
  unfolding walk
  walk_short tokens e = rw (empty_test current, eq-eqb (length current) 0 e)

  pub walk_close : (tokens : List Token) → (length current ≡ 0 → ⊥)
      → walk variables clauses done current (close ∷ tokens) ≡ walk variables clauses (done ++ (current ∷ [])) [] tokens
  unfolding walk
  walk_close tokens n = rw (empty_test current, ne_eqb (length current) 0 n)

  pub walk_fault : (l : ℕ) (tokens : List Token) (r : Refusal) → fault_here l ≡ Err r → walk variables clauses done current (literal l ∷ tokens) ≡ refused (number_of r)
  unfolding walk literal_fault
  walk_fault l tokens r e =
      rw (empty_test current)
      (chain (ltb variables (variable_of l)) (eqb (length current) max_clause) (eqb (length current) 0 && leb clauses (length done))
      (eqb (length (flat done) + length current) max_literals)
      (walk variables clauses done (current ++ (l ∷ [])) tokens) r e)

  pub walk_literal : (l : ℕ) (tokens : List Token) → fault_here l ≡ Ok tt
      → walk variables clauses done current (literal l ∷ tokens) ≡ walk variables clauses done (current ++ (l ∷ [])) tokens
  unfolding walk literal_fault
  walk_literal l tokens e =
      rw (empty_test current)
      (chain_through (ltb variables (variable_of l)) (eqb (length current) max_clause) (eqb (length current) 0 && leb clauses (length done))
      (eqb (length (flat done) + length current) max_literals)
      (walk variables clauses done (current ++ (l ∷ [])) tokens) e).4

  -- what a literal without a fault keeps
  pub literal_taken : (l : ℕ) → fault_here l ≡ Ok tt
      → (variable_of l ≤ variables) × (eqb (length current) max_clause ≡ false) × ((eqb (length current) 0 && leb clauses (length done)) ≡ false)
      × (eqb (length (flat done) + length current) max_literals ≡ false)
  unfolding literal_fault
  literal_taken l e =
      let facts =
      chain_through (ltb variables (variable_of l)) (eqb (length current) max_clause) (eqb (length current) 0 && leb clauses (length done))
      (eqb (length (flat done) + length current) max_literals)
      (refused 0) e in
      (ltb-false variables (variable_of l) facts.0, facts.1, facts.2, facts.3)

  pub walk_open : (length current ≡ 0 → ⊥) → walk variables clauses done current [] ≡ refused 8
  unfolding walk
  walk_open n = rw (empty_test current, ne_eqb (length current) 0 n)

  pub walk_few : (length done ≡ clauses → ⊥) → walk variables clauses done current [] ≡ refused 8
  unfolding walk
  walk_few n = rw (ne_eqb (length done) clauses n, and-false)

  pub walk_all : length current ≡ 0 → length done ≡ clauses → walk variables clauses done current [] ≡ accepted (record { variables = variables; clauses = done })
  unfolding walk
  walk_all e h = rw (empty_test current, eq-eqb (length current) 0 e, eq-eqb (length done) clauses h)

starts_more : (from : ℕ) (done : List (List ℕ)) (current : List ℕ)
    → starts from (done ++ (current ∷ [])) ≡ starts from done ++ ((from + length (flat done ++ current)) ∷ [])
unfolding starts flat
starts_more from [] current = refl
starts_more from (clause ∷ done) current =
    let long : from + length clause + length (flat done ++ current) ≡ from + length ((clause ++ flat done) ++ current)
    = rw (append_assoc clause (flat done) current, length-append clause (flat done ++ current)) (omega arith) in
    ap (λ (xs : List ℕ). from ∷ xs) (starts_more (from + length clause) done current ∙ ap (λ (n : ℕ). starts (from + length clause) done ++ (n ∷ [])) long)

-- the numbers after the end of a clause is stored
module _ (numbers : List ℕ) (clauses : ℕ) (done : List (List ℕ)) (current : List ℕ) (few : clauses ≤ max_clauses) (w : Written numbers clauses done current) where
  pub written_close : (total : ℕ) → total ≡ length (flat done ++ current) → length done < clauses
      → Written (set numbers (3 + (length done + 1)) total) clauses (done ++ (current ∷ [])) []
  written_close total e h =
      let place : length done + 1 ≡ suc (length done) = omega arith in
      let room : suc (length done) < length (drop 3 numbers) = rw (length-drop 3 numbers) (omega (arith, w.long)) in
      let none : flat (done ++ (current ∷ [])) ++ [] ≡ flat done ++ current = append-nil (flat (done ++ (current ∷ []))) ∙ flat_more done current in
      record {
        long = length-set numbers (3 + (length done + 1)) total ∙ w.long;
        starts_written =
            rw (length_more done current, place, drop-set-add 3 numbers (suc (length done)) total, take-suc-set (drop 3 numbers) (suc (length done)) total room, w.starts_written, e)
            (sym (starts_more 0 done current ∙ ap (λ (n : ℕ). starts 0 done ++ (n ∷ [])) (omega arith)));
        literals_written =
            ap (λ (xs : List ℕ). take (length xs) (drop (clauses + 4) (set numbers (3 + (length done + 1)) total))) none
            ∙ ap (take (length (flat done ++ current))) (drop-set-lt (clauses + 4) numbers (3 + (length done + 1)) total (omega arith))
            ∙ w.literals_written
            ∙ sym none;
      }

pub written_none : (numbers : List ℕ) (clauses : ℕ) → length numbers ≡ max_book → Written (set numbers 3 0) clauses [] []
unfolding starts flat
written_none numbers clauses long =
    let room : 0 < length (drop 3 numbers) = rw (length-drop 3 numbers) (omega arith) in
    record {
      long = length-set numbers 3 0 ∙ long;
      starts_written = ap (take 1) (drop-set-add 3 numbers 0 0) ∙ take-suc-set (drop 3 numbers) 0 0 room;
      literals_written = refl;
    }

-- the numbers after a whole clause is written behind the literals: up to `at` they are the same, then the clause follows
pub written_clause_lem : (numbers later : List ℕ) (clauses : ℕ) (done : List (List ℕ)) (clause : List ℕ) (at r : ℕ)
    → Written numbers clauses done [] → length done ≤ clauses → at ≡ clauses + 4 + length (flat done) → at ≤ max_book → r ≡ at + length clause
    → length later ≡ max_book → take r later ≡ take at numbers ++ clause → Written later clauses done clause
written_clause_lem numbers later clauses done clause at r w few begins small ends long e =
    record {
      long = long;
      starts_written =
          take-drop (suc (length done)) 3 later
          ∙ ap (drop 3) (before (3 + suc (length done)) (omega arith))
          ∙ sym (take-drop (suc (length done)) 3 numbers)
          ∙ w.starts_written;
      literals_written =
          take-drop (length (flat done ++ clause)) (clauses + 4) later
          ∙ ap (λ (n : ℕ). drop (clauses + 4) (take n later)) whole
          ∙ ap (drop (clauses + 4)) e
          ∙ drop-append-le (clauses + 4) (take at numbers) clause (omega (arith, front_long))
          ∙ ap (λ (xs : List ℕ). xs ++ clause) literals;
    }
  where
    front_long : length (take at numbers) ≡ at
    front_long = length-take-le at numbers (omega (arith, w.long))

    whole : clauses + 4 + length (flat done ++ clause) ≡ r
    whole = rw (length-append (flat done) clause) (omega arith)

    before : (n : ℕ) → n ≤ at → take n later ≡ take n numbers
    before n h =
        sym (take-take n r later (omega arith))
        ∙ ap (take n) e
        ∙ sym (take-take n at (take at numbers ++ clause) h)
        ∙ ap (take n) (take_at (take at numbers) clause at front_long)
        ∙ take-take n at numbers h

    literals : drop (clauses + 4) (take at numbers) ≡ flat done
    literals =
        ap (λ (n : ℕ). drop (clauses + 4) (take n numbers)) begins
        ∙ sym (take-drop (length (flat done)) (clauses + 4) numbers)
        ∙ (rw append-nil at w.literals_written)

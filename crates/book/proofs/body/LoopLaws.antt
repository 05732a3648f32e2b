-- The state of the reader's loop over the clauses, and what each token makes of it.
use Prim.Native.Nat.{ℕ, ◌+◌, ◌-◌, ◌≤◌, ◌<◌}
use mathlib.Core.Path.{◌≡◌, refl, ap, sym, ◌∙◌}
use mathlib.Core.Logic.{⊎_elim}
use mathlib.Core.Bool.{Bool, true, false, ◌&&◌}
use mathlib.Core.List.{List, [], ◌∷◌, ◌++◌, map, map-append}
use native.Mathlib.Omega.{arith}
use native.Mathlib.Numerals.{add-one}
use borrow.Author.Tests.{le-leb, eqb-false, leb-false}
use lib.Dec.{leb, eqb}
use lib.ListN.{length, set, take, replicate, length-set, length-append, length-map, length-replicate}
use lib.Seq.{take-suc-set, length-take-le}
use Rattle.base.specs.Lists.{all, flat}
use Rattle.base.proofs.Lists.{all_more, length_more, flat_more, flat_shorter}
use Rattle.base.proofs.ForAll.{all_places}
use Rattle.book.specs.Formula.{variable_of, max_clause, max_literals, max_book, max_clauses, max_variables}
use Rattle.book.specs.Text.{Token, literal, close, invalid, token_of}
use Rattle.book.specs.Reading.{as_read, refused}
use Rattle.book.specs.Inner.Walk.{walk}
use Rattle.book.specs.Inner.Cursor.{tokens_here, NextWord, NoWord}
use Rattle.book.specs.Inner.Marks.{Bounded, Marked, variable_marks}
use Rattle.book.specs.Inner.Body.{Written, literal_fault, EndSays, BodySays}
use Rattle.std.specs.Prelude.{Result, Ok, Err}
use Rattle.refusals.specs.declared.Refusal.{Refusal}
use Rattle.refusals.specs.declared.Refusal.TheVariants.{Word, ClauseLength}
use Rattle.refusals.specs.Refusals.{number_of}
use Rattle.book.proofs.AsReadLaws.{as_read_short}
use Rattle.book.proofs.marks.Laws.{bounded_fresh, marked_none}
use Rattle.book.proofs.body.Laws.{fault_here, walk_invalid, walk_short, walk_close, walk_fault, walk_literal, literal_taken, walk_open, walk_few, walk_all, written_none, written_close, written_clause_lem}

-- a step over a word, by the token that the word is
pub token_next : {text : List ℕ} {at next : ℕ} {token : Token} (word : List ℕ) → token ≡ token_of word → NextWord text at (token_of word) next
    → NextWord text at token next
token_next word e n = record { ahead = n.ahead; within = n.within; tokens = rw e n.tokens }

-- the variable of every literal has a mark
abbrev pub Markable : List ℕ → Type 0
Markable ls = all (λ (l : ℕ). leb (variable_of l) max_variables) ls ≡ true

-- `at`: the place of the next word; `closed` clauses are closed and written as read up to `end`; the open one has `opened` literals, in `current`;
-- `total` literals in all as written. The rest of the text decides.
pub record ClausesSoFar (text : List ℕ) (start variables clauses : ℕ) (numbers marks current : List ℕ) (at closed opened total end : ℕ) : Type 0 where
  pub done : List (List ℕ)
  pub closed_is : length done ≡ closed
  pub total_is : length (flat done) + opened ≡ total
  pub end_is : end ≡ clauses + 4 + length (flat (map as_read done))
  pub within : at ≤ length text
  pub closed_within : closed ≤ clauses
  pub open_within : 0 < opened → closed < clauses
  pub opened_within : opened ≤ max_clause
  pub total_within : total ≤ max_literals
  pub current_long : length current ≡ max_clause
  pub markable : Markable (take opened current)
  pub bounded : Bounded marks closed
  pub written : Written numbers clauses (map as_read done) []
  pub same_walk : walk variables clauses done (take opened current) (tokens_here text at) ≡ walk variables clauses [] [] (tokens_here text start)

pub so_far_start : (text : List ℕ) (start variables clauses : ℕ) (numbers : List ℕ) → start ≤ length text → length numbers ≡ max_book
    → ClausesSoFar text start variables clauses (set numbers 3 0) (replicate variable_marks 0) (replicate max_clause 0) start 0 0 0 (clauses + 4)
unfolding flat all
so_far_start text start variables clauses numbers h long =
    record {
      done = [];
      closed_is = refl;
      total_is = omega arith;
      end_is = omega arith;
      within = h;
      closed_within = omega arith;
      open_within = λ o. absurd (omega arith);
      opened_within = omega arith;
      total_within = omega arith;
      current_long = length-replicate {A = ℕ} max_clause 0;
      markable = refl;
      bounded = bounded_fresh;
      written = written_none numbers clauses long;
      same_walk = refl;
    }

module _ {text : List ℕ} {start variables clauses : ℕ} {numbers marks current : List ℕ} {at closed opened total end : ℕ}
    (g : ClausesSoFar text start variables clauses numbers marks current at closed opened total end) where
  -- the open clause
  abbrev pub clause : List ℕ
  clause = take opened current

  pub opened_is : length clause ≡ opened
  opened_is = length-take-le opened current (omega (arith, g.opened_within, g.current_long))

  -- no more literals are kept than were written
  kept_few : length (flat (map as_read g.done)) ≤ length (flat g.done)
  kept_few = flat_shorter (λ (ls : List ℕ). true) as_read (λ ls h. as_read_short ls) g.done (all_places (λ (ls : List ℕ). true) g.done [] (λ i h. refl))

  pub end_within : clauses ≤ max_clauses → (clauses + 4 ≤ end) × (end + length clause ≤ max_book)
  end_within few = (omega (arith, g.end_is), omega (arith, g.end_is, kept_few, g.total_is, g.total_within, opened_is))

  pub next_unmarked : Marked marks (closed + 1) []
  next_unmarked = marked_none marks closed (closed + 1) (omega arith) g.bounded

  -- what the walk says of the token here, it says of the text
  here : (tokens : List Token) → tokens_here text at ≡ tokens
      → walk variables clauses [] [] (tokens_here text start) ≡ walk variables clauses g.done clause tokens
  here tokens e = sym g.same_walk ∙ ap (walk variables clauses g.done clause) e

  pub so_far_invalid : (next : ℕ) → NextWord text at invalid next → walk variables clauses [] [] (tokens_here text start) ≡ refused (number_of Word)
  so_far_invalid next w = here (invalid ∷ tokens_here text next) w.tokens ∙ walk_invalid variables clauses g.done clause (tokens_here text next)

  so_far_open : (next : ℕ) → NoWord text at next → (opened ≡ 0 → ⊥) → walk variables clauses [] [] (tokens_here text start) ≡ refused 8
  so_far_open next w n = here [] w.tokens ∙ walk_open variables clauses g.done clause (λ z. n (sym opened_is ∙ z))

  so_far_few : (next : ℕ) → NoWord text at next → (closed ≡ clauses → ⊥) → walk variables clauses [] [] (tokens_here text start) ≡ refused 8
  so_far_few next w n = here [] w.tokens ∙ walk_few variables clauses g.done clause (λ z. n (sym g.closed_is ∙ z))

  pub so_far_short : (next : ℕ) → NextWord text at close next → opened ≡ 0 → walk variables clauses [] [] (tokens_here text start) ≡ refused (number_of ClauseLength)
  so_far_short next w e =
      here (close ∷ tokens_here text next) w.tokens ∙ walk_short variables clauses g.done clause (tokens_here text next) (opened_is ∙ e)

  so_far_all : (next : ℕ) → NoWord text at next → (literals : ℕ) → opened ≡ 0 → closed ≡ clauses → end ≡ clauses + 4 + literals
      → BodySays text start variables clauses numbers (Ok literals)
  so_far_all next w literals h k e = (
    g.done,
    here [] w.tokens ∙ walk_all variables clauses g.done clause (opened_is ∙ h) (g.closed_is ∙ k),
    g.closed_is ∙ k,
    omega (arith, g.end_is),
    g.written,
  )

  -- what is said where the text ends, it says of the text
  pub so_far_end : (next : ℕ) → NoWord text at next → (r : Result ℕ Refusal) → EndSays clauses closed opened end r → BodySays text start variables clauses numbers r
  so_far_end next w (Err refusal) (e, n) = ⊎_elim (so_far_open next w) (so_far_few next w) n ∙ ap (λ (r : Refusal). refused (number_of r)) (sym e)
  so_far_end next w (Ok literals) (h, k, e) = so_far_all next w literals h k e

  -- the open clause is put as read up to r, and its end is stored
  pub so_far_close : (next : ℕ) → clauses ≤ max_clauses → NextWord text at close next → (opened ≡ 0 → ⊥) → (later after : List ℕ) (r : ℕ)
      → r ≡ end + length (as_read clause) → take r later ≡ take end numbers ++ as_read clause → length later ≡ max_book → Bounded after (closed + 1)
      → ClausesSoFar text start variables clauses (set later (3 + (closed + 1)) (r - (clauses + 4))) after current next (closed + 1) 0 total r
  unfolding flat all
  so_far_close next few w n later after r ends put long below =
      let kept : List (List ℕ) = map as_read g.done in
      let counted : length kept ≡ closed = length-map g.done as_read ∙ g.closed_is in
      let room : closed < clauses = g.open_within (omega (arith, n)) in
      let grown : map as_read (g.done ++ (clause ∷ [])) ≡ kept ++ (as_read clause ∷ []) = map-append as_read g.done (clause ∷ []) in
      let literals : r - (clauses + 4) ≡ length (flat kept ++ as_read clause)
      = rw (length-append (flat kept) (as_read clause)) (omega (arith, g.end_is)) in
      let put-open : Written later clauses kept (as_read clause)
      = written_clause_lem numbers later clauses kept (as_read clause) end r g.written (omega arith) g.end_is (omega (arith, end_within few)) ends long put in
      let store : Written (set later (3 + (length kept + 1)) (r - (clauses + 4))) clauses (kept ++ (as_read clause ∷ [])) []
      = written_close later clauses kept (as_read clause) few put-open (r - (clauses + 4)) literals (omega arith) in
      record {
        done = g.done ++ (clause ∷ []);
        closed_is = length_more g.done clause ∙ omega (arith, g.closed_is);
        total_is = omega (arith, ap length (flat_more g.done clause), length-append (flat g.done) clause, opened_is, g.total_is);
        end_is =
            omega (arith, g.end_is, ap (λ (cs : List (List ℕ)). length (flat cs)) grown, ap length (flat_more kept (as_read clause)), length-append (flat kept) (as_read clause));
        within = w.within;
        closed_within = omega arith;
        open_within = λ o. absurd (omega arith);
        opened_within = omega arith;
        total_within = g.total_within;
        current_long = g.current_long;
        markable = refl;
        bounded = below;
        written = rw (grown, ← counted) store;
        same_walk =
            sym (here (close ∷ tokens_here text next) w.tokens ∙ walk_close variables clauses g.done clause (tokens_here text next) (λ z. n (sym opened_is ∙ z)));
      }

  module _ (l : ℕ) where
    -- the tests of the code are those of the walk
    fault_same : fault_here variables clauses g.done clause l ≡ literal_fault variables clauses closed opened total l
    fault_same = rw (opened_is, g.total_is, g.closed_is)

    pub so_far_fault : (r : Refusal) → Err r ≡ literal_fault variables clauses closed opened total l → (next : ℕ) → NextWord text at (literal l) next
        → walk variables clauses [] [] (tokens_here text start) ≡ refused (number_of r)
    so_far_fault r e next w =
        here (literal l ∷ tokens_here text next) w.tokens
        ∙ walk_fault variables clauses g.done clause l (tokens_here text next) r (fault_same ∙ sym e)

    module _ (taken : Ok tt ≡ literal_fault variables clauses closed opened total l) where
      facts : (variable_of l ≤ variables) × (eqb (length clause) max_clause ≡ false) × ((eqb (length clause) 0 && leb clauses (length g.done)) ≡ false)
          × (eqb (length (flat g.done) + length clause) max_literals ≡ false)
      facts = literal_taken variables clauses g.done clause l (fault_same ∙ sym taken)

      pub opened_below : opened < max_clause
      opened_below = omega (arith, g.opened_within, opened_is, eqb-false (length clause) max_clause facts.1)

      total-below : total < max_literals
      total-below = omega (arith, g.total_within, g.total_is, opened_is, eqb-false (length (flat g.done) + length clause) max_literals facts.3)

      -- the clause that the literal stands in is one of the formula's
      room : closed < clauses
      room = go (eqb (length clause) 0) refl facts.2
        where
          go : (b : Bool) → eqb (length clause) 0 ≡ b → (b && leb clauses (length g.done)) ≡ false → closed < clauses
          go true e h = omega (arith, g.closed_is, leb-false clauses (length g.done) h)
          go false e h = g.open_within (omega (arith, opened_is, eqb-false (length clause) 0 e))

      pub so_far_literal : (next : ℕ) → variables ≤ max_variables → NextWord text at (literal l) next
          → ClausesSoFar text start variables clauses numbers marks (set current opened l) next closed (opened + 1) (total + 1) end
      so_far_literal next small w =
          let grown : take (opened + 1) (set current opened l) ≡ clause ++ (l ∷ [])
          = ap (λ (n : ℕ). take n (set current opened l)) (add-one opened) ∙ take-suc-set current opened l (omega (arith, opened_below, g.current_long)) in
          record {
            done = g.done;
            closed_is = g.closed_is;
            total_is = omega (arith, g.total_is);
            end_is = g.end_is;
            within = w.within;
            closed_within = g.closed_within;
            open_within = λ o. room;
            opened_within = omega (arith, opened_below);
            total_within = omega (arith, total-below);
            current_long = length-set current opened l ∙ g.current_long;
            markable = rw (grown, all_more, g.markable) (le-leb (variable_of l) max_variables (omega (arith, facts)));
            bounded = g.bounded;
            written = g.written;
            same_walk =
                rw grown
                (sym
                (here (literal l ∷ tokens_here text next) w.tokens
                ∙ walk_literal variables clauses g.done clause l (tokens_here text next) (fault_same ∙ sym taken)));
          }

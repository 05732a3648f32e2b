-- Reading a text is the walk over its lines: the walk answers with the least of all faults, or else with the formula as written, which is then read.
use Prim.Native.Nat.{ℕ, suc, ◌+◌}
use native.Mathlib.Omega.{arith}
use mathlib.Core.Option.{Option, none, some}
use mathlib.Core.Path.{◌≡◌, refl, ap, ◌∙◌}
use mathlib.Core.Bool.{Bool, true, false, cond, not, ◌&&◌, ◌||◌, false≢true}
use mathlib.Core.List.{List, [], ◌∷◌, ◌++◌, append_assoc, append-nil}
use lib.Dec.{leb, ltb, eqb}
use lib.ListN.{length, length-append}
use Rattle.base.specs.Lists.{keep, flat, empty, begins, until}
use Rattle.base.proofs.Bools.{and_parts}
use Rattle.base.proofs.Lists.{all_imply, flat_more, empty-length}
use Rattle.book.specs.Formula.{Formula}
use Rattle.book.specs.Text.{Piece, Token, literal, close, invalid, token_of, line_end, split, not_skipped, lines_of, Header, header, malformed, header_of}
use Rattle.book.specs.Faults.{Fault, opened, closed, written, not_number, over_variables, wrong_length, surplus, unfinished, over_literals, faults_from, outside, body_of, faults_under, faults_of}
use Rattle.book.specs.Reading.{max_text, before, least, onto, clauses_in, formula_under, formula_in, read_formula, Judged, refused, accepted, judged, read_text}
use Rattle.book.specs.Inner.Walk.{walk, tokens_of, walk_under, walk_lines, read_judged}
use Rattle.book.specs.Inner.Words.{others, words_behind}
use Rattle.book.proofs.WordLaws.{split_first, behind_end, behind_byte}
use Rattle.book.proofs.WordPlaces.{places_rise, Rises, rises}
use Rattle.book.proofs.LeastFault.{fault_at, least_fault, later_before, words_later, judged_cond, tests, at_word, one_fault}

-- the literals of the open clause put before the clauses that the rest writes
onto_all : List ℕ → List (List ℕ) → List (List ℕ)
onto_all [] clauses = clauses
onto_all (l ∷ ls) clauses = onto l (onto_all ls clauses)

onto_all_more : (ls : List ℕ) (l : ℕ) (clauses : List (List ℕ)) → onto_all (ls ++ (l ∷ [])) clauses ≡ onto_all ls (onto l clauses)
unfolding onto_all
onto_all_more [] l clauses = refl
onto_all_more (x ∷ ls) l clauses = ap (onto x) (onto_all_more ls l clauses)

onto_all_close : (ls : List ℕ) (clauses : List (List ℕ)) → onto_all ls ([] ∷ clauses) ≡ ls ∷ clauses
unfolding onto_all onto
onto_all_close [] clauses = refl
onto_all_close (x ∷ ls) clauses = rw (onto_all_close ls clauses)

-- what the words so far hold, the latest first, is what the walk holds
record HeldAlike (past : List Token) (done : List (List ℕ)) (current : List ℕ) : Type 0 where
  same_length : length (opened past) ≡ length current
  same_closed : closed past ≡ length done
  same_written : written past ≡ length (flat done) + length current

held_alike_none : HeldAlike [] [] []
unfolding opened closed written flat
held_alike_none = record { same_length = refl; same_closed = refl; same_written = omega arith }

held_alike_literal : (past : List Token) (done : List (List ℕ)) (current : List ℕ) (l : ℕ) → HeldAlike past done current
    → HeldAlike (literal l ∷ past) done (current ++ (l ∷ []))
unfolding opened closed written
held_alike_literal past done current l h = record {
  same_length = rw length-append (omega arith);
  same_closed = h.same_closed;
  same_written = rw length-append (omega arith);
}

held_alike_close : (past : List Token) (done : List (List ℕ)) (current : List ℕ) → HeldAlike past done current
    → HeldAlike (close ∷ past) (done ++ (current ∷ [])) []
unfolding opened closed written flat
held_alike_close past done current h = record {
  same_length = refl;
  same_closed = rw length-append (omega arith);
  same_written = rw (flat_more, length-append) (omega arith);
}

-- The answer of the faults from here on is the walk's, whatever stands before, if the formula is the one that the walk makes.
abbrev Agrees : ℕ → ℕ → ℕ → List Piece → Type 0
Agrees variables clauses end words =
    (past : List Token) (done : List (List ℕ)) (current : List ℕ) (from : ℕ) → HeldAlike past done current → places_rise from end words ≡ true
    → judged (least (faults_from variables clauses end past words))
    (record { variables = variables; clauses = done ++ onto_all current (clauses_in (tokens_of words)) })
    ≡ walk variables clauses done current (tokens_of words)

places_tail : (from end : ℕ) (word : Piece) (words : List Piece) → places_rise from end (word ∷ words) ≡ true
    → places_rise (suc word.place) end words ≡ true
unfolding places_rise
places_tail from end word words h = (and_parts (leb from word.place) (places_rise (suc word.place) end words) h).1

-- the tests at a word, by what the words before it hold, are the walk's
module _ (variables clauses : ℕ) (past : List Token) (done : List (List ℕ)) (current : List ℕ) (held : HeldAlike past done current)
    (tokens : List Token) (answer : Judged) where
  tests-literal : (l : ℕ) → answer ≡ walk variables clauses done (current ++ (l ∷ [])) tokens
      → tests variables clauses past (literal l) answer ≡ walk variables clauses done current (literal l ∷ tokens)
  unfolding not_number over_variables wrong_length surplus over_literals walk
  tests-literal l e =
      rw (
        empty-length (opened past) current held.same_length,
        held.same_length,
        held.same_closed,
        held.same_written,
        e,
      )

  tests_close : (ls : List ℕ) → current ≡ ls → answer ≡ walk variables clauses (done ++ (current ∷ [])) [] tokens
      → tests variables clauses past close answer ≡ walk variables clauses done current (close ∷ tokens)
  unfolding not_number over_variables wrong_length surplus over_literals walk empty
  tests_close [] i e = rw (empty-length (opened past) current held.same_length, i)
  tests_close (l ∷ ls) i e = rw (empty-length (opened past) current held.same_length, e, i)

  tests_end : (ls : List ℕ) → current ≡ ls
      → cond (unfinished clauses past) (refused 8) (accepted (record { variables = variables; clauses = done ++ onto_all current [] }))
      ≡ walk variables clauses done current []
  unfolding unfinished walk empty onto_all
  tests_end [] i = rw (empty-length (opened past) current held.same_length, held.same_closed, i, append-nil)
      (go (eqb (length done) clauses))
    where
      go : (b : Bool) → cond (not true || not b) (refused 8) (accepted (record { variables = variables; clauses = done }))
          ≡ cond (true && b) (accepted (record { variables = variables; clauses = done })) (refused 8)
      go true = refl
      go false = refl
  tests_end (l ∷ ls) i = rw (empty-length (opened past) current held.same_length, i)

  tests_invalid : tests variables clauses past invalid answer ≡ walk variables clauses done current (invalid ∷ tokens)
  unfolding not_number walk
  tests_invalid = refl

clauses_literal : (done : List (List ℕ)) (current : List ℕ) (l : ℕ) (tokens : List Token)
    → done ++ onto_all current (clauses_in (literal l ∷ tokens)) ≡ done ++ onto_all (current ++ (l ∷ [])) (clauses_in tokens)
unfolding clauses_in
clauses_literal done current l tokens = rw (onto_all_more current l (clauses_in tokens))

clauses_close : (done : List (List ℕ)) (current : List ℕ) (tokens : List Token)
    → done ++ onto_all current (clauses_in (close ∷ tokens)) ≡ (done ++ (current ∷ [])) ++ onto_all [] (clauses_in tokens)
unfolding clauses_in onto_all
clauses_close done current tokens = rw (onto_all_close current (clauses_in tokens), append_assoc)

agrees : (variables clauses end : ℕ) (words : List Piece) → Agrees variables clauses end words
unfolding faults_from tokens_of clauses_in
agrees variables clauses end [] past done current from held h =
    one_fault (unfinished clauses past) end 8 _ ∙ tests_end variables clauses past done current held [] (refused 8) current refl
agrees variables clauses end (word ∷ words) past done current from held h =
    at_word variables clauses past word.place (token_of word.bytes)
    (faults_from variables clauses end (token_of word.bytes ∷ past) words) _
    (words_later variables clauses end word.place (token_of word.bytes ∷ past) words tail)
    ∙ go (token_of word.bytes) (agrees variables clauses end words)
  where
    tail : places_rise (suc word.place) end words ≡ true
    tail = places_tail from end word words h

    go : (token : Token) → Agrees variables clauses end words
        → tests variables clauses past token (judged (least (faults_from variables clauses end (token ∷ past) words))
        (record { variables = variables; clauses = done ++ onto_all current (clauses_in (token ∷ tokens_of words)) }))
        ≡ walk variables clauses done current (token ∷ tokens_of words)
    go (literal l) ih =
        tests-literal variables clauses past done current held (tokens_of words) _ l
        (rw (clauses_literal done current l) (ih (literal l ∷ past) done (current ++ (l ∷ [])) (suc word.place)
        (held_alike_literal past done current l held) tail))
    go close ih =
        tests_close variables clauses past done current held (tokens_of words) _ current refl
        (rw (clauses_close done current) (ih (close ∷ past) (done ++ (current ∷ [])) [] (suc word.place)
        (held_alike_close past done current held) tail))
    go invalid ih = tests_invalid variables clauses past done current held (tokens_of words) _

-- the lines: the first one is the header
abbrev pub LinesAgree : ℕ → List Piece → Type 0
LinesAgree end lines = judged (least (faults_of end lines)) (formula_in lines) ≡ walk_lines lines

no_line : (end : ℕ) → LinesAgree end []
unfolding faults_of walk_lines
no_line end = one_fault true end 2 (formula_in [])

header_begins : (line : Piece) (variables clauses : ℕ) → header_of line ≡ header variables clauses → begins 112 line.bytes ≡ true
unfolding header_of
header_begins line variables clauses h = go (begins 112 line.bytes) refl
  where
    go : (b : Bool) → begins 112 line.bytes ≡ b → begins 112 line.bytes ≡ true
    go true e = e
    go false e = let i : malformed ≡ header variables clauses = rw e at h in let z : ◌≡◌ {A = ℕ} 0 1 = cc in absurd (omega arith)

no_header : (end p : ℕ) (words : List Piece)
    → judged (least (faults_under p malformed end words)) (formula_under malformed (tokens_of words)) ≡ walk_under malformed (tokens_of words)
unfolding faults_under walk_under
no_header end p words = one_fault true p 2 (formula_under malformed (tokens_of words))

under_header : (end p variables clauses : ℕ) (words : List Piece) → places_rise (suc p) end words ≡ true
    → judged (least (faults_under p (header variables clauses) end words)) (formula_under (header variables clauses) (tokens_of words))
    ≡ walk_under (header variables clauses) (tokens_of words)
unfolding faults_under formula_under walk_under onto_all
under_header end p variables clauses words h =
    rw (
      least_fault (outside variables clauses) p 3 (faults_from variables clauses end [] words)
          (all_imply (λ f. ltb p f.place) (before (fault_at p 3)) (later_before p 3) (faults_from variables clauses end [] words)
          (words_later variables clauses end p [] words h)),
      judged_cond,
    )
    (ap (cond (outside variables clauses) (refused 3)) (agrees variables clauses end words [] [] [] (suc p) held_alike_none h))

first_line : (end : ℕ) (line : Piece) (lines : List Piece)
    → (begins 112 line.bytes ≡ true → places_rise (suc line.place) end (body_of lines) ≡ true)
    → LinesAgree end (line ∷ lines)
unfolding faults_of formula_in walk_lines tokens_of
first_line end line lines rise = go (header_of line) refl
  where
    go : (h : Header) → header_of line ≡ h
        → judged (least (faults_under line.place h end (body_of lines))) (formula_under h (tokens_of (body_of lines)))
        ≡ walk_under h (tokens_of (body_of lines))
    go malformed e = no_header end line.place (body_of lines)
    go (header variables clauses) e =
        under_header end line.place variables clauses (body_of lines) (rise (header_begins line variables clauses e))

-- behind a line that is not empty the words rise from its second byte on
behind_rises : (end at : ℕ) (t : List ℕ) → at + length t ≡ end → begins 112 (until line_end t) ≡ true
    → places_rise (suc at) end (words_behind at t) ≡ true
unfolding until begins
behind_rises end at [] h begun = absurd (false≢true begun)
behind_rises end at (b ∷ t) h begun = go (line_end b) refl (rises end (suc at) t (omega arith))
  where
    go : (c : Bool) → line_end b ≡ c → Rises end (suc at) t → places_rise (suc at) end (words_behind at (b ∷ t)) ≡ true
    go true e next = rw (behind_end at b t e) next.start
    go false e next = rw (behind_byte at b t e) next.behind

-- all lines of a text, and those behind its first one
lines_agree : (end at : ℕ) (t : List ℕ) → at + length t ≡ end → LinesAgree end (keep not_skipped (others line_end at t))
    → LinesAgree end (keep not_skipped (split line_end at t))
unfolding keep words_behind
lines_agree end at t h behind = rw (split_first line_end at t) (go (not_skipped line))
  where
    line : Piece
    line = record { place = at; bytes = until line_end t }

    lines : List Piece
    lines = keep not_skipped (others line_end at t)

    go : (b : Bool) → LinesAgree end (cond b (line ∷ lines) lines)
    go true = first_line end line lines (behind_rises end at t h)
    go false = behind

others_agree : (end at : ℕ) (t : List ℕ) → at + length t ≡ end → LinesAgree end (keep not_skipped (others line_end at t))
unfolding others keep
others_agree end at [] h = no_line end
others_agree end at (b ∷ t) h = go (line_end b) (others_agree end (suc at) t (omega arith))
  where
    go : (c : Bool) → LinesAgree end (keep not_skipped (others line_end (suc at) t))
        → LinesAgree end (keep not_skipped (cond c (split line_end (suc at) t) (others line_end (suc at) t)))
    go true ih = lines_agree end (suc at) t (omega arith) ih
    go false ih = ih

-- what a text is as written, by its faults, is the walk over its lines
pub written_is_walk : (text : List ℕ) → LinesAgree (length text) (lines_of text)
unfolding lines_of
written_is_walk text = lines_agree (length text) 0 text (omega arith) (others_agree (length text) 0 text (omega arith))

judged_read : (found : Option Fault) (formula : Formula) → judged found (read_formula formula) ≡ read_judged (judged found formula)
unfolding judged read_judged
judged_read none formula = refl
judged_read (some f) formula = refl

-- reading a text is the walk over its lines, as read
pub read_is_walk : (text : List ℕ) → ltb max_text (length text) ≡ false → read_text text ≡ read_judged (walk_lines (lines_of text))
unfolding read_text
read_is_walk text h = rw h (judged_read (least (faults_of (length text) (lines_of text))) (formula_in (lines_of text)) ∙ ap read_judged (written_is_walk text))

-- The walk over the words that the reader's code makes: what a text is as written, which its invariants speak of; and that as read.
use Rattle.std.specs.Prelude.{ℕ, ◌+◌, cond, ◌&&◌, List, [], ◌∷◌, ◌++◌, map, leb, ltb, eqb, length}
use Rattle.base.specs.Lists.{flat, empty, keep}
use Rattle.book.specs.Formula.{variable_of, max_clause, max_literals}
use Rattle.book.specs.Text.{Piece, Token, literal, close, invalid, token_of, line_end, split, not_skipped, Header, header, malformed, header_of}
use Rattle.book.specs.Faults.{body_of, outside}
use Rattle.book.specs.Reading.{Judged, refused, accepted, read_formula}

-- the words' tokens from here on, after the closed clauses `done` and the literals `current` of the clause that is open
unfoldable pub walk : ℕ → ℕ → List (List ℕ) → List ℕ → List Token → Judged
walk variables clauses done current [] =
    cond (empty current && eqb (length done) clauses) (accepted (record { variables = variables; clauses = done })) (refused 8)
walk variables clauses done current (invalid ∷ tokens) = refused 4
walk variables clauses done current (close ∷ tokens) =
    let rest = walk variables clauses (done ++ (current ∷ [])) [] tokens in
    cond (empty current) (refused 6) rest
walk variables clauses done current (literal l ∷ tokens) =
    let rest = walk variables clauses done (current ++ (l ∷ [])) tokens in
    cond (ltb variables (variable_of l)) (refused 5)
    (cond (eqb (length current) max_clause) (refused 6)
    (cond (empty current && leb clauses (length done)) (refused 8)
    (cond (eqb (length (flat done) + length current) max_literals) (refused 9) rest)))

unfoldable pub tokens_of : List Piece → List Token
tokens_of words = map (λ (w : Piece). token_of w.bytes) words

unfoldable pub walk_under : Header → List Token → Judged
walk_under malformed tokens = refused 2
walk_under (header variables clauses) tokens = cond (outside variables clauses) (refused 3) (walk variables clauses [] [] tokens)

unfoldable pub walk_lines : List Piece → Judged
walk_lines [] = refused 2
walk_lines (line ∷ lines) = walk_under (header_of line) (tokens_of (body_of lines))

-- the answer to a text whose lines before t are all skipped
unfoldable pub walk_start : ℕ → List ℕ → Judged
walk_start at t = walk_lines (keep not_skipped (split line_end at t))

-- what is judged of a text as written, as read
unfoldable pub read_judged : Judged → Judged
read_judged (refused number) = refused number
read_judged (accepted formula) = accepted (read_formula formula)

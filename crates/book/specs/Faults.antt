-- The faults of a text: each of the table's numbers 2 to 6, 8 and 9 with its place; 7 is never given. Literals are counted as they are written.
use Rattle.std.specs.Prelude.{ℕ, zero, suc, Bool, true, false, cond, not, ◌&&◌, ◌||◌, List, [], ◌∷◌, ◌++◌, map, leb, ltb, eqb, length}
use Rattle.base.specs.Lists.{flat, empty}
use Rattle.book.specs.Formula.{variable_of, max_variables, max_clauses, max_literals, max_clause}
use Rattle.book.specs.Text.{Piece, Token, literal, close, invalid, token_of, words_of, Header, header, malformed, header_of}

pub record Fault : Type 0 where
  pub place : ℕ
  pub number : ℕ

-- the fault at a place, where the test says that it is there
unfoldable pub fault : Bool → ℕ → ℕ → List Fault
fault there place number = cond there (record { place = place; number = number } ∷ []) []

-- Of the words so far, the latest first: the literals of the clause that is not closed yet, the closed clauses, the literals of all.
unfoldable pub opened : List Token → List ℕ
opened [] = []
opened (literal l ∷ past) = l ∷ opened past
opened (close ∷ past) = []
opened (invalid ∷ past) = opened past

unfoldable pub closed : List Token → ℕ
closed [] = zero
closed (literal l ∷ past) = closed past
closed (close ∷ past) = suc (closed past)
closed (invalid ∷ past) = closed past

unfoldable pub written : List Token → ℕ
written [] = zero
written (literal l ∷ past) = suc (written past)
written (close ∷ past) = written past
written (invalid ∷ past) = written past

-- Number 4: a word that is no number.
unfoldable pub not_number : Token → Bool
not_number (literal l) = false
not_number close = false
not_number invalid = true

-- Number 5: feature over V.
unfoldable pub over_variables : ℕ → Token → Bool
over_variables variables (literal l) = ltb variables (variable_of l)
over_variables variables close = false
over_variables variables invalid = false

-- Number 6: rule of 0 or over 255 literals. A short rule's place is its 0, a long one's its 256th literal.
unfoldable pub wrong_length : List Token → Token → Bool
wrong_length past (literal l) = eqb (length (opened past)) max_clause
wrong_length past close = empty (opened past)
wrong_length past invalid = false

-- Number 8: rules unequal to C, or last 0 missing. The place is the literal or 0 that begins a surplus rule, or the end of the text.
unfoldable pub surplus : ℕ → List Token → Token → Bool
surplus clauses past (literal l) = empty (opened past) && leb clauses (closed past)
surplus clauses past close = empty (opened past) && leb clauses (closed past)
surplus clauses past invalid = false

unfoldable pub unfinished : ℕ → List Token → Bool
unfinished clauses past = not (empty (opened past)) || not (eqb (closed past) clauses)

-- Number 9: over 6,000 literals. The place is the 6,001st literal.
unfoldable pub over_literals : List Token → Token → Bool
over_literals past (literal l) = eqb (written past) max_literals
over_literals past close = false
over_literals past invalid = false

-- the faults at one word
unfoldable pub faults_at : ℕ → ℕ → List Token → ℕ → Token → List Fault
faults_at variables clauses past place token =
    fault (not_number token) place 4
    ++ (fault (over_variables variables token) place 5
    ++ (fault (wrong_length past token) place 6
    ++ (fault (surplus clauses past token) place 8 ++ fault (over_literals past token) place 9)))

-- the faults of the words behind the header, and of the end of the text
unfoldable pub faults_from : ℕ → ℕ → ℕ → List Token → List Piece → List Fault
faults_from variables clauses end past [] = fault (unfinished clauses past) end 8
faults_from variables clauses end past (word ∷ words) =
    faults_at variables clauses past word.place (token_of word.bytes)
    ++ faults_from variables clauses end (token_of word.bytes ∷ past) words

-- Numbers 2 and 3: header missing or malformed; V or C outside its range. The place is the start of the first line not skipped, or the
-- end of the text.
unfoldable pub outside : ℕ → ℕ → Bool
outside variables clauses = eqb variables 0 || (ltb max_variables variables || ltb max_clauses clauses)

-- the words behind the header
unfoldable pub body_of : List Piece → List Piece
body_of lines = flat (map words_of lines)

unfoldable pub faults_under : ℕ → Header → ℕ → List Piece → List Fault
faults_under place malformed end words = fault true place 2
faults_under place (header variables clauses) end words =
    fault (outside variables clauses) place 3 ++ faults_from variables clauses end [] words

unfoldable pub faults_of : ℕ → List Piece → List Fault
faults_of end [] = fault true end 2
faults_of end (line ∷ lines) = faults_under line.place (header_of line) end (body_of lines)

-- The text of a rule book: blanks, lines, words, numbers, the header.
use Rattle.std.specs.Prelude.{ℕ, suc, ◌+◌, ◌*◌, ◌-◌, Bool, cond, not, ◌&&◌, ◌||◌, List, [], ◌∷◌, map, leb, eqb, length, get_or}
use Rattle.book.specs.Formula.{positive, negative}
use Rattle.base.specs.Lists.{all, keep, empty, same, begins}

-- Blanks are bytes 32, 9, 13 and 10; lines end at 10.
unfoldable pub blank : ℕ → Bool
blank byte = eqb byte 32 || eqb byte 9 || eqb byte 13 || eqb byte 10

unfoldable pub line_end : ℕ → Bool
line_end byte = eqb byte 10

-- a run of bytes and its place, the number of bytes before it in the text
pub record Piece : Type 0 where
  pub place : ℕ
  pub bytes : List ℕ

-- a byte put before the first of the pieces
unfoldable pub extend : ℕ → ℕ → List Piece → List Piece
extend place byte [] = record { place = place; bytes = byte ∷ [] } ∷ []
extend place byte (p ∷ ps) = record { place = place; bytes = byte ∷ p.bytes } ∷ ps

-- the pieces between separators, empty ones too, of bytes that begin at a place
unfoldable pub split : (ℕ → Bool) → ℕ → List ℕ → List Piece
split separator place [] = record { place = place; bytes = [] } ∷ []
split separator place (byte ∷ bytes) =
    cond (separator byte)
    (record { place = place; bytes = [] } ∷ split separator (suc place) bytes)
    (extend place byte (split separator (suc place) bytes))

-- A line whose first byte is `c` is skipped everywhere.
unfoldable pub not_skipped : Piece → Bool
not_skipped line = not (begins 99 line.bytes)

unfoldable pub lines_of : List ℕ → List Piece
lines_of text = keep not_skipped (split line_end 0 text)

-- the words of a line: what stands between blanks
unfoldable pub filled : Piece → Bool
filled piece = not (empty piece.bytes)

unfoldable pub words_of : Piece → List Piece
words_of line = keep filled (split blank line.place line.bytes)

-- the number that decimal digits write, after n
unfoldable pub decimal : ℕ → List ℕ → ℕ
decimal n [] = n
decimal n (digit ∷ digits) = decimal (10 * n + (digit - 48)) digits

unfoldable pub is_digit : ℕ → Bool
is_digit byte = leb 48 byte && leb byte 57

-- 1 to 9 digits
unfoldable pub unsigned : List ℕ → Bool
unsigned word = leb 1 (length word) && leb (length word) 9 && all is_digit word

-- What a word of the clauses says: a literal, or the 0 that closes a clause, or nothing, as it is no number.
pub data Token : Type 0 where
  literal : ℕ → Token
  close : Token
  invalid : Token

-- digits without a sign: a 0 closes, any other number is a positive literal
unfoldable pub unsigned_token : List ℕ → Token
unsigned_token digits = cond (unsigned digits) (cond (eqb (decimal 0 digits) 0) close (literal (positive (decimal 0 digits)))) invalid

-- digits behind a `-`: a negative literal; `-0`, also with more zeros, is no number
unfoldable pub negative_token : List ℕ → Token
negative_token digits =
    cond (unsigned digits) (cond (eqb (decimal 0 digits) 0) invalid (literal (negative (decimal 0 digits)))) invalid

unfoldable pub token_of : List ℕ → Token
token_of [] = invalid
token_of (byte ∷ bytes) = cond (eqb byte 45) (negative_token bytes) (unsigned_token (byte ∷ bytes))

-- The header line begins with `p`, and its words are `p cnf V C`, V and C unsigned.
pub data Header : Type 0 where
  header : ℕ → ℕ → Header
  malformed : Header

unfoldable pub headed : List (List ℕ) → Bool
headed words =
    eqb (length words) 4
    && same (get_or words 0 []) (112 ∷ [])
    && same (get_or words 1 []) (99 ∷ 110 ∷ 102 ∷ [])
    && unsigned (get_or words 2 [])
    && unsigned (get_or words 3 [])

unfoldable pub header_in : List (List ℕ) → Header
header_in words = cond (headed words) (header (decimal 0 (get_or words 2 [])) (decimal 0 (get_or words 3 []))) malformed

unfoldable pub header_of : Piece → Header
header_of line = cond (begins 112 line.bytes) (header_in (map (λ (p : Piece). p.bytes) (words_of line))) malformed

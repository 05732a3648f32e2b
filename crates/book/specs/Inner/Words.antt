-- The words of a text as its cursor meets them: by the bytes that are left.
use Rattle.std.specs.Prelude.{ℕ, suc, Bool, cond, List, [], ◌∷◌, ◌++◌}
use Rattle.base.specs.Lists.{keep, until}
use Rattle.book.specs.Text.{Piece, line_end, split, not_skipped, words_of}
use Rattle.book.specs.Faults.{body_of}

-- the pieces behind the first one
unfoldable pub others : (ℕ → Bool) → ℕ → List ℕ → List Piece
others separator place [] = []
others separator place (byte ∷ bytes) =
    cond (separator byte) (split separator (suc place) bytes) (others separator (suc place) bytes)

-- Words by the bytes that are left, t, of which the first stands at a place: of the line that t begins inside of; of the lines behind it;
-- of both; of all lines where t begins a line.
unfoldable pub words_line : ℕ → List ℕ → List Piece
words_line at t = words_of (record { place = at; bytes = until line_end t })

unfoldable pub words_behind : ℕ → List ℕ → List Piece
words_behind at t = body_of (keep not_skipped (others line_end at t))

unfoldable pub words_here : ℕ → List ℕ → List Piece
words_here at t = words_line at t ++ words_behind at t

unfoldable pub words_start : ℕ → List ℕ → List Piece
words_start at t = body_of (keep not_skipped (split line_end at t))

-- how many bytes the line holds with its byte 10
unfoldable pub line_length : List ℕ → ℕ
line_length [] = 0
line_length (byte ∷ bytes) = cond (line_end byte) 1 (suc (line_length bytes))

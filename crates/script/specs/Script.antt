-- The script: its lines, and what one line asks for.
use Rattle.std.specs.Prelude.{ℕ, cond, Option, Some, None, List, [], ◌∷◌, eqb}
use Rattle.base.specs.Lists.{until}
use Rattle.book.specs.Formula.{positive, negative}
use Rattle.book.specs.Text.{line_end, unsigned, decimal}
use Rattle.book.specs.Reading.{onto}
use Rattle.script.specs.declared.Line.{Line}
use Rattle.script.specs.declared.Line.TheVariants.{Choose, Back}

-- Lines end at byte 10; what follows the last byte 10 is a line only if it is not empty.
unfoldable pub script_lines : List ℕ → List (List ℕ)
script_lines [] = []
script_lines (byte ∷ bytes) = cond (line_end byte) ([] ∷ script_lines bytes) (onto byte (script_lines bytes))

-- the bytes of a first line: those before the first byte 10, or all
abbrev pub line_bytes : List ℕ → List ℕ
line_bytes bytes = until line_end bytes

-- 1 to 9 digits, and nothing more
unfoldable pub numbered : (ℕ → Line) → List ℕ → Option Line
numbered asks digits = cond (unsigned digits) (Some (asks (decimal 0 digits))) None

-- behind `b`: one byte 32 and the number of decisions to take back
unfoldable pub back_of : List ℕ → Option Line
back_of [] = None
back_of (byte ∷ bytes) = cond (eqb byte 32) (numbered (λ (k : ℕ). Back k) bytes) None

-- A line is a variable, `-` before it if it is barred, or `b` and what stands behind it; 0 is a literal here, which the session refuses.
unfoldable pub line_of : List ℕ → Option Line
line_of [] = None
line_of (byte ∷ bytes) =
    cond (eqb byte 45)
    (numbered (λ (v : ℕ). Choose (negative v)) bytes)
    (cond (eqb byte 98) (back_of bytes) (numbered (λ (v : ℕ). Choose (positive v)) (byte ∷ bytes)))

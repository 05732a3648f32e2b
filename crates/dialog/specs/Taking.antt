-- Bytes of a script are taken: what is used and kept of them, and what is answered; and the end of the script.
use Rattle.std.specs.Prelude.{ℕ, ◌+◌, cond, List, [], ◌++◌, ltb, length, take, drop, Option}
use Rattle.base.specs.Lists.{copied}
use Rattle.script.specs.declared.Line.{Line}
use Rattle.script.specs.Script.{line_bytes, line_of}
use Rattle.script.specs.Buffer.{fitting}
use Rattle.dialog.specs.Answering.{line_answer, line_numbers, last_line}
use Rattle.dialog.specs.declared.Taken.{Taken}

-- what `take` answers, and all lent memory behind it
pub record TakeLeft : Type 0 where
  pub answer : Taken
  pub session : List ℕ
  pub line : List ℕ
  pub out : List ℕ

abbrev pub take_left : Taken → List ℕ → List ℕ → List ℕ → TakeLeft
take_left answer session line out = record { answer = answer; session = session; line = line; out = out }

-- A line that has begun, in a buffer of any length: behind the bytes that are kept, as many as fit.
abbrev pub kept_after : List ℕ → ℕ → List ℕ → ℕ
kept_after line kept bytes = kept + fitting bytes (drop kept line)

abbrev pub line_after : List ℕ → ℕ → List ℕ → List ℕ
line_after line kept bytes = take kept line ++ copied bytes (drop kept line)

-- bytes without the end of a line
unfoldable pub keeping : List ℕ → List ℕ → ℕ → List ℕ → List ℕ → TakeLeft
keeping session line kept bytes out =
    take_left (record { used = length bytes; kept = kept_after line kept bytes; written = 0 }) session (line_after line kept bytes) out

-- the rest of a line, without its byte 10, which is used too: the line is answered
unfoldable pub ending : List ℕ → List ℕ → List ℕ → ℕ → List ℕ → List ℕ → TakeLeft
ending book session line kept bytes out =
    let asked : Option Line = line_of (take (kept_after line kept bytes) (line_after line kept bytes)) in
    take_left
    (record { used = length bytes + 1; kept = 0; written = fitting (line_answer book session asked) out })
    (line_numbers book session asked)
    (line_after line kept bytes)
    (copied (line_answer book session asked) out)

-- up to and with the first byte 10; all bytes, where there is none
unfoldable pub taking : List ℕ → List ℕ → List ℕ → ℕ → List ℕ → List ℕ → TakeLeft
taking book session line kept bytes out =
    cond (ltb (length (line_bytes bytes)) (length bytes))
    (ending book session line kept (line_bytes bytes) out)
    (keeping session line kept bytes out)

-- The end of the script: a line that has begun is answered, then comes the last line.
unfoldable pub begun_numbers : List ℕ → List ℕ → List ℕ → ℕ → List ℕ
begun_numbers book session line kept = cond (ltb 0 kept) (line_numbers book session (line_of (take kept line))) session

unfoldable pub begun_bytes : List ℕ → List ℕ → List ℕ → ℕ → List ℕ
begun_bytes book session line kept = cond (ltb 0 kept) (line_answer book session (line_of (take kept line))) []

abbrev pub final_bytes : List ℕ → List ℕ → List ℕ → ℕ → List ℕ
final_bytes book session line kept = begun_bytes book session line kept ++ last_line book (begun_numbers book session line kept)

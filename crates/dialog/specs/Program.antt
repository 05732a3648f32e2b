-- The program over the functions of `dialog`: what they hand out, joined, for a script that comes in parts.
use Rattle.std.specs.Prelude.{ℕ, ◌≤◌, ◌<◌, ◌≡◌, true, List, [], ◌∷◌, ◌++◌, length, take, drop}
use Rattle.base.specs.Lists.{copied}
use Rattle.book.specs.Formula.{max_book}
use Rattle.book.specs.Numbers.{well_formed, formula_of}
use Rattle.run.specs.Run.{Run}
use Rattle.run.specs.Valid.{Valid}
use Rattle.layout.specs.Layout.{max_session}
use Rattle.session.specs.Outcomes.{overwritten}
use Rattle.script.specs.Buffer.{fitting}
use Rattle.dialog.specs.Starting.{StartLeft, starting}
use Rattle.dialog.specs.Taking.{TakeLeft, taking, final_bytes}
use Rattle.dialog.specs.declared.Started.TheVariants as started

-- the session's numbers are those of a run of the book, and behind them lies what the buffer held there
pub record HoldsRun (book session : List ℕ) (run : Run) (buffer : List ℕ) : Type 0 where
  pub well : well_formed book ≡ true
  pub valid : Valid (formula_of book) run
  pub numbers : session ≡ overwritten (formula_of book) run buffer

-- the bytes of the program's buffers: of an answer (`MAX_ANSWER`), and of a line (`MAX_LINE`)
abbrev pub max_answer : ℕ
max_answer = 4096

abbrev pub max_line : ℕ
max_line = 12

-- What the program lends: buffers for the largest book, the largest session, a line and an answer, or larger ones.
pub record Lends (book session line out : List ℕ) : Type 0 where
  pub for_book : max_book ≤ length book
  pub for_session : max_session ≤ length session
  pub for_line : max_line ≤ length line
  pub for_answers : max_answer ≤ length out

-- What the program holds between two calls.
pub record Holds : Type 0 where
  pub session : List ℕ
  pub line : List ℕ
  pub kept : ℕ
  pub out : List ℕ

abbrev pub holding : List ℕ → List ℕ → ℕ → List ℕ → Holds
holding session line kept out = record { session = session; line = line; kept = kept; out = out }

-- a call of `take` on bytes, the bytes that it hands out, and what the program holds then
abbrev pub takes : List ℕ → Holds → List ℕ → TakeLeft
takes book holds bytes = taking book holds.session holds.line holds.kept bytes holds.out

abbrev pub handed : TakeLeft → List ℕ
handed left = take left.answer.written left.out

abbrev pub holds_then : TakeLeft → Holds
holds_then left = holding left.session left.line left.answer.kept left.out

-- the bytes that `finish` hands out
abbrev pub handed_last : List ℕ → Holds → List ℕ
handed_last book holds =
    let bytes : List ℕ = final_bytes book holds.session holds.line holds.kept in
    take (fitting bytes holds.out) (copied bytes holds.out)

-- A part of the script is lent to `take`, and lent again without what is used of it, until it is used up: what the program holds then, and the
-- bytes that the calls hand out.
pub data PartTaken (book : List ℕ) : Holds → List ℕ → Holds → List ℕ → Type 0 where
  used_up : {holds : Holds} → PartTaken book holds [] holds []
  goes_on : {holds after : Holds} {bytes printed : List ℕ} → 0 < length bytes
      → PartTaken book (holds_then (takes book holds bytes)) (drop (takes book holds bytes).answer.used bytes) after printed
      → PartTaken book holds bytes after (handed (takes book holds bytes) ++ printed)

-- The loop over the parts of a script, and what it prints: a part is taken, then the next one is read; where no part is left, `finish` is called.
pub data ScriptPrints (book : List ℕ) : Holds → List (List ℕ) → List ℕ → Type 0 where
  reads : {holds after : Holds} {part : List ℕ} {parts : List (List ℕ)} {first printed : List ℕ}
      → PartTaken book holds part after first
      → ScriptPrints book after parts printed
      → ScriptPrints book holds (part ∷ parts) (first ++ printed)
  finishes : {holds : Holds} → ScriptPrints book holds [] (handed_last book holds)

-- Behind a start that is refused its line is printed and nothing more; behind any other its line, and then the parts of the script are answered.
pub data StartPrints (line : List ℕ) (left : StartLeft) : List (List ℕ) → List ℕ → Type 0 where
  refuses : {parts : List (List ℕ)} {n : ℕ} → left.answer ≡ started.Refused n → StartPrints line left parts (take n left.out)
  opens : {parts : List (List ℕ)} {n : ℕ} {printed : List ℕ} → left.answer ≡ started.Open n
      → ScriptPrints left.book (holding left.session line 0 left.out) parts printed
      → StartPrints line left parts (take n left.out ++ printed)

-- What the program prints for a text and a script that comes in parts.
abbrev pub ProgramPrints : List ℕ → List ℕ → List ℕ → List ℕ → List ℕ → List (List ℕ) → List ℕ → Type 0
ProgramPrints text book session line out parts printed = StartPrints line (starting text book session out) parts printed

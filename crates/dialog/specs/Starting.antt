-- The start of a dialog: what it answers, and all lent memory behind it.
use Rattle.std.specs.Prelude.{ℕ, List, length, Result, Ok, Err}
use Rattle.refusals.specs.declared.Refusal.{Refusal}
use Rattle.refusals.specs.Refusals.{number_of}
use Rattle.base.specs.Lists.{copied}
use Rattle.book.specs.Numbers.{formula_of}
use Rattle.book.specs.Reading.{read_text}
use Rattle.book.specs.Answer.{read_answer, numbers_after}
use Rattle.book.specs.declared.Sizes.{Sizes}
use Rattle.layout.specs.Layout.{held}
use Rattle.session.specs.Outcomes.{open_answer, open_numbers}
use Rattle.session.specs.declared.Propagated.{Propagated}
use Rattle.script.specs.declared.Cause.TheVariants.{Opening}
use Rattle.script.specs.Answers.{refused_line}
use Rattle.script.specs.Buffer.{fitting}
use Rattle.dialog.specs.Answering.{propagated_bytes}
use Rattle.dialog.specs.declared.Started.{Started}
use Rattle.dialog.specs.declared.Started.TheVariants as started

-- what `start` answers, and all lent memory behind it
pub record StartLeft : Type 0 where
  pub answer : Started
  pub book : List ℕ
  pub session : List ℕ
  pub out : List ℕ

abbrev pub start_left : Started → List ℕ → List ℕ → List ℕ → StartLeft
start_left answer book session out = record { answer = answer; book = book; session = session; out = out }

-- the script is answered behind an opening that is not refused, also where it ended in a conflict
unfoldable pub started_by : Result Propagated Refusal → ℕ → Started
started_by (Ok propagated) written = started.Open written
started_by (Err refusal) written = started.Refused written

-- the line of an opening
unfoldable pub open_bytes : List ℕ → List ℕ → List ℕ
open_bytes book session = propagated_bytes Opening (open_answer book (length session)) (held (formula_of book) (open_numbers book session))

-- a session is opened on a book, and the opening's line is in `out`
unfoldable pub opening : List ℕ → List ℕ → List ℕ → StartLeft
opening book session out =
    start_left
    (started_by (open_answer book (length session)) (fitting (open_bytes book session) out))
    book
    (open_numbers book session)
    (copied (open_bytes book session) out)

-- a text that is refused leaves its line in `out`, and the session as it was
unfoldable pub starting_by : Result Sizes Refusal → List ℕ → List ℕ → List ℕ → StartLeft
starting_by (Err refusal) book session out =
    start_left (started.Refused (fitting (refused_line (number_of refusal)) out)) book session (copied (refused_line (number_of refusal)) out)
starting_by (Ok sizes) book session out = opening book session out

-- The text is read, and a session is opened on its book.
unfoldable pub starting : List ℕ → List ℕ → List ℕ → List ℕ → StartLeft
starting text book session out = starting_by (read_answer (read_text text) (length book)) (numbers_after (read_text text) book) session out

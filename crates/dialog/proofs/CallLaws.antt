-- What `start`, `take` and `finish` leave, way out by way out.
use Rattle.book.specs.declared.Sizes.{Sizes}
use Rattle.std.specs.Prelude.{Ok, Err}
use Rattle.refusals.specs.declared.Refusal.{Refusal}
use Rattle.refusals.specs.Refusals.{number_of}
use Prim.Native.Nat.{ℕ, ◌+◌, ◌-◌, ◌≤◌, ◌<◌}
use mathlib.Core.Path.{◌≡◌, ◌∙◌}
use mathlib.Core.List.{List, ◌++◌}
use native.Mathlib.Omega.{arith}
use borrow.Author.Tests.{lt-ltb, le-ltb}
use lib.ListN.{length, take, drop, length-take}
use Rattle.base.specs.Lists.{copied}
use Rattle.base.proofs.Copies.{length_copy, copy_behind, count_behind}
use Rattle.base.proofs.Lists.{tail_whole, tail_back}
use Rattle.base.proofs.Until.{take-until, length-until}
use Rattle.book.specs.Text.{line_end}
use Rattle.book.specs.Reading.{read_text}
use Rattle.book.specs.Answer.{read_answer, numbers_after}
use Rattle.script.specs.Answers.{refused_line}
use Rattle.script.specs.Buffer.{fitting}
use Rattle.script.specs.Script.{line_bytes}
use Rattle.dialog.specs.Answering.{last_line}
use Rattle.dialog.specs.Starting.{start_left, opening, starting_by, starting}
use Rattle.dialog.specs.Taking.{take_left, kept_after, line_after, keeping, ending, taking, begun_bytes, begun_numbers, final_bytes}
use Rattle.dialog.specs.Inner.Printing.{Prints, PrintsLine, PrintsBegun}
use Rattle.dialog.specs.declared.Started.{Started}
use Rattle.dialog.specs.declared.Started.TheVariants as started
use Rattle.dialog.proofs.answers.Laws.{Written}

-- a start: the text is refused, or a session is opened on its book
module _ (text book session out after : List ℕ) (is : after ≡ numbers_after (read_text text) book) where
  pub start_refused : (refusal : Refusal) (now : List ℕ) (r : ℕ) → Err refusal ≡ read_answer (read_text text) (length book) → Written (refused_line (number_of refusal)) out now r
      → start_left (started.Refused r) after session now ≡ starting text book session out
  unfolding starting starting_by
  start_refused refusal now r told w = rw (← told, ← is, w.0, w.1)

  pub start_opened : (sizes : Sizes) (answer : Started) (next now : List ℕ) → Ok sizes ≡ read_answer (read_text text) (length book)
      → start_left answer after next now ≡ opening after session out → start_left answer after next now ≡ starting text book session out
  unfolding starting starting_by
  start_opened sizes answer next now told e = rw (← told, ← is) e

-- bytes that are taken: up to and with the end of a line, or all of them
module _ (book session line : List ℕ) (kept : ℕ) (bytes out : List ℕ) where
  front : (end : ℕ) → end ≡ length (line_bytes bytes) → take end bytes ≡ line_bytes bytes
  front end e = rw e (take-until line_end bytes)

  pub front_length : (end : ℕ) → end ≡ length (line_bytes bytes) → end ≡ length (take end bytes)
  front_length end e = rw (front end e) e

  pub took_line : (end held : ℕ) (after next now : List ℕ) (r : ℕ) → end ≡ length (line_bytes bytes) → end < length bytes
      → held ≡ kept_after line kept (take end bytes) → next ≡ line_after line kept (take end bytes) → PrintsLine book session after next held out now r
      → take_left (record { used = end + 1; kept = 0; written = r }) after next now ≡ taking book session line kept bytes out
  unfolding taking ending
  took_line end held after next now r e less k n p =
      let part : take end bytes ≡ line_bytes bytes = front end e in
      let k' : held ≡ kept_after line kept (line_bytes bytes) = rw part at k in
      let n' : next ≡ line_after line kept (line_bytes bytes) = rw part at n in
      let test : length (line_bytes bytes) < length bytes = omega arith in
      rw (lt-ltb (length (line_bytes bytes)) (length bytes) test, p.prints.bytes, p.prints.count, p.numbers, k', n', e)

  pub took_all : (end held : ℕ) (next : List ℕ) → end ≡ length (line_bytes bytes) → length bytes ≤ end
      → held ≡ kept_after line kept bytes → next ≡ line_after line kept bytes
      → take_left (record { used = end; kept = held; written = 0 }) session next out ≡ taking book session line kept bytes out
  unfolding taking keeping
  took_all end held next e all k n =
      let test : length bytes ≤ length (line_bytes bytes) = omega arith in
      let used : end ≡ length bytes = omega (arith, length-until line_end bytes) in
      rw (le-ltb (length (line_bytes bytes)) (length bytes) test, k, n, used)

-- the end of the script: the last line is written behind the answer of a line that has begun
module _ (book session line : List ℕ) (kept : ℕ) (out after mid : List ℕ) (begun : ℕ) (p : PrintsBegun book session after line kept out mid begun) where
  pub begun_within : begun ≤ length mid
  unfolding fitting
  begun_within =
      rw (p.prints.count, p.prints.bytes, length_copy (begun_bytes book session line kept) out, length-take (length out) (begun_bytes book session line kept)) (omega arith)

  module _ (part : List ℕ) (r : ℕ) (q : Prints (last_line book after) (take (length mid - begun) (drop begun mid)) part r) where
    pub final_count : begun + r ≡ fitting (final_bytes book session line kept) out
    unfolding fitting
    final_count =
        rw (q.count, tail_whole begun mid, p.prints.count, p.prints.bytes, p.numbers)
        (count_behind (begun_bytes book session line kept) out (last_line book (begun_numbers book session line kept)))

    pub final_bytes_lem : take begun mid ++ (part ++ drop (length mid - begun) (drop begun mid)) ≡ copied (final_bytes book session line kept) out
    unfolding fitting
    final_bytes_lem =
        tail_back begun mid part
        ∙ rw (q.bytes, tail_whole begun mid, p.prints.count, p.prints.bytes, p.numbers)
        (copy_behind (begun_bytes book session line kept) out (last_line book (begun_numbers book session line kept)))

    pub final_within : begun + r ≤ length mid
    unfolding fitting
    final_within =
        rw (final_count, p.prints.bytes, length_copy (begun_bytes book session line kept) out, length-take (length out) (final_bytes book session line kept)) (omega arith)

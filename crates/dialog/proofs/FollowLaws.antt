-- The program holds the run behind the lines that have ended, and as much of the line that has begun as fits: what its next call then hands out.
use Rattle.std.specs.Prelude.{Option}
use Prim.Native.Nat.{ℕ, ◌+◌, ◌-◌, ◌≤◌, ◌<◌}
use mathlib.Core.Path.{◌≡◌, refl, ap, ap₂, sym, ◌∙◌}
use mathlib.Core.Bool.{Bool, true, false, cond}
use mathlib.Core.List.{List, [], ◌∷◌, ◌++◌}
use native.Mathlib.Omega.{arith}
use borrow.Author.Tests.{lt-ltb, le-ltb, ltb-true}
use lib.Dec.{ltb}
use lib.ListN.{length, take, drop, length-take, length-drop, length-append}
use lib.Seq.{take_all, take-nil, length-take-le, take-append-add}
use Rattle.base.specs.Lists.{copied}
use Rattle.base.proofs.Copies.{length_copy, take_copy}
use Rattle.base.proofs.Lists.{take_both}
use Rattle.book.specs.Numbers.{formula_of}
use Rattle.run.specs.Run.{Run}
use Rattle.script.specs.declared.Line.{Line}
use Rattle.script.specs.Script.{line_bytes, line_of}
use Rattle.script.specs.Buffer.{fitting}
use Rattle.script.specs.Desk.{answer_to, step_of, answers_to}
use Rattle.script.proofs.LongLines.{kept_line}
use Rattle.dialog.specs.Answering.{line_answer, line_numbers, last_line}
use Rattle.dialog.specs.Taking.{TakeLeft, take_left, kept_after, line_after, keeping, ending, taking, begun_bytes, begun_numbers, final_bytes}
use Rattle.dialog.specs.Program.{HoldsRun, Holds, handed, holds_then, handed_last, max_answer, max_line}
use Rattle.dialog.specs.declared.Taken.{Taken}
use Rattle.dialog.proofs.LineLaws.{line_answers, line_holds, last_answers}
use Rattle.dialog.proofs.FitLaws.{answer_fits, final_fits}
use Rattle.script.proofs.ScriptLaws.{joined}

-- bytes that fit are handed out whole
pub handed_whole : (bytes out : List ℕ) → length bytes ≤ max_answer → max_answer ≤ length out → take (fitting bytes out) (copied bytes out) ≡ bytes
unfolding fitting
handed_whole bytes out few room = take_copy bytes out ∙ take_all (length out) bytes (omega arith)

-- a part is used, at least one byte of it and no more than it has
module _ (book session line : List ℕ) (kept : ℕ) (bytes out : List ℕ) where
  use-by : (b : Bool) → ltb (length (line_bytes bytes)) (length bytes) ≡ b → 0 < length bytes
      → (1 ≤ (cond b (ending book session line kept (line_bytes bytes) out) (keeping session line kept bytes out)).answer.used)
      × ((cond b (ending book session line kept (line_bytes bytes) out) (keeping session line kept bytes out)).answer.used ≤ length bytes)
  unfolding ending keeping
  use-by true e some = let less = ltb-true (length (line_bytes bytes)) (length bytes) e in (omega arith, omega arith)
  use-by false e some = (omega arith, omega arith)

  pub use_some : 0 < length bytes → 1 ≤ (taking book session line kept bytes out).answer.used
  unfolding taking
  use_some some = (use-by (ltb (length (line_bytes bytes)) (length bytes)) refl some).0

  pub use_within : 0 < length bytes → (taking book session line kept bytes out).answer.used ≤ length bytes
  unfolding taking
  use_within some = (use-by (ltb (length (line_bytes bytes)) (length bytes)) refl some).1

  -- so says what `take` promises
  pub use_told : (taken : Taken) (after next now : List ℕ) → take_left taken after next now ≡ taking book session line kept bytes out → 0 < length bytes
      → (1 ≤ taken.used) × (taken.used ≤ length bytes)
  use_told taken after next now e some =
      let used : taken.used ≡ (taking book session line kept bytes out).answer.used = ap (λ (left : TakeLeft). left.answer.used) e in
      (omega (arith, use_some some), omega (arith, use_within some))

-- What the program holds behind a part of the script: the run behind the lines that have ended, and as much of the line that has begun as fits.
pub record Follows (book : List ℕ) (holds : Holds) (run : Run) (begun buffer : List ℕ) : Type 0 where
  pub runs : HoldsRun book holds.session run buffer
  pub room : max_line ≤ length holds.line
  pub within : holds.kept ≤ length holds.line
  pub bytes : take holds.kept holds.line ≡ take (length holds.line) begun
  pub answers : max_answer ≤ length holds.out

-- the line that is kept, and more bytes of it
module _ (line : List ℕ) (kept : ℕ) (begun bytes : List ℕ) (within : kept ≤ length line) (is : take kept line ≡ take (length line) begun) where
  size : length (take kept line) ≡ kept
  size = length-take-le kept line within

  pub length_after : length (line_after line kept bytes) ≡ length line
  length_after = length-append (take kept line) (copied bytes (drop kept line)) ∙ rw (size, length_copy bytes (drop kept line), length-drop kept line) (omega arith)

  pub kept_within : kept_after line kept bytes ≤ length line
  unfolding fitting
  kept_within = rw (length-take (length (drop kept line)) bytes, length-drop kept line) (omega arith)

  pub kept_bytes : take (kept_after line kept bytes) (line_after line kept bytes) ≡ take (length line) (begun ++ bytes)
  unfolding fitting
  kept_bytes =
      let rest : List ℕ = drop kept line in
      let room : length line - kept ≡ length line - length begun = omega (arith, sym size ∙ ap length is ∙ length-take (length line) begun) in
      ap (λ (k : ℕ). take (k + length (take (length rest) bytes)) (take kept line ++ copied bytes rest)) (sym size)
      ∙ take-append-add (take kept line) (copied bytes rest) (length (take (length rest) bytes))
      ∙ ap₂ (λ (x y : List ℕ). x ++ y) is (take_copy bytes rest ∙ ap (λ (k : ℕ). take k bytes) (length-drop kept line ∙ room))
      ∙ sym (take_both (length line) begun bytes)

module _ (book : List ℕ) (holds : Holds) (run : Run) (begun buffer : List ℕ) (f : Follows book holds run begun buffer) where
  -- what a line asks for is told by what is kept of it
  asked : (bytes : List ℕ)
      → line_of (take (kept_after holds.line holds.kept bytes) (line_after holds.line holds.kept bytes)) ≡ line_of (begun ++ bytes)
  asked bytes =
      ap line_of (kept_bytes holds.line holds.kept begun bytes f.within f.bytes) ∙ kept_line (length holds.line) (begun ++ bytes) f.room

  -- a line that ends
  pub ended_hands : (bytes : List ℕ) → handed (ending book holds.session holds.line holds.kept bytes holds.out) ≡ answer_to (formula_of book) run (line_of (begun ++ bytes))
  unfolding ending
  ended_hands bytes =
      rw (asked bytes)
      (handed_whole (line_answer book holds.session (line_of (begun ++ bytes))) holds.out (answer_fits book holds.session (line_of (begun ++ bytes))) f.answers
      ∙ line_answers book holds.session run buffer f.runs (line_of (begun ++ bytes)))

  pub ended_follows : (bytes : List ℕ) → Follows book (holds_then (ending book holds.session holds.line holds.kept bytes holds.out)) (step_of (formula_of book) run (line_of (begun ++ bytes))) [] buffer
  unfolding ending
  ended_follows bytes =
      let long = length_after holds.line holds.kept begun bytes f.within f.bytes in
      record {
        runs = rw (asked bytes) (line_holds book holds.session run buffer f.runs (line_of (begun ++ bytes)));
        room = omega (arith, f.room);
        within = omega arith;
        bytes = sym (take-nil {A = ℕ} (length (line_after holds.line holds.kept bytes)));
        answers = omega (arith, length_copy (line_answer book holds.session (line_of (take (kept_after holds.line holds.kept bytes) (line_after holds.line holds.kept bytes)))) holds.out, f.answers);
      }

  -- a line that goes on
  pub kept_follows : (bytes : List ℕ) → Follows book (holds_then (keeping holds.session holds.line holds.kept bytes holds.out)) run (begun ++ bytes) buffer
  unfolding keeping
  kept_follows bytes =
      let long = length_after holds.line holds.kept begun bytes f.within f.bytes in
      record {
        runs = f.runs;
        room = omega (arith, f.room);
        within = omega (arith, kept_within holds.line holds.kept begun bytes f.within f.bytes);
        bytes = rw long (kept_bytes holds.line holds.kept begun bytes f.within f.bytes);
        answers = f.answers;
      }

  -- the end of the script
  last_whole : handed_last book holds ≡ begun_bytes book holds.session holds.line holds.kept ++ last_line book (begun_numbers book holds.session holds.line holds.kept)
  last_whole = handed_whole (final_bytes book holds.session holds.line holds.kept) holds.out (final_fits book holds.session holds.line holds.kept) f.answers

-- nothing has begun, or something
finish_none : (book : List ℕ) (holds : Holds) (run : Run) (buffer : List ℕ) → Follows book holds run [] buffer
    → handed_last book holds ≡ answers_to (formula_of book) run []
unfolding begun_bytes begun_numbers answers_to
finish_none book holds run buffer f =
    let none : length (take holds.kept holds.line) ≡ 0 = ap length (f.bytes ∙ take-nil {A = ℕ} (length holds.line)) in
    let zero-kept : holds.kept ≤ 0 = omega (arith, length-take-le holds.kept holds.line f.within) in
    last_whole book holds run [] buffer f ∙ rw (le-ltb 0 holds.kept zero-kept) (last_answers book holds.session run buffer f.runs)

finish_some : (book : List ℕ) (holds : Holds) (run : Run) (b : ℕ) (begun buffer : List ℕ) → Follows book holds run (b ∷ begun) buffer
    → handed_last book holds ≡ answers_to (formula_of book) run ((b ∷ begun) ∷ [])
unfolding begun_bytes begun_numbers answers_to
finish_some book holds run b begun buffer f =
    let line : Option Line = line_of (b ∷ begun) in
    let long : length (take holds.kept holds.line) ≡ length (take (length holds.line) (b ∷ begun)) = ap length f.bytes in
    let some : 0 < holds.kept = omega (arith, length-take-le holds.kept holds.line f.within, length-take (length holds.line) (b ∷ begun), f.room) in
    let asks : line_of (take holds.kept holds.line) ≡ line = ap line_of f.bytes ∙ kept_line (length holds.line) (b ∷ begun) f.room in
    last_whole book holds run (b ∷ begun) buffer f
    ∙ rw (lt-ltb 0 holds.kept some, asks)
    (ap₂ (λ (x y : List ℕ). x ++ y)
    (line_answers book holds.session run buffer f.runs line)
    (last_answers book (line_numbers book holds.session line) (step_of (formula_of book) run line) buffer (line_holds book holds.session run buffer f.runs line)))

pub finish_joined : (book : List ℕ) (holds : Holds) (run : Run) (begun buffer : List ℕ) → Follows book holds run begun buffer
    → handed_last book holds ≡ answers_to (formula_of book) run (joined begun [])
unfolding joined
finish_joined book holds run [] buffer f = finish_none book holds run buffer f
finish_joined book holds run (b ∷ begun) buffer f = finish_some book holds run b begun buffer f

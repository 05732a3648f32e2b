-- What a call says that it wrote lies in the buffer of the answers.
use Rattle.std.specs.Prelude.{Result, Ok, Err}
use Prim.Native.Nat.{ℕ, ◌≤◌}
use mathlib.Core.Path.{◌≡◌, refl, sym, subst}
use mathlib.Core.Bool.{Bool, true, false, cond}
use mathlib.Core.List.{List}
use native.Mathlib.Omega.{arith}
use lib.Dec.{ltb}
use lib.ListN.{length, length-take}
use Rattle.refusals.specs.declared.Refusal.{Refusal}
use Rattle.base.specs.Lists.{copied}
use Rattle.base.proofs.Copies.{length_copy}
use Rattle.book.specs.Reading.{read_text}
use Rattle.book.specs.Answer.{read_answer, numbers_after}
use Rattle.book.specs.declared.Sizes.{Sizes}
use Rattle.session.specs.Outcomes.{open_answer}
use Rattle.session.specs.declared.Propagated.{Propagated}
use Rattle.script.specs.Script.{line_bytes}
use Rattle.script.specs.Buffer.{fitting}
use Rattle.dialog.specs.Starting.{StartLeft, start_left, started_by, open_bytes, opening, starting_by, starting}
use Rattle.dialog.specs.Taking.{TakeLeft, take_left, keeping, ending, taking}
use Rattle.dialog.specs.declared.Started.{Started}
use Rattle.dialog.specs.declared.Started.TheVariants as started
use Rattle.dialog.specs.declared.Taken.{Taken}

pub fits_within : (bytes out now : List ℕ) (n : ℕ) → n ≡ fitting bytes out → now ≡ copied bytes out → n ≤ length now
unfolding fitting
fits_within bytes out now n count is = rw (count, is, length_copy bytes out, length-take (length out) bytes) (omega arith)

-- of `take`
module _ (book session line : List ℕ) (kept : ℕ) (bytes out : List ℕ) where
  written-by : (b : Bool) → (cond b (ending book session line kept (line_bytes bytes) out) (keeping session line kept bytes out)).answer.written
      ≤ length (cond b (ending book session line kept (line_bytes bytes) out) (keeping session line kept bytes out)).out
  unfolding ending keeping
  written-by true = fits_within _ _ _ _ refl refl
  written-by false = omega arith

  pub written_told : (taken : Taken) (after next now : List ℕ) → take_left taken after next now ≡ taking book session line kept bytes out → taken.written ≤ length now
  unfolding taking
  written_told taken after next now e =
      subst (λ (left : TakeLeft). left.answer.written ≤ length left.out) (sym e) (written-by (ltb (length (line_bytes bytes)) (length bytes)))

-- of `start`
unfoldable pub written : Started → ℕ
written (started.Open n) = n
written (started.Refused n) = n

written-started : (made : Result Propagated Refusal) (n : ℕ) → written (started_by made n) ≡ n
unfolding started_by written
written-started (Ok propagated) n = refl
written-started (Err refusal) n = refl

module _ (text book session out : List ℕ) where
  start-by : (read : Result Sizes Refusal) (book : List ℕ) → written (starting_by read book session out).answer ≤ length (starting_by read book session out).out
  unfolding starting_by opening written
  start-by (Err refusal) book = fits_within _ _ _ _ refl refl
  start-by (Ok sizes) book =
      rw (written-started (open_answer book (length session)) (fitting (open_bytes book session) out)) (fits_within (open_bytes book session) out _ _ refl refl)

  module _ (answer : Started) (after next now : List ℕ) (e : start_left answer after next now ≡ starting text book session out) where
    start_told : written answer ≤ length now
    unfolding starting
    start_told =
        subst (λ (left : StartLeft). written left.answer ≤ length left.out) (sym e) (start-by (read_answer (read_text text) (length book)) (numbers_after (read_text text) book))

    pub open_told : (n : ℕ) → answer ≡ started.Open n → n ≤ length now
    unfolding written
    open_told n is = rw is at start_told

    pub refused_told : (n : ℕ) → answer ≡ started.Refused n → n ≤ length now
    unfolding written
    refused_told n is = rw is at start_told

-- What the contracts of src/answers.rt cite: a line stands in a lent buffer.
use Rattle.std.specs.Prelude.{ℕ, ◌-◌, ◌≤◌, ◌≡◌, List, length, take, Ok}
use Rattle.base.specs.Lists.{copied}
use Rattle.book.specs.Numbers.{formula_of}
use Rattle.run.specs.Run.{trail_behind}
use Rattle.layout.specs.Layout.{held}
use Rattle.validation.specs.Validation.{read_refusal}
use Rattle.session.specs.declared.Propagated.{Propagated}
use Rattle.session.specs.declared.Propagated.TheVariants.{Implied}
use Rattle.script.specs.declared.Cause.{Cause}
use Rattle.script.specs.Script.{line_of}
use Rattle.script.specs.Answers.{implied_line}
use Rattle.script.specs.Buffer.{fitting}
use Rattle.dialog.specs.Answering.{propagated_bytes, line_answer, line_numbers}
use Rattle.dialog.specs.Taking.{begun_bytes, begun_numbers}

-- a line stands in the buffer, and r says how many bytes of it
pub record Prints (line before now : List ℕ) (r : ℕ) : Type 0 where
  pub bytes : now ≡ copied line before
  pub count : r ≡ fitting line before

-- the session passes, and its trail has the literals that a call implied
pub record ShowsImplied (book session : List ℕ) (implied : ℕ) : Type 0 where
  pub passes : read_refusal book session ≡ 0
  pub few : implied ≤ length (held (formula_of book) session).trail

abbrev pub ShowsPropagated : List ℕ → List ℕ → Propagated → Type 0
ShowsPropagated book session propagated = (n : ℕ) → propagated ≡ Implied n → ShowsImplied book session n

abbrev pub PrintsImplied : List ℕ → List ℕ → Cause → ℕ → List ℕ → List ℕ → ℕ → Type 0
PrintsImplied book session cause implied out now r =
    Prints
    (implied_line cause (trail_behind (length (held (formula_of book) session).trail - implied) (held (formula_of book) session)))
    out now r

abbrev pub PrintsPropagated : List ℕ → List ℕ → Cause → Propagated → List ℕ → List ℕ → ℕ → Type 0
PrintsPropagated book session cause propagated out now r = Prints (propagated_bytes cause (Ok propagated) (held (formula_of book) session)) out now r

-- a kept line is answered, and the session is the one behind it
pub record PrintsLine (book session after line : List ℕ) (kept : ℕ) (out now : List ℕ) (r : ℕ) : Type 0 where
  pub prints : Prints (line_answer book session (line_of (take kept line))) out now r
  pub numbers : after ≡ line_numbers book session (line_of (take kept line))

pub record PrintsBegun (book session after line : List ℕ) (kept : ℕ) (out now : List ℕ) (r : ℕ) : Type 0 where
  pub prints : Prints (begun_bytes book session line kept) out now r
  pub numbers : after ≡ begun_numbers book session line kept

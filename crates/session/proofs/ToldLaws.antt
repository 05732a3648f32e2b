-- What an answer tells of its outcome, for the crates that call `session`.
use Rattle.std.specs.Prelude.{Result, Ok, Err}
use Prim.Native.Nat.{ℕ}
use mathlib.Core.Path.{◌≡◌, refl}
use native.Mathlib.Omega.{arith}
use Rattle.refusals.specs.declared.Refusal.{Refusal}
use Rattle.run.specs.Run.{Run}
use Rattle.session.specs.declared.Shown.{Shown}
use Rattle.session.specs.Outcomes.{answer_of, shown_of}

-- figures tell their outcome, and the conflict clause
pub shown_refused : (r : Refusal) (o : Result Run Refusal) → Err r ≡ shown_of o → o ≡ Err r
shown_refused r (Err s) e = cc e
shown_refused r (Ok run) e = let z : ◌≡◌ {A = ℕ} 0 1 = cc e in absurd (omega arith)

pub shown_conflict : (shown : Shown) (o : Result Run Refusal) → Ok shown ≡ shown_of o → (run : Run) × (o ≡ Ok run) × (shown.conflict ≡ run.conflict)
shown_conflict shown (Err s) e = let z : ◌≡◌ {A = ℕ} 0 1 = cc e in absurd (omega arith)
shown_conflict shown (Ok run) e = (run, refl, cc e)

-- the answer of an opening or a decision tells a refusal
pub answer_refused : (before : ℕ) (r : Refusal) (o : Result Run Refusal) → answer_of before o ≡ Err r → o ≡ Err r
answer_refused before r (Err s) e = cc e
answer_refused before r (Ok run) e = let z : ◌≡◌ {A = ℕ} 0 1 = cc e in absurd (omega arith)

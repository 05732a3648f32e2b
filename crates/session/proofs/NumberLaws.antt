-- Each number that refuses a call on a session is one of the table, so its refusal has that number.
use Rattle.std.proofs.Common.{◌≡◌, ℕ, ◌+◌}
use mathlib.Core.Path.{refl}
use mathlib.Core.Bool.{Bool, true, false, cond, ◌&&◌}
use mathlib.Core.List.{List}
use Rattle.std.specs.Prelude.{leb, ltb, length}
use Rattle.book.specs.Formula.{Formula, literal_within}
use Rattle.book.specs.Numbers.{well_formed, variables_of, clauses_of, formula_of}
use Rattle.run.specs.Trail.{is_assigned, decisions}
use Rattle.run.specs.Run.{Run, in_conflict}
use Rattle.run.specs.Calls.{decide_refusal, backtrack_refusal, fix_refusal, max_backtracks}
use Rattle.layout.specs.Layout.{required_length, held}
use Rattle.validation.specs.Validation.{passes, call_refusal}
use Rattle.refusals.specs.Refusals.{number_of, refusals, first_with, refusal_of}
use Rattle.session.specs.Outcomes.{open_refusal}
use Rattle.session.proofs.AnswerLaws.{variable_refusal}

pub decide_numbered : (formula : Formula) (l : ℕ) (run : Run) → (decide_refusal formula l run ≡ 0 → ⊥)
    → number_of (refusal_of (decide_refusal formula l run)) ≡ decide_refusal formula l run
unfolding decide_refusal refusal_of first_with refusals
decide_numbered formula l run some = go (literal_within formula.variables l) (in_conflict run) (is_assigned run.trail l) some
  where
    go : (w c a : Bool) → let number : ℕ = cond w (cond c 14 (cond a 15 0)) 13 in (number ≡ 0 → ⊥) → number_of (refusal_of number) ≡ number
    go false c a some = refl
    go true true a some = refl
    go true false true some = refl
    go true false false some = absurd (some refl)

pub backtrack_numbered : (k : ℕ) (run : Run) → (backtrack_refusal k run ≡ 0 → ⊥) → number_of (refusal_of (backtrack_refusal k run)) ≡ backtrack_refusal k run
unfolding backtrack_refusal refusal_of first_with refusals
backtrack_numbered k run some =
    go (leb 1 k && leb (k + run.fixed) (length (decisions run.trail))) (leb max_backtracks run.backtracks) some
  where
    go : (w s : Bool) → let number : ℕ = cond w (cond s 17 0) 16 in (number ≡ 0 → ⊥) → number_of (refusal_of number) ≡ number
    go false s some = refl
    go true true some = refl
    go true false some = absurd (some refl)

pub fix_numbered : (f : ℕ) (run : Run) → (fix_refusal f run ≡ 0 → ⊥) → number_of (refusal_of (fix_refusal f run)) ≡ fix_refusal f run
unfolding fix_refusal refusal_of first_with refusals
fix_numbered f run some = go (in_conflict run) (leb run.fixed f && leb f (length (decisions run.trail))) some
  where
    go : (c w : Bool) → let number : ℕ = cond c 14 (cond w 0 22) in (number ≡ 0 → ⊥) → number_of (refusal_of number) ≡ number
    go true w some = refl
    go false true some = absurd (some refl)
    go false false some = refl

pub open_numbered : (book : List ℕ) (room : ℕ) → (open_refusal book room ≡ 0 → ⊥) → number_of (refusal_of (open_refusal book room)) ≡ open_refusal book room
unfolding open_refusal refusal_of first_with refusals
open_numbered book room some = go (well_formed book) (ltb room (required_length (variables_of book) (clauses_of book))) some
  where
    go : (w t : Bool) → let number : ℕ = cond w (cond t 10 0) 11 in (number ≡ 0 → ⊥) → number_of (refusal_of number) ≡ number
    go false t some = refl
    go true true some = refl
    go true false some = absurd (some refl)

-- a call that examines book and session, by the numbers of what it refuses itself; `read_refusal` is the one that refuses nothing itself
pub call_numbered : (book session : List ℕ) (own : Run → ℕ)
    → ((own (held (formula_of book) session) ≡ 0 → ⊥) → number_of (refusal_of (own (held (formula_of book) session))) ≡ own (held (formula_of book) session))
    → (call_refusal book session own ≡ 0 → ⊥) → number_of (refusal_of (call_refusal book session own)) ≡ call_refusal book session own
unfolding call_refusal refusal_of first_with refusals
call_numbered book session own numbered some = go (well_formed book) (passes (formula_of book) session) some
  where
    go : (w p : Bool) → let number : ℕ = cond w (cond p (own (held (formula_of book) session)) 12) 11 in (number ≡ 0 → ⊥) → number_of (refusal_of number) ≡ number
    go false p some = refl
    go true false some = refl
    go true true some = numbered some

-- a lookup itself refuses by 13 alone
pub variable_numbered : (book : List ℕ) (v : ℕ) (run : Run) → (variable_refusal book v run ≡ 0 → ⊥)
    → number_of (refusal_of (variable_refusal book v run)) ≡ variable_refusal book v run
unfolding refusal_of first_with refusals
variable_numbered book v run some = go (leb 1 v && leb v (variables_of book)) some
  where
    go : (w : Bool) → let number : ℕ = cond w 0 13 in (number ≡ 0 → ⊥) → number_of (refusal_of number) ≡ number
    go true some = absurd (some refl)
    go false some = refl

-- A list of calls written as numbers, two a call, and a replay that has made some of them.
use Rattle.std.specs.Prelude.{Ok}
use Prim.Native.Nat.{ℕ, suc, ◌+◌, ◌*◌, ◌≤◌, ◌<◌}
use mathlib.Core.Path.{◌≡◌, refl, ap, sym, ◌∙◌}
use mathlib.Core.Bool.{cond}
use mathlib.Core.List.{List, [], ◌∷◌}
use native.Mathlib.Numerals.{add-one, add-two}
use native.Mathlib.Omega.{arith}
use borrow.Author.Tests.{eq-eqb, ne_eqb}
use lib.Dec.{eqb}
use lib.ListN.{length, get_or, drop, length-drop}
use lib.Seq.{drop-cons}
use Rattle.book.specs.Numbers.{formula_of}
use Rattle.engine.specs.Engine.{Becomes}
use Rattle.refusals.specs.Refusals.{checked}
use Rattle.refusals.proofs.OutcomeLaws.{passed}
use Rattle.session.proofs.OpenLaws.{open_done, replay_numbers_lem}
use Rattle.run.specs.Run.{open_run}
use Rattle.run.specs.Calls.{Call, decision, backtrack_by, fix_by}
use Rattle.session.specs.Outcomes.{open_refusal, replay_numbers, calls_of, decide_numbers, backtrack_numbers, fix_numbers, call_numbers, played_numbers}

-- two numbers a call
abbrev call_at : List ℕ → ℕ → Call
call_at calls i =
    cond (eqb (get_or calls i 0) 0) (decision (get_or calls (i + 1) 0))
    (cond (eqb (get_or calls i 0) 2) (fix_by (get_or calls (i + 1) 0)) (backtrack_by (get_or calls (i + 1) 0)))

pub calls_more : (calls : List ℕ) (i : ℕ) → i + 1 < length calls → calls_of (drop i calls) ≡ call_at calls i ∷ calls_of (drop (i + 2) calls)
unfolding calls_of
calls_more calls i h =
    let two : drop i calls ≡ get_or calls i 0 ∷ get_or calls (i + 1) 0 ∷ drop (i + 2) calls
    = rw (add-two i, add-one i) (drop-cons calls i 0 (omega arith) ∙ ap (λ (xs : List ℕ). get_or calls i 0 ∷ xs) (drop-cons calls (suc i) 0 (omega arith))) in
    ap calls_of two

pub calls_end : (calls : List ℕ) (i : ℕ) → length calls ≤ i + 1 → calls_of (drop i calls) ≡ []
unfolding calls_of
calls_end calls i h = none (drop i calls) (rw (length-drop i calls) (omega arith))
  where
    none : (xs : List ℕ) → length xs ≤ 1 → calls_of xs ≡ []
    none [] h = refl
    none (x ∷ []) h = refl
    none (x ∷ y ∷ xs) h = absurd (omega arith)

-- the calls up to i are made: the rest of the list decides
pub record Replaying (book calls opened session : List ℕ) (i : ℕ) : Type 0 where
  pub within : i ≤ length calls
  pub same_length : length session ≡ length opened
  pub same : played_numbers book session (calls_of (drop i calls)) ≡ played_numbers book opened (calls_of calls)

module _ (book calls opened session next : List ℕ) (i : ℕ) (r : Replaying book calls opened session i) (h : i + 1 < length calls) (l : length next ≡ length session) where
  step : (call : Call) → call_at calls i ≡ call → next ≡ call_numbers book session call
      → Replaying book calls opened next (i + 2)
  unfolding played_numbers
  step call k e =
      record {
        within = omega arith;
        same_length = l ∙ r.same_length;
        same = rw e (ap (λ (c : Call). played_numbers book (call_numbers book session c) (calls_of (drop (i + 2) calls))) (sym k) ∙ sym (ap (played_numbers book session) (calls_more calls i h)) ∙ r.same);
      }

  pub replaying_decision : get_or calls i 0 ≡ 0 → next ≡ decide_numbers book session (get_or calls (i + 1) 0) → Replaying book calls opened next (i + 2)
  unfolding call_numbers
  replaying_decision k e = step (decision (get_or calls (i + 1) 0)) (rw (eq-eqb (get_or calls i 0) 0 k)) e

  module _ (other : get_or calls i 0 ≡ 0 → ⊥) where
    pub replaying_fixing : get_or calls i 0 ≡ 2 → next ≡ fix_numbers book session (get_or calls (i + 1) 0) → Replaying book calls opened next (i + 2)
    unfolding call_numbers
    replaying_fixing k e = step (fix_by (get_or calls (i + 1) 0)) (rw (ne_eqb (get_or calls i 0) 0 other, eq-eqb (get_or calls i 0) 2 k)) e

    pub replaying_backtrack : (get_or calls i 0 ≡ 2 → ⊥) → next ≡ backtrack_numbers book session (get_or calls (i + 1) 0) → Replaying book calls opened next (i + 2)
    unfolding call_numbers
    replaying_backtrack k e = step (backtrack_by (get_or calls (i + 1) 0)) (rw (ne_eqb (get_or calls i 0) 0 other, ne_eqb (get_or calls i 0) 2 k)) e

-- one call more, two numbers further
pub replaying_next : (book calls opened session : List ℕ) (k : ℕ) → Replaying book calls opened session (2 * k + 2) → Replaying book calls opened session (2 * (k + 1))
replaying_next book calls opened session k r =
    let two : 2 * (k + 1) ≡ 2 * k + 2 = omega arith in
    rw two r

pub replaying_all : (book calls opened session : List ℕ) (i : ℕ) → Replaying book calls opened session i → length calls ≤ i + 1 → session ≡ played_numbers book opened (calls_of calls)
unfolding played_numbers
replaying_all book calls opened session i r h = sym (ap (played_numbers book session) (calls_end calls i h)) ∙ r.same

-- a replay that was not refused and has made all calls
pub replay_finished : (book calls buffer opened now : List ℕ) (i : ℕ) → Ok tt ≡ checked (open_refusal book (length buffer))
    → Becomes book buffer opened (open_run (formula_of book)) → Replaying book calls opened now i → length calls ≤ i + 1
    → now ≡ replay_numbers book (calls_of calls) buffer
replay_finished book calls buffer opened now i ok b r h =
    let accepted = passed _ tt ok in
    replay_numbers_lem book buffer (calls_of calls) opened now accepted (open_done book buffer opened accepted b).1 (replaying_all book calls opened now i r h)

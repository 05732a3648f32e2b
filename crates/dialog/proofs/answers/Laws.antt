-- What each function of src/answers.rt leaves in the buffer, way out by way out.
use Rattle.std.specs.Prelude.{Some, None, Ok, Err}
use Rattle.refusals.specs.declared.Refusal.{Refusal}
use Rattle.refusals.specs.Refusals.{number_of}
use Prim.Native.Nat.{ℕ, ◌-◌, ◌≤◌, ◌<◌}
use mathlib.Core.Path.{◌≡◌, ap, sym, ◌∙◌}
use mathlib.Core.List.{List}
use native.Mathlib.Omega.{arith}
use borrow.Author.Tests.{lt-ltb, le-ltb}
use lib.ListN.{length, take}
use lib.Seq.{take-nil}
use Rattle.base.specs.Lists.{copied}
use Rattle.base.proofs.Lists.{part}
use Rattle.book.specs.Formula.{max_variables}
use Rattle.book.specs.Numbers.{formula_of}
use Rattle.run.specs.Run.{Run, trail_behind}
use Rattle.layout.specs.Layout.{held}
use Rattle.session.specs.Outcomes.{open_answer, open_numbers, decide_answer, decide_numbers, backtrack_answer, backtrack_numbers, total_answer, figures_answer, copy_answer, copy_numbers}
use Rattle.session.specs.declared.Propagated.{Propagated}
use Rattle.session.specs.declared.Shown.{Shown}
use Rattle.session.specs.declared.Propagated.TheVariants as propagated
use Rattle.script.specs.declared.Line.TheVariants as asks
use Rattle.script.specs.declared.Cause.{Cause}
use Rattle.script.specs.declared.Cause.TheVariants.{Opening, Decision}
use Rattle.script.specs.Script.{line_of}
use Rattle.script.specs.Answers.{implied_line, clause_line, back_line, refused_line, end_line}
use Rattle.script.specs.Buffer.{fitting}
use Rattle.dialog.specs.Answering.{propagated_bytes, back_bytes, end_bytes, line_answer, line_numbers, last_line}
use Rattle.dialog.specs.Starting.{start_left, started_by, open_bytes, opening}
use Rattle.dialog.specs.Taking.{begun_bytes, begun_numbers}
use Rattle.dialog.specs.Program.{HoldsRun}
use Rattle.dialog.specs.Inner.Printing.{Prints, ShowsImplied, PrintsImplied, PrintsPropagated, PrintsLine, PrintsBegun}
use Rattle.dialog.specs.declared.Started.TheVariants as started
use Rattle.dialog.proofs.OutcomeLaws.{trail_few, run_count, run_copy, passing_holds}

-- the two promises of a function that writes a line
abbrev pub Written : List ℕ → List ℕ → List ℕ → ℕ → Type 0
Written bytes out now r = (r ≡ fitting bytes out) × (now ≡ copied bytes out)

printed : {bytes out now : List ℕ} {r : ℕ} → Written bytes out now r → Prints bytes out now r
printed w = record { bytes = w.1; count = w.0 }

printed_as : {bytes other out now : List ℕ} {r : ℕ} → bytes ≡ other → Written bytes out now r → Prints other out now r
printed_as e w = rw e at (printed w)

-- literals that a call implied: the whole trail is copied, and its last ones are shown
module _ (book session : List ℕ) (implied : ℕ) (s : ShowsImplied book session implied) where
  abbrev run : Run
  run = held (formula_of book) session

  whole : HoldsRun book session run session
  whole = passing_holds book session (sym s.passes)

  pub trail_counted : (n : ℕ) → Ok n ≡ copy_answer book session (trail_behind 0) → n ≡ length run.trail
  trail_counted n told = cc (told ∙ run_count book session run session whole)

  pub trail_reaches : (n : ℕ) → Ok n ≡ copy_answer book session (trail_behind 0) → implied ≤ n
  trail_reaches n told = omega (arith, trail_counted n told, s.few)

  pub trail_fits : (n : ℕ) → Ok n ≡ copy_answer book session (trail_behind 0) → n ≤ max_variables
  trail_fits n told = omega (arith, trail_counted n told, trail_few book session run session whole)

  pub trail_shown : (r : Refusal) → Err r ≡ copy_answer book session (trail_behind 0) → ⊥
  trail_shown r told = let z : ◌≡◌ {A = ℕ} 0 1 = cc (told ∙ run_count book session run session whole) in omega arith

  pub implied_prints : (cause : Cause) (from to : ℕ) (zeros literals out now : List ℕ) (r : ℕ) → to ≡ length run.trail → from ≡ length run.trail - implied
      → length run.trail ≤ length zeros → literals ≡ copy_numbers book session (trail_behind 0) zeros
      → Written (implied_line cause (part from to literals)) out now r → PrintsImplied book session cause implied out now r
  implied_prints cause from to zeros literals out now r t f room is w =
      let same : part from to literals ≡ trail_behind (length run.trail - implied) run
      = rw (is, f, t) (run_copy book session run session whole implied zeros s.few room) in
      printed_as (ap (implied_line cause) same) w

-- the line of a call that propagated, by what it came to
module _ (book session : List ℕ) (cause : Cause) (p : Propagated) (out now : List ℕ) (r : ℕ) where
  pub shown_implied : (n : ℕ) → p ≡ propagated.Implied n → PrintsImplied book session cause n out now r → PrintsPropagated book session cause p out now r
  unfolding propagated_bytes
  shown_implied n told prints = rw told prints

  pub shown_conflict : (clause : ℕ) → p ≡ propagated.Conflict clause → Written (clause_line cause clause) out now r → PrintsPropagated book session cause p out now r
  unfolding propagated_bytes
  shown_conflict clause told w = rw told (printed w)

-- an opening, by the cases of its answer
module _ (book session after out now : List ℕ) (r : ℕ) (e : after ≡ open_numbers book session) where
  pub opened_ok : (p : Propagated) → Ok p ≡ open_answer book (length session) → PrintsPropagated book after Opening p out now r
      → start_left (started.Open r) book after now ≡ opening book session out
  unfolding opening open_bytes started_by
  opened_ok p a prints = rw (prints.bytes, prints.count, e, ← a)

  pub opened_refusal : (refusal : Refusal) → Err refusal ≡ open_answer book (length session) → Written (refused_line (number_of refusal)) out now r
      → start_left (started.Refused r) book after now ≡ opening book session out
  unfolding opening open_bytes started_by propagated_bytes
  opened_refusal refusal a w = rw (w.0, w.1, e, ← a)

-- a line, by what it asks for
module _ (book session line : List ℕ) (kept : ℕ) (after out now : List ℕ) (r : ℕ) where
  pub answered_malformed : None ≡ line_of (take kept line) → after ≡ session → Written (refused_line 18) out now r
      → PrintsLine book session after line kept out now r
  unfolding line_answer line_numbers
  answered_malformed told e w = record { prints = rw (← told) (printed w); numbers = rw (← told) e }

  pub answered_choice : (l : ℕ) (p : Propagated) → Some (asks.Choose l) ≡ line_of (take kept line) → Ok p ≡ decide_answer book session l
      → after ≡ decide_numbers book session l → PrintsPropagated book after (Decision l) p out now r → PrintsLine book session after line kept out now r
  unfolding line_answer line_numbers
  answered_choice l p told a e prints = record { prints = rw (← told, ← a, ← e) prints; numbers = rw (← told) e }

  pub answered_unchosen : (l : ℕ) (refusal : Refusal) → Some (asks.Choose l) ≡ line_of (take kept line) → Err refusal ≡ decide_answer book session l
      → after ≡ decide_numbers book session l → Written (refused_line (number_of refusal)) out now r → PrintsLine book session after line kept out now r
  unfolding line_answer line_numbers propagated_bytes
  answered_unchosen l refusal told a e w = record { prints = rw (← told, ← a) (printed w); numbers = rw (← told) e }

  pub answered_back : (k : ℕ) → Some (asks.Back k) ≡ line_of (take kept line) → Ok tt ≡ backtrack_answer book session k → after ≡ backtrack_numbers book session k
      → Written (back_line k) out now r → PrintsLine book session after line kept out now r
  unfolding line_answer line_numbers back_bytes
  answered_back k told a e w = record { prints = rw (← told, ← a) (printed w); numbers = rw (← told) e }

  pub answered_unbacked : (k : ℕ) (refusal : Refusal) → Some (asks.Back k) ≡ line_of (take kept line) → Err refusal ≡ backtrack_answer book session k → after ≡ backtrack_numbers book session k
      → Written (refused_line (number_of refusal)) out now r → PrintsLine book session after line kept out now r
  unfolding line_answer line_numbers back_bytes
  answered_unbacked k refusal told a e w = record { prints = rw (← told, ← a) (printed w); numbers = rw (← told) e }

-- a line that has begun, or none
module _ (book session line : List ℕ) (kept : ℕ) (out : List ℕ) where
  pub begun_some : (after now : List ℕ) (r : ℕ) → 0 < kept → PrintsLine book session after line kept out now r → PrintsBegun book session after line kept out now r
  unfolding begun_bytes begun_numbers
  begun_some after now r some p = record { prints = rw (lt-ltb 0 kept some) p.prints; numbers = rw (lt-ltb 0 kept some) p.numbers }

  pub begun_none : kept ≤ 0 → PrintsBegun book session session line kept out out 0
  unfolding begun_bytes begun_numbers copied fitting
  begun_none none =
      record {
        prints = rw (le-ltb 0 kept none) (record { bytes = rw (take-nil {A = ℕ} (length out)); count = rw (take-nil {A = ℕ} (length out)) });
        numbers = rw (le-ltb 0 kept none);
      }

-- the last line
module _ (book session out now : List ℕ) (r : ℕ) where
  pub ended_unsummed : (refusal : Refusal) → Err refusal ≡ total_answer book session → Written (refused_line (number_of refusal)) out now r → Prints (last_line book session) out now r
  unfolding last_line end_bytes
  ended_unsummed refusal t w = rw (← t) (printed w)

  module _ (v : ℕ) (t : Ok v ≡ total_answer book session) where
    pub ended_unshown : (refusal : Refusal) → Err refusal ≡ figures_answer book session → Written (refused_line (number_of refusal)) out now r → Prints (last_line book session) out now r
    unfolding last_line end_bytes
    ended_unshown refusal f w = rw (← t, ← f) (printed w)

    pub ended_shown : (shown : Shown) → Ok shown ≡ figures_answer book session → Written (end_line shown.decisions shown.backtracks v) out now r → Prints (last_line book session) out now r
    unfolding last_line end_bytes
    ended_shown shown f w = rw (← t, ← f) (printed w)

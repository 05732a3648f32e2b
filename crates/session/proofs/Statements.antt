-- Statements 2 and 3 of the service description, proved of the outcomes that the contracts cite.
use Rattle.std.specs.Prelude.{Ok}
use Rattle.refusals.specs.Refusals.{outcome}
use Prim.Native.Nat.{ℕ, suc, ◌≤◌, ◌<◌}
use mathlib.Core.Path.{◌≡◌, refl, ap, sym, ◌∙◌}
use mathlib.Core.Bool.{Bool, true, false, cond}
use mathlib.Core.List.{List, [], ◌∷◌}
use native.Mathlib.Omega.{arith}
use lib.ListN.{length}
use Rattle.base.specs.Lists.{member, sum}
use Rattle.book.specs.Formula.{positive, negative}
use Rattle.book.specs.Numbers.{well_formed, formula_of, variables_of, clauses_of}
use Rattle.book.proofs.WellFormedLaws.{well_formed_sound}
use Rattle.run.specs.Trail.{level, is_met}
use Rattle.run.specs.Run.{Run, clause_of, size, no_cell, cell_of, list_of, open_run, decide, backtrack}
use Rattle.run.specs.Calls.{Call, backtrack_by, backtrack_refusal, refusal, perform_call, step, step_all, reference}
use Rattle.run.specs.Ceiling.{checks_of}
use Rattle.run.specs.Valid.{Valid}
use Rattle.run.proofs.Theorems.{open_valid, decide_valid, backtrack_valid, step_valid, reference_valid, assigned_is_closure, conflict_is_both_ways, conflict_clause_false, always_met_idle, always_met_never_named, backtrack_keeps, nothing_open_all_met}
use Rattle.run.proofs.Ceiling.{ceiling_in_period, ceiling_in_all, checks_by_period, counts_never_saturate, unscanned_cost_nothing, unscanned_count}
use Rattle.layout.specs.Layout.{required_length, max_session, held}
use Rattle.session.specs.Outcomes.{overwritten, required_answer, total_answer, fixed_answer, open_answer, open_numbers, open_refusal, session_decide_refusal, decide_answer, decide_numbers, backtrack_numbers, lookup_answer, call_numbers, replay_numbers}
use Rattle.validation.specs.Validation.{read_refusal}
use Rattle.session.specs.Statement.{Statement2, OpenReported, DecideReported, Replayed}
use Rattle.session.specs.declared.Assigned.TheVariants.{Open}
use Rattle.layout.proofs.FitsLaws.{required_most}
use Rattle.layout.proofs.EncodeLaws.{encodes_whole}
use Rattle.session.proofs.CallLaws.{held_overwritten, passes_overwritten, call_refusal_lem, call_numbers_lem, open_accepted, replayed}
use Rattle.session.proofs.OpenLaws.{open_none}
use Rattle.session.proofs.PassedLaws.{well, facts, true_within}
use Rattle.session.proofs.AnswerLaws.{decide_none, decide_own}
use Rattle.session.proofs.ReportLaws.{open_run_reported, decide_run_reported}
use Rattle.session.proofs.LookupLaws.{shows_positive, shows_negative, positive_shown, negative_shown, shown_assigned}
use Rattle.run.proofs.Since.{level_since, since_level}

pub statement_2 : (book session : List ℕ) → read_refusal book session ≡ 0 → Statement2 book session
statement_2 book session e =
    let s = well_formed_sound book (well book session (sym e)) in
    let valid = (facts book session (sym e)).0 in
    let run = held (formula_of book) session in
    record {
      closure = assigned_is_closure (formula_of book) run s valid;
      both_ways_lem = conflict_is_both_ways (formula_of book) run s valid;
      conflict_clause = conflict_clause_false (formula_of book) run valid;
      shown_positive = λ quiet v low high.
          let shows = shows_positive book session (sym e) v low high in
          let closed = assigned_is_closure (formula_of book) run s valid quiet (positive v) in
          (λ a. closed.0 ((shows a.0).0 a.1).0, λ k. (level run.trail (positive v), (shows _).1 (closed.1 k, refl)));
      shown_negative = λ quiet v low high.
          let shows = shows_negative book session (sym e) v low high in
          let closed = assigned_is_closure (formula_of book) run s valid quiet (negative v) in
          (λ a. closed.0 ((shows a.0).0 a.1).0, λ k. (level run.trail (negative v), (shows _).1 (closed.1 k, refl)));
      since_positive = λ v n a.
          let shown = (positive_shown book session v n a).1 in
          rw shown.1 at (level_since (formula_of book) s run valid (positive v) shown.0);
      since_negative = λ v n a.
          let shown = (negative_shown book session v n a).1 in
          rw shown.1 at (level_since (formula_of book) s run valid (negative v) shown.0);
      at_level_positive = λ v n known since.
          let shown = since_level (formula_of book) s run valid (positive v) n known since in
          let bounds = true_within book session (sym e) (positive v) shown.0 in
          (shows_positive book session (sym e) v (omega arith) (omega arith) n).1 shown;
      at_level_negative = λ v n known since.
          let shown = since_level (formula_of book) s run valid (negative v) n known since in
          let bounds = true_within book session (sym e) (negative v) shown.0 in
          (shows_negative book session (sym e) v (omega arith) (omega arith) n).1 shown;
    }

-- A clause of no literals, which is always met, watches nothing, stands in no list and is never named: a lent session that has it otherwise fails.
pub always_met_clause : (book session : List ℕ) → read_refusal book session ≡ 0 → (c : ℕ) → size (formula_of book) c ≡ 0
    → let run = held (formula_of book) session in
    (cell_of run c ≡ no_cell) × ((l : ℕ) → member c (list_of run.lists l) ≡ false) × (run.conflict ≡ suc c → ⊥)
always_met_clause book session e c none =
    let valid = (facts book session (sym e)).0 in
    let run = held (formula_of book) session in
    let idle = always_met_idle (formula_of book) run valid c none in
    (idle.0, idle.1, always_met_never_named (formula_of book) run valid c none)

-- valid in, valid out: statement 2 holds after every accepted opening on any lent numbers, and after every call, refused or not
pub open_passes : (book buffer : List ℕ) → open_refusal book (length buffer) ≡ 0 → read_refusal book (open_numbers book buffer) ≡ 0
unfolding open_numbers read_refusal
open_passes book buffer e =
    let ok : well_formed book ≡ true = (open_accepted book buffer e).well in
    rw e (call_refusal_lem book buffer ok (open_run (formula_of book)) (open_valid (formula_of book) (well_formed_sound book ok)) (λ (r : Run). 0))

module _ (book session : List ℕ) (e : read_refusal book session ≡ 0) where
  -- a session that passes is the encoding of what it holds, and what lies behind
  pub whole : session ≡ overwritten (formula_of book) (held (formula_of book) session) session
  unfolding overwritten
  whole =
      encodes_whole (formula_of book) (well_formed_sound book (well book session (sym e))) (held (formula_of book) session)
      (facts book session (sym e)).0 session (facts book session (sym e)).1

  abbrev run : Run
  run = held (formula_of book) session

  ok : well_formed book ≡ true
  ok = well book session (sym e)

  valid : Valid (formula_of book) run
  valid = (facts book session (sym e)).0

  -- a call leaves the numbers of the run's next step
  next_numbers : (call : Call) → call_numbers book session call ≡ overwritten (formula_of book) (step (formula_of book) run call) session
  next_numbers call = ap (λ (numbers : List ℕ). call_numbers book numbers call) whole ∙ call_numbers_lem book session ok run valid call

  next_valid : (call : Call) → Valid (formula_of book) (step (formula_of book) run call)
  next_valid call = step_valid (formula_of book) run (well_formed_sound book ok) call valid

  pub call_holds : (call : Call) → held (formula_of book) (call_numbers book session call) ≡ step (formula_of book) run call
  call_holds call = ap (held (formula_of book)) (next_numbers call) ∙ held_overwritten book session ok (step (formula_of book) run call) (next_valid call)

  pub call_passes : (call : Call) → read_refusal book (call_numbers book session call) ≡ 0
  unfolding read_refusal
  call_passes call = rw (next_numbers call) (call_refusal_lem book session ok (step (formula_of book) run call) (next_valid call) (λ (r : Run). 0))

  -- it costs nothing to a clause of one literal or of none, whatever count is lent for it
  pub call_unscanned : (call : Call) (c : ℕ) → size (formula_of book) c < 2
      → checks_of (held (formula_of book) (call_numbers book session call)) c ≡ checks_of run c
  unfolding step_all
  call_unscanned call c few =
      ap (λ (r : Run). checks_of r c) (call_holds call)
      ∙ unscanned_count (formula_of book) (well_formed_sound book ok) run valid (call ∷ []) c few

total_after : (book buffer : List ℕ) → well_formed book ≡ true → (run : Run) → Valid (formula_of book) run
    → total_answer book (overwritten (formula_of book) run buffer) ≡ Ok (sum run.checks)
unfolding total_answer read_refusal
total_after book buffer well run valid =
    rw (call_refusal_lem book buffer well run valid (λ (r : Run). 0), held_overwritten book buffer well run valid)

pub fixed_after : (book buffer : List ℕ) → well_formed book ≡ true → (run : Run) → Valid (formula_of book) run
    → fixed_answer book (overwritten (formula_of book) run buffer) ≡ Ok run.fixed
unfolding fixed_answer read_refusal
fixed_after book buffer well run valid =
    rw (call_refusal_lem book buffer well run valid (λ (r : Run). 0), held_overwritten book buffer well run valid)

-- the numbers that an accepted opening and an accepted decision leave hold the run that they lead to
pub open_holds : (book buffer : List ℕ) → open_refusal book (length buffer) ≡ 0 → held (formula_of book) (open_numbers book buffer) ≡ open_run (formula_of book)
unfolding open_numbers
open_holds book buffer e =
    let ok : well_formed book ≡ true = (open_accepted book buffer e).well in
    rw e (held_overwritten book buffer ok (open_run (formula_of book)) (open_valid (formula_of book) (well_formed_sound book ok)))

pub open_reported : (book buffer : List ℕ) → open_refusal book (length buffer) ≡ 0 → OpenReported book buffer
unfolding open_answer
open_reported book buffer e =
    rw (open_holds book buffer e, e) (open_run_reported book (well_formed_sound book (open_accepted book buffer e).well))

module _ (book session : List ℕ) (l : ℕ) (e : session_decide_refusal book session l ≡ 0) where
  abbrev before : Run
  before = held (formula_of book) session

  decided_valid : Valid (formula_of book) (decide (formula_of book) l before)
  decided_valid =
      let none = decide_none book session l (sym e) in
      decide_valid (formula_of book) l before (well_formed_sound book (well book session none)) (facts book session none).0 (decide_own book session l (sym e))

  pub decide_holds : held (formula_of book) (decide_numbers book session l) ≡ decide (formula_of book) l before
  unfolding decide_numbers
  decide_holds =
      rw e (held_overwritten book session (well book session (decide_none book session l (sym e))) (decide (formula_of book) l before) decided_valid)

  pub decide_reported : DecideReported book session l
  unfolding decide_answer
  decide_reported =
      let none = decide_none book session l (sym e) in
      rw (decide_holds, e) (decide_run_reported book (well_formed_sound book (well book session none)) l before (facts book session none).0 (decide_own book session l (sym e)))

-- Out of conflict, where lookup answers open for no variable, every clause is met.
pub nothing_open_met : (book session : List ℕ) → read_refusal book session ≡ 0 → (held (formula_of book) session).conflict ≡ 0
    → ((x : ℕ) → 1 ≤ x → x ≤ variables_of book → lookup_answer book session x ≡ Ok Open → ⊥)
    → (c : ℕ) → c < length (formula_of book).clauses → is_met (held (formula_of book) session).trail (clause_of (formula_of book) c) ≡ true
nothing_open_met book session e quiet none_open =
    nothing_open_all_met (formula_of book) (held (formula_of book) session) (well_formed_sound book (well book session (sym e))) (facts book session (sym e)).0 quiet
    (λ x low high. shown_assigned book session (sym e) x low high (none_open x low high))

-- The required length is at most `max_session`, and the paper allows 14,000; so many numbers suffice for every book.
pub required_within : (book : List ℕ) (n : ℕ) → required_answer book ≡ Ok n → (n ≤ max_session) × (max_session ≤ 14000)
unfolding required_answer
required_within book n e = (go (well_formed book) refl e, omega arith)
  where
    go : (w : Bool) → well_formed book ≡ w → outcome (cond w 0 11) (required_length (variables_of book) (clauses_of book)) ≡ Ok n → n ≤ max_session
    go true p q = let is : required_length (variables_of book) (clauses_of book) ≡ n = cc in omega (arith, required_most book p)
    go false p q = let z : ◌≡◌ {A = ℕ} 0 1 = cc in absurd (omega arith)

pub numbers_suffice : (book : List ℕ) (room : ℕ) → well_formed book ≡ true → max_session ≤ room → open_refusal book room ≡ 0
numbers_suffice book room ok h = sym (open_none book [] room ok (omega (arith, required_most book ok)))

backtrack_after : (book buffer : List ℕ) → well_formed book ≡ true → (run : Run) → Valid (formula_of book) run → (k : ℕ) → backtrack_refusal k run ≡ 0
    → held (formula_of book) (backtrack_numbers book (overwritten (formula_of book) run buffer) k) ≡ backtrack k run
unfolding call_numbers step refusal perform_call
backtrack_after book buffer ok run valid k z =
    ap (held (formula_of book)) (call_numbers_lem book buffer ok run valid (backtrack_by k))
    ∙ rw z (held_overwritten book buffer ok (backtrack k run) (backtrack_valid (formula_of book) k run (well_formed_sound book ok) valid z))

-- of the numbers that an accepted opening and then the calls of a list leave
pub statement_3 : (book buffer : List ℕ) (calls : List Call) (left : List ℕ) → left ≡ replay_numbers book calls buffer → Replayed book buffer calls left
statement_3 book buffer calls left same e =
    let ok : well_formed book ≡ true = (open_accepted book buffer e).well in
    let s = well_formed_sound book ok in
    let run = reference (formula_of book) calls in
    let valid = reference_valid (formula_of book) s calls in
    let is : left ≡ overwritten (formula_of book) run buffer = same ∙ replayed book buffer calls e in
    record {
      holds = ap (held (formula_of book)) is ∙ held_overwritten book buffer ok run valid;
      numbers = is;
      book_passes = ok;
      session_passes = rw is (passes_overwritten book buffer ok run valid);
      fixed = rw is (fixed_after book buffer ok run valid);
      total = rw is (total_after book buffer ok run valid);
      exact = counts_never_saturate (formula_of book) s calls;
      periods = checks_by_period (formula_of book) s calls;
      in_period = ceiling_in_period (formula_of book) s calls;
      in_all = ceiling_in_all (formula_of book) s calls;
      unscanned = unscanned_cost_nothing (formula_of book) s calls;
      backtrack_moves_nothing = λ k z.
          rw (ap (λ (numbers : List ℕ). held (formula_of book) (backtrack_numbers book numbers k)) is ∙ backtrack_after book buffer ok run valid k z)
          (let kept = backtrack_keeps k run in (kept.1, kept.2, kept.3));
    }

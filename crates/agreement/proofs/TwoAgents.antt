-- Two sessions on one book that pass: same decisions in force, same outcome.
use Prim.Native.Nat.{ℕ}
use mathlib.Core.Path.{◌≡◌, refl, ap, sym, ◌∙◌}
use mathlib.Core.Bool.{Bool, true, false, cond, ◌&&◌}
use mathlib.Core.List.{List}
use lib.Dec.{leb}
use lib.ListN.{length}
use Rattle.base.specs.Lists.{member}
use Rattle.base.proofs.Bools.{same_test}
use Rattle.book.specs.Formula.{Formula, positive, negative, sound}
use Rattle.book.specs.Numbers.{well_formed, formula_of, variables_of}
use Rattle.book.proofs.WellFormedLaws.{well_formed_sound}
use Rattle.run.specs.Trail.{is_true, decisions}
use Rattle.run.specs.Run.{Run, in_conflict}
use Rattle.run.specs.Calls.{Call, reference}
use Rattle.run.specs.Valid.{Valid}
use Rattle.run.proofs.Theorems.{same_decisions_agree, conflicting_decisions, true_decisions_agree, true_decisions_conflict}
use Rattle.run.proofs.Conflicts.{out_quiet}
use Rattle.run.proofs.ClosureLaws.{decisions_true}
use Rattle.layout.specs.Layout.{held}
use Rattle.validation.specs.Validation.{call_refusal, read_refusal}
use Rattle.validation.proofs.ValidateLaws.{read_none}
use Rattle.std.specs.Prelude.{Result, Ok, Err}
use Rattle.refusals.specs.declared.Refusal.{Refusal}
use Rattle.refusals.specs.declared.Refusal.TheVariants as refusal
use Rattle.refusals.specs.Refusals.{refusals, first_with, refusal_of, outcome}
use Rattle.session.specs.Outcomes.{assigned_of, lookup_refusal, lookup_answer, open_refusal, replay_numbers}
use Rattle.session.specs.Statement.{Statement3}
use Rattle.session.specs.declared.Assigned.{Assigned}
use Rattle.session.specs.declared.Assigned.TheVariants.{Open, Positive, Negative}
use Rattle.session.proofs.AnswerLaws.{variable_refusal}
use Rattle.session.proofs.PassedLaws.{well, facts, own_refusal}
use Rattle.session.proofs.Statements.{statement_3}
use Rattle.agreement.specs.Agreement.{unlevelled, SameDecisions, DecisionsTrue, Agreement}

-- what a lookup says but for the level, by whether the number is a variable's and which of its literals are true
abbrev said : Bool → Bool → Bool → Result Assigned Refusal
said variable t f = cond variable (cond t (Ok (Positive 0)) (cond f (Ok (Negative 0)) (Ok Open))) (Err refusal.NoVariable)

lookup_says : (book session : List ℕ) → 0 ≡ read_refusal book session → (v : ℕ)
    → let trail = (held (formula_of book) session).trail in
    unlevelled (lookup_answer book session v) ≡ said (leb 1 v && leb v (variables_of book)) (is_true trail (positive v)) (is_true trail (negative v))
unfolding unlevelled lookup_answer lookup_refusal refusal_of first_with refusals
lookup_says book session none v =
    let run = held (formula_of book) session in
    rw (own_refusal book session none (variable_refusal book v))
    (go (leb 1 v && leb v (variables_of book)) (is_true run.trail (positive v)) (is_true run.trail (negative v)) refl refl)
  where
    go : (variable t f : Bool) → is_true (held (formula_of book) session).trail (positive v) ≡ t → is_true (held (formula_of book) session).trail (negative v) ≡ f
        → unlevelled (assigned_of v (outcome (cond variable 0 13) (held (formula_of book) session))) ≡ said variable t f
    go false t f p q = refl
    go true true f p q = rw p
    go true false true p q = rw (p, q)
    go true false false p q = rw (p, q)

-- Of two sessions on one book that pass:
module _ (book a b : List ℕ) (e : read_refusal book a ≡ 0) (f : read_refusal book b ≡ 0) where
  abbrev formula : Formula
  formula = formula_of book

  abbrev run_a : Run
  run_a = held formula a

  abbrev run_b : Run
  run_b = held formula b

  s : sound formula ≡ true
  s = well_formed_sound book (well book a (sym e))

  valid_a : Valid formula run_a
  valid_a = (facts book a (sym e)).0

  valid_b : Valid formula run_b
  valid_b = (facts book b (sym f)).0

  -- they agree where they are in conflict alike, and where out of conflict the same literals are true
  agreed : (in_conflict run_a ≡ true → in_conflict run_b ≡ true) → (in_conflict run_b ≡ true → in_conflict run_a ≡ true)
      → (run_a.conflict ≡ 0 → run_b.conflict ≡ 0 → (l : ℕ) → is_true run_a.trail l ≡ is_true run_b.trail l) → Agreement book a b
  agreed there back same =
      let alike = same_test (in_conflict run_a) (in_conflict run_b) there back in
      record {
        conflicts = alike;
        lookups = λ quiet v.
            let quiet-a : in_conflict run_a ≡ false = cc in
            let quiet-b : in_conflict run_b ≡ false = cc in
            let true-alike = same (out_quiet run_a quiet-a) (out_quiet run_b quiet-b) in
            rw (lookup_says book a (sym e) v, lookup_says book b (sym f) v, true-alike (positive v), true-alike (negative v));
      }

  -- Two that hold the same decisions have one outcome.
  pub two_agents : SameDecisions book a b → Agreement book a b
  two_agents same =
      agreed (conflicting_decisions formula run_a run_b s valid_a valid_b same) (conflicting_decisions formula run_b run_a s valid_b valid_a (λ l. sym (same l)))
      (same_decisions_agree formula run_a run_b s valid_a valid_b same)

  -- So have two in which each one's decisions are true in the other, as where a decision of the one was refused in the other because it was implied already.
  pub one_outcome : DecisionsTrue book a b → DecisionsTrue book b a → Agreement book a b
  one_outcome in_b in-a =
      agreed (true_decisions_conflict formula run_a run_b s valid_a valid_b in_b) (true_decisions_conflict formula run_b run_a s valid_b valid_a in-a)
      (true_decisions_agree formula run_a run_b s valid_a valid_b in_b in-a)

  -- If a is in conflict, so is b where a's decisions are true in it; and they are where b holds them, alone or with others.
  pub never_without_conflict : in_conflict run_a ≡ true → DecisionsTrue book a b → in_conflict run_b ≡ true
  never_without_conflict conflicted in_b = true_decisions_conflict formula run_a run_b s valid_a valid_b in_b conflicted

  pub never_held_without_conflict : in_conflict run_a ≡ true
      → ((l : ℕ) → member l (decisions run_a.trail) ≡ true → member l (decisions run_b.trail) ≡ true) → in_conflict run_b ≡ true
  never_held_without_conflict conflicted holds = never_without_conflict conflicted (λ l h. decisions_true run_b.trail l (holds l h))

-- After two lists of calls that leave the same decisions in force, refused calls included, each after an accepted opening on any lent numbers, there is one outcome.
pub two_lists : (book lentA lentB : List ℕ) (calls_a callsB : List Call) → open_refusal book (length lentA) ≡ 0 → open_refusal book (length lentB) ≡ 0
    → ((l : ℕ) → member l (decisions (reference (formula_of book) calls_a).trail) ≡ member l (decisions (reference (formula_of book) callsB).trail))
    → Agreement book (replay_numbers book calls_a lentA) (replay_numbers book callsB lentB)
two_lists book lentA lentB calls_a callsB e f same =
    two_agents book (replay_numbers book calls_a lentA) (replay_numbers book callsB lentB) (passing left) (passing right)
    (λ l. rw (left.holds, right.holds) (same l))
  where
    left : Statement3 book lentA calls_a (replay_numbers book calls_a lentA)
    left = statement_3 book lentA calls_a (replay_numbers book calls_a lentA) refl e

    right : Statement3 book lentB callsB (replay_numbers book callsB lentB)
    right = statement_3 book lentB callsB (replay_numbers book callsB lentB) refl f

    passing : {lent : List ℕ} {calls : List Call} {numbers : List ℕ} → Statement3 book lent calls numbers → read_refusal book numbers ≡ 0
    passing {numbers = numbers} statement = sym (read_none book numbers statement.book_passes statement.session_passes)

-- A copy of the book, with other numbers behind it: well-formed numbers that hold the same formula. On either a session is refused alike and holds the same
-- run, and every lookup answers the same, the level included; so each theorem above on two sessions that pass holds of agents with a copy each.
pub another_copy : (book copy session : List ℕ) → well_formed book ≡ true → well_formed copy ≡ true → formula_of book ≡ formula_of copy
    → (read_refusal book session ≡ read_refusal copy session)
    × (held (formula_of book) session ≡ held (formula_of copy) session)
    × ((v : ℕ) → lookup_answer book session v ≡ lookup_answer copy session v)
unfolding read_refusal call_refusal lookup_answer lookup_refusal
another_copy book copy session ok well-copied same = (
  rw (ok, well-copied, same),
  ap (λ (f : Formula). held f session) same,
  λ v. rw (ok, well-copied, same, ap (λ (f : Formula). f.variables) same),
)

-- `two_agents` with a on the book and b on its copy.
pub two_copies : (book copy a b : List ℕ) → formula_of book ≡ formula_of copy → read_refusal book a ≡ 0 → read_refusal copy b ≡ 0 → SameDecisions book a b
    → Agreement book a b × (held (formula_of book) b ≡ held (formula_of copy) b) × ((v : ℕ) → lookup_answer book b v ≡ lookup_answer copy b v)
two_copies book copy a b one-book e f same =
    let on-copy = another_copy book copy b (well book a (sym e)) (well copy b (sym f)) one-book in
    (two_agents book a b e (on-copy.0 ∙ f) same, on-copy.1, on-copy.2)

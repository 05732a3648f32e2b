-- What is settled and reported on a book that was read from a text: by the closure of the text as read, and as written.
use Rattle.std.specs.Prelude.{Ok}
use Prim.Native.Nat.{ℕ, ◌-◌, ◌≤◌, ◌<◌}
use native.Mathlib.Omega.{arith}
use mathlib.Core.Bool.{true, false}
use mathlib.Core.List.{List, [], ◌∷◌}
use mathlib.Core.Logic.{◌↔◌, ◌⊎◌, inl, inr}
use mathlib.Core.Path.{◌≡◌, sym, ap, subst, ◌∙◌}
use lib.ListN.{length}
use Rattle.base.proofs.Bools.{never, true_or_false, below}
use Rattle.book.specs.Formula.{Formula, positive, negative}
use Rattle.book.specs.Numbers.{numbers_of, formula_of}
use Rattle.book.specs.Text.{lines_of}
use Rattle.book.specs.Reading.{formula_in, read_formula, accepted, read_text}
use Rattle.book.specs.Answer.{numbers_after}
use Rattle.book.proofs.Accepted.{accepted_read, read_formula_lem}
use Rattle.run.specs.Trail.{decisions}
use Rattle.run.specs.Run.{Run, in_conflict}
use Rattle.run.specs.Calls.{oldest_decisions}
use Rattle.run.specs.Closure.{Closure, BothWays, Since}
use Rattle.run.proofs.Conflicts.{quiet_out}
use Rattle.run.proofs.AsWritten.{read_closure_written, closure_as_written}
use Rattle.layout.specs.Layout.{held}
use Rattle.run.proofs.Since.{older_consistent}
use Rattle.validation.specs.Validation.{passes, read_refusal}
use Rattle.validation.proofs.ValidateLaws.{read_none}
use Rattle.session.specs.Outcomes.{open_refusal, open_answer, open_numbers, session_decide_refusal, decide_answer, decide_numbers, lookup_answer}
use Rattle.session.specs.Statement.{Reported, Statement2}
use Rattle.session.specs.declared.Assigned.TheVariants.{Positive, Negative}
use Rattle.book.proofs.WellFormedLaws.{well_formed_sound}
use Rattle.session.proofs.PassedLaws.{well, facts}
use Rattle.session.proofs.Statements.{statement_2, open_reported, decide_reported}
use Rattle.session.proofs.ShownLevels.{lookup_level_within}

module _ (text buffer : List ℕ) (formula : Formula) (h : read_text text ≡ accepted formula) (room : length (numbers_of formula) ≤ length buffer) where
  abbrev book : List ℕ
  book = numbers_after (read_text text) buffer

  -- the formula as written
  abbrev written : Formula
  written = formula_in (lines_of text)

  same : formula_of book ≡ formula
  same = (read_formula_lem text buffer formula h room).0

  -- What an accepted opening and an accepted decision report: conflicts, the clause named and the literals implied are by the closure of the text as read.
  pub text_open_reported : (lent : List ℕ) → open_refusal book (length lent) ≡ 0
      → Reported formula [] (λ l. ⊥) (held formula (open_numbers book lent)) (open_answer book (length lent))
  text_open_reported lent e =
      subst (λ (f : Formula). Reported f [] (λ l. ⊥) (held f (open_numbers book lent)) (open_answer book (length lent))) same (open_reported book lent e)

  pub text_decide_reported : (session : List ℕ) (l : ℕ) → session_decide_refusal book session l ≡ 0
      → let ds = decisions (held formula session).trail in
      Reported formula (l ∷ ds) (λ m. (m ≡ l) ⊎ Closure formula ds m) (held formula (decide_numbers book session l)) (decide_answer book session l)
  text_decide_reported session l e =
      subst
      (λ (f : Formula). Reported f (l ∷ decisions (held f session).trail) (λ m. (m ≡ l) ⊎ Closure f (decisions (held f session).trail) m)
      (held f (decide_numbers book session l)) (decide_answer book session l))
      same (decide_reported book session l e)

  -- what the closures of the formula as read and as written have to do with each other
  module _ (ds : List ℕ) where
    within-written : {l : ℕ} → Closure formula ds l → Closure written ds l
    within-written {l} k = read_closure_written written ds (subst (λ (f : Formula). Closure f ds l) (accepted_read text formula h) k)

    same-closure : (BothWays (Closure formula ds) → ⊥) → (l : ℕ) → Closure formula ds l ↔ Closure written ds l
    same-closure = rest formula (accepted_read text formula h)
      where
        rest : (f : Formula) → f ≡ read_formula written → (BothWays (Closure f ds) → ⊥) → (l : ℕ) → Closure f ds l ↔ Closure written ds l
        rest f e = rw e (closure_as_written written ds)

  module _ (session : List ℕ) (passing : passes formula session ≡ true) where
    abbrev run : Run
    run = held formula session

    passed : 0 ≡ read_refusal book session
    passed = read_none book session (read_formula_lem text buffer formula h room).1 (ap (λ (f : Formula). passes f session) same ∙ passing)

    settled : Statement2 book session
    settled = statement_2 book session (sym passed)

    -- Out of conflict lookup answers positive, or negative, at some level exactly if that literal of the variable is in the closure of the decisions in force.
    pub text_closure : run.conflict ≡ 0 → (v : ℕ) → 1 ≤ v → v ≤ formula.variables
        → (((n : ℕ) × (lookup_answer book session v ≡ Ok (Positive n))) ↔ Closure formula (decisions run.trail) (positive v))
        × (((n : ℕ) × (lookup_answer book session v ≡ Ok (Negative n))) ↔ Closure formula (decisions run.trail) (negative v))
    text_closure quiet v low high =
        let still = ap (λ (f : Formula). (held f session).conflict) same ∙ quiet in
        let inside : v ≤ (formula_of book).variables = omega (arith, ap (λ (f : Formula). f.variables) same) in
        rw (← same) (settled.shown_positive still v low inside, settled.shown_negative still v low inside)

    -- The level tells since which decision, in conflict too; what is so since the n-th decision is shown at level n, out of conflict, and in conflict where a
    -- later decision is in force.
    pub text_since : (v n : ℕ)
        → (lookup_answer book session v ≡ Ok (Positive n) → Since formula run n (positive v))
        × (lookup_answer book session v ≡ Ok (Negative n) → Since formula run n (negative v))
    text_since v n = rw (← same) (settled.since_positive v n, settled.since_negative v n)

    pub text_at_level : (v n : ℕ) → (run.conflict ≡ 0) ⊎ (n < length (decisions run.trail))
        → (Since formula run n (positive v) → lookup_answer book session v ≡ Ok (Positive n))
        × (Since formula run n (negative v) → lookup_answer book session v ≡ Ok (Negative n))
    text_at_level v n =
        subst
        (λ (f : Formula). ((held f session).conflict ≡ 0) ⊎ (n < length (decisions (held f session).trail))
        → (Since f (held f session) n (positive v) → lookup_answer book session v ≡ Ok (Positive n))
        × (Since f (held f session) n (negative v) → lookup_answer book session v ≡ Ok (Negative n)))
        same (λ known. (settled.at_level_positive v n known, settled.at_level_negative v n known))

    pub text_conflict : (in_conflict run ≡ true) ↔ BothWays (Closure formula (decisions run.trail))
    text_conflict = rw (← same) settled.both_ways_lem

    -- with fewer decisions than are in force no variable is both ways in the closure
    older-consistently : (m : ℕ) → m < length (decisions run.trail) → BothWays (Closure formula (oldest_decisions m run)) → ⊥
    older-consistently =
        subst (λ (f : Formula). (m : ℕ) → m < length (decisions (held f session).trail) → BothWays (Closure f (oldest_decisions m (held f session))) → ⊥) same
        (older_consistent (formula_of book) (well_formed_sound book (well book session passed)) (held (formula_of book) session) (facts book session passed).0)

    -- Of the text as written this holds, too: what repeats in a clause, or stands both ways, changes neither what is settled and since when nor when there is a conflict.
    pub text_closure_written : run.conflict ≡ 0 → (v : ℕ) → 1 ≤ v → v ≤ formula.variables
        → (((n : ℕ) × (lookup_answer book session v ≡ Ok (Positive n))) ↔ Closure written (decisions run.trail) (positive v))
        × (((n : ℕ) × (lookup_answer book session v ≡ Ok (Negative n))) ↔ Closure written (decisions run.trail) (negative v))
    text_closure_written quiet v low high =
        let shown = text_closure quiet v low high in
        let none : BothWays (Closure formula (decisions run.trail)) → ⊥
        = λ both. never (text_conflict.1 both) (quiet_out run quiet) in
        let p = same-closure (decisions run.trail) none (positive v) in
        let n = same-closure (decisions run.trail) none (negative v) in (
          (λ a. p.0 (shown.0.0 a), λ k. shown.0.1 (p.1 k)),
          (λ a. n.0 (shown.1.0 a), λ k. shown.1.1 (n.1 k)),
        )

    -- the closures of the oldest decisions are the same for fewer than are in force, and out of conflict for all
    same_oldest : (m : ℕ) → (run.conflict ≡ 0) ⊎ (m < length (decisions run.trail)) → (l : ℕ)
        → Closure formula (oldest_decisions m run) l ↔ Closure written (oldest_decisions m run) l
    same_oldest m known = same-closure (oldest_decisions m run) (consistently known (below m (length (decisions run.trail))))
      where
        consistently : (run.conflict ≡ 0) ⊎ (m < length (decisions run.trail)) → (m < length (decisions run.trail)) ⊎ (length (decisions run.trail) ≤ m)
            → BothWays (Closure formula (oldest_decisions m run)) → ⊥
        consistently known (inl fewer) both = older-consistently m fewer both
        consistently (inl quiet) (inr all) both =
            let none : length (decisions run.trail) - m ≡ 0 = omega arith in
            never (text_conflict.1 (rw none at both)) (quiet_out run quiet)
        consistently (inr fewer) (inr all) both = absurd (omega arith)

    pub text_since_written : (v n : ℕ)
        → (lookup_answer book session v ≡ Ok (Positive n) → Since written run n (positive v))
        × (lookup_answer book session v ≡ Ok (Negative n) → Since written run n (negative v))
    text_since_written v n = (
      λ a. as_written (positive v) ((text_since v n).0 a) (within (inl a)),
      λ a. as_written (negative v) ((text_since v n).1 a) (within (inr a)),
    )
      where
        within : (lookup_answer book session v ≡ Ok (Positive n)) ⊎ (lookup_answer book session v ≡ Ok (Negative n)) → n ≤ length (decisions run.trail)
        within a = rw (← same) (lookup_level_within book session v n a).0

        as_written : (l : ℕ) → Since formula run n l → n ≤ length (decisions run.trail) → Since written run n l
        as_written l since few =
            record {
              follows = within-written (oldest_decisions n run) since.follows;
              not_before = λ m fewer k. since.not_before m fewer ((same_oldest m (inr (omega arith)) l).1 k);
            }

    pub text_at_level_written : (v n : ℕ) → (run.conflict ≡ 0) ⊎ (n < length (decisions run.trail))
        → (Since written run n (positive v) → lookup_answer book session v ≡ Ok (Positive n))
        × (Since written run n (negative v) → lookup_answer book session v ≡ Ok (Negative n))
    text_at_level_written v n known = (
      λ since. (text_at_level v n known).0 (as_read (positive v) since),
      λ since. (text_at_level v n known).1 (as_read (negative v) since),
    )
      where
        as_read : (l : ℕ) → Since written run n l → Since formula run n l
        as_read l since =
            record {
              follows = (same_oldest n known l).1 since.follows;
              not_before = λ m fewer k. since.not_before m fewer (within-written (oldest_decisions m run) k);
            }

    pub text_conflict_written : (in_conflict run ≡ true) ↔ BothWays (Closure written (decisions run.trail))
    text_conflict_written =
        (λ e. let both = text_conflict.0 e in (both.0, within-written (decisions run.trail) both.1, within-written (decisions run.trail) both.2), λ both. go both (true_or_false (in_conflict run)))
      where
        go : BothWays (Closure written (decisions run.trail)) → (in_conflict run ≡ true) ⊎ (in_conflict run ≡ false) → in_conflict run ≡ true
        go both (inl e) = e
        go both (inr e) =
            let k = same-closure (decisions run.trail) (λ read. never (text_conflict.1 read) e) in
            text_conflict.1 (both.0, (k _).1 both.1, (k _).1 both.2)

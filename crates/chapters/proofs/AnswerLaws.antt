-- What the copy of the counts answers, and what follows for the answer and the lent totals.
use Prim.Native.Nat.{ℕ, ◌≤◌}
use mathlib.Core.Path.{◌≡◌, sym, ap, ◌∙◌}
use mathlib.Core.Bool.{Bool, true, false}
use mathlib.Core.List.{List, ◌++◌}
use native.Mathlib.Omega.{arith}
use lib.ListN.{length, take, drop}
use lib.Seq.{take_all}
use Rattle.std.specs.Prelude.{Result, Ok, Err}
use Rattle.base.proofs.Copies.{take_copy}
use Rattle.refusals.specs.declared.Refusal.{Refusal}
use Rattle.refusals.proofs.OutcomeLaws.{outcome_accepted, refused_alike}
use Rattle.book.specs.Formula.{max_clauses}
use Rattle.book.specs.Numbers.{clauses_of, formula_of}
use Rattle.layout.specs.Layout.{held}
use Rattle.validation.specs.Validation.{read_refusal}
use Rattle.session.specs.Outcomes.{copy_answer, copy_numbers, checks_of_run}
use Rattle.session.proofs.PassedLaws.{checks_count, few_clauses}
use Rattle.chapters.specs.Chapters.{chapter_count, chapter_totals, chapters_fit, totals_after, chapter_answer, chapter_numbers}

-- where it answers true or false, the session passes, and the answer is whether the chapters fit
pub filed_passes : (book session chapters : List ℕ) (room : ℕ) (fit : Bool) → chapter_answer book session chapters room ≡ Ok fit
    → (0 ≡ read_refusal book session) × (chapters_fit (clauses_of book) chapters room ≡ fit)
unfolding chapter_answer
filed_passes book session chapters room fit e =
    let told = outcome_accepted (read_refusal book session) (chapters_fit (clauses_of book) chapters room) fit e in
    (sym told.0, told.1)

module _ (book session : List ℕ) where
  abbrev pub counts : List ℕ
  counts = (held (formula_of book) session).checks

  -- where a count is told, it is that of the clauses, and a copy to max_clauses numbers begins with all counts
  module _ (n : ℕ) (e : Ok n ≡ copy_answer book session checks_of_run) where
    told : (read_refusal book session ≡ 0) × (length counts ≡ n)
    unfolding copy_answer
    told = outcome_accepted (read_refusal book session) (length counts) n (sym e)

    none : 0 ≡ read_refusal book session
    none = sym told.0

    clauses-told : n ≡ clauses_of book
    clauses-told = sym told.1 ∙ checks_count book session none

    pub few_told : n ≤ max_clauses
    few_told = omega (arith, clauses-told, few_clauses book session none)

    counts-copied : (zeros : List ℕ) → length zeros ≡ max_clauses → take n (copy_numbers book session checks_of_run zeros) ≡ counts
    unfolding copy_numbers
    counts-copied zeros room =
        let all-of-them : take (length zeros) counts ≡ counts = take_all (length zeros) counts (omega (arith, room, few_told, told.1)) in
        let size : n ≡ length (take (length zeros) counts) = sym told.1 ∙ ap length (sym all-of-them) in
        rw (← none, size, take_copy counts zeros) all-of-them

  module _ (chapters totals : List ℕ) where
    -- the lent totals follow the answer
    pub after : (answer : Result Bool Refusal) → answer ≡ chapter_answer book session chapters (length totals)
        → totals_after (chapter_totals counts chapters) totals answer ≡ chapter_numbers book session chapters totals
    unfolding chapter_numbers
    after answer e = ap (totals_after (chapter_totals counts chapters) totals) e

    pub answers_refused : (r : Refusal) → Err r ≡ copy_answer book session checks_of_run
        → (Err r ≡ chapter_answer book session chapters (length totals)) × (totals ≡ chapter_numbers book session chapters totals)
    unfolding chapter_answer copy_answer
    answers_refused r e =
        let is : Err r ≡ chapter_answer book session chapters (length totals) = sym (refused_alike (read_refusal book session) _ _ r (sym e)) in
        (is, after (Err r) is)

    module _ (n : ℕ) (e : Ok n ≡ copy_answer book session checks_of_run) where
      answers : (fit : Bool) → fit ≡ chapters_fit n chapters (length totals) → Ok fit ≡ chapter_answer book session chapters (length totals)
      unfolding chapter_answer
      answers fit is = rw (← none n e, ← clauses-told n e, ← is)

      pub answers_unfit : false ≡ chapters_fit n chapters (length totals)
          → (Ok false ≡ chapter_answer book session chapters (length totals)) × (totals ≡ chapter_numbers book session chapters totals)
      answers_unfit unfit = (answers false unfit, after (Ok false) (answers false unfit))

      pub answers_fit : (zeros copy now : List ℕ) → length zeros ≡ max_clauses → copy ≡ copy_numbers book session checks_of_run zeros
          → true ≡ chapters_fit n chapters (length totals) → now ≡ chapter_totals (take n copy) chapters ++ drop chapter_count totals
          → (Ok true ≡ chapter_answer book session chapters (length totals)) × (now ≡ chapter_numbers book session chapters totals)
      answers_fit zeros copy now room is fit written =
          let same : take n copy ≡ counts = rw is (counts-copied n e zeros room) in
          (answers true fit, written ∙ rw same (after (Ok true) (answers true fit)))

-- What request K6 says of the totals: each is that of its chapter, together they are the session's total, what is lent behind them stays.
use Prim.Native.Nat.{ℕ, suc, ◌≤◌, ◌<◌}
use mathlib.Core.Path.{◌≡◌, refl, sym, ap, ◌∙◌}
use mathlib.Core.Bool.{Bool, true, false, cond}
use mathlib.Core.List.{List, [], ◌∷◌, ◌++◌}
use native.Mathlib.Omega.{arith}
use borrow.Author.Tests.{eq-eqb, ne_eqb}
use lib.Dec.{eqb}
use lib.ListN.{length, get_or, take, drop, get_or-append}
use lib.Seq.{take_at, drop_at}
use Rattle.std.specs.Prelude.{Result, Ok, Err}
use Rattle.refusals.specs.declared.Refusal.{Refusal}
use Rattle.base.specs.Lists.{table, sum}
use Rattle.base.proofs.Tables.{length-table, get_or-table}
use Rattle.base.proofs.Sums.{sum_zeros, sum_single, sum_both}
use Rattle.book.specs.Numbers.{clauses_of, formula_of}
use Rattle.run.specs.Calls.{Call, reference}
use Rattle.validation.specs.Validation.{read_refusal, call_refusal}
use Rattle.session.specs.Outcomes.{total_answer, open_refusal, replay_numbers}
use Rattle.session.proofs.PassedLaws.{checks_count, total_is}
use Rattle.session.proofs.Statements.{statement_3}
use Rattle.chapters.specs.Chapters.{chapter_count, chapter_total, chapter_totals, chapters_fit, totals_after, chapter_answer, chapter_numbers}
use Rattle.chapters.proofs.FitLaws.{Within, true_fit}
use Rattle.chapters.proofs.AnswerLaws.{filed_passes, counts, after}

-- the totals of chapters that are not over 31, one for each count, add up to the sum of the counts
sum_by_chapter : (counts chapters : List ℕ) → length counts ≤ length chapters → Within chapters (length counts)
    → sum (chapter_totals counts chapters) ≡ sum counts
unfolding chapter_totals chapter_total sum
sum_by_chapter [] chapters enough within = sum_zeros chapter_count (λ (k : ℕ). chapter_total k [] chapters) (λ k. refl)
sum_by_chapter (count ∷ counts) [] enough within = absurd (omega arith)
sum_by_chapter (count ∷ counts) (chapter ∷ chapters) enough within =
    let here : sum (table chapter_count (λ (k : ℕ). cond (eqb chapter k) count 0)) ≡ count
    = sum_single chapter_count (λ (k : ℕ). cond (eqb chapter k) count 0) chapter (omega (arith, within 0 (omega arith))) (λ k other. rw (ne_eqb chapter k (λ e. other (sym e))))
    ∙ rw (eq-eqb chapter chapter refl) in
    sum_both chapter_count (λ (k : ℕ). cond (eqb chapter k) count 0) (λ (k : ℕ). chapter_total k counts chapters)
    ∙ omega (arith, here, sum_by_chapter counts chapters (omega arith) (λ j h. within (suc j) (omega arith)))

module _ (book session chapters totals : List ℕ) where
  abbrev answer : Result Bool Refusal
  answer = chapter_answer book session chapters (length totals)

  many : length (chapter_totals (counts book session) chapters) ≡ chapter_count
  unfolding chapter_totals
  many = length-table chapter_count (λ (k : ℕ). chapter_total k (counts book session) chapters)

  written : answer ≡ Ok true → chapter_numbers book session chapters totals ≡ chapter_totals (counts book session) chapters ++ drop chapter_count totals
  written e = sym (after book session chapters totals (Ok true) (sym e))

  -- Where the answer is true, chapter k's total is written at place k.
  pub each_total : answer ≡ Ok true → (k : ℕ) → k < chapter_count → get_or (chapter_numbers book session chapters totals) k 0 ≡ chapter_total k (counts book session) chapters
  unfolding chapter_totals
  each_total e k h =
      ap (λ (numbers : List ℕ). get_or numbers k 0) (written e)
      ∙ get_or-append (chapter_totals (counts book session) chapters) (drop chapter_count totals) 0 k (omega (arith, many))
      ∙ get_or-table chapter_count (λ (i : ℕ). chapter_total i (counts book session) chapters) k 0 h

  -- Together they are the session's total.
  pub chapters_total : answer ≡ Ok true → total_answer book session ≡ Ok (sum (take chapter_count (chapter_numbers book session chapters totals)))
  chapters_total e =
      let passed = filed_passes book session chapters (length totals) true e in
      let fit = true_fit (clauses_of book) chapters (length totals) passed.1 in
      let same = checks_count book session passed.0 in
      sym
      (total_is book session passed.0 _
      (ap sum (ap (take chapter_count) (written e) ∙ take_at (chapter_totals (counts book session) chapters) (drop chapter_count totals) chapter_count many)
      ∙ sum_by_chapter (counts book session) chapters (omega (arith, same, fit.enough)) (λ j h. fit.within j (omega (arith, same)))))

  -- What is lent behind them stays, whatever is answered.
  pub behind_stays : drop chapter_count (chapter_numbers book session chapters totals) ≡ drop chapter_count totals
  unfolding chapter_numbers
  behind_stays = go answer
    where
      go : (answer : Result Bool Refusal) → drop chapter_count (totals_after (chapter_totals (counts book session) chapters) totals answer) ≡ drop chapter_count totals
      go (Err refusal) = refl
      go (Ok false) = refl
      go (Ok true) = drop_at (chapter_totals (counts book session) chapters) (drop chapter_count totals) chapter_count many

  -- Where the answer is not true, nothing is written.
  pub nothing_written : (answer ≡ Ok true → ⊥) → chapter_numbers book session chapters totals ≡ totals
  unfolding chapter_numbers
  nothing_written = go answer
    where
      go : (answer : Result Bool Refusal) → (answer ≡ Ok true → ⊥) → totals_after (chapter_totals (counts book session) chapters) totals answer ≡ totals
      go (Err refusal) other = refl
      go (Ok false) other = refl
      go (Ok true) other = absurd (other refl)

-- After an accepted opening on any lent numbers and then any calls, refused ones included, 11 and 12 never arise, and the counts that are added up are
-- those of the reference run.
pub after_calls : (book buffer : List ℕ) (calls : List Call) (left : List ℕ) → left ≡ replay_numbers book calls buffer → open_refusal book (length buffer) ≡ 0
    → (chapters totals : List ℕ) →
    let answer : Result Bool Refusal = Ok (chapters_fit (clauses_of book) chapters (length totals)) in
    (chapter_answer book left chapters (length totals) ≡ answer)
    × (chapter_numbers book left chapters totals ≡ totals_after (chapter_totals (reference (formula_of book) calls).checks chapters) totals answer)
unfolding chapter_answer chapter_numbers read_refusal call_refusal
after_calls book buffer calls left same e chapters totals =
    let s3 = statement_3 book buffer calls left same e in
    (rw (s3.book_passes, s3.session_passes), rw (s3.book_passes, s3.session_passes, s3.holds))

-- Request K11: running the script on the book never costs more than is quoted, and the opening gives 10 exactly if lent fewer numbers than quoted.
use Prim.Native.Nat.{ℕ, ◌≤◌, ◌<◌}
use mathlib.Core.Path.{◌≡◌, refl, sym, ap, ◌∙◌}
use mathlib.Core.Bool.{Bool, true, false, cond}
use mathlib.Core.List.{List, [], ◌∷◌, ◌++◌, append_assoc}
use mathlib.Core.Logic.{◌↔◌}
use native.Mathlib.Omega.{arith}
use lib.Dec.{ltb}
use lib.ListN.{length, take}
use borrow.Author.Tests.{ltb-true, ltb-false, lt-ltb}
use Rattle.base.specs.Lists.{sum}
use Rattle.book.specs.Formula.{Formula, literals}
use Rattle.book.specs.Numbers.{variables_of, clauses_of, numbers_of, formula_of}
use Rattle.book.specs.Reading.{Judged, refused, accepted, read_text}
use Rattle.book.specs.Answer.{read_answer, numbers_after}
use Rattle.book.specs.declared.Sizes.{Sizes}
use Rattle.refusals.specs.declared.Refusal.TheVariants as refusal
use Rattle.refusals.specs.Refusals.{refusal_of}
use Rattle.refusals.proofs.OutcomeLaws.{refusal_number, outcome_refused}
use Rattle.std.specs.Prelude.{Ok, Err}
use Rattle.book.proofs.Accepted.{read_formula_lem}
use Rattle.book.proofs.WellFormedLaws.{well_formed_sound}
use Rattle.run.specs.Run.{open_run}
use Rattle.run.specs.Calls.{Call, reference}
use Rattle.run.specs.Ceiling.{worst, backtracks_asked}
use Rattle.run.proofs.Worst.{total_quoted}
use Rattle.layout.specs.Layout.{required_length}
use Rattle.session.specs.Outcomes.{open_refusal, open_answer, total_answer, replay_numbers}
use Rattle.session.proofs.ToldLaws.{answer_refused}
use Rattle.session.proofs.Statements.{statement_3}
use Rattle.script.specs.declared.Cause.TheVariants.{Opening}
use Rattle.script.specs.Desk.{propagated_line, output_for, desk_output}
use Rattle.quote.specs.Quote.{script_calls, back_lines, max_back_lines, quote_answer, EndsWithin}
use Rattle.quote.specs.declared.Quote.{Quote}
use Rattle.quote.proofs.ScriptCalls.{back_lines_lem, asked_part, script_run, back_lines_part}
use Rattle.quote.proofs.AnswerLaws.{product_small, quote_given, Quoted, quoted}

module _ (book script : List ℕ) (quote : Quote) (e : quote_answer book script ≡ Ok quote) where
  told : Quoted book script quote
  told = quoted book script quote e

  -- no list of calls that asks for at most so many backtracks costs more
  calls_within : (calls : List Call) → backtracks_asked calls ≤ quote.back_lines → sum (reference (formula_of book) calls).checks ≤ quote.ceiling
  calls_within calls asked =
      rw (told.ceiling_is, ← told.lines_are)
      (total_quoted (formula_of book) (well_formed_sound book told.well) calls quote.back_lines asked)

  -- Whatever numbers are lent for the session, and whatever calls are made on it, fixings among them, that ask for at most b backtracks: its total is at
  -- most the ceiling.
  pub quote_covers_calls : (calls : List Call) → backtracks_asked calls ≤ quote.back_lines → (buffer : List ℕ) → open_refusal book (length buffer) ≡ 0
      → (c : ℕ) × (total_answer book (replay_numbers book calls buffer) ≡ Ok c) × (c ≤ quote.ceiling)
  quote_covers_calls calls asked buffer opens = (
    sum (reference (formula_of book) calls).checks,
    (statement_3 book buffer calls (replay_numbers book calls buffer) refl opens).total,
    calls_within calls asked,
  )

  -- So it is after the opening and the first j calls of the script, whatever j is.
  pub quote_covers_session : (buffer : List ℕ) → open_refusal book (length buffer) ≡ 0 → (j : ℕ)
      → (c : ℕ) × (total_answer book (replay_numbers book (take j (script_calls script)) buffer) ≡ Ok c) × (c ≤ quote.ceiling)
  quote_covers_session buffer opens j =
      quote_covers_calls (take j (script_calls script)) (omega (arith, asked_part j (script_calls script), back_lines_lem script, told.lines_are)) buffer opens

  -- a script with at most b lines of the form `b k`
  script_within : (part : List ℕ) → back_lines part ≤ quote.back_lines → (text : List ℕ) → read_text text ≡ accepted (formula_of book) → EndsWithin quote.ceiling (formula_of book) part (desk_output text part)
  unfolding desk_output output_for
  script_within part few text read =
      let answers = script_run (formula_of book) part in
      let opening : List ℕ = propagated_line Opening 0 (open_run (formula_of book)) in
      record {
        before = opening ++ answers.0;
        ends = rw read (ap (λ (later : List ℕ). opening ++ later) answers.1 ∙ sym (append_assoc opening answers.0 _));
        within = calls_within (script_calls part) (omega (arith, back_lines_lem part));
      }

  -- What the program prints for the script, on any text of this book: its last line shows at most the ceiling.
  pub quote_covers : (text : List ℕ) → read_text text ≡ accepted (formula_of book) → EndsWithin quote.ceiling (formula_of book) script (desk_output text script)
  quote_covers = script_within script (omega (arith, told.lines_are))

  -- And so it would for the script up to any byte 10 of it.
  pub quote_covers_part : (first rest : List ℕ) → script ≡ first ++ (10 ∷ rest) → (text : List ℕ) → read_text text ≡ accepted (formula_of book)
      → EndsWithin quote.ceiling (formula_of book) (first ++ (10 ∷ [])) (desk_output text (first ++ (10 ∷ [])))
  quote_covers_part first rest parts =
      script_within (first ++ (10 ∷ [])) (omega (arith, told.lines_are, ap back_lines parts, back_lines_part first rest))

  -- The ceiling has 64 bits: it is at most 11,928 × 1,000,001.
  pub quote_most : quote.ceiling ≤ 11928011928
  quote_most = omega (arith, told.ceiling_is, product_small book (worst (formula_of book)) (back_lines script) told.well refl (omega (arith, told.lines_are, told.few_lines)))

  -- The opening gives 10 exactly if it is lent fewer numbers than quoted.
  pub quote_length : (room : ℕ) → (open_answer book room ≡ Err refusal.ShortMemory) ↔ (room < quote.length)
  unfolding open_answer open_refusal
  quote_length room =
      rw (told.well, told.length_is) (
        λ is-ten. by_number (outcome_refused number (open_run (formula_of book)) refusal.ShortMemory (answer_refused 0 refusal.ShortMemory _ is-ten)).0,
        λ short. rw (lt-ltb room needed short) (ap Err (refusal_number refusal.ShortMemory)),
      )
    where
      needed : ℕ
      needed = required_length (variables_of book) (clauses_of book)

      number : ℕ
      number = cond (ltb room needed) 10 0

      by_number : (number ≡ 0 → ⊥) → room < needed
      by_number = go (ltb room needed) refl
        where
          go : (short : Bool) → ltb room needed ≡ short → (◌≡◌ {A = ℕ} (cond short 10 0) 0 → ⊥) → room < needed
          go true q some = ltb-true room needed q
          go false q some = absurd (some refl)

-- For the numbers that `read` wrote for a text, and a script of at most 1,000,000 such lines, a quote is given, and running the script on that text costs no more.
pub quote_covers_text : (text buffer script : List ℕ) (sizes : Sizes) → read_answer (read_text text) (length buffer) ≡ Ok sizes → back_lines script ≤ max_back_lines
    → (quote : Quote) × (quote_answer (numbers_after (read_text text) buffer) script ≡ Ok quote)
    × EndsWithin quote.ceiling (formula_of (numbers_after (read_text text) buffer)) script (desk_output text script)
quote_covers_text text buffer script sizes read few = go (read_text text) refl read
  where
    numbers : List ℕ
    numbers = numbers_after (read_text text) buffer

    roomy : (formula : Formula) (short : Bool) → ltb (length buffer) (length (numbers_of formula)) ≡ short
        → cond short (Err (refusal_of 10)) (Ok (record { variables = formula.variables; clauses = length formula.clauses; literals = length (literals formula) })) ≡ Ok sizes
        → length (numbers_of formula) ≤ length buffer
    roomy formula true q z = let z : ◌≡◌ {A = ℕ} 0 1 = cc in absurd (omega arith)
    roomy formula false q z = ltb-false (length buffer) (length (numbers_of formula)) q

    go : (judged : Judged) → read_text text ≡ judged → read_answer judged (length buffer) ≡ Ok sizes
        → (quote : Quote) × (quote_answer numbers script ≡ Ok quote) × EndsWithin quote.ceiling (formula_of numbers) script (desk_output text script)
    go (refused number) q z = let z : ◌≡◌ {A = ℕ} 0 1 = cc in absurd (omega arith)
    go (accepted formula) q z =
        let holds = read_formula_lem text buffer formula q (roomy formula (ltb (length buffer) (length (numbers_of formula))) refl z) in
        let given = quote_given numbers script holds.1 few in
        (_, given, quote_covers numbers script _ given text (q ∙ ap accepted (sym holds.0)))

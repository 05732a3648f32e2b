-- What the session's length and the count of lines come to in the answer, and what an answer tells of them.
use Prim.Native.Nat.{ℕ, ◌+◌, ◌*◌, ◌≤◌, ◌<◌}
use mathlib.Core.Path.{◌≡◌, refl, sym, ap}
use mathlib.Core.Bool.{Bool, true, false, cond}
use mathlib.Core.List.{List}
use native.Mathlib.Nat.{mul-le-mul}
use native.Mathlib.Omega.{arith}
use borrow.Author.Tests.{ltb-false, lt-ltb, le-ltb}
use lib.Dec.{ltb}
use Rattle.std.specs.Prelude.{Ok, Err}
use Rattle.refusals.specs.declared.Refusal.{Refusal}
use Rattle.refusals.specs.declared.Refusal.TheVariants as refusal
use Rattle.refusals.specs.Refusals.{outcome}
use Rattle.refusals.proofs.OutcomeLaws.{refused_as, refused_alike, outcome_accepted}
use Rattle.book.specs.Numbers.{variables_of, clauses_of, well_formed, formula_of}
use Rattle.book.proofs.WellFormedLaws.{well_formed_sound}
use Rattle.run.specs.Ceiling.{worst}
use Rattle.run.proofs.Worst.{worst_within}
use Rattle.layout.specs.Layout.{required_length}
use Rattle.session.specs.Outcomes.{required_answer}
use Rattle.quote.specs.Quote.{back_lines, max_back_lines, quoted_ceiling, quote_of, quote_answer}
use Rattle.quote.specs.declared.Quote.{Quote}

-- the quoted ceiling is small
pub product_small : (book : List ℕ) (w b : ℕ) → well_formed book ≡ true → w ≡ worst (formula_of book) → b ≤ max_back_lines → w * (b + 1) ≤ 11928 * (max_back_lines + 1)
product_small book w b well is few =
    let small : w ≤ 11928 = omega (arith, worst_within (formula_of book) (well_formed_sound book well)) in
    let lines : b + 1 ≤ max_back_lines + 1 = omega arith in
    mul-le-mul small lines

-- no refusal number tells the right form
no_fault : (well : Bool) (other : ℕ) → cond well other 11 ≡ 0 → (well ≡ true) × (other ≡ 0)
no_fault true other e = (refl, e)
no_fault false other e = absurd (omega arith)

-- a length is told of book numbers of the right form
pub told_length : (book : List ℕ) (n : ℕ) → Ok n ≡ required_answer book → (well_formed book ≡ true) × (required_length (variables_of book) (clauses_of book) ≡ n)
unfolding required_answer
told_length book n e =
    let told = outcome_accepted (cond (well_formed book) 0 11) (required_length (variables_of book) (clauses_of book)) n (sym e) in
    ((no_fault (well_formed book) 0 told.0).0, told.1)

module _ (book script : List ℕ) where
  pub answers_fault : (r : Refusal) → Err r ≡ required_answer book → Err r ≡ quote_answer book script
  unfolding required_answer quote_answer
  answers_fault r e = go (well_formed book) _ e
    where
      needed : ℕ
      needed = required_length (variables_of book) (clauses_of book)

      go : (well : Bool) (other : ℕ) → Err r ≡ outcome (cond well 0 11) needed → Err r ≡ outcome (cond well other 11) (quote_of book script)
      go true other e = absurd (cc)
      go false other e = sym (refused_alike 11 needed (quote_of book script) r (sym e))

  module _ (n b : ℕ) (e : Ok n ≡ required_answer book) (lines : b ≡ back_lines script) where
    well : well_formed book ≡ true
    well = (told_length book n e).0

    pub answers_many : max_back_lines < b → Err refusal.BacktrackCount ≡ quote_answer book script
    unfolding quote_answer
    answers_many many = refused_as _ (quote_of book script) refusal.BacktrackCount (rw (well, ← lines, lt-ltb max_back_lines b many))

    pub answers_quote : b ≤ max_back_lines → (w : ℕ) → w ≡ worst (formula_of book)
        → Ok (record { length = n; worst = w; back_lines = b; ceiling = w * (b + 1) }) ≡ quote_answer book script
    unfolding quote_answer
    answers_quote few w is = rw (well, ← lines, le-ltb max_back_lines b few, ← is, (told_length book n e).1)

-- On book numbers of the right form, and for at most 1,000,000 such lines, a quote is given.
pub quote_given : (book script : List ℕ) → well_formed book ≡ true → back_lines script ≤ max_back_lines
    → quote_answer book script ≡ Ok (quote_of book script)
unfolding quote_answer
quote_given book script well few = rw (well, le-ltb max_back_lines (back_lines script) few)

-- What a quote tells.
pub record Quoted (book script : List ℕ) (quote : Quote) : Type 0 where
  pub well : well_formed book ≡ true
  pub length_is : quote.length ≡ required_length (variables_of book) (clauses_of book)
  pub worst_is : quote.worst ≡ worst (formula_of book)
  pub lines_are : quote.back_lines ≡ back_lines script
  pub few_lines : quote.back_lines ≤ max_back_lines
  pub ceiling_is : quote.ceiling ≡ quoted_ceiling book script

pub quoted : (book script : List ℕ) (quote : Quote) → quote_answer book script ≡ Ok quote → Quoted book script quote
unfolding quote_answer
quoted book script quote e =
    let told = outcome_accepted _ (quote_of book script) quote e in
    let right = no_fault (well_formed book) _ told.0 in
    let few = few_lines (ltb max_back_lines (back_lines script)) refl right.1 in
    record {
      well = right.0;
      length_is = sym (ap (λ (q : Quote). q.length) told.1);
      worst_is = sym (ap (λ (q : Quote). q.worst) told.1);
      lines_are = sym (ap (λ (q : Quote). q.back_lines) told.1);
      few_lines = rw (sym (ap (λ (q : Quote). q.back_lines) told.1)) few;
      ceiling_is = sym (ap (λ (q : Quote). q.ceiling) told.1);
    }
  where
    few_lines : (many : Bool) → ltb max_back_lines (back_lines script) ≡ many → ◌≡◌ {A = ℕ} (cond many 17 0) 0 → back_lines script ≤ max_back_lines
    few_lines true is none = absurd (omega arith)
    few_lines false is none = ltb-false max_back_lines (back_lines script) is

-- A text that is accepted: the formula as read is within document 01's limits, its book numbers are well formed, 7,504 numbers hold them, and
-- its clauses are met by just the settings that meet the clauses as written.
use Prim.Native.Nat.{ℕ, ◌≤◌, ◌<◌}
use native.Mathlib.Omega.{arith}
use mathlib.Core.Path.{◌≡◌, refl, sym, ap, ap₂, ◌∙◌}
use mathlib.Core.Bool.{Bool, true, false}
use mathlib.Core.List.{List, [], ◌++◌, map}
use mathlib.Core.Option.{Option, none, some}
use lib.Dec.{ltb}
use lib.ListN.{length, get_or, drop, length-map, get_or-map}
use Rattle.base.specs.Lists.{any, flat, distinct}
use Rattle.base.proofs.Lists.{all_at, empty-false}
use Rattle.book.specs.Formula.{Formula, literals, met, true_in, max_book, max_literals, sound}
use Rattle.book.specs.Numbers.{formula_of, numbers_of, well_formed}
use Rattle.book.specs.Text.{lines_of}
use Rattle.book.specs.Faults.{Fault, faults_of}
use Rattle.book.specs.Reading.{max_text, least, formula_in, as_read, read_formula, accepted, judged, read_text}
use Rattle.book.specs.Printer.{spelled}
use Rattle.book.specs.Answer.{read_answer, numbers_after}
use Rattle.std.specs.Prelude.{Ok}
use Rattle.book.specs.Inner.Walk.{walk_lines}
use Rattle.book.proofs.ReadIsWalk.{written_is_walk}
use Rattle.book.proofs.NumberLaws.{formula_of_numbers, numbers_well_formed, book_fits}
use Rattle.book.proofs.ReadLaws.{answer_book}
use Rattle.book.proofs.AsReadLaws.{as_read_again, as_read_met}
use Rattle.book.proofs.WrittenLaws.{written_clause, written_parts, WrittenFormula, read_sound, clauses_spelled_short}
use Rattle.book.proofs.WalkWithin.{not_refused, lines_written}

-- a text that is accepted has at most 60,000 bytes
pub accepted_short : (text : List ℕ) (formula : Formula) → read_text text ≡ accepted formula → ltb max_text (length text) ≡ false
unfolding read_text
accepted_short text formula h = (not_refused (ltb max_text (length text)) 1 _ formula h).0

-- it is the formula that it writes, as read, and that is within the limits as written
record AcceptedText (text : List ℕ) (formula : Formula) : Type 0 where
  is_read : formula ≡ read_formula (formula_in (lines_of text))
  is_written : WrittenFormula (formula_in (lines_of text))

accepted_text : (text : List ℕ) (formula : Formula) → read_text text ≡ accepted formula → AcceptedText text formula
unfolding read_text judged
accepted_text text formula h =
    go (least (faults_of (length text) (lines_of text))) (written_is_walk text) (rw (accepted_short text formula h) at h)
  where
    go : (found : Option Fault) → judged found (formula_in (lines_of text)) ≡ walk_lines (lines_of text)
        → judged found (read_formula (formula_in (lines_of text))) ≡ accepted formula
        → AcceptedText text formula
    go none walked e = record { is_read = cc; is_written = lines_written (lines_of text) (formula_in (lines_of text)) (sym walked) }
    go (some f) walked e = let z : ◌≡◌ {A = ℕ} 0 1 = cc in absurd (omega arith)

pub accepted_read : (text : List ℕ) (formula : Formula) → read_text text ≡ accepted formula → formula ≡ read_formula (formula_in (lines_of text))
accepted_read text formula h = (accepted_text text formula h).is_read

pub accepted_sound : (text : List ℕ) (formula : Formula) → read_text text ≡ accepted formula → sound formula ≡ true
accepted_sound text formula h =
    let a = accepted_text text formula h in
    ap sound a.is_read ∙ read_sound (formula_in (lines_of text)) a.is_written

-- the book numbers of a text that is accepted are well formed, whatever stands behind them
pub accepted_well_formed : (text : List ℕ) (formula : Formula) (rest : List ℕ) → read_text text ≡ accepted formula
    → well_formed (numbers_of formula ++ rest) ≡ true
accepted_well_formed text formula rest h = numbers_well_formed formula rest (accepted_sound text formula h)

-- Where 7,504 numbers are lent, a text that is accepted is answered as a book: 10 is given only where fewer are lent.
pub accepted_answered : (text : List ℕ) (formula : Formula) (buffer : List ℕ) → read_text text ≡ accepted formula → max_book ≤ length buffer
    → read_answer (read_text text) (length buffer) ≡ Ok (record { variables = formula.variables; clauses = length formula.clauses; literals = length (literals formula) })
accepted_answered text formula buffer h room =
    sym (answer_book (read_text text) formula h buffer (omega (arith, book_fits formula (accepted_sound text formula h)))).0

-- Where the lent numbers are enough, they hold the formula afterwards, and are well formed.
pub read_formula_lem : (text buffer : List ℕ) (formula : Formula) → read_text text ≡ accepted formula → length (numbers_of formula) ≤ length buffer
    → (formula_of (numbers_after (read_text text) buffer) ≡ formula) × (well_formed (numbers_after (read_text text) buffer) ≡ true)
read_formula_lem text buffer formula h room =
    let rest : List ℕ = drop (length (numbers_of formula)) buffer in
    let after : numbers_of formula ++ rest ≡ numbers_after (read_text text) buffer = (answer_book (read_text text) formula h buffer room).1 in (
      ap formula_of (sym after) ∙ formula_of_numbers formula rest,
      ap well_formed (sym after) ∙ accepted_well_formed text formula rest h,
    )

read_none : as_read [] ≡ []
unfolding distinct
read_none = as_read_again [] refl

-- A setting of the variables meets a clause as written exactly if it meets the clause as read, or that is always met.
pub text_met : (text : List ℕ) (formula : Formula) → read_text text ≡ accepted formula → (setting : ℕ → Bool) (c : ℕ)
    → c < length formula.clauses
    → any (true_in setting) (get_or (formula_in (lines_of text)).clauses c []) ≡ met (true_in setting) (get_or formula.clauses c [])
unfolding read_formula
text_met text formula h setting c inside =
    let a = accepted_text text formula h in
    let written : List (List ℕ) = (formula_in (lines_of text)).clauses in
    let clauses : formula.clauses ≡ map as_read written = ap (λ (f : Formula). f.clauses) a.is_read in
    let counted : length formula.clauses ≡ length written = ap length clauses ∙ length-map written as_read in
    let limits = all_at (written_clause (formula_in (lines_of text)).variables) written [] a.is_written.written_clauses c (omega arith) in
    let filled = (written_parts _ _ limits).filled in
    let here : get_or formula.clauses c [] ≡ as_read (get_or written c []) =
    ap₂ (λ (cs : List (List ℕ)) (d : List ℕ). get_or cs c d) clauses (sym read_none) ∙ get_or-map as_read written c [] in
    as_read_met setting (get_or written c []) (empty-false (get_or written c []) filled) ∙ ap (met (true_in setting)) (sym here)

-- The clauses as read, spelled so that a text can write them, are at most 6,000 literals: so the formula has a text that `print_text` prints.
pub accepted_spelled : (text : List ℕ) (formula : Formula) → read_text text ≡ accepted formula
    → length (flat (map spelled formula.clauses)) ≤ max_literals
unfolding read_formula
accepted_spelled text formula h =
    let a = accepted_text text formula h in
    rw a.is_read
    (omega (arith, clauses_spelled_short _ (formula_in (lines_of text)).clauses a.is_written.written_clauses, a.is_written.few_literals))

-- The answers of `number` and `read`, and the lent numbers afterwards: document 01's numbers and values for each case.
use Rattle.std.specs.Prelude.{ℕ, cond, Option, Some, None, List, ◌++◌, ltb, length, drop, Result, Ok, Err}
use Rattle.refusals.specs.declared.Refusal.{Refusal}
use Rattle.refusals.specs.Refusals.{refusal_of}
use Rattle.book.specs.Formula.{literals}
use Rattle.book.specs.Numbers.{numbers_of}
use Rattle.book.specs.Text.{unsigned, decimal}
use Rattle.book.specs.Reading.{Judged, refused, accepted}
use Rattle.book.specs.declared.Sizes.{Sizes}

-- The number that 1 to 9 digits write.
abbrev pub digits_of : List ℕ → Option ℕ
digits_of word = cond (unsigned word) (Some (decimal 0 word)) None

-- A text that is accepted otherwise is refused by 10 where the lent numbers are too few; else the answer is V, C and L.
abbrev pub read_answer : Judged → ℕ → Result Sizes Refusal
read_answer (refused number) room = Err (refusal_of number)
read_answer (accepted formula) room =
    cond (ltb room (length (numbers_of formula)))
    (Err (refusal_of 10))
    (Ok (record { variables = formula.variables; clauses = length formula.clauses; literals = length (literals formula) }))

-- The book numbers, followed by what lay behind them; a refusal changes nothing.
abbrev pub numbers_after : Judged → List ℕ → List ℕ
numbers_after (refused number) buffer = buffer
numbers_after (accepted formula) buffer =
    cond (ltb (length buffer) (length (numbers_of formula))) buffer (numbers_of formula ++ drop (length (numbers_of formula)) buffer)

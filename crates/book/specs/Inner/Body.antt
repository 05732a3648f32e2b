-- What the contracts of src/body.rt cite: the fault of a literal, and the clauses that the tokens write.
use Rattle.std.specs.Prelude.{ℕ, suc, ◌+◌, ◌≡◌, cond, ◌&&◌, ◌⊎◌, Result, Ok, Err, List, [], ◌++◌, map, leb, ltb, eqb, length, take, drop}
use Rattle.base.specs.Lists.{flat}
use Rattle.refusals.specs.declared.Refusal.{Refusal}
use Rattle.refusals.specs.declared.Refusal.TheVariants.{LargeVariable, ClauseLength, ClauseCount, LiteralCount}
use Rattle.refusals.specs.Refusals.{number_of}
use Rattle.book.specs.Formula.{variable_of, max_clause, max_literals, max_book}
use Rattle.book.specs.Numbers.{starts}
use Rattle.book.specs.Reading.{as_read, refused, accepted}
use Rattle.book.specs.Inner.Walk.{walk}
use Rattle.book.specs.Inner.Cursor.{tokens_here}

-- the numbers hold the starts of the clauses that are done and of the one behind them, and their literals, then those of one whose end is not stored yet
pub record Written (numbers : List ℕ) (clauses : ℕ) (done : List (List ℕ)) (current : List ℕ) : Type 0 where
  pub long : length numbers ≡ max_book
  pub starts_written : take (suc (length done)) (drop 3 numbers) ≡ starts 0 done
  pub literals_written : take (length (flat done ++ current)) (drop (clauses + 4) numbers) ≡ flat done ++ current

-- the first fault of a literal, if it has one: with so many clauses closed, literals in the open one, literals in all
unfoldable pub literal_fault : ℕ → ℕ → ℕ → ℕ → ℕ → ℕ → Result (Unit {0}) Refusal
literal_fault variables clauses closed opened total l =
    cond (ltb variables (variable_of l)) (Err LargeVariable)
    (cond (eqb opened max_clause) (Err ClauseLength)
    (cond (eqb opened 0 && leb clauses closed) (Err ClauseCount) (cond (eqb total max_literals) (Err LiteralCount) (Ok tt))))

-- what the clauses are where the text ends: fault 8 where a clause is open or another number of them is closed, else all the literals up to the end
abbrev pub EndSays : ℕ → ℕ → ℕ → ℕ → Result ℕ Refusal → Type 0
EndSays clauses closed opened end (Err refusal) = (refusal ≡ ClauseCount) × ((opened ≡ 0 → ⊥) ⊎ (closed ≡ clauses → ⊥))
EndSays clauses closed opened end (Ok literals) = (opened ≡ 0) × (closed ≡ clauses) × (end ≡ clauses + 4 + literals)

-- the clauses that the tokens from `at` on write, in the numbers as they are read, or their first fault
abbrev pub BodySays : List ℕ → ℕ → ℕ → ℕ → List ℕ → Result ℕ Refusal → Type 0
BodySays text at variables clauses numbers (Err refusal) = walk variables clauses [] [] (tokens_here text at) ≡ refused (number_of refusal)
BodySays text at variables clauses numbers (Ok total) =
    (done : List (List ℕ))
    × (walk variables clauses [] [] (tokens_here text at) ≡ accepted (record { variables = variables; clauses = done }))
    × (length done ≡ clauses)
    × (length (flat (map as_read done)) ≡ total)
    × Written numbers clauses (map as_read done) []

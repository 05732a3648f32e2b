-- What the contracts of src/parse.rt cite: a whole text and its book numbers.
use Rattle.std.specs.Prelude.{ℕ, ◌≡◌, List, length, take, Result, Ok, Err}
use Rattle.book.specs.Formula.{Formula, literals, max_book}
use Rattle.book.specs.Numbers.{numbers_of}
use Rattle.book.specs.Text.{lines_of}
use Rattle.book.specs.Reading.{read_formula, refused, accepted}
use Rattle.book.specs.Inner.Walk.{walk_lines}
use Rattle.book.specs.declared.Sizes.{Sizes}
use Rattle.refusals.specs.declared.Refusal.{Refusal}
use Rattle.refusals.specs.Refusals.{number_of}

-- the formula of the whole text, as written, and the numbers of it as read
pub record Read (text numbers : List ℕ) (variables clauses total : ℕ) : Type 0 where
  pub written : Formula
  pub is_accepted : walk_lines (lines_of text) ≡ accepted written
  pub same_variables : written.variables ≡ variables
  pub same_clauses : length written.clauses ≡ clauses
  pub same_literals : length (literals (read_formula written)) ≡ total
  pub long : length numbers ≡ max_book
  pub front : take (length (numbers_of (read_formula written))) numbers ≡ numbers_of (read_formula written)

-- that, or the first fault
abbrev pub ParsedSays : List ℕ → List ℕ → Result Sizes Refusal → Type 0
ParsedSays text numbers (Err refusal) = walk_lines (lines_of text) ≡ refused (number_of refusal)
ParsedSays text numbers (Ok sizes) = Read text numbers sizes.variables sizes.clauses sizes.literals

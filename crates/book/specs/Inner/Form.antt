-- What the contracts of src/form.rt cite: starts that part the literal numbers into the clauses.
use Rattle.std.specs.Prelude.{ℕ, ◌+◌, ◌≤◌, true, List, ◌≡◌, length}
use Rattle.book.specs.Numbers.{clauses_of, literals_of, start_of, rising}

pub record Parted (numbers : List ℕ) : Type 0 where
  pub long : clauses_of numbers + literals_of numbers + 4 ≤ length numbers
  pub first : start_of numbers 0 ≡ 0
  pub last : start_of numbers (clauses_of numbers) ≡ literals_of numbers
  pub rises : rising numbers 0 (clauses_of numbers) ≡ true

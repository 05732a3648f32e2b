-- What the contracts of src/opening.rt cite: first watches, clauses of one literal.
use Rattle.std.specs.Prelude.{ℕ, ◌+◌, ◌*◌, ◌<◌, ◌≡◌, Bool, true, List, map, length, take, drop}
use Rattle.base.specs.Lists.{times}
use Rattle.book.specs.Numbers.{variables_of, formula_of, well_formed}
use Rattle.run.specs.Run.{Run, clause_of, list_of, in_conflict, with_watches, first_cell, watch_all, fresh, assign_unit}
use Rattle.run.specs.Progress.{Opened}
use Rattle.layout.specs.Encodes.{Encodes}
use Rattle.engine.specs.Inner.Lists.{Orderly}
use Rattle.engine.specs.Engine.{SameBehind, Becomes}

-- The clauses before clause c have their first watches and stand in the lists of these; nothing else is set.
pub record FirstWatches (book numbers : List ℕ) (c : ℕ) : Type 0 where
  pub lists : List (List ℕ)
  pub encodes : Encodes (formula_of book) numbers (with_watches (map first_cell (take c (formula_of book).clauses)) lists (fresh (formula_of book)))
  pub orderly : Orderly (formula_of book) (map first_cell (take c (formula_of book).clauses)) lists
  pub lists_length : length lists ≡ 2 * variables_of book + 2
  pub earlier : (l d : ℕ) → 0 < times d (list_of lists l) → d < c
  -- the rest of the clauses give the lists of the opened run
  pub rest : watch_all c (drop c (formula_of book).clauses) lists ≡ (fresh (formula_of book)).lists

-- the first watches of clause c
pub record WatchedFirst (book before after : List ℕ) (c : ℕ) : Type 0 where
  pub same_length : length after ≡ length before
  pub same_behind : SameBehind book before after
  pub holds : FirstWatches book before c → FirstWatches book after (c + 1)

-- the one-literal clauses before clause c are true
pub record Units (book numbers : List ℕ) (c : ℕ) : Type 0 where
  pub well : well_formed book ≡ true
  pub run : Run
  pub encodes : Encodes (formula_of book) numbers run
  pub opened : Opened (formula_of book) c run

-- so is clause c, or it is a conflict
pub record UnitDone (book before after : List ℕ) (c : ℕ) (run : Run) (r : Bool) : Type 0 where
  pub becomes : Becomes book before after (assign_unit c (clause_of (formula_of book) c) run)
  pub says : r ≡ in_conflict (assign_unit c (clause_of (formula_of book) c) run)

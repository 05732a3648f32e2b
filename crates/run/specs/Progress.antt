-- What holds of a run while it propagates and while it is opened.
use Rattle.std.specs.Prelude.{ℕ, suc, ◌+◌, ◌*◌, ◌≤◌, ◌<◌, true, cond, List, ◌≡◌, leb, eqb, length, get_or}
use Rattle.base.specs.Lists.{distinct, times}
use Rattle.book.specs.Formula.{Formula, literal_within}
use Rattle.run.specs.Trail.{Entry, opposite, place, is_true, variables_on, decisions, level, lowered}
use Rattle.run.specs.Scan.{Cell}
use Rattle.run.specs.Run.{cell_at, Run, clause_of, size, no_cell, list_of, max_count, in_conflict}
use Rattle.run.specs.Calls.{max_backtracks}
use Rattle.run.specs.Valid.{Justified, Watching, one, Valid}

-- the literals of a clause's two watches
abbrev pub first_literal : Formula → List Cell → ℕ → ℕ
first_literal formula cells c = get_or (clause_of formula c) (cell_at cells c).first 0

abbrev pub second_literal : Formula → List Cell → ℕ → ℕ
second_literal formula cells c = get_or (clause_of formula c) (cell_at cells c).second 0

-- how often l is one of two watched literals
abbrev pub among : ℕ → ℕ → ℕ → ℕ
among l a b = one (eqb l a) + one (eqb l b)

-- `standing` and the structural conditions of a valid run, said of cells and lists alone
abbrev pub stands : Formula → List Cell → ℕ → ℕ → ℕ
stands formula cells l c =
    cond (leb 2 (size formula c))
    (among l (first_literal formula cells c) (second_literal formula cells c))
    0

pub record Watched (formula : Formula) (cells : List Cell) (lists : List (List ℕ)) : Type 0 where
  pub cells_length : length cells ≡ length formula.clauses
  pub lists_length : length lists ≡ 2 * formula.variables + 2
  pub watching : (c : ℕ) → 2 ≤ size formula c → Watching (size formula c) (cell_at cells c)
  pub unwatched : (c : ℕ) → size formula c < 2 → cell_at cells c ≡ no_cell
  pub listed : (l c : ℕ) → times c (list_of lists l) ≡ stands formula cells l c

-- The watch condition as an implication: where watch a is false and handled (among the first h of the trail), watch b is true at a level
-- not above.
abbrev pub Guard : List Entry → ℕ → ℕ → ℕ → Type 0
Guard trail h a b =
    0 < place trail (opposite a) → place trail (opposite a) ≤ h → (0 < place trail b) × (level trail b ≤ level trail (opposite a))

pub record BothGuarded (trail : List Entry) (h a b : ℕ) : Type 0 where
  pub forth : Guard trail h a b
  pub back : Guard trail h b a

-- of the watches of clause c
abbrev pub BothGuardedAt : Formula → List Cell → List Entry → ℕ → ℕ → Type 0
BothGuardedAt formula cells trail h c = BothGuarded trail h (first_literal formula cells c) (second_literal formula cells c)

-- What holds when the first `handled` trail literals are handled: of clauses of one literal, of watches, and of the top level.
pub record Pending (formula : Formula) (cells : List Cell) (trail : List Entry) (handled : ℕ) : Type 0 where
  pub units_on : (c : ℕ) → size formula c ≡ 1 → 0 < place trail (get_or (clause_of formula c) 0 0)
  pub units_level : (c : ℕ) → size formula c ≡ 1 → level trail (get_or (clause_of formula c) 0 0) ≡ 0
  pub guarded : (c : ℕ) → 2 ≤ size formula c
      → BothGuardedAt formula cells trail handled c
  pub low : length (lowered trail) ≤ handled

-- The structural conditions of a valid run, part by part.
pub record Trailed (formula : Formula) (trail : List Entry) : Type 0 where
  pub within : (l : ℕ) → is_true trail l ≡ true → literal_within formula.variables l ≡ true
  pub once : distinct (variables_on trail) ≡ true
  pub justified : Justified formula trail

pub record Counted (formula : Formula) (checks : List ℕ) (backtracks : ℕ) : Type 0 where
  pub checks_length : length checks ≡ length formula.clauses
  pub checks_within_lem : (c : ℕ) → get_or checks c 0 ≤ max_count
  pub backtracks_within_lem : backtracks ≤ max_backtracks

pub record Structure (formula : Formula) (run : Run) : Type 0 where
  pub watched : Watched formula run.cells run.lists
  pub trailed : Trailed formula run.trail
  pub counted : Counted formula run.checks run.backtracks
  pub fixed_within_lem : run.fixed ≤ length (decisions run.trail)

-- Propagation with `handled` literals handled; and ended in a conflict.
pub record Going (formula : Formula) (handled : ℕ) (run : Run) : Type 0 where
  pub structure : Structure formula run
  pub quiet : run.conflict ≡ 0
  pub pending : Pending formula run.cells run.trail handled

pub record Ended (formula : Formula) (run : Run) : Type 0 where
  pub valid : Valid formula run
  pub loud : in_conflict run ≡ true

-- Reading the list of q, whose opposite is the next trail literal, with `unread` left of it.
pub record ReadingList (formula : Formula) (handled q : ℕ) (unread : List ℕ) (run : Run) : Type 0 where
  pub going : Going formula handled run
  pub next : place run.trail (opposite q) ≡ suc handled
  pub read : (c : ℕ) → 2 ≤ size formula c → times c unread ≡ 0
      → BothGuardedAt formula run.cells run.trail (suc handled) c
  pub left : (c : ℕ) → times c unread ≤ times c (list_of run.lists q)

-- The opening after the clauses before c: their one-literal clauses are true, and nothing is decided.
pub record Opened (formula : Formula) (c : ℕ) (run : Run) : Type 0 where
  pub structure : Structure formula run
  pub quiet : run.conflict ≡ 0
  pub undecided : length (decisions run.trail) ≡ 0
  pub units_on : (d : ℕ) → d < c → size formula d ≡ 1 → 0 < place run.trail (get_or (clause_of formula d) 0 0)

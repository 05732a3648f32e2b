-- A valid run: what document 01, "Examination", asks of a run, condition by condition. Of lent numbers it is `ValidSession` of validation, values and links among them.
use Rattle.std.specs.Prelude.{ℕ, suc, ◌+◌, ◌*◌, ◌≤◌, ◌<◌, ◌≡◌, ◌⊎◌, Bool, true, false, cond, List, [], ◌∷◌, map, leb, eqb, length, get_or}
use Rattle.base.specs.Lists.{member, distinct, times}
use Rattle.book.specs.Formula.{Formula, variable_of, literal_within}
use Rattle.run.specs.Trail.{Entry, opposite, is_true, is_false, decisions, level, lowered}
use Rattle.run.specs.Scan.{Cell}
use Rattle.run.specs.Run.{Run, clause_of, size, no_cell, cell_of, list_of, max_count}
use Rattle.run.specs.Calls.{max_backtracks}

-- an implied literal has a clause whose other literals are all false on the trail before it
pub record Reason (formula : Formula) (trail : List Entry) (l : ℕ) : Type 0 where
  pub clause : ℕ
  pub holds : member l (clause_of formula clause) ≡ true
  pub others : (m : ℕ) → member m (clause_of formula clause) ≡ true → (m ≡ l → ⊥) → is_false trail m ≡ true

abbrev pub Justified : Formula → List Entry → Type 0
Justified formula [] = Unit
Justified formula (e ∷ trail) = (e.decided ≡ false → Reason formula trail e.literal) × Justified formula trail

-- a clause of n ≥ 2 has two different watches, and its pointer is one of them
pub record Watching (n : ℕ) (cell : Cell) : Type 0 where
  pub first_within : cell.first < n
  pub second_within : cell.second < n
  pub different : cell.first ≡ cell.second → ⊥
  pub pointer_watched : (cell.pointer ≡ cell.first) ⊎ (cell.pointer ≡ cell.second)

-- the literals of a clause's two watches
abbrev pub first_watch : Formula → Run → ℕ → ℕ
first_watch formula run c = get_or (clause_of formula c) (cell_of run c).first 0

abbrev pub second_watch : Formula → Run → ℕ → ℕ
second_watch formula run c = get_or (clause_of formula c) (cell_of run c).second 0

-- how often clause c stands in the list of literal l: once for each of its watches that is l, and never where it has no watches
abbrev pub one : Bool → ℕ
one true = 1
one false = 0

abbrev pub standing : Formula → Run → ℕ → ℕ → ℕ
standing formula run l c =
    cond (leb 2 (size formula c)) (one (eqb l (first_watch formula run c)) + one (eqb l (second_watch formula run c))) 0

-- no false watch, or one false and one true whose level is not above it
abbrev pub Guarded : List Entry → ℕ → ℕ → Type 0
Guarded trail a b = (is_false trail a ≡ true) × (is_true trail b ≡ true) × (level trail b ≤ level trail (opposite a))

abbrev pub WatchesHold : List Entry → ℕ → ℕ → Type 0
WatchesHold trail a b =
    ((is_false trail a ≡ false) × (is_false trail b ≡ false)) ⊎ (Guarded trail a b ⊎ Guarded trail b a)

-- what a trail keeps out of conflict: clauses of one literal are true at level 0, and the watches of longer ones hold
pub record Fixpoint (formula : Formula) (run : Run) (trail : List Entry) : Type 0 where
  pub units_true : (c : ℕ) → size formula c ≡ 1 → is_true trail (get_or (clause_of formula c) 0 0) ≡ true
  pub units_level : (c : ℕ) → size formula c ≡ 1 → level trail (get_or (clause_of formula c) 0 0) ≡ 0
  pub watches : (c : ℕ) → 2 ≤ size formula c → WatchesHold trail (first_watch formula run c) (second_watch formula run c)

pub record Valid (formula : Formula) (run : Run) : Type 0 where
  -- every entry is in its range
  pub trail_within_lem : (l : ℕ) → is_true run.trail l ≡ true → literal_within formula.variables l ≡ true
  pub cells_length : length run.cells ≡ length formula.clauses
  pub lists_length : length run.lists ≡ 2 * formula.variables + 2
  pub checks_length : length run.checks ≡ length formula.clauses
  pub checks_within_lem : (c : ℕ) → get_or run.checks c 0 ≤ max_count
  pub backtracks_within_lem : run.backtracks ≤ max_backtracks
  -- no more decisions are fixed than are in force
  pub fixed_within_lem : run.fixed ≤ length (decisions run.trail)
  -- no variable is twice on the trail
  pub trail_distinct : distinct (map (λ (e : Entry). variable_of e.literal) run.trail) ≡ true
  pub justified : Justified formula run.trail
  pub watching : (c : ℕ) → 2 ≤ size formula c → Watching (size formula c) (cell_of run c)
  pub unwatched : (c : ℕ) → size formula c < 2 → cell_of run c ≡ no_cell
  -- each clause of n ≥ 2 stands once in each watch's list and in no other, a clause of one literal or of none in no list
  pub listed : (l c : ℕ) → times c (list_of run.lists l) ≡ standing formula run l c
  pub fixpoint : run.conflict ≡ 0 → Fixpoint formula run run.trail
  -- in conflict the conflict clause has a literal and is all false, and the rest holds for the trail without its top level, if it has one
  pub conflict_false : (c : ℕ) → run.conflict ≡ suc c → (0 < size formula c) × ((m : ℕ) → member m (clause_of formula c) ≡ true → is_false run.trail m ≡ true)
  pub fixpoint_below : (c : ℕ) → run.conflict ≡ suc c → 0 < length (decisions run.trail) → Fixpoint formula run (lowered run.trail)

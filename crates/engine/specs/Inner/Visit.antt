-- What the contracts of src/visit.rt cite: one clause of the list that is read, before and after its visit.
use Rattle.std.specs.Prelude.{ℕ, ◌+◌, ◌-◌, ◌<◌, ◌%◌, min, ◌≡◌, true, false, cond, List, ◌∷◌, map, eqb, length, get_or, set, Option, Some, None}
use Rattle.base.specs.Lists.{distinct}
use Rattle.book.specs.Formula.{Formula, variable_of}
use Rattle.book.specs.Numbers.{formula_of, well_formed, clauses_of}
use Rattle.run.specs.Trail.{Entry, is_true}
use Rattle.run.specs.Run.{Run, visit, in_conflict, clause_of, size, cell_of, other_watch, max_count}
use Rattle.run.specs.Valid.{Watching}
use Rattle.run.specs.Progress.{ReadingList}
use Rattle.layout.specs.Layout.{pointers_at, clause_of_node, watch_slot}
use Rattle.layout.specs.Encodes.{Encodes}
use Rattle.layout.specs.declared.values.Value.{Value}
use Rattle.engine.specs.Engine.{SameBehind}
use Rattle.engine.specs.Inner.Lists.{Walking, linked}
use Rattle.engine.specs.Inner.Scan.{ValueSays}
use Rattle.engine.specs.declared.lists.Walk.{Walk}

-- The list of q is read: a walk along it stands at a clause, behind those that are passed.
pub record Visiting (book numbers : List ℕ) (walk : Walk) : Type 0 where
  pub well : well_formed book ≡ true
  pub run : Run
  pub handled : ℕ
  pub q : ℕ
  pub clause : ℕ
  pub passed : List ℕ
  pub unread : List ℕ
  pub encodes : Encodes (formula_of book) numbers run
  pub reading : ReadingList (formula_of book) handled q (clause ∷ unread) run
  pub walking : Walking linked (formula_of book) run.cells run.lists q passed (clause ∷ unread) walk

-- the run after the visit is in conflict, or the walk is behind the clause
abbrev pub VisitSays : Formula → ℕ → List ℕ → Run → Option Walk → Type 0
VisitSays formula q unread after (Some next) =
    (after.conflict ≡ 0) × ((passed : List ℕ) × Walking linked formula after.cells after.lists q passed unread next)
VisitSays formula q unread after None = in_conflict after ≡ true

pub record Visited (book before after : List ℕ) {walk : Walk} (at : Visiting book before walk) (r : Option Walk) : Type 0 where
  pub encodes : Encodes (formula_of book) after (visit (formula_of book) at.q at.clause at.run)
  pub same_length : length after ≡ length before
  pub same_behind : SameBehind book before after
  pub says : VisitSays (formula_of book) at.q at.unread (visit (formula_of book) at.q at.clause at.run) r

-- the other node of a clause
unfoldable pub other_node : ℕ → ℕ
other_node node = cond (eqb (node % 2) 1) (node + 1) (node - 1)

-- the checks at a slot, after some more
abbrev pub count_nums : List ℕ → ℕ → ℕ → List ℕ
count_nums numbers slot made = set numbers slot (min (get_or numbers slot 0 + made) max_count)

-- the watch of a node at a position, and the pointer with it
abbrev pub watch_nums : ℕ → ℕ → List ℕ → ℕ → ℕ → List ℕ
watch_nums v n numbers node position =
    set (set numbers (watch_slot v node) position) (pointers_at v n + clause_of_node node) position

-- Clause c of a run that numbers hold has two watches.
pub record Scannable (book numbers : List ℕ) (c : ℕ) : Type 0 where
  pub well : well_formed book ≡ true
  pub run : Run
  pub encodes : Encodes (formula_of book) numbers run
  pub once : distinct (map (λ (e : Entry). variable_of e.literal) run.trail) ≡ true
  pub inside : c < clauses_of book
  pub watching : Watching (size (formula_of book) c) (cell_of run c)

-- The other watch of the clause is not true, and its value is known.
pub record Seeking (book numbers : List ℕ) (walk : Walk) (other : ℕ) (value : Value) : Type 0 where
  pub at : Visiting book numbers walk
  pub other_is : other ≡ other_watch (clause_of (formula_of book) at.clause) (cell_of at.run at.clause) at.q
  pub untrue : is_true at.run.trail other ≡ false
  pub says : ValueSays at.run.trail other value

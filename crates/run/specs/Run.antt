-- The state of the reference run (the paper's written run) and its steps: opening, propagation (settling), decision (choice), backtrack (take-back), fixing.
use Rattle.std.specs.Prelude.{ℕ, zero, suc, ◌+◌, ◌*◌, min, Bool, true, false, cond, not, List, [], ◌∷◌, map, leb, ltb, eqb, length, get_or, set, drop, replicate}
use Rattle.std.proofs.Math.Option.{none, some}
use Rattle.base.specs.Lists.{without, table}
use Rattle.book.specs.Formula.{Formula}
use Rattle.run.specs.Trail.{Entry, opposite, is_true, is_false, literal_at, cut}
use Rattle.run.specs.Scan.{Cell, Scanned, scan}

-- Clauses are numbered from 0 here. The conflict (contradiction) is 0 where there is none, else the conflict clause's name, which counts from 1.
-- `fixed` is how many decisions are fixed (the paper's f): the oldest ones in force.
pub record Run : Type 0 where
  pub trail : List Entry
  pub cells : List Cell
  pub lists : List (List ℕ)
  pub conflict : ℕ
  pub checks : List ℕ
  pub backtracks : ℕ
  pub fixed : ℕ

abbrev pub clause_of : Formula → ℕ → List ℕ
clause_of formula c = get_or formula.clauses c []

-- n, the number of a clause's literals; 0 also where there is no clause c
abbrev pub size : Formula → ℕ → ℕ
size formula c = length (clause_of formula c)

abbrev pub no_cell : Cell
no_cell = record { first = 0; second = 0; pointer = 0 }

abbrev pub cell_at : List Cell → ℕ → Cell
cell_at cells c = get_or cells c no_cell

abbrev pub cell_of : Run → ℕ → Cell
cell_of run c = cell_at run.cells c

-- the watch list of a literal: the clauses that watch it, in the order in which they are read
abbrev pub list_of : List (List ℕ) → ℕ → List ℕ
list_of lists l = get_or lists l []

unfoldable pub push_front : List (List ℕ) → ℕ → ℕ → List (List ℕ)
push_front lists l c = set lists l (c ∷ list_of lists l)

unfoldable pub take_out : List (List ℕ) → ℕ → ℕ → List (List ℕ)
take_out lists l c = set lists l (without c (list_of lists l))

-- A count of checks is a 32-bit number and stops at its largest value.
abbrev pub max_count : ℕ
max_count = 4294967295

unfoldable pub add_checks : List ℕ → ℕ → ℕ → List ℕ
add_checks checks c made = set checks c (min (get_or checks c 0 + made) max_count)

-- Scan of a clause in the list of the false literal q: the watch on q is the one that may move, the other one is kept.
unfoldable pub other_watch : List ℕ → Cell → ℕ → ℕ
other_watch clause cell q =
    cond (eqb (get_or clause cell.first 0) q) (get_or clause cell.second 0) (get_or clause cell.first 0)

unfoldable pub moved : List ℕ → Cell → ℕ → ℕ → Cell
moved clause cell q position =
    cond (eqb (get_or clause cell.first 0) q)
    (record { first = position; second = cell.second; pointer = position })
    (record { first = cell.first; second = position; pointer = position })

-- What becomes of a clause in the list that is read.
pub data Action : Type 0 where
  stays : Action
  moves : ℕ → ℕ → Action
  implies : ℕ → Action
  conflicts : ℕ → Action

unfoldable pub scanned_action : Scanned → Bool → Action
scanned_action s otherFalse =
    elim s.found [ some position ↦ moves position s.checks | none ↦ cond otherFalse (conflicts s.checks) (implies s.checks) ]

-- A clause whose other watch is true stays. Otherwise it is scanned.
unfoldable pub action : List Entry → List ℕ → Cell → ℕ → Action
action trail clause cell q =
    let scanned = scanned_action (scan trail clause cell) (is_false trail (other_watch clause cell q)) in
    cond (is_true trail (other_watch clause cell q)) stays scanned

-- The run with one part changed: a literal more on the trail, other watches, a conflict, checks more.
unfoldable pub on_trail : ℕ → Bool → Run → Run
on_trail l decided run =
    record {
      trail = record { literal = l; decided = decided } ∷ run.trail;
      cells = run.cells;
      lists = run.lists;
      conflict = run.conflict;
      checks = run.checks;
      backtracks = run.backtracks;
      fixed = run.fixed;
    }

unfoldable pub with_watches : List Cell → List (List ℕ) → Run → Run
with_watches cells lists run =
    record {
      trail = run.trail;
      cells = cells;
      lists = lists;
      conflict = run.conflict;
      checks = run.checks;
      backtracks = run.backtracks;
      fixed = run.fixed;
    }

unfoldable pub with_conflict : ℕ → Run → Run
with_conflict name run =
    record {
      trail = run.trail;
      cells = run.cells;
      lists = run.lists;
      conflict = name;
      checks = run.checks;
      backtracks = run.backtracks;
      fixed = run.fixed;
    }

unfoldable pub counted : ℕ → ℕ → Run → Run
counted c made run =
    record {
      trail = run.trail;
      cells = run.cells;
      lists = run.lists;
      conflict = run.conflict;
      checks = add_checks run.checks c made;
      backtracks = run.backtracks;
      fixed = run.fixed;
    }

unfoldable pub perform_action : Formula → ℕ → ℕ → Action → Run → Run
perform_action formula q c stays run = run
perform_action formula q c (moves position made) run =
    counted c made
    (with_watches
    (set run.cells c (moved (clause_of formula c) (cell_of run c) q position))
    (push_front (take_out run.lists q c) (get_or (clause_of formula c) position 0) c)
    run)
perform_action formula q c (implies made) run =
    counted c made (on_trail (other_watch (clause_of formula c) (cell_of run c) q) false run)
perform_action formula q c (conflicts made) run = counted c made (with_conflict (suc c) run)

unfoldable pub visit : Formula → ℕ → ℕ → Run → Run
visit formula q c run = perform_action formula q c (action run.trail (clause_of formula c) (cell_of run c) q) run

abbrev pub in_conflict : Run → Bool
in_conflict run = not (eqb run.conflict 0)

-- the trail's literals in trail order, behind the first so many
unfoldable pub trail_behind : ℕ → Run → List ℕ
trail_behind before run = drop before (table (length run.trail) (λ (i : ℕ). literal_at run.trail (suc i)))

-- Propagation: the watch list of q, as it stood when its reading began, front to back; a conflict ends it.
unfoldable pub read_list : Formula → ℕ → List ℕ → Run → Run
read_list formula q [] run = run
read_list formula q (c ∷ unread) run =
    let visited = visit formula q c run in
    let rest = read_list formula q unread visited in
    cond (in_conflict visited) visited rest

-- Propagation: the trail literals behind the first `handled` ones, once each, in trail order; a conflict ends it. The fuel is more than the
-- trail can hold.
unfoldable pub propagate_from : ℕ → Formula → ℕ → Run → Run
propagate_from zero formula handled run = run
propagate_from (suc fuel) formula handled run =
    let q = opposite (literal_at run.trail (suc handled)) in
    let rest = propagate_from fuel formula (suc handled) (read_list formula q (list_of run.lists q) run) in
    cond (in_conflict run) run (cond (ltb handled (length run.trail)) rest run)

abbrev pub propagate : Formula → ℕ → Run → Run
propagate formula handled run = propagate_from (suc formula.variables) formula handled run

-- Opening: a clause of n ≥ 2 watches positions 0 and 1, and its pointer is 1; it goes to the front of position 0's list, then of position 1's.
unfoldable pub first_cell : List ℕ → Cell
first_cell clause = cond (leb 2 (length clause)) (record { first = 0; second = 1; pointer = 1 }) no_cell

unfoldable pub watch_all : ℕ → List (List ℕ) → List (List ℕ) → List (List ℕ)
watch_all c [] lists = lists
watch_all c (clause ∷ clauses) lists =
    watch_all (suc c) clauses
    (cond (leb 2 (length clause)) (push_front (push_front lists (get_or clause 0 0) c) (get_or clause 1 0) c) lists)

unfoldable pub fresh : Formula → Run
fresh formula =
    record {
      trail = [];
      cells = map first_cell formula.clauses;
      lists = watch_all 0 formula.clauses (replicate (2 * formula.variables + 2) []);
      conflict = 0;
      checks = replicate (length formula.clauses) 0;
      backtracks = 0;
      fixed = 0;
    }

-- a clause of one literal implies it; if it is already true nothing happens, and if it is false, that is a conflict
unfoldable pub assign_unit : ℕ → List ℕ → Run → Run
assign_unit c clause run =
    let l = get_or clause 0 0 in
    let assigned = cond (is_false run.trail l) (with_conflict (suc c) run) (on_trail l false run) in
    cond (eqb (length clause) 1) (cond (is_true run.trail l) run assigned) run

unfoldable pub assign_units : ℕ → List (List ℕ) → Run → Run
assign_units c [] run = run
assign_units c (clause ∷ clauses) run =
    let after = assign_unit c clause run in
    let rest = assign_units (suc c) clauses after in
    cond (in_conflict after) after rest

unfoldable pub open_run : Formula → Run
open_run formula = propagate formula 0 (assign_units 0 formula.clauses (fresh formula))

-- Choice: the literal joins the trail as a new level, then propagation.
unfoldable pub decide : Formula → ℕ → Run → Run
decide formula l run = propagate formula (length run.trail) (on_trail l true run)

-- Take-back of k: the last k decisions and all after the first of them leave the trail. Watches, pointers, lists and what is fixed stay. A conflict
-- is over.
unfoldable pub backtrack : ℕ → Run → Run
backtrack k run =
    record {
      trail = cut k run.trail;
      cells = run.cells;
      lists = run.lists;
      conflict = 0;
      checks = run.checks;
      backtracks = suc run.backtracks;
      fixed = run.fixed;
    }

-- Fixing the first f decisions in force: nothing else changes.
unfoldable pub fix : ℕ → Run → Run
fix f run =
    record {
      trail = run.trail;
      cells = run.cells;
      lists = run.lists;
      conflict = run.conflict;
      checks = run.checks;
      backtracks = run.backtracks;
      fixed = f;
    }

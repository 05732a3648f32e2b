-- The session numbers: where each part lies, the numbers of a run, and the run that numbers hold. docs/LAYOUT.md shows the same table.
use Rattle.std.specs.Prelude.{ℕ, zero, suc, ◌+◌, ◌*◌, ◌-◌, ◌/◌, ◌%◌, ◌≤◌, true, cond, not, List, [], ◌∷◌, ◌++◌, ◌≡◌, leb, eqb, length, get_or, take, drop}
use Rattle.base.specs.Lists.{table}
use Rattle.book.specs.Formula.{Formula, variable_of, positive, negative, max_variables, max_clauses}
use Rattle.book.specs.Numbers.{variables_of, clauses_of, well_formed}
use Rattle.run.specs.Trail.{Entry, place, literal_at, is_true, decisions, level}
use Rattle.run.specs.Scan.{Cell}
use Rattle.run.specs.Run.{cell_at, Run, clause_of, size, list_of}

-- The header: the trail's length, the decisions in force, the conflict clause's name (0 out of conflict), the accepted backtracks, the fixed
-- decisions.
abbrev pub length_at : ℕ
length_at = 0

abbrev pub decisions_at : ℕ
decisions_at = 1

abbrev pub conflict_at : ℕ
conflict_at = 2

abbrev pub backtracks_at : ℕ
backtracks_at = 3

abbrev pub fixed_at : ℕ
fixed_at = 4

-- Behind it, with v variables and c clauses: trail, levels, values, watches, pointers, checks; the parts of the watch lists, heads and links,
-- come last.
abbrev pub trail_at : ℕ
trail_at = 5

abbrev pub levels_at : ℕ → ℕ
levels_at v = trail_at + v

abbrev pub values_at : ℕ → ℕ
values_at v = trail_at + 2 * v

abbrev pub watches_at : ℕ → ℕ
watches_at v = trail_at + 3 * v

abbrev pub pointers_at : ℕ → ℕ → ℕ
pointers_at v c = trail_at + 3 * v + 2 * c

abbrev pub checks_at : ℕ → ℕ → ℕ
checks_at v c = trail_at + 3 * v + 3 * c

abbrev pub heads_at : ℕ → ℕ → ℕ
heads_at v c = trail_at + 3 * v + 4 * c

abbrev pub links_at : ℕ → ℕ → ℕ
links_at v c = trail_at + 5 * v + 4 * c

-- the place of the value of a literal's variable, of a node's watch, of a list's head, and of a node's link
abbrev pub value_slot : ℕ → ℕ → ℕ
value_slot v l = values_at v + (variable_of l - 1)

abbrev pub watch_slot : ℕ → ℕ → ℕ
watch_slot v node = watches_at v + (node - 1)

abbrev pub head_slot : ℕ → ℕ → ℕ → ℕ
head_slot v c l = heads_at v c + (l - 2)

abbrev pub link_slot : ℕ → ℕ → ℕ → ℕ
link_slot v c node = links_at v c + (node - 1)

-- the required length (the paper's need)
abbrev pub required_length : ℕ → ℕ → ℕ
required_length v c = trail_at + 5 * v + 6 * c

-- the required length for the largest book
abbrev pub max_session : ℕ
max_session = required_length max_variables max_clauses

-- few variables, few clauses, and numbers that are long enough; where only the trail's parts are looked at, up to their end
pub record Fits (v c : ℕ) (numbers : List ℕ) : Type 0 where
  pub few_variables : v ≤ max_variables
  pub few_clauses : c ≤ max_clauses
  pub long : required_length v c ≤ length numbers

pub record TrailFits (v : ℕ) (numbers : List ℕ) : Type 0 where
  pub few_variables : v ≤ max_variables
  pub long : watches_at v ≤ length numbers

-- a well-formed book, and numbers that are long enough for a session on it
pub record SessionFits (book numbers : List ℕ) : Type 0 where
  pub well : well_formed book ≡ true
  pub long : required_length (variables_of book) (clauses_of book) ≤ length numbers

-- The value of a variable: 0 where it is open, else twice the place of its literal on the trail, plus 1 if that is negative.
unfoldable pub value_number : List Entry → ℕ → ℕ
value_number trail v =
    cond (is_true trail (positive v))
    (2 * place trail (positive v))
    (cond (is_true trail (negative v)) (2 * place trail (negative v) + 1) 0)

-- the level of the trail literal at a place; 0 behind the end
unfoldable pub level_number : List Entry → ℕ → ℕ
level_number trail h = level trail (literal_at trail h)

-- A clause of n ≥ 2 has two nodes, one for each watch: node 2 × c + 1 for the first, 2 × c + 2 for the second. A literal's watch list is a
-- chain of nodes from its head on, and 0 ends it.
abbrev pub clause_of_node : ℕ → ℕ
clause_of_node node = (node - 1) / 2

unfoldable pub watch_literal : Formula → List Cell → ℕ → ℕ
watch_literal formula cells node =
    cond (eqb (node % 2) 1)
    (get_or (clause_of formula (clause_of_node node)) (cell_at cells (clause_of_node node)).first 0)
    (get_or (clause_of formula (clause_of_node node)) (cell_at cells (clause_of_node node)).second 0)

unfoldable pub node_of : Formula → List Cell → ℕ → ℕ → ℕ
node_of formula cells l c = cond (eqb (get_or (clause_of formula c) (cell_at cells c).first 0) l) (2 * c + 1) (2 * c + 2)

unfoldable pub first_node : Formula → List Cell → ℕ → List ℕ → ℕ
first_node formula cells l [] = 0
first_node formula cells l (c ∷ list) = node_of formula cells l c

-- what stands behind c in a list
unfoldable pub behind : ℕ → List ℕ → List ℕ
behind c [] = []
behind c (d ∷ list) = cond (eqb d c) list (behind c list)

unfoldable pub head_number : Formula → List Cell → List (List ℕ) → ℕ → ℕ
head_number formula cells lists l = first_node formula cells l (list_of lists l)

unfoldable pub link_number : Formula → List Cell → List (List ℕ) → ℕ → ℕ
link_number formula cells lists node =
    cond (leb 2 (size formula (clause_of_node node)))
    (first_node formula cells (watch_literal formula cells node)
    (behind (clause_of_node node) (list_of lists (watch_literal formula cells node))))
    0

unfoldable pub watch_number : List Cell → ℕ → ℕ
watch_number cells i = cond (eqb (i % 2) 0) (cell_at cells (i / 2)).first (cell_at cells (i / 2)).second

-- The numbers of a run, part by part.
unfoldable pub encode : Formula → Run → List ℕ
encode formula run =
    length run.trail ∷ length (decisions run.trail) ∷ run.conflict ∷ run.backtracks ∷ run.fixed
    ∷ (table formula.variables (λ (i : ℕ). literal_at run.trail (suc i))
    ++ (table formula.variables (λ (i : ℕ). level_number run.trail (suc i))
    ++ (table formula.variables (λ (i : ℕ). value_number run.trail (suc i))
    ++ (table (2 * length formula.clauses) (watch_number run.cells)
    ++ (table (length formula.clauses) (λ (c : ℕ). (cell_at run.cells c).pointer)
    ++ (table (length formula.clauses) (λ (c : ℕ). get_or run.checks c 0)
    ++ (table (2 * formula.variables) (λ (i : ℕ). head_number formula run.cells run.lists (i + 2))
    ++ table (2 * length formula.clauses) (λ (i : ℕ). link_number formula run.cells run.lists (suc i)))))))))

-- What numbers hold. A trail literal is a decision where its level is not that of the place before it.
unfoldable pub level_before : ℕ → List ℕ → ℕ → ℕ
level_before v numbers zero = 0
level_before v numbers (suc i) = get_or numbers (levels_at v + i) 0

unfoldable pub held_trail : ℕ → List ℕ → ℕ → List Entry
held_trail v numbers zero = []
held_trail v numbers (suc i) =
    record {
      literal = get_or numbers (trail_at + i) 0;
      decided = not (eqb (get_or numbers (levels_at v + i) 0) (level_before v numbers i));
    } ∷ held_trail v numbers i

unfoldable pub held_cells : ℕ → ℕ → List ℕ → ℕ → ℕ → List Cell
held_cells v c numbers from zero = []
held_cells v c numbers from (suc n) =
    record {
      first = get_or numbers (watches_at v + 2 * from) 0;
      second = get_or numbers (watches_at v + 2 * from + 1) 0;
      pointer = get_or numbers (pointers_at v c + from) 0;
    } ∷ held_cells v c numbers (suc from) n

-- the clauses of the nodes of a chain from a node on, for at most so many nodes; of numbers that pass, all (`chain_fuel_suffices`)
unfoldable pub chain_from : ℕ → ℕ → List ℕ → ℕ → ℕ → List ℕ
chain_from v c numbers zero node = []
chain_from v c numbers (suc fuel) node =
    let rest = clause_of_node node ∷ chain_from v c numbers fuel (get_or numbers (link_slot v c node) 0) in
    cond (eqb node 0) [] rest

unfoldable pub held_lists : ℕ → ℕ → List ℕ → ℕ → ℕ → List (List ℕ)
held_lists v c numbers from zero = []
held_lists v c numbers from (suc n) =
    chain_from v c numbers (2 * c) (get_or numbers (heads_at v c + from) 0) ∷ held_lists v c numbers (suc from) n

unfoldable pub held : Formula → List ℕ → Run
held formula numbers =
    let v = formula.variables in
    let c = length formula.clauses in
    record {
      trail = held_trail v numbers (get_or numbers length_at 0);
      cells = held_cells v c numbers 0 c;
      lists = [] ∷ [] ∷ held_lists v c numbers 0 (2 * v);
      conflict = get_or numbers conflict_at 0;
      checks = take c (drop (checks_at v c) numbers);
      backtracks = get_or numbers backtracks_at 0;
      fixed = get_or numbers fixed_at 0;
    }

-- The relation between session numbers and the run that they hold, of which the contracts of validation and engine speak.
use Rattle.std.specs.Prelude.{ℕ, suc, ◌+◌, ◌*◌, ◌≤◌, ◌<◌, ◌≡◌, List, [], ◌∷◌, map, length, get_or}
use Rattle.book.specs.Formula.{Formula}
use Rattle.run.specs.Trail.{Entry, literal_at, decisions}
use Rattle.run.specs.Scan.{Cell}
use Rattle.run.specs.Run.{Run, size, list_of, cell_at}
use Rattle.layout.specs.Layout.{head_slot, link_slot, length_at, decisions_at, conflict_at, backtracks_at, fixed_at, trail_at, levels_at, values_at, watches_at, pointers_at, checks_at, required_length, value_number, level_number, node_of, clause_of_node}

-- the nodes from a slot on; 0 ends them
abbrev pub Chain : ℕ → ℕ → List ℕ → ℕ → List ℕ → Type 0
Chain v c numbers slot [] = get_or numbers slot 0 ≡ 0
Chain v c numbers slot (node ∷ nodes) = (get_or numbers slot 0 ≡ node) × Chain v c numbers (link_slot v c node) nodes

abbrev pub nodes_of : Formula → List Cell → ℕ → List ℕ → List ℕ
nodes_of formula cells l list = map (node_of formula cells l) list

pub record TrailHeld (v : ℕ) (numbers : List ℕ) (trail : List Entry) : Type 0 where
  pub count : get_or numbers length_at 0 ≡ length trail
  pub decided : get_or numbers decisions_at 0 ≡ length (decisions trail)
  pub literals : (i : ℕ) → i < v → get_or numbers (trail_at + i) 0 ≡ literal_at trail (suc i)
  pub levels : (i : ℕ) → i < v → get_or numbers (levels_at v + i) 0 ≡ level_number trail (suc i)
  pub values : (i : ℕ) → i < v → get_or numbers (values_at v + i) 0 ≡ value_number trail (suc i)

-- the lists, as chains of nodes; the nodes of a clause of fewer than two literals stand in none
pub record ListsHeld (formula : Formula) (numbers : List ℕ) (cells : List Cell) (lists : List (List ℕ)) : Type 0 where
  pub chains : (l : ℕ) → 2 ≤ l → l ≤ 2 * formula.variables + 1
      → Chain formula.variables (length formula.clauses) numbers (head_slot formula.variables (length formula.clauses) l) (nodes_of formula cells l (list_of lists l))
  pub idle : (node : ℕ) → 1 ≤ node → node ≤ 2 * length formula.clauses → size formula (clause_of_node node) < 2
      → get_or numbers (link_slot formula.variables (length formula.clauses) node) 0 ≡ 0

pub record WatchesHeld (formula : Formula) (numbers : List ℕ) (cells : List Cell) (lists : List (List ℕ)) : Type 0 where
  pub firsts : (c : ℕ) → c < length formula.clauses → get_or numbers (watches_at formula.variables + 2 * c) 0 ≡ (cell_at cells c).first
  pub seconds : (c : ℕ) → c < length formula.clauses → get_or numbers (watches_at formula.variables + 2 * c + 1) 0 ≡ (cell_at cells c).second
  pub pointers : (c : ℕ) → c < length formula.clauses
      → get_or numbers (pointers_at formula.variables (length formula.clauses) + c) 0 ≡ (cell_at cells c).pointer
  pub in_lists : ListsHeld formula numbers cells lists

pub record Encodes (formula : Formula) (numbers : List ℕ) (run : Run) : Type 0 where
  pub long : required_length formula.variables (length formula.clauses) ≤ length numbers
  pub trail : TrailHeld formula.variables numbers run.trail
  pub conflict : get_or numbers conflict_at 0 ≡ run.conflict
  pub backtracks : get_or numbers backtracks_at 0 ≡ run.backtracks
  pub fixed : get_or numbers fixed_at 0 ≡ run.fixed
  pub watches : WatchesHeld formula numbers run.cells run.lists
  pub checks : (c : ℕ) → c < length formula.clauses
      → get_or numbers (checks_at formula.variables (length formula.clauses) + c) 0 ≡ get_or run.checks c 0

-- the slot behind some nodes of a chain
abbrev pub end_slot : ℕ → ℕ → ℕ → List ℕ → ℕ
end_slot v c slot [] = slot
end_slot v c slot (node ∷ nodes) = end_slot v c (link_slot v c node) nodes

-- A session that passes: document 01, "Examination", as conditions on the lent numbers and on the run that they hold.
use Rattle.std.specs.Prelude.{ℕ, suc, ◌+◌, ◌*◌, ◌≤◌, ◌<◌, ◌≡◌, List, length, get_or}
use Rattle.book.specs.Formula.{Formula}
use Rattle.run.specs.Trail.{literal_at, decisions}
use Rattle.run.specs.Run.{Run, size, list_of}
use Rattle.run.specs.Valid.{Valid}
use Rattle.layout.specs.Layout.{decisions_at, trail_at, levels_at, values_at, required_length, head_slot, link_slot, level_number, value_number, clause_of_node, held}
use Rattle.layout.specs.Encodes.{Chain, nodes_of}

module _ (formula : Formula) (numbers : List ℕ) where
  abbrev v : ℕ
  v = formula.variables

  abbrev c : ℕ
  c = length formula.clauses

  abbrev run : Run
  run = held formula numbers

  pub record ValidSession : Type 0 where
    -- there are not too few numbers
    pub long : required_length v c ≤ length numbers
    -- every entry is in its range: the decisions are counted, no literal stands behind the trail's end, each place has its level
    pub decided : get_or numbers decisions_at 0 ≡ length (decisions run.trail)
    pub literals : (i : ℕ) → i < v → get_or numbers (trail_at + i) 0 ≡ literal_at run.trail (suc i)
    pub levels : (i : ℕ) → i < v → get_or numbers (levels_at v + i) 0 ≡ level_number run.trail (suc i)
    -- the values are the trail's
    pub values : (i : ℕ) → i < v → get_or numbers (values_at v + i) 0 ≡ value_number run.trail (suc i)
    -- each watch list is the chain of nodes from its head to a 0, and the nodes of a clause of one literal or of none have no link
    pub chains : (l : ℕ) → 2 ≤ l → l ≤ 2 * v + 1 → Chain v c numbers (head_slot v c l) (nodes_of formula run.cells l (list_of run.lists l))
    pub idle : (node : ℕ) → 1 ≤ node → node ≤ 2 * c → size formula (clause_of_node node) < 2 → get_or numbers (link_slot v c node) 0 ≡ 0
    -- and all that the examination asks of trail, watches, pointers, lists, conflict and counts
    pub valid : Valid formula run

-- What the contracts of src/lists.rt cite: the owner of a node, good lists and good nodes, and their marks.
use Rattle.std.specs.Prelude.{ℕ, ◌≤◌, ◌<◌, ◌+◌, ◌*◌, ◌≡◌, Bool, true, false, cond, Option, Some, None, List, get_or, leb}
use Rattle.base.specs.Lists.{times}
use Rattle.book.specs.Formula.{Formula, max_clauses}
use Rattle.run.specs.Run.{size, list_of}
use Rattle.run.specs.Valid.{one, standing}
use Rattle.layout.specs.Layout.{Fits, held, watch_literal, head_slot, link_slot, clause_of_node}
use Rattle.layout.specs.Encodes.{WatchesHeld, Chain}
use Rattle.book.specs.Numbers.{variables_of, clauses_of, formula_of, well_formed}
use Rattle.validation.specs.Inner.Cells.{CellsGood}

-- heads and links
pub record ListsGood (formula : Formula) (numbers : List ℕ) : Type 0 where
  pub is_held : WatchesHeld formula numbers (held formula numbers).cells (held formula numbers).lists
  pub listed : (l c : ℕ) → times c (list_of (held formula numbers).lists l) ≡ standing formula (held formula numbers) l c

-- the literal whose list a node belongs to; none where its clause has no watches
unfoldable pub owner_in : List ℕ → List ℕ → ℕ → Option ℕ
owner_in book numbers node =
    cond (leb 2 (size (formula_of book) (clause_of_node node))) (Some (watch_literal (formula_of book) (held (formula_of book) numbers).cells node)) None

-- what is known when the lists are looked at
pub record Looking (book numbers : List ℕ) : Type 0 where
  pub well : well_formed book ≡ true
  pub fits : Fits (variables_of book) (clauses_of book) numbers
  pub cells : CellsGood (formula_of book) numbers

-- the list of a literal: a chain that ends, of nodes of the literal, none twice
pub record ListGood (book numbers : List ℕ) (l : ℕ) : Type 0 where
  pub nodes : List ℕ
  pub chain : Chain (variables_of book) (clauses_of book) numbers (head_slot (variables_of book) (clauses_of book) l) nodes
  pub once : (n : ℕ) → times n nodes ≤ 1
  pub owned : (n : ℕ) → 0 < times n nodes → (1 ≤ n) × (n ≤ 2 * clauses_of book) × (owner_in book numbers n ≡ Some l)

-- one mark for each node of the largest formula, and one for 0
abbrev pub node_marks : ℕ
node_marks = 2 * max_clauses + 1

-- the nodes of a list that passed are marked
pub record ListMarked (book numbers : List ℕ) (before after : List Bool) (l : ℕ) : Type 0 where
  pub good : ListGood book numbers l
  pub marked : (n : ℕ) → one (get_or after n false) ≡ one (get_or before n false) + times n good.nodes

pub record ListSays (book numbers : List ℕ) (before after : List Bool) (l : ℕ) (r : Bool) : Type 0 where
  pub yes : r ≡ true → ListMarked book numbers before after l
  pub no : r ≡ false → ListGood book numbers l → ⊥

-- the list of a literal is good, and of the literal's nodes just those of the list are marked
pub record Met (book numbers : List ℕ) (marks : List Bool) (l : ℕ) : Type 0 where
  pub good : ListGood book numbers l
  pub exact : (n : ℕ) → owner_in book numbers n ≡ Some l → one (get_or marks n false) ≡ times n good.nodes

pub record AllSays (book numbers : List ℕ) (marks : List Bool) (r : Bool) : Type 0 where
  pub yes : r ≡ true → (l : ℕ) → 2 ≤ l → l ≤ 2 * variables_of book + 1 → Met book numbers marks l
  pub no : r ≡ false → ((l : ℕ) → 2 ≤ l → l ≤ 2 * variables_of book + 1 → ListGood book numbers l) → ⊥

-- a node of a watch is marked, and the link of any other is 0
pub record NodeGood (book numbers : List ℕ) (marks : List Bool) (node : ℕ) : Type 0 where
  pub idle : owner_in book numbers node ≡ None → get_or numbers (link_slot (variables_of book) (clauses_of book) node) 0 ≡ 0
  pub met : (l : ℕ) → owner_in book numbers node ≡ Some l → get_or marks node false ≡ true

abbrev pub NodesGood : List ℕ → List ℕ → List Bool → Type 0
NodesGood book numbers marks = (node : ℕ) → 1 ≤ node → node ≤ 2 * clauses_of book → NodeGood book numbers marks node

-- The watch lists that session numbers hold, walks along them, and what the operations on lists promise. Nothing else in the engine's contracts
-- says how lists are laid out.
use Rattle.std.specs.Prelude.{ℕ, ◌+◌, ◌*◌, ◌≤◌, ◌<◌, ◌≡◌, ◌⊎◌, List, [], ◌∷◌, ◌++◌, length, get_or}
use Rattle.base.specs.Lists.{times}
use Rattle.book.specs.Formula.{Formula}
use Rattle.run.specs.Scan.{Cell}
use Rattle.run.specs.Run.{size, list_of, push_front, take_out}
use Rattle.layout.specs.Layout.{heads_at, required_length, node_of, first_node, chain_from, head_slot}
use Rattle.layout.specs.Encodes.{nodes_of, end_slot, ListsHeld}
use Rattle.engine.specs.declared.lists.Walk.{Walk}

-- the place from which the numbers of the lists go to the required length
abbrev pub lists_at : ℕ → ℕ → ℕ
lists_at v n = heads_at v n

-- The lists have clauses with two watches, each at most once in a list, and no node stands in the lists of two literals.
pub record Orderly (formula : Formula) (cells : List Cell) (lists : List (List ℕ)) : Type 0 where
  pub within : (l d : ℕ) → 0 < times d (list_of lists l) → 2 ≤ size formula d
  pub once : (l d : ℕ) → times d (list_of lists l) ≤ 1
  pub apart : (l d m e : ℕ) → 0 < times d (list_of lists l) → 0 < times e (list_of lists m)
      → node_of formula cells l d ≡ node_of formula cells m e → l ≡ m

-- a walk stands at a clause; its numbers are in range
pub record Standing (v n : ℕ) (walk : Walk) : Type 0 where
  pub some : 1 ≤ walk.node
  pub node_within : walk.node ≤ 2 * n
  pub slot_low : lists_at v n ≤ walk.slot
  pub slot_within : walk.slot < required_length v n

-- how many clauses are left, by the links
unfoldable pub left_of : ℕ → ℕ → List ℕ → Walk → ℕ
left_of v n numbers walk = length (chain_from v n numbers (2 * n) walk.node)

-- only numbers of the lists changed
pub record ListsOnly (v n : ℕ) (before after : List ℕ) : Type 0 where
  pub same_length : length after ≡ length before
  pub outside : (x : ℕ) → (x < lists_at v n) ⊎ (required_length v n ≤ x) → get_or after x 0 ≡ get_or before x 0

-- no list has a node
abbrev pub Unlisted : Formula → List Cell → List (List ℕ) → ℕ → Type 0
Unlisted formula cells lists node = (l d : ℕ) → 0 < times d (list_of lists l) → node_of formula cells l d ≡ node → ⊥

-- A form of lists: how numbers hold them, and where a walk stands behind the clauses that it passed.
pub record Form : Type 1 where
  pub Held : Formula → List ℕ → List Cell → List (List ℕ) → Type 0
  pub Placed : Formula → List Cell → ℕ → List ℕ → Walk → Type 0

-- by heads and links
abbrev pub linked : Form
linked =
    record {
      Held = ListsHeld;
      Placed = λ formula cells q passed walk. walk.slot ≡ end_slot formula.variables (length formula.clauses) (head_slot formula.variables (length formula.clauses) q) (nodes_of formula cells q passed);
    }

-- What the operations promise, in any form.
module _ (form : Form) where
  -- Numbers for v variables and n clauses hold the lists of a formula whose clauses are watched as the cells say.
  pub record Lists (v n : ℕ) (numbers : List ℕ) (formula : Formula) (cells : List Cell) (lists : List (List ℕ)) : Type 0 where
    pub variables_are : formula.variables ≡ v
    pub clauses_are : length formula.clauses ≡ n
    pub long : required_length v n ≤ length numbers
    pub many : length lists ≡ 2 * v + 2
    pub held : form.Held formula numbers cells lists
    pub orderly : Orderly formula cells lists

  -- The list of q is walked along: `passed` is behind, and `unread` is left.
  pub record Walking (formula : Formula) (cells : List Cell) (lists : List (List ℕ)) (q : ℕ) (passed unread : List ℕ) (walk : Walk) : Type 0 where
    pub low : 2 ≤ q
    pub high : q ≤ 2 * formula.variables + 1
    pub listed : list_of lists q ≡ passed ++ unread
    pub node_is : walk.node ≡ first_node formula cells q unread
    pub placed : form.Placed formula cells q passed walk

  -- a walk at the start of a list; a walk that goes on behind a clause, which stays in the list
  pub record Begun (v n : ℕ) (numbers : List ℕ) (l : ℕ) (walk : Walk) : Type 0 where
    pub walking : {formula : Formula} {cells : List Cell} {lists : List (List ℕ)} → Lists v n numbers formula cells lists
        → Walking formula cells lists l [] (list_of lists l) walk

  pub record KeptOn (v n : ℕ) (numbers : List ℕ) (walk next : Walk) : Type 0 where
    pub walking : {formula : Formula} {cells : List Cell} {lists : List (List ℕ)} {q c : ℕ} {passed unread : List ℕ}
        → Lists v n numbers formula cells lists → Walking formula cells lists q passed (c ∷ unread) walk
        → Walking formula cells lists q (passed ++ (c ∷ [])) unread next

  -- the clause that a walk stood at is taken out of its list, and the walk goes on
  pub record TakenOut (v n : ℕ) (before after : List ℕ) (walk next : Walk) : Type 0 where
    pub only : ListsOnly v n before after
    pub lists_are : {formula : Formula} {cells : List Cell} {lists : List (List ℕ)} {q c : ℕ} {passed unread : List ℕ}
        → Lists v n before formula cells lists → Walking formula cells lists q passed (c ∷ unread) walk
        → Lists v n after formula cells (take_out lists q c)
    pub goes_on : {formula : Formula} {cells : List Cell} {lists : List (List ℕ)} {q c : ℕ} {passed unread : List ℕ}
        → Lists v n before formula cells lists → Walking formula cells lists q passed (c ∷ unread) walk
        → Walking formula cells (take_out lists q c) q passed unread next

  -- the clause of a node that no list has goes to the front of a literal's list
  pub record PushedFront (v n : ℕ) (before after : List ℕ) (l node : ℕ) : Type 0 where
    pub only : ListsOnly v n before after
    pub lists_are : {formula : Formula} {cells : List Cell} {lists : List (List ℕ)} (c : ℕ) → Lists v n before formula cells lists
        → 2 ≤ size formula c → node_of formula cells l c ≡ node → Unlisted formula cells lists node
        → Lists v n after formula cells (push_front lists l c)

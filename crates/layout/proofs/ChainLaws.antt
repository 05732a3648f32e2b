-- The nodes of clauses and the chains of nodes: what heads and links say where lists are held, and that they hold the lists.
use Prim.Native.Nat.{ℕ, ◌+◌, ◌*◌, ◌%◌, ◌≤◌, ◌<◌}
use native.Mathlib.Omega.{arith}
use mathlib.Core.Bool.{true, Bool, false, cond}
use mathlib.Core.List.{List, [], ◌∷◌, ◌++◌}
use mathlib.Core.Logic.{◌⊎◌, inl, inr, ⊎_elim}
use mathlib.Core.Path.{◌≡◌, refl, sym, ap, ◌∙◌}
use borrow.Author.Tests.{eq-eqb, ne_eqb, le-leb}
use lib.Dec.{eqb}
use lib.ListN.{get_or, length}
use Rattle.base.specs.Lists.{times}
use Rattle.base.proofs.Members.{times-same, times_other}
use Rattle.base.proofs.Bools.{alike, below}
use Rattle.book.specs.Formula.{Formula, sound, literal_within}
use Rattle.run.specs.Scan.{Cell}
use Rattle.run.specs.Run.{size, list_of, clause_of, cell_at}
use Rattle.run.specs.Valid.{one}
use Rattle.run.proofs.Clauses.{literal_within_lem, clause_exists}
use Rattle.run.specs.Progress.{first_literal, second_literal, among, Watched}
use Rattle.run.proofs.WatchLists.{one_same, one_other, literals_differ, listed_size, Order, forth, back, Sides, listed_sides, listed_once}
use Rattle.layout.specs.Layout.{watch_literal, node_of, first_node, behind, link_number, link_slot, clause_of_node}
use Rattle.layout.specs.Encodes.{Chain, nodes_of, end_slot}

-- the node of a clause in a list: of its first watch or of its second
abbrev pub NodeCase : Formula → List Cell → ℕ → ℕ → Type 0
NodeCase formula cells l c =
    ((first_literal formula cells c ≡ l) × (node_of formula cells l c ≡ 2 * c + 1))
    ⊎ ((first_literal formula cells c ≡ l → ⊥) × (node_of formula cells l c ≡ 2 * c + 2))

pub node_cases : (formula : Formula) (cells : List Cell) (l c : ℕ) → NodeCase formula cells l c
unfolding node_of
node_cases formula cells l c =
    ⊎_elim
    (λ e. inl (e, rw (eq-eqb (first_literal formula cells c) l e)))
    (λ n. inr (n, rw (ne_eqb (first_literal formula cells c) l n)))
    (alike (first_literal formula cells c) l)

pub node_positive : (formula : Formula) (cells : List Cell) (l c : ℕ) → 1 ≤ node_of formula cells l c
node_positive formula cells l c = ⊎_elim (λ p. omega arith) (λ p. omega arith) (node_cases formula cells l c)

-- the slot behind one node more is that node's link
pub end_slot_more : (v c slot : ℕ) (nodes : List ℕ) (node : ℕ) → end_slot v c slot (nodes ++ (node ∷ [])) ≡ link_slot v c node
end_slot_more v c slot [] node = refl
end_slot_more v c slot (m ∷ nodes) node = end_slot_more v c (link_slot v c m) nodes node

pub node_clause : (formula : Formula) (cells : List Cell) (l c : ℕ) → clause_of_node (node_of formula cells l c) ≡ c
node_clause formula cells l c = ⊎_elim (λ p. omega arith) (λ p. omega arith) (node_cases formula cells l c)

pub node_within : (formula : Formula) (cells : List Cell) (l c n : ℕ) → c < n → node_of formula cells l c ≤ 2 * n
node_within formula cells l c n h = ⊎_elim (λ p. omega arith) (λ p. omega arith) (node_cases formula cells l c)

-- the literal of an odd node is its clause's first watch, of an even one the second
odd_literal : (formula : Formula) (cells : List Cell) (node : ℕ) → node % 2 ≡ 1
    → watch_literal formula cells node ≡ first_literal formula cells (clause_of_node node)
unfolding watch_literal
odd_literal formula cells node e = rw (eq-eqb (node % 2) 1 e)

even_literal : (formula : Formula) (cells : List Cell) (node : ℕ) → node % 2 ≡ 0
    → watch_literal formula cells node ≡ second_literal formula cells (clause_of_node node)
unfolding watch_literal
even_literal formula cells node e = rw (ne_eqb (node % 2) 1 (λ z. omega arith))

-- what a node of a clause with two watches says: the list of its literal has the clause, whose node there is this one
pub record AtNode (formula : Formula) (cells : List Cell) (lists : List (List ℕ)) (node : ℕ) : Type 0 where
  pub within : literal_within formula.variables (watch_literal formula cells node) ≡ true
  pub stands_there : 0 < times (clause_of_node node) (list_of lists (watch_literal formula cells node))
  pub is_node : node_of formula cells (watch_literal formula cells node) (clause_of_node node) ≡ node

module _ (formula : Formula) (s : sound formula ≡ true) (cells : List Cell) (lists : List (List ℕ)) (w : Watched formula cells lists) where
  counted : (l c : ℕ) → 2 ≤ size formula c → times c (list_of lists l) ≡ among l (first_literal formula cells c) (second_literal formula cells c)
  counted l c two = rw (w.listed l c, le-leb 2 (size formula c) two)

  watches_differ : (c : ℕ) → 2 ≤ size formula c → first_literal formula cells c ≡ second_literal formula cells c → ⊥
  watches_differ c two =
      let k = w.watching c two in
      literals_differ formula s c (cell_at cells c).first (cell_at cells c).second k.first_within k.second_within k.different

  pub at_node : (node : ℕ) → 1 ≤ node → 2 ≤ size formula (clause_of_node node) → AtNode formula cells lists node
  at_node node low two = ⊎_elim odd even (alike (node % 2) 1)
    where
      c : ℕ
      c = clause_of_node node

      odd : node % 2 ≡ 1 → AtNode formula cells lists node
      odd e =
          let o = one_same (refl {a = first_literal formula cells c}) in
          let there : 0 < times c (list_of lists (first_literal formula cells c)) = rw (counted (first_literal formula cells c) c two, o) (omega arith) in
          let node-there : node_of formula cells (first_literal formula cells c) c ≡ node
          = ⊎_elim (λ p. omega arith) (λ p. absurd (p.0 refl)) (node_cases formula cells (first_literal formula cells c) c) in
          record {
            within = rw (odd_literal formula cells node e) (literal_within_lem formula s c (cell_at cells c).first (w.watching c two).first_within);
            stands_there = rw (odd_literal formula cells node e) there;
            is_node = rw (odd_literal formula cells node e) node-there;
          }

      even : (node % 2 ≡ 1 → ⊥) → AtNode formula cells lists node
      even n =
          let e : node % 2 ≡ 0 = omega arith in
          let o = one_same (refl {a = second_literal formula cells c}) in
          let there : 0 < times c (list_of lists (second_literal formula cells c)) = rw (counted (second_literal formula cells c) c two, o) (omega arith) in
          let node-there : node_of formula cells (second_literal formula cells c) c ≡ node
          = ⊎_elim (λ p. absurd (watches_differ c two p.0)) (λ p. omega arith) (node_cases formula cells (second_literal formula cells c) c) in
          record {
            within = rw (even_literal formula cells node e) (literal_within_lem formula s c (cell_at cells c).second (w.watching c two).second_within);
            stands_there = rw (even_literal formula cells node e) there;
            is_node = rw (even_literal formula cells node e) node-there;
          }

  -- the literal of a clause's node in a list is the list's
  pub node_literal : (l c : ℕ) → 0 < times c (list_of lists l) → watch_literal formula cells (node_of formula cells l c) ≡ l
  node_literal l c h = ⊎_elim first second (node_cases formula cells l c)
    where
      node : ℕ
      node = node_of formula cells l c

      first : (first_literal formula cells c ≡ l) × (node_of formula cells l c ≡ 2 * c + 1) → watch_literal formula cells node ≡ l
      first p =
          odd_literal formula cells node (omega arith) ∙ ap (first_literal formula cells) (node_clause formula cells l c) ∙ p.0

      second : (first_literal formula cells c ≡ l → ⊥) × (node_of formula cells l c ≡ 2 * c + 2) → watch_literal formula cells node ≡ l
      second p =
          let count = counted l c (listed_size w l c h) in
          let none : one (eqb l (first_literal formula cells c)) ≡ 0 = one_other (λ e. p.0 (sym e)) in
          even_literal formula cells node (omega arith) ∙ ap (second_literal formula cells) (node_clause formula cells l c)
          ∙ ⊎_elim sym (λ n. absurd (let z : one (eqb l (second_literal formula cells c)) ≡ 0 = one_other n in omega arith))
          (alike l (second_literal formula cells c))

  -- a link leads to the node of what stands behind the clause in its list
  pub node_link : (l c : ℕ) → 0 < times c (list_of lists l)
      → link_number formula cells lists (node_of formula cells l c) ≡ first_node formula cells l (behind c (list_of lists l))
  unfolding link_number
  node_link l c h =
      rw (node_clause formula cells l c, node_literal l c h, le-leb 2 (size formula c) (listed_size w l c h))

-- the clause that stands first in a list, and those behind a clause
behind_here : (c : ℕ) (list : List ℕ) → behind c (c ∷ list) ≡ list
unfolding behind
behind_here c list = rw (eq-eqb c c refl)

behind_there : (c d : ℕ) (list : List ℕ) → (d ≡ c → ⊥) → behind c (d ∷ list) ≡ behind c list
unfolding behind
behind_there c d list n = rw (ne_eqb d c n)

module _ (formula : Formula) (cells : List Cell) (l v n : ℕ) (numbers : List ℕ) where
  -- a chain's slot holds the node of the first clause
  pub chain_head : (slot : ℕ) (list : List ℕ) → Chain v n numbers slot (nodes_of formula cells l list)
      → get_or numbers slot 0 ≡ first_node formula cells l list
  unfolding first_node
  chain_head slot [] ch = ch
  chain_head slot (c ∷ list) ch = ch.0

  -- the link of a clause in a chain holds the node of the clause behind it
  pub chain_link : (slot : ℕ) (list : List ℕ) → Chain v n numbers slot (nodes_of formula cells l list) → (c : ℕ) → 0 < times c list
      → get_or numbers (link_slot v n (node_of formula cells l c)) 0 ≡ first_node formula cells l (behind c list)
  unfolding times
  chain_link slot [] ch c h = absurd (omega arith)
  chain_link slot (d ∷ list) ch c h =
      ⊎_elim here (λ m. there m (chain_link (link_slot v n (node_of formula cells l d)) list ch.1 c)) (alike d c)
    where
      here : d ≡ c → get_or numbers (link_slot v n (node_of formula cells l c)) 0 ≡ first_node formula cells l (behind c (d ∷ list))
      here e = rw (← e, behind_here d list) (chain_head (link_slot v n (node_of formula cells l d)) list ch.1)

      there : (d ≡ c → ⊥) → (0 < times c list → get_or numbers (link_slot v n (node_of formula cells l c)) 0 ≡ first_node formula cells l (behind c list))
          → get_or numbers (link_slot v n (node_of formula cells l c)) 0 ≡ first_node formula cells l (behind c (d ∷ list))
      there m rest = rw (behind_there c d list m) (rest (omega (arith, times_other c d list (λ e. m (sym e)))))

  -- a slot that holds the first node and links to the nodes behind make a chain, where no clause stands twice
  pub chain_built : (slot : ℕ) (list : List ℕ) → ((c : ℕ) → times c list ≤ 1) → get_or numbers slot 0 ≡ first_node formula cells l list
      → ((c : ℕ) → 0 < times c list → get_or numbers (link_slot v n (node_of formula cells l c)) 0 ≡ first_node formula cells l (behind c list))
      → Chain v n numbers slot (nodes_of formula cells l list)
  unfolding first_node
  chain_built slot [] once head links = head
  chain_built slot (d ∷ list) once head links = (
    head,
    chain_built (link_slot v n (node_of formula cells l d)) list fewer
        (links d (omega (arith, times-same d list)) ∙ ap (first_node formula cells l) (behind_here d list)) rest,
  )
    where
      fewer : (c : ℕ) → times c list ≤ 1
      fewer c =
          ⊎_elim (λ e. let z = times-same d list in let o = once d in let r : times c list ≡ times d list = rw e in omega arith)
          (λ m. let z = times_other c d list m in let o = once c in omega arith) (alike c d)

      apart : (c : ℕ) → 0 < times c list → d ≡ c → ⊥
      apart c h e = let z = times-same d list in let o = once d in let r : times c list ≡ times d list = rw e in omega arith

      rest : (c : ℕ) → 0 < times c list → get_or numbers (link_slot v n (node_of formula cells l c)) 0 ≡ first_node formula cells l (behind c list)
      rest c h =
          links c (let z = times_other c d list (λ e. apart c h (sym e)) in omega arith)
          ∙ ap (first_node formula cells l) (behind_there c d list (apart c h))

-- clause d has the nodes 2 × d + 1 and 2 × d + 2
abbrev pub Nodes : (ℕ → ℕ) → Type 0
Nodes f = (d : ℕ) → (2 * d + 1 ≤ f d) × (f d ≤ 2 * d + 2)

-- the lists hold clauses of the formula, and no node stands in the lists of two literals
abbrev pub Within : Formula → List (List ℕ) → Type 0
Within formula lists = (l d : ℕ) → 0 < times d (list_of lists l) → d < length formula.clauses

abbrev pub Apart : Formula → List Cell → List (List ℕ) → Type 0
Apart formula cells lists =
    (l d m e : ℕ) → 0 < times d (list_of lists l) → 0 < times e (list_of lists m) → node_of formula cells l d ≡ node_of formula cells m e → l ≡ m

module _ (formula : Formula) where
  pub node_between : (cells : List Cell) (l : ℕ) → Nodes (node_of formula cells l)
  unfolding node_of
  node_between cells l d = go (eqb (get_or (clause_of formula d) (cell_at cells d).first 0) l)
    where
      go : (b : Bool) → (2 * d + 1 ≤ cond b (2 * d + 1) (2 * d + 2)) × (cond b (2 * d + 1) (2 * d + 2) ≤ 2 * d + 2)
      go true = (omega arith, omega arith)
      go false = (omega arith, omega arith)

  -- the node on a clause's first watch, and on its second
  pub node_first : (cells : List Cell) (l d : ℕ) → first_literal formula cells d ≡ l → node_of formula cells l d ≡ 2 * d + 1
  unfolding node_of
  node_first cells l d e = rw (eq-eqb (first_literal formula cells d) l e)

  pub node_second : (cells : List Cell) (l d : ℕ) → (first_literal formula cells d ≡ l → ⊥) → node_of formula cells l d ≡ 2 * d + 2
  unfolding node_of
  node_second cells l d e = rw (ne_eqb (first_literal formula cells d) l e)

  -- clause d has the same node in the list of l where its cell is the same
  pub node_same : (cells after : List Cell) (l d : ℕ) → cell_at after d ≡ cell_at cells d → node_of formula after l d ≡ node_of formula cells l d
  unfolding node_of
  node_same cells after l d e = rw e

  module _ (cells : List Cell) (lists : List (List ℕ)) (w : Watched formula cells lists) where
    pub watched_within : Within formula lists
    watched_within l d h = clause_exists formula d (let z = listed_size w l d h in omega arith)

    pub listed_literal : (l d : ℕ) → 0 < times d (list_of lists l) → (first_literal formula cells d ≡ l) ⊎ (second_literal formula cells d ≡ l)
    listed_literal l d h = go (listed_sides w l d h)
      where
        go : Sides (clause_of formula d) (cell_at cells d) l → (first_literal formula cells d ≡ l) ⊎ (second_literal formula cells d ≡ l)
        go s = turn s.order
          where
            turn : Order (clause_of formula d) (cell_at cells d) l s.here s.there
                → (first_literal formula cells d ≡ l) ⊎ (second_literal formula cells d ≡ l)
            turn (forth f g m) = inl (ap (λ (p : ℕ). get_or (clause_of formula d) p 0) f ∙ s.here_literal)
            turn (back f g m) = inr (ap (λ (p : ℕ). get_or (clause_of formula d) p 0) g ∙ s.here_literal)

    pub watched_apart : sound formula ≡ true → Apart formula cells lists
    watched_apart s l d m e h k z =
        sym (node_literal formula s cells lists w l d h) ∙ ap (watch_literal formula cells) z ∙ node_literal formula s cells lists w m e k

    pub watched_once : sound formula ≡ true → (l d : ℕ) → times d (list_of lists l) ≤ 1
    watched_once s l d = go (below 0 (times d (list_of lists l)))
      where
        go : (0 < times d (list_of lists l)) ⊎ (times d (list_of lists l) ≤ 0) → times d (list_of lists l) ≤ 1
        go (inl h) = let z = listed_once formula s w l d h in omega arith
        go (inr h) = omega arith

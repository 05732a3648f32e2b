-- Chains of nodes: what a chain depends on, the slot behind some of its nodes, and a node that leaves it.
use Prim.Native.Nat.{ℕ, suc, ◌+◌, ◌*◌, ◌≤◌, ◌<◌}
use native.Mathlib.Omega.{arith}
use mathlib.Core.List.{List, [], ◌∷◌, ◌++◌, map}
use mathlib.Core.Logic.{◌⊎◌, inl, inr}
use mathlib.Core.Path.{◌≡◌, refl, sym, ◌∙◌}
use lib.ListN.{length, get_or}
use Rattle.base.specs.Lists.{times}
use Rattle.base.proofs.Members.{times-same}
use Rattle.base.proofs.Occurrences.{times_more, times-append}
use Rattle.book.specs.Formula.{Formula}
use Rattle.run.specs.Scan.{Cell}
use Rattle.run.specs.Run.{size, list_of}
use Rattle.layout.specs.Layout.{node_of, required_length, head_slot, link_slot, clause_of_node}
use Rattle.layout.specs.Encodes.{Chain, nodes_of, end_slot}
use Rattle.layout.proofs.ChainLaws.{Nodes, Within, node_between}
use Rattle.engine.specs.Inner.Lists.{lists_at}

module _ (v C : ℕ) where
  -- a chain depends on what its slot holds and on the links of its nodes
  pub chain_kept : (s t : List ℕ) (f g : ℕ → ℕ) (slot slot' : ℕ) (list : List ℕ) → get_or t slot' 0 ≡ get_or s slot 0
      → ((d : ℕ) → 0 < times d list → (g d ≡ f d) × (get_or t (link_slot v C (f d)) 0 ≡ get_or s (link_slot v C (f d)) 0))
      → Chain v C s slot (map f list) → Chain v C t slot' (map g list)
  chain_kept s t f g slot slot' [] e h k = e ∙ k
  chain_kept s t f g slot slot' (d ∷ list) e h k =
      let first = h d (omega (arith, times-same d list)) in
      (e ∙ k.0 ∙ sym first.0, rw first.0 (chain_kept s t f g (link_slot v C (f d)) (link_slot v C (f d)) list first.1 (λ x p. h x (omega (arith, times_more x d list))) k.1))

  -- behind the first clauses of a list stands the rest of it
  pub chain_rest : (s : List ℕ) (f : ℕ → ℕ) (slot : ℕ) (passed rest : List ℕ) → Chain v C s slot (map f (passed ++ rest))
      → Chain v C s (end_slot v C slot (map f passed)) (map f rest)
  chain_rest s f slot [] rest k = k
  chain_rest s f slot (d ∷ passed) rest k = chain_rest s f (link_slot v C (f d)) passed rest k.1

  -- the slot behind some clauses is the first slot or the link of one of them
  pub end_slot_is : (f : ℕ → ℕ) (slot : ℕ) (passed : List ℕ)
      → (end_slot v C slot (map f passed) ≡ slot) ⊎ ((d : ℕ) × (0 < times d passed) × (end_slot v C slot (map f passed) ≡ link_slot v C (f d)))
  end_slot_is f slot [] = inl refl
  end_slot_is f slot (d ∷ passed) = go (end_slot_is f (link_slot v C (f d)) passed)
    where
      go : (end_slot v C (link_slot v C (f d)) (map f passed) ≡ link_slot v C (f d)) ⊎ ((e : ℕ) × (0 < times e passed) × (end_slot v C (link_slot v C (f d)) (map f passed) ≡ link_slot v C (f e)))
          → (end_slot v C (link_slot v C (f d)) (map f passed) ≡ slot) ⊎ ((e : ℕ) × (0 < times e (d ∷ passed)) × (end_slot v C (link_slot v C (f d)) (map f passed) ≡ link_slot v C (f e)))
      go (inl e) = inr (d, omega (arith, times-same d passed), e)
      go (inr k) = inr (k.0, omega (arith, k.1, times_more k.0 d passed), k.2)

  -- the clause behind `passed` is taken out
  pub chain_without : (s t : List ℕ) (f : ℕ → ℕ) → Nodes f → (slot : ℕ) (passed : List ℕ) (c : ℕ) (rest : List ℕ)
      → get_or t (end_slot v C slot (map f passed)) 0 ≡ get_or s (link_slot v C (f c)) 0
      → ((x : ℕ) → (x ≡ end_slot v C slot (map f passed) → ⊥) → get_or t x 0 ≡ get_or s x 0)
      → ((d : ℕ) → 0 < times d (passed ++ (c ∷ rest)) → slot ≡ link_slot v C (f d) → ⊥)
      → ((d : ℕ) → times d (passed ++ (c ∷ rest)) ≤ 1)
      → Chain v C s slot (map f (passed ++ (c ∷ rest))) → Chain v C t slot (map f (passed ++ rest))
  chain_without s t f nodes slot [] c [] at others apart once k = at ∙ k.1
  chain_without s t f nodes slot [] c (y ∷ rest) at others apart once k = (
    at ∙ k.1.0,
    chain_kept s t f f (link_slot v C (f y)) (link_slot v C (f y)) rest
        (others (link_slot v C (f y)) (λ e. apart y (omega (arith, times_more y c (y ∷ rest), times-same y rest)) (sym e)))
        (λ d p. (refl, others (link_slot v C (f d)) (λ e. apart d (omega (arith, times_more d c (y ∷ rest), times_more d y rest)) (sym e))))
        k.1.1,
  )
  chain_without s t f nodes slot (j ∷ passed) c rest at others apart once k = (
    others slot not_end ∙ k.0,
    chain_without s t f nodes (link_slot v C (f j)) passed c rest at others
        (λ d p e. twice d p (same-clause d e))
        (λ d. omega (arith, once d, times_more d j (passed ++ (c ∷ rest))))
        k.1,
  )
    where
      within : (d : ℕ) → 0 < times d passed → 0 < times d (j ∷ (passed ++ (c ∷ rest)))
      within d p = omega (arith, times_more d j (passed ++ (c ∷ rest)), times-append d passed (c ∷ rest))

      not_end : slot ≡ end_slot v C (link_slot v C (f j)) (map f passed) → ⊥
      not_end e = go (end_slot_is f (link_slot v C (f j)) passed)
        where
          go : (end_slot v C (link_slot v C (f j)) (map f passed) ≡ link_slot v C (f j)) ⊎ ((d : ℕ) × (0 < times d passed) × (end_slot v C (link_slot v C (f j)) (map f passed) ≡ link_slot v C (f d))) → ⊥
          go (inl z) = apart j (omega (arith, times-same j (passed ++ (c ∷ rest)))) (e ∙ z)
          go (inr z) = apart z.0 (within z.0 z.1) (e ∙ z.2)

      same-clause : (d : ℕ) → link_slot v C (f j) ≡ link_slot v C (f d) → j ≡ d
      same-clause d e = let a = nodes j in let b = nodes d in omega arith

      twice : (d : ℕ) → 0 < times d (passed ++ (c ∷ rest)) → j ≡ d → ⊥
      twice d p e =
          let z : times j (j ∷ (passed ++ (c ∷ rest))) ≡ suc (times j (passed ++ (c ∷ rest))) = times-same j (passed ++ (c ∷ rest)) in
          let p' : 0 < times j (passed ++ (c ∷ rest)) = rw e p in
          omega (arith, once j)

-- the chains of all literals
abbrev pub Chains : Formula → List ℕ → List Cell → List (List ℕ) → Type 0
Chains formula numbers cells lists =
    (l : ℕ) → 2 ≤ l → l ≤ 2 * formula.variables + 1
    → Chain formula.variables (length formula.clauses) numbers (head_slot formula.variables (length formula.clauses) l) (nodes_of formula cells l (list_of lists l))

-- the numbers of the lists are the same, and so are the nodes
pub chains_kept : (formula : Formula) (s t : List ℕ) (cells after : List Cell) (lists : List (List ℕ)) → Within formula lists
    → ((x : ℕ) → lists_at formula.variables (length formula.clauses) ≤ x → x < required_length formula.variables (length formula.clauses) → get_or t x 0 ≡ get_or s x 0)
    → ((l d : ℕ) → 0 < times d (list_of lists l) → node_of formula after l d ≡ node_of formula cells l d)
    → Chains formula s cells lists → Chains formula t after lists
chains_kept formula s t cells after lists within alike same k l low high =
    let v = formula.variables in
    let n = length formula.clauses in
    chain_kept v n s t (node_of formula cells l) (node_of formula after l) (head_slot v n l) (head_slot v n l) (list_of lists l)
    (alike (head_slot v n l) (omega arith) (omega arith))
    (λ d h. (
      same l d h,
      let a = node_between formula cells l d in
          let b = within l d h in
          alike (link_slot v n (node_of formula cells l d)) (omega arith) (omega arith),
    ))
    (k l low high)

-- the clause of a node
pub clause_of_node_lem : (node d : ℕ) → 2 * d + 1 ≤ node → node ≤ 2 * d + 2 → clause_of_node node ≡ d
clause_of_node_lem node d a b = omega arith

-- a node of a clause with watches is not idle
pub idle_apart : (formula : Formula) (m node d : ℕ) → size formula (clause_of_node m) < 2 → 1 ≤ m → 2 * d + 1 ≤ node → node ≤ 2 * d + 2 → 2 ≤ size formula d
    → link_slot formula.variables (length formula.clauses) m ≡ link_slot formula.variables (length formula.clauses) node → ⊥
idle_apart formula m node d h one a b two e =
    let same : m ≡ node = omega arith in
    let its : clause_of_node m ≡ d = rw same (clause_of_node_lem node d a b) in
    let few : size formula d < 2 = rw (← its) h in
    omega arith

-- Heads and links are good exactly where the list of every literal is, every node of a watch is in one, and the other links are 0.
use Rattle.std.specs.Prelude.{Option, Some, None, unwrap_or}
use Prim.Native.Nat.{ℕ, zero, suc, ◌+◌, ◌*◌, ◌%◌, ◌≤◌, ◌<◌}
use native.Mathlib.Omega.{arith}
use mathlib.Core.Bool.{Bool, true, false}
use mathlib.Core.List.{List, [], ◌∷◌, map}
use mathlib.Core.Logic.{◌⊎◌, inl, inr, ⊎_elim}
use mathlib.Core.Path.{◌≡◌, refl, sym, ap, ap₂, ◌∙◌}
use borrow.Author.Tests.{le-leb, lt-leb, eq-eqb, ne_eqb}
use lib.Dec.{eqb}
use lib.ListN.{length, get_or, length-map, get_or-eq_default}
use Rattle.base.specs.Lists.{times}
use Rattle.base.proofs.Bools.{alike, below}
use Rattle.base.proofs.Members.{times-same, times_other}
use Rattle.base.proofs.Pigeonhole.{pigeonhole}
use Rattle.book.specs.Formula.{Formula, sound}
use Rattle.book.specs.Numbers.{variables_of, clauses_of, formula_of}
use Rattle.book.proofs.PartLaws.{clauses_counted}
use Rattle.book.proofs.WellFormedLaws.{well_formed_sound}
use Rattle.run.specs.Scan.{Cell}
use Rattle.run.specs.Run.{clause_of, size, list_of, cell_at}
use Rattle.run.specs.Valid.{one, standing}
use Rattle.run.proofs.Clauses.{clause_exists, literal_within_lem}
use Rattle.book.proofs.SoundLaws.{literal_parts}
use Rattle.run.specs.Progress.{first_literal, second_literal, Watched}
use Rattle.run.proofs.WatchLists.{listed_size, literals_differ}
use Rattle.layout.specs.Layout.{heads_at, watch_literal, node_of, chain_from, held, head_slot, link_slot, clause_of_node}
use Rattle.layout.specs.Encodes.{Chain, nodes_of}
use Rattle.validation.specs.Inner.Says.{Says}
use Rattle.validation.specs.Inner.Lists.{ListsGood, owner_in, Looking, ListGood, Met, AllSays, NodesGood}
use Rattle.validation.proofs.cells.Laws.{held_cell_lem, held_cells_length}
use Rattle.layout.proofs.ChainLaws.{node_cases, node_clause, node_positive, node_within, AtNode, at_node, node_literal, watched_once}
use Rattle.base.proofs.ForAll.{member-times}
use Rattle.layout.proofs.HeldLaws.{length_lists, get_or_lists, chain_held}
use Rattle.validation.proofs.SaysLaws.{says_not, says_alike}
use Rattle.base.proofs.Occurrences.{times_more, map_back, times-map_least, times-map_is, times-map_in, once_distinct}

-- the clause of a node
module _ (v c : ℕ) (numbers : List ℕ) where
  -- two chains from one slot are the same
  chain_unique : (slot : ℕ) (xs ys : List ℕ) → ((n : ℕ) → 0 < times n xs → 1 ≤ n) → ((n : ℕ) → 0 < times n ys → 1 ≤ n)
      → Chain v c numbers slot xs → Chain v c numbers slot ys → xs ≡ ys
  chain_unique slot [] [] low high a b = refl
  chain_unique slot [] (y ∷ ys) low high a b = absurd (let z = high y (omega (arith, times-same y ys)) in omega (arith, a, b.0))
  chain_unique slot (x ∷ xs) [] low high a b = absurd (let z = low x (omega (arith, times-same x xs)) in omega (arith, b, a.0))
  chain_unique slot (x ∷ xs) (y ∷ ys) low high a b =
      let same : x ≡ y = sym a.0 ∙ b.0 in
      ap₂ ◌∷◌ same
      (chain_unique (link_slot v c y) xs ys (λ n k. low n (omega (arith, times_more n x xs))) (λ n k. high n (omega (arith, times_more n y ys)))
      (rw same at a.1) b.1)

module _ (formula : Formula) (numbers : List ℕ) where
  held-lists-length : length (held formula numbers).lists ≡ 2 * formula.variables + 2
  unfolding held
  held-lists-length =
      let z = length_lists formula.variables (length formula.clauses) numbers 0 (2 * formula.variables) in omega arith

  held_list_lem : (l : ℕ) → 2 ≤ l → l ≤ 2 * formula.variables + 1
      → list_of (held formula numbers).lists l
      ≡ chain_from formula.variables (length formula.clauses) numbers (2 * length formula.clauses)
      (get_or numbers (head_slot formula.variables (length formula.clauses) l) 0)
  unfolding held
  held_list_lem zero low high = absurd (omega arith)
  held_list_lem (suc zero) low high = absurd (omega arith)
  held_list_lem (suc (suc i)) low high =
      get_or_lists formula.variables (length formula.clauses) numbers 0 (2 * formula.variables) i (omega arith)
      ∙ ap
      (λ (x : ℕ). chain_from formula.variables (length formula.clauses) numbers (2 * length formula.clauses) (get_or numbers (heads_at formula.variables (length formula.clauses) + x) 0))
      (omega arith)

  no_list : (l : ℕ) → (l < 2) ⊎ (2 * formula.variables + 1 < l) → list_of (held formula numbers).lists l ≡ []
  unfolding held
  no_list zero (inl h) = refl
  no_list (suc zero) (inl h) = refl
  no_list (suc (suc i)) (inl h) = absurd (omega arith)
  no_list l (inr h) =
      let out : length (held formula numbers).lists ≤ l = omega (arith, held-lists-length) in
      get_or-eq_default (held formula numbers).lists [] out

-- the nodes of a clause in a list of nodes
times_halves : (c : ℕ) (nodes : List ℕ) → ((n : ℕ) → 0 < times n nodes → 1 ≤ n)
    → times c (map clause_of_node nodes) ≡ times (2 * c + 1) nodes + times (2 * c + 2) nodes
unfolding times
times_halves c [] low = refl
times_halves c (n ∷ nodes) low =
    go (alike n (2 * c + 1)) (alike n (2 * c + 2)) (times_halves c nodes (λ m k. low m (omega (arith, times_more m n nodes))))
  where
    some : 1 ≤ n
    some = low n (omega (arith, times-same n nodes))

    go : (n ≡ 2 * c + 1) ⊎ (n ≡ 2 * c + 1 → ⊥) → (n ≡ 2 * c + 2) ⊎ (n ≡ 2 * c + 2 → ⊥)
        → times c (map clause_of_node nodes) ≡ times (2 * c + 1) nodes + times (2 * c + 2) nodes
        → times c (clause_of_node n ∷ map clause_of_node nodes) ≡ times (2 * c + 1) (n ∷ nodes) + times (2 * c + 2) (n ∷ nodes)
    go (inl e) f h =
        let here : times c (clause_of_node n ∷ map clause_of_node nodes) ≡ suc (times c (map clause_of_node nodes)) = let z : clause_of_node n ≡ c = omega arith in rw z (times-same c (map clause_of_node nodes)) in
        let first : times (2 * c + 1) (n ∷ nodes) ≡ suc (times (2 * c + 1) nodes) = rw e (times-same (2 * c + 1) nodes) in
        omega (arith, times_other (2 * c + 2) n nodes (λ z. omega arith))
    go (inr e) (inl f) h =
        let here : times c (clause_of_node n ∷ map clause_of_node nodes) ≡ suc (times c (map clause_of_node nodes)) = let z : clause_of_node n ≡ c = omega arith in rw z (times-same c (map clause_of_node nodes)) in
        let second : times (2 * c + 2) (n ∷ nodes) ≡ suc (times (2 * c + 2) nodes) = rw f (times-same (2 * c + 2) nodes) in
        omega (arith, times_other (2 * c + 1) n nodes (λ z. omega arith))
    go (inr e) (inr f) h =
        omega (arith, some, times_other c (clause_of_node n) (map clause_of_node nodes) (λ z. let s = some in ⊎_elim (λ k. f (omega arith)) (λ k. e (omega arith)) (alike (n % 2) 0)), times_other (2 * c + 1) n nodes (λ z. e (sym z)), times_other (2 * c + 2) n nodes (λ z. f (sym z)))

marked_is : {b : Bool} → 0 < one b → b ≡ true
marked_is {b = true} h = refl
marked_is {b = false} h = absurd (omega arith)

module _ (book numbers : List ℕ) (k : Looking book numbers) where
  abbrev formula : Formula
  formula = formula_of book

  abbrev cells : List Cell
  cells = (held (formula_of book) numbers).cells

  abbrev lists : List (List ℕ)
  lists = (held (formula_of book) numbers).lists

  abbrev owner : ℕ → Option ℕ
  owner = owner_in book numbers

  -- the same as a number, 0 for none
  abbrev owner_number : ℕ → ℕ
  owner_number n = unwrap_or (owner n) 0

  some_number : (n l : ℕ) → 1 ≤ l → l ≡ owner_number n → owner n ≡ Some l
  some_number n l low e = go (owner n) refl
    where
      go : (o : Option ℕ) → owner n ≡ o → owner n ≡ Some l
      go None own = absurd (let z : l ≡ 0 = e ∙ ap (λ (x : Option ℕ). unwrap_or x 0) own in omega arith)
      go (Some m) own = own ∙ ap Some (sym (e ∙ ap (λ (x : Option ℕ). unwrap_or x 0) own))

  s : sound formula ≡ true
  s = well_formed_sound book k.well

  many_is : length formula.clauses ≡ clauses_of book
  many_is = clauses_counted book

  -- the literal of a node, by its clause
  owner_few : (n : ℕ) → size formula (clause_of_node n) < 2 → owner n ≡ None
  unfolding owner_in
  owner_few n h = rw (lt-leb 2 (size formula (clause_of_node n)) h)

  owner_two : (n : ℕ) → 2 ≤ size formula (clause_of_node n) → owner n ≡ Some (watch_literal formula cells n)
  unfolding owner_in
  owner_two n h = rw (le-leb 2 (size formula (clause_of_node n)) h)

  owner_first : (c : ℕ) → 2 ≤ size formula c → owner (2 * c + 1) ≡ Some (first_literal formula cells c)
  unfolding watch_literal
  owner_first c two =
      let h : clause_of_node (2 * c + 1) ≡ c = omega arith in
      let odd : (2 * c + 1) % 2 ≡ 1 = omega arith in
      owner_two (2 * c + 1) (rw h two) ∙ rw (eq-eqb ((2 * c + 1) % 2) 1 odd, h)

  owner_second : (c : ℕ) → 2 ≤ size formula c → owner (2 * c + 2) ≡ Some (second_literal formula cells c)
  unfolding watch_literal
  owner_second c two =
      let h : clause_of_node (2 * c + 2) ≡ c = omega arith in
      let even : (2 * c + 2) % 2 ≡ 1 → ⊥ = λ e. omega arith in
      owner_two (2 * c + 2) (rw h two) ∙ rw (ne_eqb ((2 * c + 2) % 2) 1 even, h)

  owned_two : (n l : ℕ) → owner n ≡ Some l → 2 ≤ size formula (clause_of_node n)
  owned_two n l own = ⊎_elim (λ z. absurd (let none = owner_few n z in cc)) (λ z. z) (below (size formula (clause_of_node n)) 2)

  owned_within : (n l : ℕ) → owner n ≡ Some l → n ≤ 2 * clauses_of book
  owned_within n l own =
      let two = owned_two n l own in
      let inside : clause_of_node n < length formula.clauses = clause_exists formula (clause_of_node n) (omega arith) in
      omega (arith, many_is)

  standing_owners : (l c : ℕ) → 1 ≤ l
      → standing formula (held formula numbers) l c ≡ one (eqb l (owner_number (2 * c + 1))) + one (eqb l (owner_number (2 * c + 2)))
  standing_owners l c some = ⊎_elim few two (below (size formula c) 2)
    where
      few : size formula c < 2 → standing formula (held formula numbers) l c ≡ one (eqb l (owner_number (2 * c + 1))) + one (eqb l (owner_number (2 * c + 2)))
      few h =
          let a : clause_of_node (2 * c + 1) ≡ c = omega arith in
          let b : clause_of_node (2 * c + 2) ≡ c = omega arith in
          rw (lt-leb 2 (size formula c) h, owner_few (2 * c + 1) (rw a h), owner_few (2 * c + 2) (rw b h), ne_eqb l 0 (λ e. omega arith))

      two : 2 ≤ size formula c → standing formula (held formula numbers) l c ≡ one (eqb l (owner_number (2 * c + 1))) + one (eqb l (owner_number (2 * c + 2)))
      two h = rw (le-leb 2 (size formula c) h, owner_first c h, owner_second c h)

  node_back : (n l : ℕ) → 1 ≤ n → owner n ≡ Some l → node_of formula cells l (clause_of_node n) ≡ n
  node_back n l low own = ⊎_elim odd even (alike (n % 2) 1)
    where
      two : 2 ≤ size formula (clause_of_node n)
      two = owned_two n l own

      odd : n % 2 ≡ 1 → node_of formula cells l (clause_of_node n) ≡ n
      odd o =
          let is : n ≡ 2 * clause_of_node n + 1 = omega arith in
          let same : Some (first_literal formula cells (clause_of_node n)) ≡ Some l = sym (owner_first (clause_of_node n) two) ∙ ap owner (sym is) ∙ own in
          let first : first_literal formula cells (clause_of_node n) ≡ l = cc same in
          ⊎_elim (λ p. p.1 ∙ sym is) (λ p. absurd (p.0 first)) (node_cases formula cells l (clause_of_node n))

      even : (n % 2 ≡ 1 → ⊥) → node_of formula cells l (clause_of_node n) ≡ n
      even o =
          let is : n ≡ 2 * clause_of_node n + 2 = omega arith in
          let same : Some (second_literal formula cells (clause_of_node n)) ≡ Some l = sym (owner_second (clause_of_node n) two) ∙ ap owner (sym is) ∙ own in
          let second : second_literal formula cells (clause_of_node n) ≡ l = cc same in
          let w = k.cells.watching (clause_of_node n) two in
          ⊎_elim
          (λ p.
          absurd
          (literals_differ formula s (clause_of_node n) (cell_at cells (clause_of_node n)).first (cell_at cells (clause_of_node n)).second w.first_within w.second_within w.different (p.0 ∙ sym second)))
          (λ p. p.1 ∙ sym is) (node_cases formula cells l (clause_of_node n))

  -- all lists pass and all nodes: heads and links are good
  module _ (marks : List Bool) (met : (l : ℕ) → 2 ≤ l → l ≤ 2 * variables_of book + 1 → Met book numbers marks l) (looked : NodesGood book numbers marks) where
    module _ (l : ℕ) (low : 2 ≤ l) (high : l ≤ 2 * variables_of book + 1) where
      abbrev nodes : List ℕ
      nodes = (met l low high).good.nodes

      positive : (n : ℕ) → 0 < times n nodes → 1 ≤ n
      positive n h = ((met l low high).good.owned n h).0

      short : length nodes ≤ 2 * clauses_of book
      short =
          pigeonhole (2 * clauses_of book) nodes (once_distinct nodes (met l low high).good.once)
          (λ x m. let o = (met l low high).good.owned x (member-times x nodes m) in (o.0, o.1))

      back-again : nodes_of formula cells l (map clause_of_node nodes) ≡ nodes
      back-again =
          map_back (node_of formula cells l) clause_of_node nodes (λ n h. node_back n l (positive n h) ((met l low high).good.owned n h).2)

      chain_back : Chain formula.variables (length formula.clauses) numbers (head_slot formula.variables (length formula.clauses) l) (nodes_of formula cells l (map clause_of_node nodes))
      chain_back = rw (back-again, many_is) (met l low high).good.chain

      list-is : list_of lists l ≡ map clause_of_node nodes
      list-is =
          held_list_lem formula numbers l low high
          ∙ chain_held formula.variables (length formula.clauses) numbers formula cells l (2 * length formula.clauses) (head_slot formula.variables (length formula.clauses) l)
          (map clause_of_node nodes) (rw (length-map nodes clause_of_node) (let z = short in omega (arith, many_is))) chain_back

      chain-is : Chain formula.variables (length formula.clauses) numbers (head_slot formula.variables (length formula.clauses) l) (nodes_of formula cells l (list_of lists l))
      chain-is = rw list-is chain_back

      times-owned : (n : ℕ) → 1 ≤ n → times n nodes ≡ one (eqb l (owner_number n))
      times-owned n first = ⊎_elim here there (alike l (owner_number n))
        where
          here : l ≡ owner_number n → times n nodes ≡ one (eqb l (owner_number n))
          here e =
              let own : owner n ≡ Some l = some_number n l (omega arith) e in
              let marked : get_or marks n false ≡ true = (looked n first (owned_within n l own)).met l own in
              let exact = (met l low high).exact n own in
              let once = (met l low high).good.once n in
              rw (eq-eqb l (owner_number n) e) (omega (arith, ap one marked))

          there : (l ≡ owner_number n → ⊥) → times n nodes ≡ one (eqb l (owner_number n))
          there e =
              rw (ne_eqb l (owner_number n) e)
              (⊎_elim (λ h. absurd (e (sym (ap (λ (x : Option ℕ). unwrap_or x 0) ((met l low high).good.owned n h).2)))) (λ h. omega arith) (below 0 (times n nodes)))

      counted : (c : ℕ) → times c (list_of lists l) ≡ standing formula (held formula numbers) l c
      counted c =
          rw (list-is, standing_owners l c (omega arith), ← times-owned (2 * c + 1) (omega arith), ← times-owned (2 * c + 2) (omega arith)) (times_halves c nodes positive)

    -- a literal outside the formula has no list, and no clause watches it
    uncounted : (l c : ℕ) → (l < 2) ⊎ (2 * variables_of book + 1 < l) → times c (list_of lists l) ≡ standing formula (held formula numbers) l c
    unfolding times
    uncounted l c out = rw (no_list formula numbers l out) (⊎_elim few two (below (size formula c) 2))
      where
        few : size formula c < 2 → 0 ≡ standing formula (held formula numbers) l c
        few h = rw (lt-leb 2 (size formula c) h)

        unlike : (p : ℕ) → p < size formula c → l ≡ get_or (clause_of formula c) p 0 → ⊥
        unlike p h e =
            let b = literal_parts formula.variables (get_or (clause_of formula c) p 0) (literal_within_lem formula s c p h) in
            ⊎_elim (λ z. omega arith) (λ z. omega arith) out

        two : 2 ≤ size formula c → 0 ≡ standing formula (held formula numbers) l c
        two h =
            let w = k.cells.watching c h in
            rw (
              le-leb 2 (size formula c) h,
              ne_eqb l (first_literal formula cells c) (unlike (cell_at cells c).first w.first_within),
              ne_eqb l (second_literal formula cells c) (unlike (cell_at cells c).second w.second_within),
            )

    lists-good : ListsGood formula numbers
    lists-good =
        record {
          is_held =
              record {
                firsts = λ c h. sym (ap (λ (x : Cell). x.first) (held_cell_lem formula numbers c h));
                seconds = λ c h. sym (ap (λ (x : Cell). x.second) (held_cell_lem formula numbers c h));
                pointers = λ c h. sym (ap (λ (x : Cell). x.pointer) (held_cell_lem formula numbers c h));
                in_lists =
                    record {
                      chains = chain-is;
                      idle = λ n a b h. rw many_is ((looked n a (omega (arith, many_is))).idle (owner_few n h));
                    };
              };
          listed =
              λ l c.
              ⊎_elim (λ z. uncounted l c (inl z))
              (λ z. ⊎_elim (λ y. uncounted l c (inr y)) (λ y. counted l z y c) (below (2 * variables_of book + 1) l))
              (below l 2);
        }

  -- heads and links are good: every list passes, and every node
  module _ (good : ListsGood formula numbers) where
    structure : Watched formula cells lists
    structure =
        record {
          cells_length = held_cells_length formula numbers;
          lists_length = held-lists-length formula numbers;
          watching = k.cells.watching;
          unwatched = k.cells.unwatched;
          listed = good.listed;
        }

    module _ (l : ℕ) (low : 2 ≤ l) (high : l ≤ 2 * variables_of book + 1) where
      abbrev listed-nodes : List ℕ
      listed-nodes = nodes_of formula cells l (list_of lists l)

      back : (d : ℕ) → clause_of_node (node_of formula cells l d) ≡ d
      back = node_clause formula cells l

      in_list : (n : ℕ) → 0 < times n listed-nodes → 0 < times (clause_of_node n) (list_of lists l)
      in_list n h = let z = times-map_least (node_of formula cells l) clause_of_node back n (list_of lists l) in omega arith

      node-owned : (n : ℕ) → 0 < times n listed-nodes → (1 ≤ n) × (n ≤ 2 * clauses_of book) × (owner n ≡ Some l)
      node-owned n h =
          let there = in_list n h in
          let is : node_of formula cells l (clause_of_node n) ≡ n = times-map_is (node_of formula cells l) clause_of_node back n (list_of lists l) h in
          let two : 2 ≤ size formula (clause_of_node n) = listed_size structure l (clause_of_node n) there in
          let inside : clause_of_node n < length formula.clauses = clause_exists formula (clause_of_node n) (omega arith) in (
            omega (arith, node_positive formula cells l (clause_of_node n)),
            omega (arith, node_within formula cells l (clause_of_node n) (length formula.clauses) inside, many_is),
            owner_two n two ∙ ap Some (ap (watch_literal formula cells) (sym is) ∙ node_literal formula s cells lists structure l (clause_of_node n) there),
          )

      listed-chain : Chain (variables_of book) (clauses_of book) numbers (head_slot (variables_of book) (clauses_of book) l) (nodes_of formula cells l (list_of lists l))
      listed-chain = rw many_is at (good.is_held.in_lists.chains l low high)

      list-passes : ListGood book numbers l
      list-passes =
          record {
            nodes = listed-nodes;
            chain = listed-chain;
            once =
                λ n.
                let z = times-map_least (node_of formula cells l) clause_of_node back n (list_of lists l) in
                let o = watched_once formula cells lists structure s l (clause_of_node n) in
                omega arith;
            owned = node-owned;
          }

    module _ (marks : List Bool) (met : (l : ℕ) → 2 ≤ l → l ≤ 2 * variables_of book + 1 → Met book numbers marks l) where
      nodes-pass : NodesGood book numbers marks
      nodes-pass n low high =
          record {
            idle =
                λ none.
                rw many_is at
                (good.is_held.in_lists.idle n low (omega (arith, many_is)) (⊎_elim (λ z. z) (λ z. absurd (watched-some z none)) (below (size formula (clause_of_node n)) 2)));
            met = λ l own. go (at_node formula s cells lists structure n low (owned_two n l own)) (owner_two n (owned_two n l own));
          }
        where
          watched-some : 2 ≤ size formula (clause_of_node n) → owner n ≡ None → ⊥
          watched-some two none = let some = owner_two n two in cc

          go : AtNode formula cells lists n → owner n ≡ Some (watch_literal formula cells n) → get_or marks n false ≡ true
          go at own =
              let l-in = literal_parts formula.variables (watch_literal formula cells n) at.within in
              marked (watch_literal formula cells n) l-in.0 l-in.1 own at.stands_there at.is_node
            where
              marked : (l : ℕ) → 2 ≤ l → l ≤ 2 * variables_of book + 1 → owner n ≡ Some l → 0 < times (clause_of_node n) (list_of lists l)
                  → node_of formula cells l (clause_of_node n) ≡ n → get_or marks n false ≡ true
              marked l a b own there is =
                  let m = met l a b in
                  let same : m.good.nodes ≡ nodes_of formula cells l (list_of lists l)
                  = chain_unique (variables_of book) (clauses_of book) numbers (head_slot (variables_of book) (clauses_of book) l) m.good.nodes
                  (nodes_of formula cells l (list_of lists l))
                  (λ x h. (m.good.owned x h).0) (λ x h. (node-owned l a b x h).0) m.good.chain (listed-chain l a b) in
                  let listed : 0 < times n (nodes_of formula cells l (list_of lists l))
                  = rw is at (times-map_in (node_of formula cells l) (clause_of_node n) (list_of lists l) there) in
                  marked_is (rw (m.exact n own, same) listed)

-- what lists_pass answers
pub lists_refused : (book numbers : List ℕ) (marks : List Bool) → Looking book numbers → (r : Bool) → r ≡ false → AllSays book numbers marks r
    → Says r (ListsGood (formula_of book) numbers)
lists_refused book numbers marks k r e says = says_not e (λ good. says.no e (list-passes book numbers k good))

pub lists_answered : (book numbers : List ℕ) (marks : List Bool) → Looking book numbers → (r : Bool) → r ≡ true → AllSays book numbers marks r
    → (answer : Bool) → Says answer (NodesGood book numbers marks) → Says answer (ListsGood (formula_of book) numbers)
lists_answered book numbers marks k r e says answer =
    says_alike (lists-good book numbers k marks (says.yes e)) (λ good. nodes-pass book numbers k good marks (says.yes e))

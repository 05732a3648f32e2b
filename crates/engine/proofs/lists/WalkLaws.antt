-- A walk along a list: where it begins, how it goes on, what is left of it.
use Prim.Native.Nat.{ℕ, ◌+◌, ◌*◌, ◌≤◌, ◌<◌}
use native.Mathlib.Omega.{arith}
use mathlib.Core.List.{List, [], ◌∷◌, ◌++◌, map-append}
use mathlib.Core.Logic.{◌⊎◌, inl, inr}
use mathlib.Core.Path.{◌≡◌, refl, sym, ap, ◌∙◌}
use lib.ListN.{length, get_or}
use lib.Seq.{append_snoc}
use Rattle.base.specs.Lists.{times}
use Rattle.base.proofs.Members.{times-same}
use Rattle.base.proofs.Occurrences.{map_alike, once_short, times-append}
use Rattle.book.specs.Formula.{Formula}
use Rattle.run.specs.Scan.{Cell}
use Rattle.run.specs.Run.{list_of}
use Rattle.layout.specs.Layout.{required_length, node_of, first_node, head_slot, link_slot}
use Rattle.layout.specs.Encodes.{Chain, nodes_of, end_slot}
use Rattle.layout.proofs.ChainLaws.{node_between, node_positive, end_slot_more, chain_head}
use Rattle.layout.proofs.HeldLaws.{chain_held}
use Rattle.engine.specs.Inner.Lists.{lists_at, Lists, Walking, Standing, left_of, linked}
use Rattle.engine.specs.declared.lists.Walk.{Walk}
use Rattle.engine.proofs.lists.LinkLaws.{chain_rest, end_slot_is}
use Rattle.engine.proofs.lists.FrameLaws.{orderly_within}

-- where a slot behind some clauses of a list lies
abbrev pub SlotCase : Formula → List Cell → List (List ℕ) → ℕ → ℕ → Type 0
SlotCase formula cells lists q slot =
    (slot ≡ head_slot formula.variables (length formula.clauses) q)
    ⊎ ((d : ℕ) × (0 < times d (list_of lists q)) × (slot ≡ link_slot formula.variables (length formula.clauses) (node_of formula cells q d)))

module _ {formula : Formula} {cells : List Cell} {lists : List (List ℕ)} where
  pub slot_case : {q : ℕ} {passed unread : List ℕ} {walk : Walk} → Walking linked formula cells lists q passed unread walk
      → SlotCase formula cells lists q walk.slot
  slot_case {q} {passed} {unread} {walk} w = go (end_slot_is formula.variables (length formula.clauses) (node_of formula cells q) (head_slot formula.variables (length formula.clauses) q) passed)
    where
      go : (end_slot formula.variables (length formula.clauses) (head_slot formula.variables (length formula.clauses) q) (nodes_of formula cells q passed) ≡ head_slot formula.variables (length formula.clauses) q)
          ⊎ ((d : ℕ) × (0 < times d passed) × (end_slot formula.variables (length formula.clauses) (head_slot formula.variables (length formula.clauses) q) (nodes_of formula cells q passed) ≡ link_slot formula.variables (length formula.clauses) (node_of formula cells q d)))
          → SlotCase formula cells lists q walk.slot
      go (inl e) = inl (w.placed ∙ e)
      go (inr k) = inr (k.0, rw w.listed (let z = k.1 in omega (arith, times-append k.0 passed unread)), w.placed ∙ k.2)

  -- the clause that a walk stands at
  pub walking_node : {q c : ℕ} {passed unread : List ℕ} {walk : Walk} → Walking linked formula cells lists q passed (c ∷ unread) walk
      → walk.node ≡ node_of formula cells q c
  unfolding first_node
  walking_node w = w.node_is

  pub walking_listed : {q c : ℕ} {passed unread : List ℕ} {walk : Walk} → Walking linked formula cells lists q passed (c ∷ unread) walk
      → 0 < times c (list_of lists q)
  walking_listed {q} {c} {passed} {unread} w = rw w.listed (omega (arith, times-append c passed (c ∷ unread), times-same c unread))

  module _ {v n : ℕ} {numbers : List ℕ} (at : Lists linked v n numbers formula cells lists) where
    pub walking_stands : {q c : ℕ} {passed unread : List ℕ} {walk : Walk} → Walking linked formula cells lists q passed (c ∷ unread) walk → Standing v n walk
    walking_stands {q} {c} {passed} {unread} {walk} w =
        let node = walking_node w in
        let bounds = node_between formula cells q c in
        let inside = orderly_within at.orderly q c (walking_listed w) in
        let vs = at.variables_are in
        let ns = at.clauses_are in
        let place = place_of (slot_case w) in
        record {
          some = omega arith;
          node_within = omega arith;
          slot_low = place.0;
          slot_within = place.1;
        }
      where
        place_of : SlotCase formula cells lists q walk.slot → (lists_at v n ≤ walk.slot) × (walk.slot < required_length v n)
        place_of (inl e) =
            let vs = at.variables_are in
            let ns = at.clauses_are in
            let low = w.low in
            let high = w.high in
            (omega arith, omega arith)
        place_of (inr k) =
            let vs = at.variables_are in
            let ns = at.clauses_are in
            let bounds = node_between formula cells q k.0 in
            let inside = orderly_within at.orderly q k.0 k.1 in
            let e = k.2 in
            (omega arith, omega arith)

    -- what is left of the list is a chain from the slot on
    walking-chain : {q : ℕ} {passed unread : List ℕ} {walk : Walk} → Walking linked formula cells lists q passed unread walk
        → Chain formula.variables (length formula.clauses) numbers walk.slot (nodes_of formula cells q unread)
    walking-chain {q} {passed} {unread} w =
        rw w.placed
        (chain_rest formula.variables (length formula.clauses) numbers (node_of formula cells q) (head_slot formula.variables (length formula.clauses) q) passed unread
        (rw w.listed at (at.held.chains q w.low w.high)))

    pub walking_begins : {q : ℕ} {walk : Walk} → 2 ≤ q → q ≤ 2 * v + 1 → walk.slot ≡ head_slot v n q → walk.node ≡ get_or numbers (head_slot v n q) 0
        → Walking linked formula cells lists q [] (list_of lists q) walk
    walking_begins {q} {walk} low high slot_is node_is =
        let vs = at.variables_are in
        let ns = at.clauses_are in
        let top : q ≤ 2 * formula.variables + 1 = omega arith in
        let here : head_slot v n q ≡ head_slot formula.variables (length formula.clauses) q = omega arith in
        record {
          low = low;
          high = top;
          listed = refl;
          node_is =
              node_is ∙ ap (λ (x : ℕ). get_or numbers x 0) here
              ∙ chain_head formula cells q formula.variables (length formula.clauses) numbers (head_slot formula.variables (length formula.clauses) q) (list_of lists q) (at.held.chains q low top);
          placed = slot_is ∙ here;
        }

    pub walking_on : {q c : ℕ} {passed unread : List ℕ} {walk next : Walk} → Walking linked formula cells lists q passed (c ∷ unread) walk
        → next.slot ≡ link_slot v n walk.node → next.node ≡ get_or numbers (link_slot v n walk.node) 0
        → Walking linked formula cells lists q (passed ++ (c ∷ [])) unread next
    walking_on {q} {c} {passed} {unread} {walk} {next} w slot_is node_is =
        let vs = at.variables_are in
        let ns = at.clauses_are in
        let node = walking_node w in
        let here : link_slot v n walk.node ≡ link_slot formula.variables (length formula.clauses) (node_of formula cells q c) = omega arith in
        record {
          low = w.low;
          high = w.high;
          listed = w.listed ∙ sym (append_snoc passed c unread);
          node_is =
              node_is ∙ ap (λ (x : ℕ). get_or numbers x 0) here
              ∙ chain_head formula cells q formula.variables (length formula.clauses) numbers (link_slot formula.variables (length formula.clauses) (node_of formula cells q c)) unread (walking-chain w).1;
          placed =
              slot_is ∙ here
              ∙ sym (rw (map-append (node_of formula cells q) passed (c ∷ []))
              (end_slot_more formula.variables (length formula.clauses) (head_slot formula.variables (length formula.clauses) q) (nodes_of formula cells q passed) (node_of formula cells q c)));
        }

    -- how many clauses are left
    pub walking_left : {q : ℕ} {passed : List ℕ} (unread : List ℕ) {walk : Walk} → Walking linked formula cells lists q passed unread walk
        → left_of v n numbers walk ≡ length unread
    unfolding left_of
    walking_left {q} {passed} unread {walk} w =
        rw (
          sym at.variables_are,
          sym at.clauses_are,
          w.node_is,
          ← chain_head formula cells q formula.variables (length formula.clauses) numbers walk.slot unread (walking-chain w),
        )
        (ap length (chain_held formula.variables (length formula.clauses) numbers formula cells q (2 * (length formula.clauses)) walk.slot unread short (walking-chain w)))
      where
        in_list : (x : ℕ) → times x unread ≤ times x (list_of lists q)
        in_list x = rw w.listed (omega (arith, times-append x passed unread))

        short : length unread ≤ 2 * (length formula.clauses)
        short =
            let fits : length unread ≤ (length formula.clauses)
            = once_short (length formula.clauses) unread (λ x. omega (arith, in_list x, at.orderly.once q x))
            (λ x h. orderly_within at.orderly q x (omega (arith, in_list x))) in
            omega arith

  -- a walk that stands at no clause is at the end
  pub walking_more : {q : ℕ} {passed : List ℕ} (unread : List ℕ) {walk : Walk} → Walking linked formula cells lists q passed unread walk
      → (walk.node ≡ 0 → ⊥) → (c : ℕ) × (rest : List ℕ) × (unread ≡ c ∷ rest)
  unfolding first_node
  walking_more [] w n = absurd (n w.node_is)
  walking_more (c ∷ rest) w n = (c, rest, refl)

  pub walking_none : {q : ℕ} {passed : List ℕ} (unread : List ℕ) {walk : Walk} → Walking linked formula cells lists q passed unread walk
      → walk.node ≡ 0 → unread ≡ []
  unfolding first_node
  walking_none [] w z = refl
  walking_none {q} (c ∷ rest) w z = absurd (omega (arith, w.node_is, node_positive formula cells q c))

  -- the walk is where it was when other lists changed, and when the nodes of its clauses stay
  pub walking_kept : {q : ℕ} {passed unread : List ℕ} {walk : Walk} (after : List Cell) (others : List (List ℕ)) → list_of others q ≡ list_of lists q
      → ((d : ℕ) → 0 < times d (list_of lists q) → node_of formula after q d ≡ node_of formula cells q d)
      → Walking linked formula cells lists q passed unread walk → Walking linked formula after others q passed unread walk
  unfolding first_node
  walking_kept {q} {passed} {unread} {walk} after others same_list same w =
      record {
        low = w.low;
        high = w.high;
        listed = same_list ∙ w.listed;
        node_is = w.node_is ∙ sym (first-kept unread (λ d h. same d (rw w.listed (omega (arith, times-append d passed unread)))));
        placed =
            w.placed
            ∙ ap (end_slot formula.variables (length formula.clauses) (head_slot formula.variables (length formula.clauses) q))
            (map_alike (node_of formula cells q) (node_of formula after q) passed
            (λ d h. sym (same d (rw w.listed (omega (arith, times-append d passed unread))))));
      }
    where
      first-kept : (ds : List ℕ) → ((d : ℕ) → 0 < times d ds → node_of formula after q d ≡ node_of formula cells q d)
          → first_node formula after q ds ≡ first_node formula cells q ds
      first-kept [] k = refl
      first-kept (d ∷ ds) k = k d (omega (arith, times-same d ds))

-- The clause that a walk stands at is taken out of its list.
use Prim.Native.Nat.{ℕ, ◌+◌, ◌*◌, ◌≤◌, ◌<◌}
use native.Mathlib.Omega.{arith}
use mathlib.Core.List.{List, [], ◌∷◌, ◌++◌}
use mathlib.Core.Logic.{◌⊎◌, inl, inr, ⊎_elim}
use mathlib.Core.Path.{◌≡◌, refl, ap, ◌∙◌}
use lib.ListN.{length, get_or, set, length-set}
use lib.Seq.{get_or-set_same, get_or-set_other}
use Rattle.base.specs.Lists.{times, without}
use Rattle.base.proofs.Bools.{alike}
use Rattle.base.proofs.Members.{times-same, times_kept, times_kept_out}
use Rattle.base.proofs.Occurrences.{times-append, keep_others}
use Rattle.book.specs.Formula.{Formula}
use Rattle.run.specs.Scan.{Cell}
use Rattle.run.specs.Run.{size, list_of, take_out}
use Rattle.run.proofs.Order.{taken_out, taken_elsewhere, taken_length}
use Rattle.layout.specs.Layout.{node_of, head_slot, link_slot, clause_of_node}
use Rattle.layout.specs.Encodes.{Chain, nodes_of}
use Rattle.layout.proofs.ChainLaws.{node_between}
use Rattle.engine.specs.Inner.Lists.{Orderly, Lists, Walking, Standing, TakenOut, linked}
use Rattle.engine.specs.declared.lists.Walk.{Walk}
use Rattle.engine.proofs.lists.LinkLaws.{chain_kept, chain_without, Chains, idle_apart}
use Rattle.engine.proofs.lists.WalkLaws.{SlotCase, slot_case, walking_node, walking_on, walking_stands}

-- the store: the slot goes on to the node behind
abbrev pub unlink_nums : ℕ → ℕ → List ℕ → ℕ → ℕ → List ℕ
unlink_nums v n numbers slot node = set numbers slot (get_or numbers (link_slot v n node) 0)

-- what a list has after a clause was taken out of the list of q
pub out_listed : (lists : List (List ℕ)) (q c l d : ℕ) → q < length lists → 0 < times d (list_of (take_out lists q c) l)
    → (0 < times d (list_of lists l)) × (d ≡ c → l ≡ q → ⊥)
unfolding without
out_listed lists q c l d q_list h = go (alike l q) (alike d c)
  where
    go : (l ≡ q) ⊎ (l ≡ q → ⊥) → (d ≡ c) ⊎ (d ≡ c → ⊥) → (0 < times d (list_of lists l)) × (d ≡ c → l ≡ q → ⊥)
    go (inl e) (inl f) =
        let z : 0 < times c (without c (list_of lists q)) = rw (e, f, taken_out lists q c q_list) at h in
        absurd (omega (arith, times_kept_out c (list_of lists q)))
    go (inl e) (inr f) =
        let z : 0 < times d (without c (list_of lists q)) = rw (e, taken_out lists q c q_list) at h in
        (rw e (omega (arith, times_kept d c (list_of lists q) f)), λ y. absurd (f y))
    go (inr e) f = (rw (taken_elsewhere lists q c l e) at h, λ y z. e z)

out_fewer : (lists : List (List ℕ)) (q c l d : ℕ) → q < length lists → times d (list_of (take_out lists q c) l) ≤ times d (list_of lists l)
unfolding without
out_fewer lists q c l d q_list = go (alike l q) (alike d c)
  where
    go : (l ≡ q) ⊎ (l ≡ q → ⊥) → (d ≡ c) ⊎ (d ≡ c → ⊥) → times d (list_of (take_out lists q c) l) ≤ times d (list_of lists l)
    go (inl e) (inl f) = rw (e, f, taken_out lists q c q_list) (omega (arith, times_kept_out c (list_of lists q)))
    go (inl e) (inr f) = rw (e, taken_out lists q c q_list) (omega (arith, times_kept d c (list_of lists q) f))
    go (inr e) f = rw (taken_elsewhere lists q c l e) (omega arith)

module _ {v n : ℕ} {before : List ℕ} {formula : Formula} {cells : List Cell} {lists : List (List ℕ)} {q c : ℕ} {passed unread : List ℕ} {walk : Walk}
    (at : Lists linked v n before formula cells lists) (w : Walking linked formula cells lists q passed (c ∷ unread) walk) where
  abbrev vars : ℕ
  vars = formula.variables

  abbrev many : ℕ
  many = length formula.clauses

  q_list : q < length lists
  q_list = omega (arith, at.many, at.variables_are, w.high)

  once_here : (d : ℕ) → times d (passed ++ (c ∷ unread)) ≤ 1
  once_here d = rw (← w.listed) (at.orderly.once q d)

  -- the list without the clause
  pub left_list : list_of (take_out lists q c) q ≡ passed ++ unread
  unfolding without
  left_list =
      taken_out lists q c q_list
      ∙ rw w.listed (keep_others c passed unread (omega (arith, once_here c, times-append c passed (c ∷ unread), times-same c unread)))

  out_orderly : Orderly formula cells (take_out lists q c)
  out_orderly =
      record {
        within = λ l d h. at.orderly.within l d (out_listed lists q c l d q_list h).0;
        once = λ l d. omega (arith, at.orderly.once l d, out_fewer lists q c l d q_list);
        apart = λ l d m e h k z. at.orderly.apart l d m e (out_listed lists q c l d q_list h).0 (out_listed lists q c m e q_list k).0 z;
      }

  -- no other list has the slot
  slot_head : (l : ℕ) → (l ≡ q → ⊥) → 2 ≤ l → l ≤ 2 * formula.variables + 1 → head_slot vars many l ≡ walk.slot → ⊥
  slot_head l other low high z = go (slot_case w)
    where
      go : SlotCase formula cells lists q walk.slot → ⊥
      go (inl e) = let h = w.low in other (omega arith)
      go (inr k) = let e = k.2 in omega arith

  slot_link : (l d : ℕ) → (l ≡ q → ⊥) → 0 < times d (list_of lists l) → link_slot vars many (node_of formula cells l d) ≡ walk.slot → ⊥
  slot_link l d other h z = go (slot_case w)
    where
      go : SlotCase formula cells lists q walk.slot → ⊥
      go (inl e) = let a = w.low in let b = w.high in omega arith
      go (inr k) =
          other (at.orderly.apart l d q k.0 h k.1
          (let a = node_between formula cells l d in let b = node_between formula cells q k.0 in let e = k.2 in omega arith))

  slot_idle : (m : ℕ) → 1 ≤ m → size formula (clause_of_node m) < 2 → link_slot vars many m ≡ walk.slot → ⊥
  slot_idle m low few z = go (slot_case w)
    where
      go : SlotCase formula cells lists q walk.slot → ⊥
      go (inl e) = let a = w.low in let b = w.high in omega arith
      go (inr k) =
          let b = node_between formula cells q k.0 in
          idle_apart formula m (node_of formula cells q k.0) k.0 few low b.0 b.1 (at.orderly.within q k.0 k.1) (z ∙ k.2)

  module _ {after : List ℕ} (after_is : after ≡ unlink_nums v n before walk.slot walk.node) where
    link-same : link_slot v n walk.node ≡ link_slot vars many (node_of formula cells q c)
    link-same = let a = at.variables_are in let b = at.clauses_are in let e = walking_node w in omega arith

    after-other : (x : ℕ) → (x ≡ walk.slot → ⊥) → get_or after x 0 ≡ get_or before x 0
    after-other x other = rw after_is (get_or-set_other before walk.slot x (get_or before (link_slot v n walk.node) 0) 0 other)

    after-slot : get_or after walk.slot 0 ≡ get_or before (link_slot vars many (node_of formula cells q c)) 0
    after-slot =
        let inside = (walking_stands at w).slot_within in
        let long = at.long in
        rw after_is (get_or-set_same before walk.slot (get_or before (link_slot v n walk.node) 0) 0 (omega arith))
        ∙ ap (λ (x : ℕ). get_or before x 0) link-same

    out-chains : Chains formula after cells (take_out lists q c)
    out-chains l low high = go (alike l q)
      where
        go : (l ≡ q) ⊎ (l ≡ q → ⊥) → Chain vars many after (head_slot vars many l) (nodes_of formula cells l (list_of (take_out lists q c) l))
        go (inl e) =
            rw (e, left_list)
            (chain_without vars many before after (node_of formula cells q) (node_between formula cells q) (head_slot vars many q) passed c unread
            (rw (← w.placed) after-slot) (rw (← w.placed) after-other) (λ d h z. let a = w.low in let b = w.high in omega arith) once_here
            (rw w.listed at (at.held.chains q w.low w.high)))
        go (inr e) =
            rw (taken_elsewhere lists q c l e)
            (chain_kept vars many before after (node_of formula cells l) (node_of formula cells l) (head_slot vars many l) (head_slot vars many l) (list_of lists l)
            (after-other (head_slot vars many l) (slot_head l e low high))
            (λ d h. (refl, after-other (link_slot vars many (node_of formula cells l d)) (slot_link l d e h)))
            (at.held.chains l low high))

    out-lists : Lists linked v n after formula cells (take_out lists q c)
    out-lists =
        record {
          variables_are = at.variables_are;
          clauses_are = at.clauses_are;
          long = rw (after_is, length-set before walk.slot (get_or before (link_slot v n walk.node) 0)) at.long;
          many = taken_length lists q c ∙ at.many;
          held =
              record {
                chains = out-chains;
                idle = λ m a b few. after-other (link_slot vars many m) (slot_idle m a few) ∙ at.held.idle m a b few;
              };
          orderly = out_orderly;
        }

  out_walking : {next : Walk} → next.slot ≡ walk.slot → next.node ≡ get_or before (link_slot v n walk.node) 0
      → Walking linked formula cells (take_out lists q c) q passed unread next
  out_walking {next} slot_is node_is =
      let on : Walking linked formula cells lists q (passed ++ (c ∷ [])) unread (record { node = next.node; slot = link_slot v n walk.node }) = walking_on at w refl node_is in
      record {
        low = w.low;
        high = w.high;
        listed = left_list;
        node_is = on.node_is;
        placed = slot_is ∙ w.placed;
      }

-- it takes the clause out
pub slot_taken_out : {v n : ℕ} {before after : List ℕ} {walk next : Walk} → Standing v n walk → after ≡ unlink_nums v n before walk.slot walk.node
    → next.slot ≡ walk.slot → next.node ≡ get_or before (link_slot v n walk.node) 0 → TakenOut linked v n before after walk next
slot_taken_out {v} {n} {before} {after} {walk} {next} standing after_is slot_is node_is =
    record {
      only =
          record {
            same_length = rw after_is (length-set before walk.slot (get_or before (link_slot v n walk.node) 0));
            outside =
                λ x out. rw after_is
                (get_or-set_other before walk.slot x (get_or before (link_slot v n walk.node) 0) 0
                (λ e. let a = standing.slot_low in let b = standing.slot_within in ⊎_elim (λ z. omega arith) (λ z. omega arith) out));
          };
      lists_are = λ at w. out-lists at w after_is;
      goes_on = λ at w. out_walking at w slot_is node_is;
    }

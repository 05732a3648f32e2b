-- The clause of a node that no list has goes to the front of a list.
use Prim.Native.Nat.{ℕ, ◌+◌, ◌*◌, ◌≤◌, ◌<◌}
use native.Mathlib.Omega.{arith}
use mathlib.Core.List.{List, ◌∷◌}
use mathlib.Core.Logic.{◌⊎◌, inl, inr, ⊎_elim}
use mathlib.Core.Path.{◌≡◌, refl, sym, ap, ◌∙◌}
use lib.ListN.{length, get_or, set, length-set}
use lib.Seq.{get_or-set_same, get_or-set_other}
use Rattle.base.specs.Lists.{times}
use Rattle.base.proofs.Bools.{alike, below}
use Rattle.base.proofs.Members.{times-same, times_other}
use Rattle.book.specs.Formula.{Formula}
use Rattle.run.specs.Scan.{Cell}
use Rattle.run.specs.Run.{size, list_of, push_front}
use Rattle.run.proofs.Clauses.{clause_exists}
use Rattle.run.proofs.Order.{pushed_first, pushed_elsewhere, pushed_length}
use Rattle.layout.specs.Layout.{node_of, head_slot, link_slot}
use Rattle.layout.specs.Encodes.{Chain, nodes_of}
use Rattle.layout.proofs.ChainLaws.{node_between}
use Rattle.engine.specs.Inner.Lists.{Orderly, Lists, Unlisted, PushedFront, linked}
use Rattle.engine.proofs.lists.LinkLaws.{chain_kept, Chains, idle_apart}

-- the stores: the node's link leads to the node that was first, and the head to the node
abbrev pub push_nums : ℕ → ℕ → List ℕ → ℕ → ℕ → List ℕ
push_nums v n numbers l node = set (set numbers (link_slot v n node) (get_or numbers (head_slot v n l) 0)) (head_slot v n l) node

-- what a list has after clause c joined the list of m
pub pushed_listed : (lists : List (List ℕ)) (m c l d : ℕ) → m < length lists → 0 < times d (list_of (push_front lists m c) l)
    → (0 < times d (list_of lists l)) ⊎ ((d ≡ c) × (l ≡ m))
pushed_listed lists m c l d inside h = go (alike l m) (alike d c)
  where
    go : (l ≡ m) ⊎ (l ≡ m → ⊥) → (d ≡ c) ⊎ (d ≡ c → ⊥) → (0 < times d (list_of lists l)) ⊎ ((d ≡ c) × (l ≡ m))
    go (inl e) (inl f) = inr (f, e)
    go (inl e) (inr f) =
        let z : 0 < times d (c ∷ list_of lists m) = rw (e, pushed_first lists m c inside) at h in
        inl (rw e (omega (arith, times_other d c (list_of lists m) f)))
    go (inr e) f = inl (rw (pushed_elsewhere lists m c l e) at h)

module _ {v n : ℕ} {before : List ℕ} {formula : Formula} {cells : List Cell} {lists : List (List ℕ)} {m node : ℕ} (c : ℕ)
    (m-low : 2 ≤ m) (m-high : m ≤ 2 * v + 1) (at : Lists linked v n before formula cells lists) (two : 2 ≤ size formula c)
    (node_is : node_of formula cells m c ≡ node) (free : Unlisted formula cells lists node) where
  abbrev vars : ℕ
  vars = formula.variables

  abbrev many : ℕ
  many = length formula.clauses

  m_list : m < length lists
  m_list = omega (arith, at.many)

  exists : c < many
  exists = clause_exists formula c (omega arith)

  unlisted : times c (list_of lists m) ≡ 0
  unlisted = ⊎_elim (λ h. absurd (free m c h node_is)) (λ h. omega arith) (below 0 (times c (list_of lists m)))

  pushed_orderly : Orderly formula cells (push_front lists m c)
  pushed_orderly =
      record {
        within =
            λ l d h. ⊎_elim (at.orderly.within l d) (λ z. rw z.0 two) (pushed_listed lists m c l d m_list h);
        once = λ l d. once-now l d (alike l m) (alike d c);
        apart = λ l d k e h i z. apart-now l d k e z (pushed_listed lists m c l d m_list h) (pushed_listed lists m c k e m_list i);
      }
    where
      once-now : (l d : ℕ) → (l ≡ m) ⊎ (l ≡ m → ⊥) → (d ≡ c) ⊎ (d ≡ c → ⊥) → times d (list_of (push_front lists m c) l) ≤ 1
      once-now l d (inl e) (inl f) = rw (e, f, pushed_first lists m c m_list) (omega (arith, times-same c (list_of lists m), unlisted))
      once-now l d (inl e) (inr f) =
          rw (e, pushed_first lists m c m_list) (omega (arith, times_other d c (list_of lists m) f, at.orderly.once m d))
      once-now l d (inr e) f = rw (pushed_elsewhere lists m c l e) (at.orderly.once l d)

      apart-now : (l d k e : ℕ) → node_of formula cells l d ≡ node_of formula cells k e → (0 < times d (list_of lists l)) ⊎ ((d ≡ c) × (l ≡ m))
          → (0 < times e (list_of lists k)) ⊎ ((e ≡ c) × (k ≡ m)) → l ≡ k
      apart-now l d k e z (inl h) (inl i) = at.orderly.apart l d k e h i z
      apart-now l d k e z (inl h) (inr i) =
          absurd (free l d h (z ∙ ap (node_of formula cells k) i.0 ∙ ap (λ (x : ℕ). node_of formula cells x c) i.1 ∙ node_is))
      apart-now l d k e z (inr h) (inl i) =
          absurd (free k e i (sym z ∙ ap (node_of formula cells l) h.0 ∙ ap (λ (x : ℕ). node_of formula cells x c) h.1 ∙ node_is))
      apart-now l d k e z (inr h) (inr i) = h.1 ∙ sym i.1

  module _ {after : List ℕ} (after_is : after ≡ push_nums v n before m node) where
    own : after ≡ push_nums vars many before m node
    own = rw (at.variables_are, at.clauses_are) after_is

    abbrev joined : List ℕ
    joined = set before (link_slot vars many node) (get_or before (head_slot vars many m) 0)

    pushed-link : get_or after (link_slot vars many node) 0 ≡ get_or before (head_slot vars many m) 0
    pushed-link =
        let long = at.long in
        let a = node_between formula cells m c in
        let b = exists in
        rw own
        (get_or-set_other joined (head_slot vars many m) (link_slot vars many node) node 0 (λ e. omega (arith, at.variables_are))
        ∙ get_or-set_same before (link_slot vars many node) (get_or before (head_slot vars many m) 0) 0 (omega (arith, at.variables_are, at.clauses_are)))

    pushed-head : get_or after (head_slot vars many m) 0 ≡ node
    pushed-head =
        let long = at.long in
        rw own
        (get_or-set_same joined (head_slot vars many m) node 0
        (rw (length-set before (link_slot vars many node) (get_or before (head_slot vars many m) 0)) (omega (arith, at.variables_are, at.clauses_are))))

    pushed-other : (x : ℕ) → (x ≡ head_slot vars many m → ⊥) → (x ≡ link_slot vars many node → ⊥) → get_or after x 0 ≡ get_or before x 0
    pushed-other x a b =
        rw own
        (get_or-set_other joined (head_slot vars many m) x node 0 a
        ∙ get_or-set_other before (link_slot vars many node) x (get_or before (head_slot vars many m) 0) 0 b)

    free-link : (l d : ℕ) → 0 < times d (list_of lists l)
        → get_or after (link_slot vars many (node_of formula cells l d)) 0 ≡ get_or before (link_slot vars many (node_of formula cells l d)) 0
    free-link l d h =
        pushed-other (link_slot vars many (node_of formula cells l d)) (λ e. omega (arith, at.variables_are))
        (λ e. free l d h (let a = node_between formula cells l d in let b = node_between formula cells m c in omega arith))

    pushed-chains : Chains formula after cells (push_front lists m c)
    pushed-chains l low high = go (alike l m)
      where
        go : (l ≡ m) ⊎ (l ≡ m → ⊥) → Chain vars many after (head_slot vars many l) (nodes_of formula cells l (list_of (push_front lists m c) l))
        go (inl e) =
            rw (e, pushed_first lists m c m_list) (
              pushed-head ∙ sym node_is,
              rw node_is (chain_kept vars many before after (node_of formula cells m) (node_of formula cells m) (head_slot vars many m) (link_slot vars many node) (list_of lists m)
                  pushed-link (λ d h. (refl, free-link m d h)) (at.held.chains m m-low (omega (arith, at.variables_are)))),
            )
        go (inr e) =
            rw (pushed_elsewhere lists m c l e)
            (chain_kept vars many before after (node_of formula cells l) (node_of formula cells l) (head_slot vars many l) (head_slot vars many l) (list_of lists l)
            (pushed-other (head_slot vars many l) (λ z. e (omega arith)) (λ z. omega arith)) (λ d h. (refl, free-link l d h)) (at.held.chains l low high))

    pushed-lists : Lists linked v n after formula cells (push_front lists m c)
    pushed-lists =
        record {
          variables_are = at.variables_are;
          clauses_are = at.clauses_are;
          long = rw after_is (simp length-set at.long);
          many = pushed_length lists m c ∙ at.many;
          held =
              record {
                chains = pushed-chains;
                idle =
                    λ k a b few.
                    let bounds = node_between formula cells m c in
                    pushed-other (link_slot vars many k) (λ e. omega (arith, at.variables_are))
                    (idle_apart formula k node c few a (omega arith) (omega arith) two)
                    ∙ at.held.idle k a b few;
              };
          orderly = pushed_orderly;
        }

-- they put the clause at the front
pub slot_pushed_front : {v n : ℕ} {before after : List ℕ} {l node : ℕ} → 2 ≤ l → l ≤ 2 * v + 1 → 1 ≤ node → node ≤ 2 * n
    → after ≡ push_nums v n before l node → PushedFront linked v n before after l node
slot_pushed_front {v} {n} {before} {after} {l} {node} low high some few after_is =
    record {
      only =
          record {
            same_length = rw after_is (simp length-set);
            outside =
                λ x out. rw after_is
                (get_or-set_other (set before (link_slot v n node) (get_or before (head_slot v n l) 0)) (head_slot v n l) x node 0
                (λ e. ⊎_elim (λ z. omega arith) (λ z. omega arith) out)
                ∙ get_or-set_other before (link_slot v n node) x (get_or before (head_slot v n l) 0) 0
                (λ e. ⊎_elim (λ z. omega arith) (λ z. omega arith) out));
          };
      lists_are = λ c at two node_is free. pushed-lists c low high at two node_is free after_is;
    }

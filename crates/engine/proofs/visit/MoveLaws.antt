-- A clause moves to the list of the literal at an unwatched position: the nodes before and after, and no list that has its node in between.
use Prim.Native.Nat.{ℕ, ◌+◌, ◌*◌, ◌<◌, ◌≤◌}
use native.Mathlib.Omega.{arith}
use mathlib.Core.Bool.{true, false}
use mathlib.Core.List.{List}
use mathlib.Core.Logic.{◌⊎◌, inl, inr}
use mathlib.Core.Path.{◌≡◌, sym, ap, ◌∙◌}
use borrow.Author.Tests.{eqb-false}
use lib.Dec.{eqb}
use lib.ListN.{length, get_or, set}
use Rattle.base.specs.Lists.{times}
use Rattle.base.proofs.Bools.{alike, neither_left, neither_right}
use Rattle.book.specs.Formula.{Formula, sound}
use Rattle.run.specs.Scan.{Cell, watched}
use Rattle.run.specs.Run.{clause_of, size, list_of, take_out, moved, cell_at}
use Rattle.book.proofs.SoundLaws.{literal_parts}
use Rattle.run.proofs.Clauses.{literal_within_lem}
use Rattle.run.proofs.WatchLists.{Order, forth, back, Sides, listed_size, listed_sides, literals_differ, sides_differ, cell_after, cell_others}
use Rattle.run.specs.Progress.{first_literal, second_literal, Watched}
use Rattle.layout.specs.Layout.{node_of}
use Rattle.layout.proofs.ChainLaws.{listed_literal, node_between, node_first, node_same, node_second, watched_apart}
use Rattle.engine.specs.Inner.Lists.{Unlisted}
use Rattle.engine.proofs.lists.TakeOutLaws.{out_listed}
use Rattle.engine.proofs.visit.StoreLaws.{Turned, firstly, secondly}

module _ (formula : Formula) (s : sound formula ≡ true) (cells : List Cell) (lists : List (List ℕ)) (w : Watched formula cells lists)
    (q c : ℕ) (here : 0 < times c (list_of lists q)) (position : ℕ) (within : position < size formula c)
    (free : watched (cell_at cells c) position ≡ false) where
  abbrev new : ℕ
  new = get_or (clause_of formula c) position 0

  abbrev moved_cell : Cell
  moved_cell = moved (clause_of formula c) (cell_at cells c) q position

  abbrev cells' : List Cell
  cells' = set cells c moved_cell

  sides : Sides (clause_of formula c) (cell_at cells c) q
  sides = listed_sides w q c here

  two : 2 ≤ size formula c
  two = listed_size w q c here

  now_cell : cell_at cells' c ≡ moved_cell
  now_cell = cell_after formula s cells lists w q c here position within free

  pub moved_others : (d : ℕ) → (d ≡ c → ⊥)
      → cell_at (set cells c (moved (clause_of formula c) (cell_at cells c) q position)) d ≡ cell_at cells d
  moved_others = cell_others formula s cells lists w q c here position within free

  literal : {p r : ℕ} → p ≡ r → get_or (clause_of formula c) p 0 ≡ get_or (clause_of formula c) r 0
  literal e = ap (λ (p : ℕ). get_or (clause_of formula c) p 0) e

  -- the watch of its node moves
  pub moved_turned : Turned c (node_of formula cells q c) position (cell_at cells c)
      (cell_at (set cells c (moved (clause_of formula c) (cell_at cells c) q position)) c)
  moved_turned = go sides.order
    where
      go : Order (clause_of formula c) (cell_at cells c) q sides.here sides.there
          → Turned c (node_of formula cells q c) position (cell_at cells c) (cell_at cells' c)
      go (forth f g m) = firstly (node_first formula cells q c (literal f ∙ sides.here_literal)) (now_cell ∙ rw g (m position))
      go (back f g m) =
          secondly (node_second formula cells q c (λ e. sides_differ formula s c sides (sym e ∙ literal f ∙ sides.there_literal)))
          (now_cell ∙ rw f (m position))

  -- where the node is the first one, the first watch is that of q
  first_is : node_of formula cells q c ≡ 2 * c + 1 → first_literal formula cells c ≡ q
  first_is e = go (alike (first_literal formula cells c) q)
    where
      go : (first_literal formula cells c ≡ q) ⊎ (first_literal formula cells c ≡ q → ⊥) → first_literal formula cells c ≡ q
      go (inl z) = z
      go (inr z) = absurd (omega (arith, node_second formula cells q c z))

  -- the new literal is not watched
  unwatched_first : first_literal formula cells c ≡ new → ⊥
  unfolding watched
  unwatched_first e =
      literals_differ formula s c (cell_at cells c).first position (w.watching c two).first_within within
      (λ z. eqb-false position (cell_at cells c).first (neither_left (eqb position (cell_at cells c).first) (eqb position (cell_at cells c).second) free) (sym z))
      e

  unwatched_second : second_literal formula cells c ≡ new → ⊥
  unfolding watched
  unwatched_second e =
      literals_differ formula s c (cell_at cells c).second position (w.watching c two).second_within within
      (λ z. eqb-false position (cell_at cells c).second (neither_right (eqb position (cell_at cells c).first) (eqb position (cell_at cells c).second) free) (sym z))
      e

  not_new : (l : ℕ) → 0 < times c (list_of lists l) → l ≡ new → ⊥
  not_new l h e = go (listed_literal formula cells lists w l c h)
    where
      go : (first_literal formula cells c ≡ l) ⊎ (second_literal formula cells c ≡ l) → ⊥
      go (inl f) = unwatched_first (f ∙ e)
      go (inr f) = unwatched_second (f ∙ e)

  first_now : {x : Cell} → cell_at cells' c ≡ x → first_literal formula cells' c ≡ get_or (clause_of formula c) x.first 0
  first_now e = ap (λ (x : Cell). get_or (clause_of formula c) x.first 0) e

  node_stays : (l : ℕ) → (l ≡ q → ⊥) → (l ≡ new → ⊥) → node_of formula cells' l c ≡ node_of formula cells l c
  unfolding node_of
  node_stays l n k = go moved_turned
    where
      go : Turned c (node_of formula cells q c) position (cell_at cells c) (cell_at cells' c) → node_of formula cells' l c ≡ node_of formula cells l c
      go (firstly a e) =
          node_second formula cells' l c (λ z. k (sym z ∙ first_now e))
          ∙ sym (node_second formula cells l c (λ z. n (sym z ∙ first_is a)))
      go (secondly a e) = rw e

  -- its node in the new list is the one that it had
  pub node_moved : node_of formula (set cells c (moved (clause_of formula c) (cell_at cells c) q position)) (get_or (clause_of formula c) position 0) c
      ≡ node_of formula cells q c
  node_moved = go moved_turned
    where
      go : Turned c (node_of formula cells q c) position (cell_at cells c) (cell_at cells' c) → node_of formula cells' new c ≡ node_of formula cells q c
      go (firstly a e) = node_first formula cells' new c (first_now e) ∙ sym a
      go (secondly a e) = node_second formula cells' new c (λ z. unwatched_first (sym (first_now e) ∙ z)) ∙ sym a

  q_list : q < length lists
  q_list =
      let bounds = literal_parts formula.variables (get_or (clause_of formula c) sides.here 0) (literal_within_lem formula s c sides.here sides.here_within) in
      let is = sides.here_literal in
      omega (arith, bounds.1, w.lists_length)

  -- the lists without it: their nodes stay, and none is the one that moves
  pub out_same : (l d : ℕ) → 0 < times d (list_of (take_out lists q c) l)
      → node_of formula (set cells c (moved (clause_of formula c) (cell_at cells c) q position)) l d ≡ node_of formula cells l d
  out_same l d h = go (alike d c) (out_listed lists q c l d q_list h)
    where
      go : (d ≡ c) ⊎ (d ≡ c → ⊥) → (0 < times d (list_of lists l)) × (d ≡ c → l ≡ q → ⊥) → node_of formula cells' l d ≡ node_of formula cells l d
      go (inl e) k = rw e (node_stays l (k.1 e) (not_new l (rw e at k.0)))
      go (inr e) k = node_same formula cells cells' l d (moved_others d e)

  pub out_free : Unlisted formula (set cells c (moved (clause_of formula c) (cell_at cells c) q position)) (take_out lists q c) (node_of formula cells q c)
  out_free l d h e =
      let k = out_listed lists q c l d q_list h in
      let same : node_of formula cells l d ≡ node_of formula cells q c = sym (out_same l d h) ∙ e in
      let a = node_between formula cells l d in
      let b = node_between formula cells q c in
      k.1 (omega arith) (watched_apart formula cells lists w s l d q c k.0 here same)

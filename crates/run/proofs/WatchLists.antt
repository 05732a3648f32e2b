-- The watch structure of a run, cells and lists: what it says of a clause in the list that is read, and that a move keeps it.
use Prim.Native.Nat.{ℕ, suc, ◌+◌, ◌≤◌, ◌<◌}
use native.Mathlib.Omega.{arith}
use mathlib.Core.Bool.{Bool, true, false, cond, ◌||◌}
use mathlib.Core.List.{List, [], ◌∷◌}
use mathlib.Core.Logic.{◌⊎◌, inl, inr, ⊎_elim}
use mathlib.Core.Path.{◌≡◌, refl, sym, ap, ap₂, ◌∙◌}
use borrow.Author.Tests.{eqb-true, eqb-false, eq-eqb, ne_eqb, leb-true, le-leb}
use lib.Dec.{leb, eqb}
use lib.ListN.{length, get_or, set, length-set, get_or-eq_default}
use lib.Seq.{get_or-set_same, get_or-set_other}
use Rattle.base.specs.Lists.{times, without}
use Rattle.base.proofs.Bools.{alike, below, neither_left, neither_right}
use Rattle.base.proofs.Members.{times-same, times_other, times_kept, times_kept_out}
use Rattle.book.specs.Formula.{Formula, variable_of, sound}
use Rattle.run.specs.Scan.{Cell, watched}
use Rattle.run.specs.Run.{clause_of, size, no_cell, list_of, push_front, take_out, other_watch, moved, cell_at}
use Rattle.run.specs.Valid.{Watching, one}
use Rattle.run.specs.Progress.{first_literal, second_literal, among, stands, Watched}
use Rattle.run.proofs.Order.{pushed_first, pushed_elsewhere, pushed_length, taken_out, taken_elsewhere, taken_length}
use Rattle.run.proofs.Clauses.{clause_exists, literal_listed, literals_apart}

pub one_same : {a b : ℕ} → a ≡ b → one (eqb a b) ≡ 1
one_same {a} {b} e = rw (eq-eqb a b e)

pub one_other : {a b : ℕ} → (a ≡ b → ⊥) → one (eqb a b) ≡ 0
one_other {a} {b} n = rw (ne_eqb a b n)

-- The clause of the list of q, seen from q: the position that watches q and the other one. Its cell holds them in one of two orders.
pub data Order (clause : List ℕ) (cell : Cell) (q here there : ℕ) : Type 0 where
  forth : cell.first ≡ here → cell.second ≡ there → ((p : ℕ) → moved clause cell q p ≡ record { first = p; second = there; pointer = p })
      → Order clause cell q here there
  back : cell.first ≡ there → cell.second ≡ here → ((p : ℕ) → moved clause cell q p ≡ record { first = there; second = p; pointer = p })
      → Order clause cell q here there

pub record Sides (clause : List ℕ) (cell : Cell) (q : ℕ) : Type 0 where
  pub here : ℕ
  pub there : ℕ
  pub here_literal : get_or clause here 0 ≡ q
  pub there_literal : get_or clause there 0 ≡ other_watch clause cell q
  pub here_within : here < length clause
  pub there_within : there < length clause
  pub apart : here ≡ there → ⊥
  pub order : Order clause cell q here there

sides_of : (clause : List ℕ) (cell : Cell) (q : ℕ) → Watching (length clause) cell
    → (q ≡ get_or clause cell.first 0) ⊎ (q ≡ get_or clause cell.second 0) → Sides clause cell q
unfolding other_watch moved
sides_of clause cell q w stands_there = go (eqb (get_or clause cell.first 0) q) refl stands_there
  where
    go : (b : Bool) → eqb (get_or clause cell.first 0) q ≡ b → (q ≡ get_or clause cell.first 0) ⊎ (q ≡ get_or clause cell.second 0)
        → Sides clause cell q
    go true e k =
        record {
          here = cell.first;
          there = cell.second;
          here_literal = eqb-true (get_or clause cell.first 0) q e;
          there_literal = rw e;
          here_within = w.first_within;
          there_within = w.second_within;
          apart = w.different;
          order = forth refl refl (λ p. rw e);
        }
    go false e (inl k) = absurd (eqb-false (get_or clause cell.first 0) q e (sym k))
    go false e (inr k) =
        record {
          here = cell.second;
          there = cell.first;
          here_literal = sym k;
          there_literal = rw e;
          here_within = w.second_within;
          there_within = w.first_within;
          apart = λ z. w.different (sym z);
          order = back refl refl (λ p. rw e);
        }

-- a position that is not watched is neither of the two, and every other one is not watched
pub unwatched_apart : {clause : List ℕ} {cell : Cell} {q : ℕ} (s : Sides clause cell q) (p : ℕ) → watched cell p ≡ false
    → (p ≡ s.here → ⊥) × (p ≡ s.there → ⊥)
unfolding watched
unwatched_apart {clause} {cell} {q} s p w = go s.order
  where
    not_first : p ≡ cell.first → ⊥
    not_first = eqb-false p cell.first (neither_left (eqb p cell.first) (eqb p cell.second) w)

    not-second : p ≡ cell.second → ⊥
    not-second = eqb-false p cell.second (neither_right (eqb p cell.first) (eqb p cell.second) w)

    go : Order clause cell q s.here s.there → (p ≡ s.here → ⊥) × (p ≡ s.there → ⊥)
    go (forth f g m) = (λ e. not_first (e ∙ sym f), λ e. not-second (e ∙ sym g))
    go (back f g m) = (λ e. not-second (e ∙ sym g), λ e. not_first (e ∙ sym f))

pub apart_unwatched : {clause : List ℕ} {cell : Cell} {q : ℕ} (s : Sides clause cell q) (p : ℕ) → (p ≡ s.here → ⊥) → (p ≡ s.there → ⊥)
    → watched cell p ≡ false
unfolding watched
apart_unwatched {clause} {cell} {q} s p n m = go s.order
  where
    go : Order clause cell q s.here s.there → (eqb p cell.first || eqb p cell.second) ≡ false
    go (forth f g _) = rw (ne_eqb p cell.first (λ e. n (e ∙ f)), ne_eqb p cell.second (λ e. m (e ∙ g)))
    go (back f g _) = rw (ne_eqb p cell.first (λ e. m (e ∙ f)), ne_eqb p cell.second (λ e. n (e ∙ g)))

-- a clause that stands in a list has two watches, and one of them is the list's literal
pub listed_size : {formula : Formula} {cells : List Cell} {lists : List (List ℕ)} → Watched formula cells lists → (q c : ℕ)
    → 0 < times c (list_of lists q) → 2 ≤ size formula c
listed_size {formula} {cells} {lists} w q c h = go (leb 2 (size formula c)) refl (w.listed q c)
  where
    go : (b : Bool) → leb 2 (size formula c) ≡ b
        → times c (list_of lists q)
        ≡ cond b (among q (first_literal formula cells c) (second_literal formula cells c)) 0
        → 2 ≤ size formula c
    go true e z = leb-true 2 (size formula c) e
    go false e z = absurd (omega arith)

among_one : (l a b : ℕ) → 0 < among l a b → (l ≡ a) ⊎ (l ≡ b)
among_one l a b h = go (eqb l a) refl (eqb l b) refl h
  where
    go : (x : Bool) → eqb l a ≡ x → (y : Bool) → eqb l b ≡ y → 0 < one x + one y → (l ≡ a) ⊎ (l ≡ b)
    go true e y f k = inl (eqb-true l a e)
    go false e true f k = inr (eqb-true l b f)
    go false e false f k = absurd (omega arith)

pub listed_sides : {formula : Formula} {cells : List Cell} {lists : List (List ℕ)} → Watched formula cells lists → (q c : ℕ)
    → 0 < times c (list_of lists q) → Sides (clause_of formula c) (cell_at cells c) q
listed_sides {formula} {cells} {lists} w q c h =
    let two : 2 ≤ size formula c = listed_size w q c h in
    let count : times c (list_of lists q) ≡ among q (first_literal formula cells c) (second_literal formula cells c)
    = rw (le-leb 2 (size formula c) two) at (w.listed q c) in
    sides_of (clause_of formula c) (cell_at cells c) q (w.watching c two)
    (among_one q (first_literal formula cells c) (second_literal formula cells c) (rw (← count) h))

-- the lists after a move from the list of q to that of m
module _ (lists : List (List ℕ)) (q m c : ℕ) (q_within : q < length lists) (m_within : m < length lists) (apart : m ≡ q → ⊥) where
  list_left : list_of (push_front (take_out lists q c) m c) q ≡ without c (list_of lists q)
  list_left = pushed_elsewhere (take_out lists q c) m c q (λ e. apart (sym e)) ∙ taken_out lists q c q_within

  list_joined : list_of (push_front (take_out lists q c) m c) m ≡ c ∷ list_of lists m
  list_joined =
      pushed_first (take_out lists q c) m c (rw (taken_length lists q c) m_within)
      ∙ ap (λ (xs : List ℕ). c ∷ xs) (taken_elsewhere lists q c m apart)

  list_same : (l : ℕ) → (l ≡ q → ⊥) → (l ≡ m → ⊥) → list_of (push_front (take_out lists q c) m c) l ≡ list_of lists l
  list_same l n k = pushed_elsewhere (take_out lists q c) m c l k ∙ taken_elsewhere lists q c l n

  -- only the moved clause is counted anew
  times_others : (l d : ℕ) → (d ≡ c → ⊥) → times d (list_of (push_front (take_out lists q c) m c) l) ≡ times d (list_of lists l)
  unfolding without
  times_others l d n = go (alike l q) (alike l m)
    where
      go : (l ≡ q) ⊎ (l ≡ q → ⊥) → (l ≡ m) ⊎ (l ≡ m → ⊥)
          → times d (list_of (push_front (take_out lists q c) m c) l) ≡ times d (list_of lists l)
      go (inl e) k = rw (e, list_left, times_kept d c (list_of lists q) n)
      go (inr e) (inl k) = rw (k, list_joined, times_other d c (list_of lists m) n)
      go (inr e) (inr k) = rw (list_same l e k)

  times_left : times c (list_of (push_front (take_out lists q c) m c) q) ≡ 0
  unfolding without
  times_left = rw (list_left, times_kept_out c (list_of lists q))

  times_joined : times c (list_of (push_front (take_out lists q c) m c) m) ≡ suc (times c (list_of lists m))
  times_joined = rw (list_joined, times-same c (list_of lists m))

-- the list of a literal that has a clause is one of the lists
list_exists : (lists : List (List ℕ)) (q c : ℕ) → 0 < times c (list_of lists q) → q < length lists
unfolding times
list_exists lists q c h = go (below q (length lists))
  where
    go : (q < length lists) ⊎ (length lists ≤ q) → q < length lists
    go (inl e) = e
    go (inr e) =
        let out : list_of lists q ≡ [] = get_or-eq_default lists [] e in
        let nothing : times c (list_of lists q) ≡ 0 = rw out in
        absurd (omega arith)

-- the literals at different positions of a clause are different
pub literals_differ : (formula : Formula) → sound formula ≡ true → (c i j : ℕ) → i < size formula c → j < size formula c → (i ≡ j → ⊥)
    → get_or (clause_of formula c) i 0 ≡ get_or (clause_of formula c) j 0 → ⊥
literals_differ formula s c i j h k n e = n (literals_apart formula s c i j h k (ap variable_of e))

among_swap : (l a b : ℕ) → among l a b ≡ among l b a
among_swap l a b = omega arith

pub sides_differ : (formula : Formula) → sound formula ≡ true → (c : ℕ) {cell : Cell} {q : ℕ} → Sides (clause_of formula c) cell q
    → q ≡ other_watch (clause_of formula c) cell q → ⊥
sides_differ formula s c sides e =
    literals_differ formula s c sides.here sides.there sides.here_within sides.there_within sides.apart
    (sides.here_literal ∙ e ∙ sym sides.there_literal)

-- how often the clause of Sides stands, before and after its move
sides_among : {clause : List ℕ} {cell : Cell} {q : ℕ} → Sides clause cell q → (l : ℕ)
    → among l (get_or clause cell.first 0) (get_or clause cell.second 0) ≡ among l q (other_watch clause cell q)
sides_among {clause} {cell} {q} s l = go s.order
  where
    at : {p r : ℕ} → p ≡ r → get_or clause p 0 ≡ get_or clause r 0
    at e = ap (λ (p : ℕ). get_or clause p 0) e

    go : Order clause cell q s.here s.there
        → among l (get_or clause cell.first 0) (get_or clause cell.second 0) ≡ among l q (other_watch clause cell q)
    go (forth f g m) = ap₂ (among l) (at f ∙ s.here_literal) (at g ∙ s.there_literal)
    go (back f g m) =
        ap₂ (among l) (at f ∙ s.there_literal) (at g ∙ s.here_literal) ∙ among_swap l (other_watch clause cell q) q

moved_among : {clause : List ℕ} {cell : Cell} {q : ℕ} → Sides clause cell q → (l p : ℕ)
    → among l (get_or clause (moved clause cell q p).first 0) (get_or clause (moved clause cell q p).second 0)
    ≡ among l (get_or clause p 0) (other_watch clause cell q)
moved_among {clause} {cell} {q} s l p = go s.order
  where
    go : Order clause cell q s.here s.there
        → among l (get_or clause (moved clause cell q p).first 0) (get_or clause (moved clause cell q p).second 0)
        ≡ among l (get_or clause p 0) (other_watch clause cell q)
    go (forth f g m) = rw (m p, s.there_literal)
    go (back f g m) = rw (m p, s.there_literal) (omega arith)

moved_watching : {clause : List ℕ} {cell : Cell} {q : ℕ} → (s : Sides clause cell q) → (p : ℕ) → p < length clause → (p ≡ s.there → ⊥)
    → Watching (length clause) (moved clause cell q p)
moved_watching {clause} {cell} {q} s p h n = go s.order
  where
    go : Order clause cell q s.here s.there → Watching (length clause) (moved clause cell q p)
    go (forth f g m) =
        rw (m p) (record { first_within = h; second_within = s.there_within; different = n; pointer_watched = inl refl })
    go (back f g m) =
        rw (m p)
        (record { first_within = s.there_within; second_within = h; different = λ e. n (sym e); pointer_watched = inr refl })

-- a clause stands once in the list of a watch
pub listed_once : (formula : Formula) → sound formula ≡ true → {cells : List Cell} {lists : List (List ℕ)} → Watched formula cells lists
    → (q c : ℕ)
    → 0 < times c (list_of lists q) → times c (list_of lists q) ≡ 1
listed_once formula s {cells} {lists} w q c h =
    let two : 2 ≤ size formula c = listed_size w q c h in
    let sides : Sides (clause_of formula c) (cell_at cells c) q = listed_sides w q c h in
    rw (w.listed q c, le-leb 2 (size formula c) two)
    (sides_among sides q
    ∙ ap₂ ◌+◌ (one_same (refl {a = q}))
    (one_other (sides_differ formula s c sides)))

-- A move of clause c from the list of q to a position that it does not watch keeps the structure.
module _ (formula : Formula) (s : sound formula ≡ true) (cells : List Cell) (lists : List (List ℕ)) (w : Watched formula cells lists)
    (q c : ℕ) (in_List : 0 < times c (list_of lists q))
    (position : ℕ) (within : position < size formula c) (free : watched (cell_at cells c) position ≡ false) where
  abbrev m : ℕ
  m = get_or (clause_of formula c) position 0

  abbrev after : Cell
  after = moved (clause_of formula c) (cell_at cells c) q position

  sides : Sides (clause_of formula c) (cell_at cells c) q
  sides = listed_sides w q c in_List

  two : 2 ≤ size formula c
  two = listed_size w q c in_List

  cell_exists : c < length cells
  cell_exists =
      let k : c < length formula.clauses = clause_exists formula c (let t = two in omega arith) in omega (arith, w.cells_length)

  pub cell_after : cell_at (set cells c after) c ≡ after
  cell_after = get_or-set_same cells c after no_cell cell_exists

  pub cell_others : (d : ℕ) → (d ≡ c → ⊥) → cell_at (set cells c after) d ≡ cell_at cells d
  cell_others d n = get_or-set_other cells c d after no_cell n

  pub moved_apart : m ≡ q → ⊥
  moved_apart e =
      literals_differ formula s c position sides.here within sides.here_within (unwatched_apart sides position free).0
      (e ∙ sym sides.here_literal)

  moved_other : m ≡ other_watch (clause_of formula c) (cell_at cells c) q → ⊥
  moved_other e =
      literals_differ formula s c position sides.there within sides.there_within (unwatched_apart sides position free).1
      (e ∙ sym sides.there_literal)

  q_other : q ≡ other_watch (clause_of formula c) (cell_at cells c) q → ⊥
  q_other = sides_differ formula s c sides

  q_within : q < length lists
  q_within = list_exists lists q c in_List

  m_within : m < length lists
  m_within = omega (arith, w.lists_length, literal_listed formula s c position within)

  pub moved_times : (l d : ℕ) → (d ≡ c → ⊥) → times d (list_of (push_front (take_out lists q c) m c) l) ≡ times d (list_of lists l)
  moved_times = times_others lists q m c q_within m_within moved_apart

  -- how often c stood, and how often it stands now
  stood : (l : ℕ) → times c (list_of lists l) ≡ among l q (other_watch (clause_of formula c) (cell_at cells c) q)
  stood l = rw (w.listed l c, le-leb 2 (size formula c) two) (sides_among sides l)

  stands_now : (l : ℕ) → stands formula (set cells c after) l c ≡ among l m (other_watch (clause_of formula c) (cell_at cells c) q)
  stands_now l = rw (le-leb 2 (size formula c) two, cell_after) (moved_among sides l position)

  counts : (l : ℕ) → times c (list_of (push_front (take_out lists q c) m c) l) ≡ among l m (other_watch (clause_of formula c) (cell_at cells c) q)
  counts l = go (alike l q) (alike l m)
    where
      go : (l ≡ q) ⊎ (l ≡ q → ⊥) → (l ≡ m) ⊎ (l ≡ m → ⊥)
          → times c (list_of (push_front (take_out lists q c) m c) l) ≡ among l m (other_watch (clause_of formula c) (cell_at cells c) q)
      go (inl e) k =
          rw (e, times_left lists q m c q_within m_within moved_apart, one_other (λ z. moved_apart (sym z)), one_other q_other)
      go (inr e) (inl k) =
          rw (k, times_joined lists q m c q_within m_within moved_apart, stood m, one_other moved_apart, one_other moved_other)
          (rw (one_same (refl {a = m})))
      go (inr e) (inr k) =
          rw (list_same lists q m c q_within m_within moved_apart l e k, stood l, one_other e, one_other k)

  pub moved_watched : Watched formula (set cells c after) (push_front (take_out lists q c) m c)
  moved_watched =
      record {
        cells_length = length-set cells c after ∙ w.cells_length;
        lists_length = pushed_length (take_out lists q c) m c ∙ taken_length lists q c ∙ w.lists_length;
        watching = λ d h. ⊎_elim (watching-now d h) (watching-others d h) (alike d c);
        unwatched = λ d h. cell_others d (λ e. bigger (rw e two) h) ∙ w.unwatched d h;
        listed = λ l d. ⊎_elim (listed-now l d) (listed-others l d) (alike d c);
      }
    where
      bigger : {n : ℕ} → 2 ≤ n → n < 2 → ⊥
      bigger h k = omega arith

      watching-now : (d : ℕ) → 2 ≤ size formula d → d ≡ c → Watching (size formula d) (cell_at (set cells c after) d)
      watching-now d h e = rw (e, cell_after) (moved_watching sides position within (unwatched_apart sides position free).1)

      watching-others : (d : ℕ) → 2 ≤ size formula d → (d ≡ c → ⊥) → Watching (size formula d) (cell_at (set cells c after) d)
      watching-others d h e = rw (cell_others d e) (w.watching d h)

      listed-now : (l d : ℕ) → d ≡ c → times d (list_of (push_front (take_out lists q c) m c) l) ≡ stands formula (set cells c after) l d
      listed-now l d e = rw e (counts l ∙ sym (stands_now l))

      listed-others : (l d : ℕ) → (d ≡ c → ⊥)
          → times d (list_of (push_front (take_out lists q c) m c) l) ≡ stands formula (set cells c after) l d
      listed-others l d e = rw (moved_times l d e, cell_others d e) (w.listed l d)

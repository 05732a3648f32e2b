-- The checks of one clause in one period: what a visit does to them, and their ceiling.
use Prim.Native.Nat.{ℕ, ◌+◌, ◌-◌, ◌≤◌, ◌<◌}
use native.Mathlib.Omega.{arith}
use mathlib.Core.Path.{◌≡◌, refl, sym, ◌∙◌, ap}
use mathlib.Core.Logic.{◌⊎◌, inl, inr, ⊎_elim}
use mathlib.Core.Bool.{Bool, true, false}
use mathlib.Core.List.{List, ◌∷◌}
use mathlib.Core.Option.{some}
use lib.Dec.{eqb, ltb}
use lib.ListN.{length, get_or}
use borrow.Author.Tests.{eqb-true, ltb-true, ltb-false}
use Rattle.base.proofs.Bools.{either, never}
use Rattle.run.specs.Trail.{Entry, opposite, is_true, is_false}
use Rattle.run.specs.Scan.{Cell, watched, scan}
use Rattle.run.specs.Run.{other_watch, moved, Action, stays, moves, implies, conflicts, action}
use Rattle.run.specs.Valid.{Watching}
use Rattle.run.specs.Ceiling.{ceiling}
use Rattle.run.proofs.Circle.{steps, steps_add, steps_after, full_circle}
use Rattle.run.proofs.ScanLaws.{passed, Reached, first_watched, second_watched, watched_passed, false_passed, scan_found, scan_reaches, scan_checks, pointer_within}
use Rattle.run.proofs.Trails.{place_true, place_new, true_grows}
use Rattle.run.proofs.WatchLists.{Order, forth, back, Sides}
use Rattle.run.proofs.Actions.{Case, staying, moving, implying, conflicting, action_case}

abbrev pub first_of : List ℕ → Cell → ℕ
first_of clause cell = get_or clause cell.first 0

abbrev pub second_of : List ℕ → Cell → ℕ
second_of clause cell = get_or clause cell.second 0

-- a clause that is visited in the list of q: one of its watches is q, which is false
pub record VisitedClause (trail : List Entry) (clause : List ℕ) (cell : Cell) (q : ℕ) : Type 0 where
  pub watching : Watching (length clause) cell
  pub sides : Sides clause cell q
  pub q_false : is_false trail q ≡ true
  pub q_untrue : is_true trail q ≡ false

-- some steps, less than a circle, from start to position, over positions that are watched or false
pub record Rolled (trail : List Entry) (clause : List ℕ) (cell : Cell) (start distance position : ℕ) : Type 0 where
  pub start_within : start < length clause
  pub within : distance < length clause
  pub there : steps (length clause) distance start ≡ position
  pub all_passed : (j : ℕ) → j < distance → passed trail clause cell (steps (length clause) j start) ≡ true

-- The state of a clause in a period that began with the count `before`. Either no scan has failed: the pointer has rolled from where it was
-- when the period began, and each check is one of its steps. Or one has: then a watch is true, and no scan follows.
pub data Spending (clause : List ℕ) (before : ℕ) (trail : List Entry) (cell : Cell) (count : ℕ) : Type 0 where
  rolling : (start distance : ℕ) → Rolled trail clause cell start distance cell.pointer → count ≤ before + distance
      → Spending clause before trail cell count
  spent : (is_true trail (first_of clause cell) ≡ true) ⊎ (is_true trail (second_of clause cell) ≡ true)
      → count ≤ before + ceiling (length clause) → Spending clause before trail cell count

-- a period begins
pub spending_begins : (clause : List ℕ) (trail : List Entry) (cell : Cell) (count : ℕ) → cell.pointer < length clause
    → Spending clause count trail cell count
unfolding steps
spending_begins clause trail cell count h =
    rolling cell.pointer 0
    (record { start_within = h; within = omega arith; there = refl; all_passed = λ j g. absurd (omega arith) }) (omega arith)

pub spending_within : (clause : List ℕ) (before : ℕ) (trail : List Entry) (cell : Cell) (count : ℕ) → 2 ≤ length clause
    → Spending clause before trail cell count → count ≤ before + ceiling (length clause)
spending_within clause before trail cell count h (rolling start distance r few) = omega (arith, r.within)
spending_within clause before trail cell count h (spent t few) = few

-- a trail that grows
passed_stays : (e : Entry) (trail : List Entry) (clause : List ℕ) (cell : Cell) (position : ℕ) → passed trail clause cell position ≡ true
    → passed (e ∷ trail) clause cell position ≡ true
passed_stays e trail clause cell position h =
    ⊎_elim (watched_passed (e ∷ trail) clause cell position)
    (λ f. false_passed (e ∷ trail) clause cell position (true_grows e trail (opposite (get_or clause position 0)) f))
    (either (watched cell position) (is_false trail (get_or clause position 0)) h)

pub spending_stays : (e : Entry) (clause : List ℕ) (before : ℕ) (trail : List Entry) (cell : Cell) (count : ℕ)
    → Spending clause before trail cell count → Spending clause before (e ∷ trail) cell count
spending_stays e clause before trail cell count (rolling start distance r few) =
    rolling start distance
    (record {
      start_within = r.start_within;
      within = r.within;
      there = r.there;
      all_passed = λ j h. passed_stays e trail clause cell (steps (length clause) j start) (r.all_passed j h);
    })
    few
spending_stays e clause before trail cell count (spent (inl t) few) = spent (inl (true_grows e trail (first_of clause cell) t)) few
spending_stays e clause before trail cell count (spent (inr t) few) = spent (inr (true_grows e trail (second_of clause cell) t)) few

newest_true : (e : Entry) (trail : List Entry) → is_true (e ∷ trail) e.literal ≡ true
newest_true e trail = place_true (e ∷ trail) e.literal (omega (arith, place_new e trail))

-- where a watch is true, the other one is: the clause is not scanned
other_true : (trail : List Entry) (clause : List ℕ) (cell : Cell) (q : ℕ) → VisitedClause trail clause cell q
    → (is_true trail (first_of clause cell) ≡ true) ⊎ (is_true trail (second_of clause cell) ≡ true) → is_true trail (other_watch clause cell q) ≡ true
other_true trail clause cell q v t = go v.sides.order t
  where
    here : (p : ℕ) → p ≡ v.sides.here → is_true trail (get_or clause p 0) ≡ true → is_true trail (other_watch clause cell q) ≡ true
    here p e h = absurd (never h (rw (e, v.sides.here_literal) v.q_untrue))

    there : (p : ℕ) → p ≡ v.sides.there → is_true trail (get_or clause p 0) ≡ true → is_true trail (other_watch clause cell q) ≡ true
    there p e h = rw (e, v.sides.there_literal) at h

    go : Order clause cell q v.sides.here v.sides.there
        → (is_true trail (first_of clause cell) ≡ true) ⊎ (is_true trail (second_of clause cell) ≡ true) → is_true trail (other_watch clause cell q) ≡ true
    go (forth f g m) (inl h) = here cell.first f h
    go (forth f g m) (inr h) = there cell.second g h
    go (back f g m) (inl h) = there cell.first f h
    go (back f g m) (inr h) = here cell.second g h

-- a watch is the other one
other_side : (P : ℕ → Type 0) (clause : List ℕ) (cell : Cell) (q : ℕ) → Sides clause cell q → P (other_watch clause cell q)
    → P (first_of clause cell) ⊎ P (second_of clause cell)
other_side P clause cell q s h = go s.order
  where
    there : (p : ℕ) → p ≡ s.there → P (get_or clause p 0)
    there p e = rw (e, s.there_literal) h

    go : Order clause cell q s.here s.there → P (first_of clause cell) ⊎ P (second_of clause cell)
    go (forth f g m) = inr (there cell.second g)
    go (back f g m) = inl (there cell.first f)

-- a move takes the pointer along, and keeps what is passed: the watch that moves away was on q, which is false
moved_pointer : (clause : List ℕ) (cell : Cell) (q to : ℕ) → Sides clause cell q → (moved clause cell q to).pointer ≡ to
moved_pointer clause cell q to s = go s.order
  where
    go : Order clause cell q s.here s.there → (moved clause cell q to).pointer ≡ to
    go (forth f g m) = ap (λ (cell : Cell). cell.pointer) (m to)
    go (back f g m) = ap (λ (cell : Cell). cell.pointer) (m to)

watched_cases : (cell : Cell) (position : ℕ) → watched cell position ≡ true → (position ≡ cell.first) ⊎ (position ≡ cell.second)
unfolding watched
watched_cases cell position h =
    ⊎_elim (λ e. inl (eqb-true position cell.first e)) (λ e. inr (eqb-true position cell.second e))
    (either (eqb position cell.first) (eqb position cell.second) h)

passed_moved : (trail : List Entry) (clause : List ℕ) (cell : Cell) (q to position : ℕ) → VisitedClause trail clause cell q
    → passed trail clause cell position ≡ true → passed trail clause (moved clause cell q to) position ≡ true
passed_moved trail clause cell q to position v h = by_cases (either (watched cell position) (is_false trail (get_or clause position 0)) h)
  where
    after : Cell
    after = moved clause cell q to

    here : position ≡ v.sides.here → passed trail clause after position ≡ true
    here e = false_passed trail clause after position (rw (e, v.sides.here_literal) v.q_false)

    go : Order clause cell q v.sides.here v.sides.there → (position ≡ cell.first) ⊎ (position ≡ cell.second)
        → passed trail clause after position ≡ true
    go (forth f g m) (inl e) = here (e ∙ f)
    go (forth f g m) (inr e) = rw (m to) (watched_passed trail clause _ position (second_watched _ position (e ∙ g)))
    go (back f g m) (inl e) = rw (m to) (watched_passed trail clause _ position (first_watched _ position (e ∙ f)))
    go (back f g m) (inr e) = here (e ∙ g)

    by_cases : (watched cell position ≡ true) ⊎ (is_false trail (get_or clause position 0) ≡ true) → passed trail clause after position ≡ true
    by_cases (inl w) = go v.sides.order (watched_cases cell position w)
    by_cases (inr f) = false_passed trail clause after position f

-- a successful scan rolls on: it can't go past the start again, since all positions up to the pointer were passed
roll_on : (trail : List Entry) (clause : List ℕ) (cell : Cell) (made position start distance : ℕ) → passed trail clause cell position ≡ false
    → (r : Reached trail clause cell made position) → Rolled trail clause cell start distance cell.pointer
    → Rolled trail clause cell start (distance + r.distance) position
roll_on trail clause cell made position start distance new r o =
    record {
      start_within = o.start_within;
      within = inside (ltb further (length clause)) refl;
      there = there;
      all_passed = between;
    }
  where
    further : ℕ
    further = distance + r.distance

    there : steps (length clause) further start ≡ position
    there = steps_add (length clause) distance r.distance start ∙ ap (λ (x : ℕ). steps (length clause) r.distance x) o.there ∙ r.there

    inside : (t : Bool) → ltb further (length clause) ≡ t → further < length clause
    inside true e = ltb-true _ _ e
    inside false e =
        let over : length clause ≤ further = ltb-false _ _ e in
        let again : steps (length clause) (further - length clause) start ≡ position =
        ap (λ (x : ℕ). steps (length clause) (further - length clause) x) (sym (full_circle (length clause) start o.start_within))
        ∙ sym (steps_after (length clause) (length clause) further start over) ∙ there in
        let old : passed trail clause cell position ≡ true = rw again at (o.all_passed (further - length clause) (omega (arith, r.within))) in
        absurd (never old new)

    between : (j : ℕ) → j < further → passed trail clause cell (steps (length clause) j start) ≡ true
    between j h = go (ltb j distance) refl
      where
        go : (t : Bool) → ltb j distance ≡ t → passed trail clause cell (steps (length clause) j start) ≡ true
        go true e = o.all_passed j (ltb-true _ _ e)
        go false e =
            let beyond : distance ≤ j = ltb-false _ _ e in
            rw (steps_after (length clause) distance j start beyond, o.there) (r.before (j - distance) (omega arith))

-- what a visit leaves, by what becomes of the clause; the count grows by the checks made, or by less where it saturates
abbrev pub Spent : List ℕ → ℕ → List Entry → Cell → ℕ → ℕ → Action → Type 0
Spent clause before trail cell count q stays = Spending clause before trail cell count
Spent clause before trail cell count q (moves position made) =
    (more : ℕ) → more ≤ count + made → Spending clause before trail (moved clause cell q position) more
Spent clause before trail cell count q (implies made) =
    (more : ℕ) → more ≤ count + made
    → Spending clause before (record { literal = other_watch clause cell q; decided = false } ∷ trail) cell more
Spent clause before trail cell count q (conflicts made) = (more : ℕ) → more ≤ count + made → more ≤ before + ceiling (length clause)

module _ (clause : List ℕ) (before : ℕ) (trail : List Entry) (cell : Cell) (count q : ℕ) (v : VisitedClause trail clause cell q) where
  -- a clause that is scanned has seen no failed scan in this period
  still_rolling : is_true trail (other_watch clause cell q) ≡ false → Spending clause before trail cell count
      → (start : ℕ) × (distance : ℕ) × Rolled trail clause cell start distance cell.pointer × (count ≤ before + distance)
  still_rolling e (rolling start distance r few) = (start, distance, r, few)
  still_rolling e (spent t few) = absurd (never (other_true trail clause cell q v t) e)

  move_spends : (position start distance : ℕ) → (scan trail clause cell).found ≡ some position
      → Rolled trail clause cell start distance cell.pointer → count ≤ before + distance
      → Spent clause before trail cell count q (moves position (scan trail clause cell).checks)
  move_spends position start distance found o few more h =
      rolling start (distance + r.distance)
      (record {
        start_within = on.start_within;
        within = on.within;
        there = on.there ∙ sym (moved_pointer clause cell q position v.sides);
        all_passed = λ j g. passed_moved trail clause cell q position (steps (length clause) j start) v (on.all_passed j g);
      })
      (omega (arith, r.few))
    where
      r : Reached trail clause cell (scan trail clause cell).checks position
      r = scan_reaches trail clause cell position v.watching found

      new : passed trail clause cell position ≡ false
      new =
          let (within, unwatched, unfalse) = scan_found trail clause cell position (pointer_within (length clause) cell v.watching) found in
          rw (unwatched, unfalse) refl

      on : Rolled trail clause cell start (distance + r.distance) position
      on = roll_on trail clause cell (scan trail clause cell).checks position start distance new r o

  failed_within : (start distance more : ℕ) → Rolled trail clause cell start distance cell.pointer → count ≤ before + distance
      → more ≤ count + (scan trail clause cell).checks → more ≤ before + ceiling (length clause)
  failed_within start distance more o few h = omega (arith, o.within, scan_checks trail clause cell v.watching)

  imply_spends : (start distance : ℕ) → Rolled trail clause cell start distance cell.pointer → count ≤ before + distance
      → Spent clause before trail cell count q (implies (scan trail clause cell).checks)
  imply_spends start distance o few more h =
      spent (other_side (λ l. is_true (entry ∷ trail) l ≡ true) clause cell q v.sides (newest_true entry trail))
      (failed_within start distance more o few h)
    where
      entry : Entry
      entry = record { literal = other_watch clause cell q; decided = false }

  pub visit_spends : Spending clause before trail cell count → Spent clause before trail cell count q (action trail clause cell q)
  visit_spends s = go (action_case trail clause cell q)
    where
      go : {a : Action} → Case trail clause cell q a → Spent clause before trail cell count q a
      go (staying t) = s
      go (moving position u f) = let (start, distance, o, few) = still_rolling u s in move_spends position start distance f o few
      go (implying u f n) = let (start, distance, o, few) = still_rolling u s in imply_spends start distance o few
      go (conflicting u f n) =
          let (start, distance, o, few) = still_rolling u s in
          λ more h. failed_within start distance more o few h

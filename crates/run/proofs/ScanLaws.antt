-- What a scan finds and how many checks it makes.
use Prim.Native.Nat.{ℕ, zero, suc, ◌+◌, ◌-◌, ◌≤◌, ◌<◌}
use native.Mathlib.Omega.{arith}
use mathlib.Core.Path.{◌≡◌, refl, sym, ◌∙◌}
use mathlib.Core.Logic.{◌⊎◌, inl, inr}
use mathlib.Core.Bool.{Bool, true, false, cond, ◌||◌, or-true, true≢false}
use mathlib.Core.List.{List}
use mathlib.Core.Option.{none, some}
use lib.Dec.{ltb}
use lib.ListN.{length, get_or}
use borrow.Author.Tests.{eq-eqb, ltb-true, ltb-false}
use Rattle.run.specs.Trail.{Entry, is_false}
use Rattle.run.specs.Scan.{Cell, Scanned, watched, next, one_more, scan_from, scan}
use Rattle.run.specs.Valid.{Watching}
use Rattle.run.proofs.Circle.{steps, next_within, steps_within, every_met, met_last, others_met}

pub first_watched : (cell : Cell) (position : ℕ) → position ≡ cell.first → watched cell position ≡ true
unfolding watched
first_watched cell position e = rw (eq-eqb position cell.first e) refl

pub second_watched : (cell : Cell) (position : ℕ) → position ≡ cell.second → watched cell position ≡ true
unfolding watched
second_watched cell position e = rw (eq-eqb position cell.second e, or-true)

pub pointer_is_watched : (n : ℕ) (cell : Cell) → Watching n cell → watched cell cell.pointer ≡ true
pointer_is_watched n cell w = go w.pointer_watched
  where
    go : (cell.pointer ≡ cell.first) ⊎ (cell.pointer ≡ cell.second) → watched cell cell.pointer ≡ true
    go (inl e) = first_watched cell cell.pointer e
    go (inr e) = second_watched cell cell.pointer e

pub pointer_within : (n : ℕ) (cell : Cell) → Watching n cell → cell.pointer < n
pointer_within n cell w = go w.pointer_watched
  where
    go : (cell.pointer ≡ cell.first) ⊎ (cell.pointer ≡ cell.second) → cell.pointer < n
    go (inl e) = omega arith
    go (inr e) = omega arith

-- a position that a scan passes: watched or false
abbrev pub passed : List Entry → List ℕ → Cell → ℕ → Bool
passed trail clause cell position = watched cell position || is_false trail (get_or clause position 0)

-- A scan from `from` that found a position: it is neither watched nor false, those before it are passed, and only positions up to it were checked.
record Found (trail : List Entry) (clause : List ℕ) (cell : Cell) (from left made position : ℕ) : Type 0 where
  distance : ℕ
  within : distance < left
  there : steps (length clause) distance from ≡ position
  not_watched : watched cell position ≡ false
  not_false : is_false trail (get_or clause position 0) ≡ false
  few : made ≤ suc distance
  before : (j : ℕ) → j < distance → passed trail clause cell (steps (length clause) j from) ≡ true

module _ (trail : List Entry) (clause : List ℕ) (cell : Cell) where
  -- induction over a scan: at its end, at a watched position, at a false one, and at the one that is found
  scan_induction : (P : ℕ → ℕ → Scanned → Type 0) → ((x : ℕ) → P zero x (record { found = none; checks = 0 }))
      → ((left x : ℕ) (rest : Scanned) → watched cell x ≡ true → P left (next (length clause) x) rest → P (suc left) x rest)
      → ((left x : ℕ) (rest : Scanned) → watched cell x ≡ false → is_false trail (get_or clause x 0) ≡ true
      → P left (next (length clause) x) rest → P (suc left) x (one_more rest))
      → ((left x : ℕ) → watched cell x ≡ false → is_false trail (get_or clause x 0) ≡ false
      → P (suc left) x (record { found = some x; checks = 1 }))
      → (left x : ℕ) → P left x (scan_from trail clause cell left x)
  unfolding scan_from
  scan_induction P ends passes fails hits zero x = ends x
  scan_induction P ends passes fails hits (suc left) x =
      go (watched cell x) refl (is_false trail (get_or clause x 0)) refl
      (scan_induction P ends passes fails hits left (next (length clause) x))
    where
      go : (w : Bool) → watched cell x ≡ w → (f : Bool) → is_false trail (get_or clause x 0) ≡ f
          → P left (next (length clause) x) (scan_from trail clause cell left (next (length clause) x))
          → P (suc left) x
          (cond w (scan_from trail clause cell left (next (length clause) x))
          (cond f (one_more (scan_from trail clause cell left (next (length clause) x))) (record { found = some x; checks = 1 })))
      go true e f g rest = passes left x _ e rest
      go false e true g rest = fails left x _ e g rest
      go false e false g rest = hits left x e g

  -- every position up to a distance is passed, where the first one is and those up to one less from the next one on are
  passed_first : (left x : ℕ) → passed trail clause cell x ≡ true
      → ((j : ℕ) → j < left → passed trail clause cell (steps (length clause) j (next (length clause) x)) ≡ true)
      → (j : ℕ) → j < suc left → passed trail clause cell (steps (length clause) j x) ≡ true
  unfolding steps
  passed_first left x here rest zero h = here
  passed_first left x here rest (suc j) h = rest j (omega arith)

  pub watched_passed : (x : ℕ) → watched cell x ≡ true → passed trail clause cell x ≡ true
  watched_passed x e = rw e refl

  pub false_passed : (x : ℕ) → is_false trail (get_or clause x 0) ≡ true → passed trail clause cell x ≡ true
  false_passed x e = rw (e, or-true)

  found_later : (left x made more position : ℕ) → passed trail clause cell x ≡ true → more ≤ suc made
      → Found trail clause cell (next (length clause) x) left made position → Found trail clause cell x (suc left) more position
  unfolding steps
  found_later left x made more position here h f =
      record {
        distance = suc f.distance;
        within = omega arith;
        there = f.there;
        not_watched = f.not_watched;
        not_false = f.not_false;
        few = omega arith;
        before = passed_first f.distance x here f.before;
      }

  found_here : (left x position : ℕ) → watched cell x ≡ false → is_false trail (get_or clause x 0) ≡ false → x ≡ position
      → Found trail clause cell x (suc left) 1 position
  unfolding steps
  found_here left x position w f e =
      record {
        distance = 0;
        within = omega arith;
        there = e;
        not_watched = rw (← e) w;
        not_false = rw (← e) f;
        few = omega arith;
        before = λ j h. absurd (omega arith);
      }

  abbrev FoundBy : ℕ → ℕ → Scanned → Type 0
  FoundBy left x s = (position : ℕ) → s.found ≡ some position → Found trail clause cell x left s.checks position

  found_from : (left x : ℕ) → FoundBy left x (scan_from trail clause cell left x)
  unfolding one_more
  found_from = scan_induction FoundBy
      (λ x position e. absurd (let z : ◌≡◌ {A = ℕ} 0 1 = cc in omega arith))
      (λ left x rest w later position e. found_later left x rest.checks rest.checks position (watched_passed x w) (omega arith) (later position e))
      (λ left x rest w f later position e. found_later left x rest.checks (suc rest.checks) position (false_passed x f) (omega arith) (later position e))
      (λ left x w f position e. found_here left x position w f (cc))

  abbrev NoneBy : ℕ → ℕ → Scanned → Type 0
  NoneBy left x s = s.found ≡ none → (j : ℕ) → j < left → passed trail clause cell (steps (length clause) j x) ≡ true

  none_from : (left x : ℕ) → NoneBy left x (scan_from trail clause cell left x)
  unfolding one_more
  none_from = scan_induction NoneBy
      (λ x e j h. absurd (omega arith))
      (λ left x rest w later e. passed_first left x (watched_passed x w) (later e))
      (λ left x rest w f later e. passed_first left x (false_passed x f) (later e))
      (λ left x w f e j h. absurd (let z : ◌≡◌ {A = ℕ} 0 1 = cc in omega arith))

  -- at most one check at a position, and none at a watched one
  record Few (left x made : ℕ) : Type 0 where
    few : made ≤ left
    one_watched : (j : ℕ) → j < left → watched cell (steps (length clause) j x) ≡ true → made + 1 ≤ left
    two_watched : (i j : ℕ) → i < j → j < left → watched cell (steps (length clause) i x) ≡ true
        → watched cell (steps (length clause) j x) ≡ true → made + 2 ≤ left

  few_passed : (left x made : ℕ) → Few left (next (length clause) x) made → Few (suc left) x made
  unfolding steps
  few_passed left x made f = record { few = omega arith; one_watched = λ j h w. omega arith; two_watched = two }
    where
      two : (i j : ℕ) → i < j → j < suc left → watched cell (steps (length clause) i x) ≡ true
          → watched cell (steps (length clause) j x) ≡ true → made + 2 ≤ suc left
      two i zero h k v w = absurd (omega arith)
      two i (suc j) h k v w = omega (arith, f.one_watched j (omega arith) w)

  few_checked : (left x made : ℕ) → watched cell x ≡ false → Few left (next (length clause) x) made → Few (suc left) x (suc made)
  unfolding steps
  few_checked left x made e f = record { few = omega arith; one_watched = one; two_watched = two }
    where
      one : (j : ℕ) → j < suc left → watched cell (steps (length clause) j x) ≡ true → suc made + 1 ≤ suc left
      one zero h w = absurd (true≢false (sym w ∙ e))
      one (suc j) h w = omega (arith, f.one_watched j (omega arith) w)

      two : (i j : ℕ) → i < j → j < suc left → watched cell (steps (length clause) i x) ≡ true
          → watched cell (steps (length clause) j x) ≡ true → suc made + 2 ≤ suc left
      two zero j h k v w = absurd (true≢false (sym v ∙ e))
      two (suc i) zero h k v w = absurd (omega arith)
      two (suc i) (suc j) h k v w = omega (arith, f.two_watched i j (omega arith) (omega arith) v w)

  few_found : (left x : ℕ) → watched cell x ≡ false → Few (suc left) x 1
  unfolding steps
  few_found left x e = record { few = omega arith; one_watched = one; two_watched = two }
    where
      one : (j : ℕ) → j < suc left → watched cell (steps (length clause) j x) ≡ true → 1 + 1 ≤ suc left
      one zero h w = absurd (true≢false (sym w ∙ e))
      one (suc j) h w = omega arith

      two : (i j : ℕ) → i < j → j < suc left → watched cell (steps (length clause) i x) ≡ true
          → watched cell (steps (length clause) j x) ≡ true → 1 + 2 ≤ suc left
      two zero j h k v w = absurd (true≢false (sym v ∙ e))
      two (suc i) j h k v w = omega arith

  few_from : (left x : ℕ) → Few left x (scan_from trail clause cell left x).checks
  unfolding one_more
  few_from = scan_induction (λ left x s. Few left x s.checks)
      (λ x. record { few = omega arith; one_watched = λ j h w. omega arith; two_watched = λ i j h k v w. omega arith })
      (λ left x rest w h. few_passed left x rest.checks h)
      (λ left x rest w f h. few_checked left x rest.checks w h)
      (λ left x w f. few_found left x w)

pub scan_found : (trail : List Entry) (clause : List ℕ) (cell : Cell) (position : ℕ) → cell.pointer < length clause
    → (scan trail clause cell).found ≡ some position
    → (position < length clause) × (watched cell position ≡ false) × (is_false trail (get_or clause position 0) ≡ false)
unfolding scan
scan_found trail clause cell position h e = (
  rw f.there at (steps_within (length clause) f.distance (next (length clause) cell.pointer) (next_within (length clause) cell.pointer h)),
  f.not_watched,
  f.not_false,
)
  where
    f : Found trail clause cell (next (length clause) cell.pointer) (length clause) (scan trail clause cell).checks position
    f = found_from trail clause cell (length clause) (next (length clause) cell.pointer) position e

pub scan_none : (trail : List Entry) (clause : List ℕ) (cell : Cell) → cell.pointer < length clause → (scan trail clause cell).found ≡ none
    → (position : ℕ) → position < length clause → watched cell position ≡ false → is_false trail (get_or clause position 0) ≡ true
unfolding scan
scan_none trail clause cell h e position within unwatched =
    let from : ℕ = next (length clause) cell.pointer in
    let (k, k-within, there) = every_met (length clause) from position (next_within (length clause) cell.pointer h) within in
    let p : passed trail clause cell position ≡ true = rw there at (none_from trail clause cell (length clause) from e k k-within) in
    rw unwatched at p

pub scan_checks : (trail : List Entry) (clause : List ℕ) (cell : Cell) → Watching (length clause) cell
    → (scan trail clause cell).checks + 2 ≤ length clause
unfolding scan
scan_checks trail clause cell w = go w.pointer_watched
  where
    by : (other : ℕ) → other < length clause → watched cell other ≡ true → (cell.pointer ≡ other → ⊥)
        → (scan_from trail clause cell (length clause) (next (length clause) cell.pointer)).checks + 2 ≤ length clause
    by other within v different =
        let p-within : cell.pointer < length clause = pointer_within (length clause) cell w in
        let (i, i-within, at_other) = others_met (length clause) cell.pointer other p-within within different in
        let last : ℕ = length clause - 1 in
        let at_pointer : steps (length clause) last (next (length clause) cell.pointer) ≡ cell.pointer =
        met_last (length clause) last cell.pointer (omega arith) p-within in
        (few_from trail clause cell (length clause) (next (length clause) cell.pointer)).two_watched i last (omega arith) (omega arith)
        (rw at_other v) (rw at_pointer (pointer_is_watched (length clause) cell w))

    go : (cell.pointer ≡ cell.first) ⊎ (cell.pointer ≡ cell.second)
        → (scan_from trail clause cell (length clause) (next (length clause) cell.pointer)).checks + 2 ≤ length clause
    go (inl e) = by cell.second w.second_within (second_watched cell cell.second refl) (λ h. w.different (sym e ∙ h))
    go (inr e) = by cell.first w.first_within (first_watched cell cell.first refl) (λ h. w.different (sym h ∙ e))

-- A successful scan, counted from the pointer: the checks are at most the steps to the position found, and every position before it, from
-- the pointer on, is passed.
pub record Reached (trail : List Entry) (clause : List ℕ) (cell : Cell) (made position : ℕ) : Type 0 where
  pub distance : ℕ
  pub within : distance < length clause
  pub there : steps (length clause) distance cell.pointer ≡ position
  pub few : made ≤ distance
  pub before : (j : ℕ) → j < distance → passed trail clause cell (steps (length clause) j cell.pointer) ≡ true

pub scan_reaches : (trail : List Entry) (clause : List ℕ) (cell : Cell) (position : ℕ) → Watching (length clause) cell
    → (scan trail clause cell).found ≡ some position → Reached trail clause cell (scan trail clause cell).checks position
unfolding scan steps
scan_reaches trail clause cell position w e =
    record {
      distance = suc f.distance;
      within = inside f.distance f.within f.there;
      there = f.there;
      few = f.few;
      before = passed_first trail clause cell f.distance cell.pointer
          (watched_passed trail clause cell cell.pointer (pointer_is_watched (length clause) cell w)) f.before;
    }
  where
    f : Found trail clause cell (next (length clause) cell.pointer) (length clause) (scan trail clause cell).checks position
    f = found_from trail clause cell (length clause) (next (length clause) cell.pointer) position e

    inside : (k : ℕ) → k < length clause → steps (length clause) k (next (length clause) cell.pointer) ≡ position → suc k < length clause
    inside k h there = go (ltb (suc k) (length clause)) refl
      where
        go : (t : Bool) → ltb (suc k) (length clause) ≡ t → suc k < length clause
        go true e = ltb-true _ _ e
        go false e =
            let last : suc k ≡ length clause = omega (arith, ltb-false (suc k) (length clause) e) in
            let same : position ≡ cell.pointer =
            sym there ∙ met_last (length clause) k cell.pointer last (pointer_within (length clause) cell w) in
            absurd (true≢false (sym (rw same (pointer_is_watched (length clause) cell w)) ∙ f.not_watched))

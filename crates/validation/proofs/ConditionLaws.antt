-- Each test of the validation holds exactly where its condition does: trail, counts, reasons, watches and pointer, fixpoint, lists, conflict.
use Prim.Native.Nat.{ℕ, zero, suc, ◌+◌, ◌*◌, ◌≤◌, ◌<◌}
use native.Mathlib.Omega.{arith}
use mathlib.Core.Bool.{Bool, true, cond, not, ◌&&◌, ◌||◌}
use mathlib.Core.List.{List, [], ◌∷◌}
use mathlib.Core.Logic.{inl, inr, ⊎_elim}
use mathlib.Core.Path.{◌≡◌, refl, sym, ◌∙◌}
use borrow.Author.Tests.{eqb-true, eqb-false, eq-eqb, ne_eqb, leb-true, le-leb, lt-leb, ltb-true, lt-ltb, not-true}
use lib.Dec.{leb, ltb, eqb}
use lib.ListN.{length, get_or, get_or-eq_default}
use Rattle.base.specs.Lists.{all, member, times, up_to}
use Rattle.base.proofs.Bools.{and_parts, alike, below, true_or_false, both, either, never}
use Rattle.base.proofs.Lists.{all_at}
use Rattle.base.proofs.Members.{position}
use Rattle.book.specs.Formula.{Formula, literal_within, sound}
use Rattle.run.specs.Trail.{Entry, opposite, place, is_true, is_false, decisions, level, lowered}
use Rattle.run.specs.Scan.{Cell}
use Rattle.run.specs.Run.{Run, clause_of, size, no_cell, cell_of, list_of}
use Rattle.run.specs.Valid.{Reason, Justified, Watching, first_watch, second_watch, standing, Guarded, WatchesHold, Fixpoint}
use Rattle.run.proofs.Trails.{true_place, place_true, place_new, place_cases, true_grows}
use Rattle.run.proofs.Clauses.{clause_exists, literal_within_lem}
use Rattle.book.proofs.SoundLaws.{literal_parts}
use Rattle.validation.specs.Validation.{has_reason, is_justified, is_watching, is_guarded, watches_hold, is_fixpoint, is_conflict, is_listed}
use Rattle.base.proofs.ForAll.{left_or, right_or, upto_at, upto_all, all_places, all-member, all_members, any_place, any_at, member-times, times-member}

-- every literal of the trail is one of the formula's
pub within_said : (v : ℕ) (trail : List Entry) → all (λ (e : Entry). literal_within v e.literal) trail ≡ true → (l : ℕ) → is_true trail l ≡ true
    → literal_within v l ≡ true
unfolding all place
within_said v [] a l h = absurd (let z = true_place [] l h in omega arith)
within_said v (e ∷ trail) a l h =
    let parts = and_parts (literal_within v e.literal) (all (λ (e : Entry). literal_within v e.literal) trail) a in
    ⊎_elim (λ p. rw (← p.0) parts.0)
    (λ p. within_said v trail parts.1 l (place_true trail l (rw p.1 at (true_place (e ∷ trail) l h))))
    (place_cases e trail l)

pub within_tests : (v : ℕ) (trail : List Entry) → ((l : ℕ) → is_true trail l ≡ true → literal_within v l ≡ true)
    → all (λ (e : Entry). literal_within v e.literal) trail ≡ true
unfolding all
within_tests v [] w = refl
within_tests v (e ∷ trail) w =
    both (w e.literal (place_true (e ∷ trail) e.literal (rw (place_new e trail) (omega arith))))
    (within_tests v trail (λ l h. w l (true_grows e trail l h)))

-- the counts
pub counts_said : (n : ℕ) (checks : List ℕ) → all (λ (k : ℕ). leb k n) checks ≡ true → (c : ℕ) → get_or checks c 0 ≤ n
counts_said n checks a c =
    ⊎_elim (λ h. leb-true (get_or checks c 0) n (all_at (λ (k : ℕ). leb k n) checks 0 a c h))
    (λ h. let z : get_or checks c 0 ≡ 0 = get_or-eq_default checks 0 h in omega arith)
    (below c (length checks))

pub counts_test : (n : ℕ) (checks : List ℕ) → ((c : ℕ) → get_or checks c 0 ≤ n) → all (λ (k : ℕ). leb k n) checks ≡ true
counts_test n checks w = all_places (λ (k : ℕ). leb k n) checks 0 (λ i h. le-leb (get_or checks i 0) n (w i))

-- reasons
module _ (formula : Formula) (trail : List Entry) (l : ℕ) where
  abbrev other : ℕ → Bool
  other m = eqb m l || is_false trail m

  abbrev reason : List ℕ → Bool
  reason clause = member l clause && all other clause

  reason_said : has_reason formula trail l ≡ true → Reason formula trail l
  unfolding has_reason
  reason_said e =
      let k = any_place reason formula.clauses [] e in
      let parts = and_parts (member l (clause_of formula k.0)) (all other (clause_of formula k.0)) k.2 in
      record {
        clause = k.0;
        holds = parts.0;
        others = λ m h n. ⊎_elim (λ q. absurd (n (eqb-true m l q))) (λ q. q)
            (either (eqb m l) (is_false trail m) (all-member other (clause_of formula k.0) parts.1 m h));
      }

  reason_tests : Reason formula trail l → has_reason formula trail l ≡ true
  unfolding has_reason
  reason_tests r =
      any_at reason formula.clauses [] r.clause exists
      (both r.holds (all_members other (clause_of formula r.clause)
      (λ m h. ⊎_elim (λ q. left_or (is_false trail m) (eq-eqb m l q)) (λ n. right_or (eqb m l) (r.others m h n)) (alike m l))))
    where
      exists : r.clause < length formula.clauses
      exists = clause_exists formula r.clause (let k = position l (clause_of formula r.clause) r.holds in omega arith)

pub justified_said : (formula : Formula) (trail : List Entry) → is_justified formula trail ≡ true → Justified formula trail
unfolding is_justified
justified_said formula [] e = tt
justified_said formula (e ∷ trail) h =
    let parts = and_parts (e.decided || has_reason formula trail e.literal) (is_justified formula trail) h in (
      λ n. ⊎_elim (λ q. absurd (never q n)) (reason_said formula trail e.literal)
          (either e.decided (has_reason formula trail e.literal) parts.0),
      justified_said formula trail parts.1,
    )

pub justified_tests : (formula : Formula) (trail : List Entry) → Justified formula trail → is_justified formula trail ≡ true
unfolding is_justified
justified_tests formula [] j = refl
justified_tests formula (e ∷ trail) j =
    both
    (⊎_elim (left_or (has_reason formula trail e.literal))
    (λ n. right_or e.decided (reason_tests formula trail e.literal (j.0 n)))
    (true_or_false e.decided))
    (justified_tests formula trail j.1)

-- watches and pointer
module _ (n : ℕ) (cell : Cell) where
  abbrev pointed : Bool
  pointed = eqb cell.pointer cell.first || eqb cell.pointer cell.second

  pub watching_said : 2 ≤ n → is_watching n cell ≡ true → Watching n cell
  unfolding is_watching
  watching_said two e =
      let whole : (ltb cell.first n && ltb cell.second n && not (eqb cell.first cell.second) && pointed) ≡ true
      = rw (le-leb 2 n two) at e in
      let a = and_parts (ltb cell.first n && ltb cell.second n && not (eqb cell.first cell.second)) pointed whole in
      let b = and_parts (ltb cell.first n && ltb cell.second n) (not (eqb cell.first cell.second)) a.0 in
      let d = and_parts (ltb cell.first n) (ltb cell.second n) b.0 in
      record {
        first_within = ltb-true cell.first n d.0;
        second_within = ltb-true cell.second n d.1;
        different = eqb-false cell.first cell.second (not-true (eqb cell.first cell.second) b.1);
        pointer_watched = ⊎_elim (λ q. inl (eqb-true cell.pointer cell.first q)) (λ q. inr (eqb-true cell.pointer cell.second q))
            (either (eqb cell.pointer cell.first) (eqb cell.pointer cell.second) a.1);
      }

  pub watching_tests : 2 ≤ n → Watching n cell → is_watching n cell ≡ true
  unfolding is_watching
  watching_tests two w =
      rw (le-leb 2 n two, lt-ltb cell.first n w.first_within, lt-ltb cell.second n w.second_within, ne_eqb cell.first cell.second w.different)
      (⊎_elim (λ q. left_or (eqb cell.pointer cell.second) (eq-eqb cell.pointer cell.first q))
      (λ q. right_or (eqb cell.pointer cell.first) (eq-eqb cell.pointer cell.second q)) w.pointer_watched)

  pub unwatched_said : n < 2 → is_watching n cell ≡ true → cell ≡ no_cell
  unfolding is_watching
  unwatched_said few e =
      let whole : (eqb cell.first 0 && eqb cell.second 0 && eqb cell.pointer 0) ≡ true = rw (lt-leb 2 n few) at e in
      let a = and_parts (eqb cell.first 0 && eqb cell.second 0) (eqb cell.pointer 0) whole in
      let b = and_parts (eqb cell.first 0) (eqb cell.second 0) a.0 in
      none (eqb-true cell.first 0 b.0) (eqb-true cell.second 0 b.1) (eqb-true cell.pointer 0 a.1)
    where
      none : cell.first ≡ 0 → cell.second ≡ 0 → cell.pointer ≡ 0 → cell ≡ no_cell
      none p q r =
          let whole : cell ≡ record { first = cell.first; second = cell.second; pointer = cell.pointer } = refl in
          whole ∙ rw (p, q, r)

pub unwatched_tests : (n : ℕ) → n < 2 → is_watching n no_cell ≡ true
unfolding is_watching
unwatched_tests n few = rw (lt-leb 2 n few)

-- the fixpoint
module _ (trail : List Entry) (a b : ℕ) where
  guarded-said : (x y : ℕ) → is_guarded trail x y ≡ true → Guarded trail x y
  unfolding is_guarded
  guarded-said x y e =
      let p = and_parts (is_false trail x && is_true trail y) (leb (level trail y) (level trail (opposite x))) e in
      let q = and_parts (is_false trail x) (is_true trail y) p.0 in
      (q.0, q.1, leb-true (level trail y) (level trail (opposite x)) p.1)

  guarded_tests : (x y : ℕ) → Guarded trail x y → is_guarded trail x y ≡ true
  unfolding is_guarded
  guarded_tests x y g = both (both g.0 g.1) (le-leb (level trail y) (level trail (opposite x)) g.2)

  hold_said : watches_hold trail a b ≡ true → WatchesHold trail a b
  unfolding watches_hold
  hold_said e =
      ⊎_elim
      (λ n. let p = and_parts (not (is_false trail a)) (not (is_false trail b)) n in
      inl (not-true (is_false trail a) p.0, not-true (is_false trail b) p.1))
      (λ g. inr (⊎_elim (λ h. inl (guarded-said a b h)) (λ h. inr (guarded-said b a h)) (either (is_guarded trail a b) (is_guarded trail b a) g)))
      (either (not (is_false trail a) && not (is_false trail b)) (is_guarded trail a b || is_guarded trail b a) e)

  hold_tests : WatchesHold trail a b → watches_hold trail a b ≡ true
  unfolding watches_hold
  hold_tests (inl n) = rw (n.0, n.1)
  hold_tests (inr (inl g)) =
      right_or (not (is_false trail a) && not (is_false trail b)) (left_or (is_guarded trail b a) (guarded_tests a b g))
  hold_tests (inr (inr g)) =
      right_or (not (is_false trail a) && not (is_false trail b)) (right_or (is_guarded trail a b) (guarded_tests b a g))

module _ (formula : Formula) (run : Run) (trail : List Entry) where
  abbrev unit : ℕ → ℕ
  unit c = get_or (clause_of formula c) 0 0

  abbrev unit_true : ℕ → Bool
  unit_true c = is_true trail (unit c) && eqb (level trail (unit c)) 0

  abbrev hold_at : ℕ → Bool
  hold_at c = watches_hold trail (first_watch formula run c) (second_watch formula run c)

  abbrev fixpoint_at : ℕ → Bool
  fixpoint_at c = cond (eqb (size formula c) 1) (unit_true c) (cond (leb 2 (size formula c)) (hold_at c) true)

  fixpoint_said : is_fixpoint formula run trail ≡ true → Fixpoint formula run trail
  unfolding is_fixpoint
  fixpoint_said e =
      record {
        units_true = λ c u. (and_parts (is_true trail (unit c)) (eqb (level trail (unit c)) 0) (one_literal c u)).0;
        units_level = λ c u. eqb-true (level trail (unit c)) 0 (and_parts (is_true trail (unit c)) (eqb (level trail (unit c)) 0) (one_literal c u)).1;
        watches = λ c two. hold_said trail (first_watch formula run c) (second_watch formula run c) (more-literals c two);
      }
    where
      at : (c : ℕ) → 0 < size formula c → fixpoint_at c ≡ true
      at c h = upto_at (length formula.clauses) fixpoint_at e c (clause_exists formula c h)

      one_literal : (c : ℕ) → size formula c ≡ 1 → unit_true c ≡ true
      one_literal c u = rw (eq-eqb (size formula c) 1 u) at (at c (omega arith))

      more-literals : (c : ℕ) → 2 ≤ size formula c → hold_at c ≡ true
      more-literals c two = rw (ne_eqb (size formula c) 1 (λ u. omega arith), le-leb 2 (size formula c) two) at (at c (omega arith))

  fixpoint_tests : Fixpoint formula run trail → is_fixpoint formula run trail ≡ true
  unfolding is_fixpoint
  fixpoint_tests s = upto_all (length formula.clauses) fixpoint_at (λ c h. ⊎_elim (one_literal c) (λ n. ⊎_elim (more-literals c n) (none c n) (below 1 (size formula c))) (alike (size formula c) 1))
    where
      one_literal : (c : ℕ) → size formula c ≡ 1 → fixpoint_at c ≡ true
      one_literal c u = rw (eq-eqb (size formula c) 1 u) (both (s.units_true c u) (eq-eqb (level trail (unit c)) 0 (s.units_level c u)))

      more-literals : (c : ℕ) → (size formula c ≡ 1 → ⊥) → 2 ≤ size formula c → fixpoint_at c ≡ true
      more-literals c n two =
          rw (ne_eqb (size formula c) 1 n, le-leb 2 (size formula c) two)
          (hold_tests trail (first_watch formula run c) (second_watch formula run c) (s.watches c two))

      none : (c : ℕ) → (size formula c ≡ 1 → ⊥) → size formula c ≤ 1 → fixpoint_at c ≡ true
      none c n few = rw (ne_eqb (size formula c) 1 n, lt-leb 2 (size formula c) (omega arith))

-- the lists
times_none : (x : ℕ) (xs : List ℕ) → (member x xs ≡ true → ⊥) → times x xs ≡ 0
times_none x xs n = ⊎_elim (λ h. absurd (n (times-member x xs h))) (λ h. omega arith) (below 0 (times x xs))

-- a literal that is no watch of a clause has it nowhere
standing_none : (formula : Formula) (run : Run) (l c : ℕ) → size formula c < 2 → standing formula run l c ≡ 0
standing_none formula run l c few = rw (lt-leb 2 (size formula c) few)

standing_other : (formula : Formula) (run : Run) (l c : ℕ) → (l ≡ first_watch formula run c → ⊥) → (l ≡ second_watch formula run c → ⊥)
    → standing formula run l c ≡ 0
standing_other formula run l c n m =
    ⊎_elim (standing_none formula run l c)
    (λ two.
    rw (le-leb 2 (size formula c) two, ne_eqb l (first_watch formula run c) n, ne_eqb l (second_watch formula run c) m)) (below (size formula c) 2)

standing_size : (formula : Formula) (run : Run) (l c : ℕ) → 0 < standing formula run l c → 2 ≤ size formula c
standing_size formula run l c h =
    ⊎_elim (λ few. absurd (let z = standing_none formula run l c few in omega arith)) (λ two. two) (below (size formula c) 2)

module _ (formula : Formula) (run : Run) where
  abbrev in_range : ℕ → Bool
  in_range c = ltb c (length formula.clauses)

  abbrev counted : ℕ → ℕ → Bool
  counted l c = eqb (times c (list_of run.lists l)) (standing formula run l c)

  abbrev listed_at : ℕ → Bool
  listed_at l = all in_range (list_of run.lists l) && up_to (length formula.clauses) (counted l)

  pub listed_said : sound formula ≡ true → length run.lists ≡ 2 * formula.variables + 2
      → ((c : ℕ) → 2 ≤ size formula c → Watching (size formula c) (cell_of run c))
      → is_listed formula run ≡ true → (l c : ℕ) → times c (list_of run.lists l) ≡ standing formula run l c
  unfolding is_listed times
  listed_said s long watching e l c = ⊎_elim one_of_them none-of-them (below l (2 * formula.variables + 2))
    where
      one_of_them : l < 2 * formula.variables + 2 → times c (list_of run.lists l) ≡ standing formula run l c
      one_of_them h =
          let parts = and_parts (all in_range (list_of run.lists l)) (up_to (length formula.clauses) (counted l))
          (upto_at (2 * formula.variables + 2) listed_at e l h) in
          ⊎_elim
          (λ k. eqb-true (times c (list_of run.lists l)) (standing formula run l c) (upto_at (length formula.clauses) (counted l) parts.1 c k))
          (λ k.
          let out : clause_of formula c ≡ [] = get_or-eq_default formula.clauses [] k in
          times_none c (list_of run.lists l)
          (λ m. let z = ltb-true c (length formula.clauses) (all-member in_range (list_of run.lists l) parts.0 c m) in omega arith)
          ∙ sym (standing_none formula run l c (rw out (omega arith))))
          (below c (length formula.clauses))

      apart : 2 * formula.variables + 2 ≤ l → (i : ℕ) → i < size formula c → l ≡ get_or (clause_of formula c) i 0 → ⊥
      apart h i k q = let b = literal_parts formula.variables (get_or (clause_of formula c) i 0) (literal_within_lem formula s c i k) in omega arith

      none-of-them : 2 * formula.variables + 2 ≤ l → times c (list_of run.lists l) ≡ standing formula run l c
      none-of-them h =
          let out : list_of run.lists l ≡ [] = get_or-eq_default run.lists [] (omega arith) in
          rw out (sym (⊎_elim (standing_none formula run l c)
          (λ two. standing_other formula run l c (apart h (cell_of run c).first (watching c two).first_within) (apart h (cell_of run c).second (watching c two).second_within))
          (below (size formula c) 2)))

  pub listed_tests : ((l c : ℕ) → times c (list_of run.lists l) ≡ standing formula run l c) → is_listed formula run ≡ true
  unfolding is_listed
  listed_tests listed =
      upto_all (2 * formula.variables + 2) listed_at
      (λ l h.
      both
      (all_members in_range (list_of run.lists l)
      (λ c m.
      let there : 0 < standing formula run l c = rw (← listed l c) (member-times c (list_of run.lists l) m) in
      let two = standing_size formula run l c there in
      lt-ltb c (length formula.clauses) (clause_exists formula c (omega arith))))
      (upto_all (length formula.clauses) (counted l) (λ c k. eq-eqb (times c (list_of run.lists l)) (standing formula run l c) (listed l c))))

-- in conflict and out of it
pub record Stands (formula : Formula) (run : Run) : Type 0 where
  pub fixpoint : run.conflict ≡ 0 → Fixpoint formula run run.trail
  pub conflict_false : (c : ℕ) → run.conflict ≡ suc c
      → (0 < size formula c) × ((m : ℕ) → member m (clause_of formula c) ≡ true → is_false run.trail m ≡ true)
  pub fixpoint_below : (c : ℕ) → run.conflict ≡ suc c → 0 < length (decisions run.trail) → Fixpoint formula run (lowered run.trail)

module _ (formula : Formula) (run : Run) where
  abbrev undecided : Bool
  undecided = eqb (length (decisions run.trail)) 0

  pub conflict_said : (name : ℕ) → run.conflict ≡ name → is_conflict formula run name ≡ true → Stands formula run
  unfolding is_conflict
  conflict_said zero q e =
      record {
        fixpoint = λ z. fixpoint_said formula run run.trail e;
        conflict_false = λ c z. absurd (omega arith);
        fixpoint_below = λ c z. absurd (omega arith);
      }
  conflict_said (suc d) q e =
      let a = and_parts (leb 1 (size formula d) && all (is_false run.trail) (clause_of formula d)) (undecided || is_fixpoint formula run (lowered run.trail)) e in
      let b = and_parts (leb 1 (size formula d)) (all (is_false run.trail) (clause_of formula d)) a.0 in
      record {
        fixpoint = λ z. absurd (omega arith);
        conflict_false = λ c z.
            let same : c ≡ d = omega arith in
            rw same (leb-true 1 (size formula d) b.0, all-member (is_false run.trail) (clause_of formula d) b.1);
        fixpoint_below = λ c z some.
            ⊎_elim (λ u. absurd (let n = eqb-true (length (decisions run.trail)) 0 u in omega arith))
            (fixpoint_said formula run (lowered run.trail))
            (either undecided (is_fixpoint formula run (lowered run.trail)) a.1);
      }

  pub conflict_tests : (name : ℕ) → run.conflict ≡ name → Stands formula run → is_conflict formula run name ≡ true
  unfolding is_conflict
  conflict_tests zero q t = fixpoint_tests formula run run.trail (t.fixpoint q)
  conflict_tests (suc d) q t =
      let f = t.conflict_false d q in
      both (both (le-leb 1 (size formula d) f.0) (all_members (is_false run.trail) (clause_of formula d) f.1))
      (⊎_elim (λ u. left_or (is_fixpoint formula run (lowered run.trail)) (eq-eqb (length (decisions run.trail)) 0 u))
      (λ n. right_or undecided (fixpoint_tests formula run (lowered run.trail) (t.fixpoint_below d q (omega arith))))
      (alike (length (decisions run.trail)) 0))

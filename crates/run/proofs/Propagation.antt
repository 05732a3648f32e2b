-- The invariants of propagation: what holds when some trail literals are handled, and what that gives for a valid run.
use Prim.Native.Nat.{ℕ, suc, ◌≤◌, ◌<◌, ◌+◌, min}
use native.Mathlib.Omega.{arith}
use mathlib.Core.Bool.{true, false, not}
use mathlib.Core.List.{List, ◌∷◌}
use mathlib.Core.Logic.{◌⊎◌, inl, inr, ⊎_elim}
use mathlib.Core.Path.{◌≡◌, sym, ◌∙◌, ap}
use lib.ListN.{length, get_or, length-set}
use Rattle.base.specs.Lists.{member, distinct}
use Rattle.base.proofs.Bools.{true_or_false, both}
use Rattle.base.proofs.Lists.{get_or-set_cases}
use Rattle.book.specs.Formula.{Formula, literal_within}
use Rattle.run.specs.Trail.{Entry, opposite, place, is_false, decisions, level, lowered, variables_on}
use Rattle.run.specs.Scan.{Cell}
use Rattle.run.specs.Run.{Run, clause_of, size, max_count, add_checks}
use Rattle.run.specs.Valid.{Guarded, WatchesHold, Fixpoint, Valid, Reason}
use Rattle.run.specs.Progress.{Guard, BothGuarded, Pending, Trailed, Counted, Structure, Going}
use Rattle.run.proofs.Trails.{PlaceCase, true_place, place_true, untrue_place, place_cases, place_within, true_unfalse, off_trail}
use Rattle.run.proofs.Levels.{newer, whole, suffix_length, suffix_place, suffix_on, suffix_level, lowered_suffix, lower_level, below_top}

pub guarded_swap : {trail : List Entry} {h a b : ℕ} → BothGuarded trail h a b → BothGuarded trail h b a
guarded_swap k = record { forth = k.back; back = k.forth }

-- with all literals handled it is the condition of a valid run
pub guarded_holds : {trail : List Entry} {h a b : ℕ} → BothGuarded trail h a b → length trail ≤ h → WatchesHold trail a b
guarded_holds {trail} {h} {a} {b} k all = go (true_or_false (is_false trail a)) (true_or_false (is_false trail b))
  where
    guarded : (x y : ℕ) → Guard trail h x y → is_false trail x ≡ true → Guarded trail x y
    guarded x y g f =
        let r = g (true_place trail (opposite x) f) (let w = place_within trail (opposite x) in omega arith) in
        (f, place_true trail y r.0, r.1)

    go : (is_false trail a ≡ true) ⊎ (is_false trail a ≡ false) → (is_false trail b ≡ true) ⊎ (is_false trail b ≡ false) → WatchesHold trail a b
    go (inl f) s = inr (inl (guarded a b k.forth f))
    go (inr f) (inl s) = inr (inr (guarded b a k.back s))
    go (inr f) (inr s) = inl (f, s)

pub holds_guarded : {trail : List Entry} {a b : ℕ} → distinct (variables_on trail) ≡ true → WatchesHold trail a b → (h : ℕ) → BothGuarded trail h a b
holds_guarded {trail} {a} {b} d w h = go w
  where
    unfalse : (x y : ℕ) → is_false trail x ≡ false → Guard trail h x y
    unfalse x y f p q = absurd (let z = untrue_place trail (opposite x) f in omega arith)

    guard : (x y : ℕ) → Guarded trail x y → Guard trail h x y
    guard x y g p q = (true_place trail y g.1, g.2)

    go : WatchesHold trail a b → BothGuarded trail h a b
    go (inl n) = record { forth = unfalse a b n.0; back = unfalse b a n.1 }
    go (inr (inl g)) = record { forth = guard a b g; back = unfalse b a (true_unfalse trail d b g.1) }
    go (inr (inr g)) = record { forth = unfalse a b (true_unfalse trail d a g.1); back = guard b a g }

-- one entry more, of a literal that was not on the trail: old places and levels stay
pub old_stays : (e : Entry) (trail : List Entry) → place trail e.literal ≡ 0 → (l : ℕ) → 0 < place trail l
    → (place (e ∷ trail) l ≡ place trail l) × (level (e ∷ trail) l ≡ level trail l)
old_stays e trail new l h = go (place_cases e trail l)
  where
    go : PlaceCase e trail l
        → (place (e ∷ trail) l ≡ place trail l) × (level (e ∷ trail) l ≡ level trail l)
    go (inl p) = absurd (let z : place trail l ≡ 0 = rw (← p.0) new in omega arith)
    go (inr p) = (p.1, sym (suffix_level (newer e whole) l (let w = place_within trail l in omega arith)))

pub guarded_push : {trail : List Entry} {h a b : ℕ} (e : Entry) → place trail e.literal ≡ 0 → h ≤ length trail → BothGuarded trail h a b
    → BothGuarded (e ∷ trail) h a b
guarded_push {trail} {h} {a} {b} e new within k = record { forth = guard a b k.forth; back = guard b a k.back }
  where
    guard : (x y : ℕ) → Guard trail h x y → Guard (e ∷ trail) h x y
    guard x y g p q =
        let old : place trail (opposite x) ≡ place (e ∷ trail) (opposite x) = suffix_place (newer e whole) (opposite x) (omega arith) in
        let old-level : level trail (opposite x) ≡ level (e ∷ trail) (opposite x)
        = suffix_level (newer e whole) (opposite x) (omega arith) in
        let r = g (omega arith) (omega arith) in
        let stays = old_stays e trail new y r.0 in
        (omega arith, omega arith)

-- the trail without its top level keeps the condition, if the handled literals reach that far
pub guarded_lowered : {trail : List Entry} {h a b : ℕ} → distinct (variables_on trail) ≡ true → 0 < length (decisions trail)
    → length (lowered trail) ≤ h
    → BothGuarded trail h a b → (h' : ℕ) → BothGuarded (lowered trail) h' a b
guarded_lowered {trail} {h} {a} {b} d some low k h' = record { forth = guard a b k.forth; back = guard b a k.back }
  where
    guard : (x y : ℕ) → Guard trail h x y → Guard (lowered trail) h' x y
    guard x y g p q =
        let on : place trail (opposite x) ≡ place (lowered trail) (opposite x) = suffix_on (lowered_suffix trail) (opposite x) d p in
        let within = place_within (lowered trail) (opposite x) in
        let r = g (omega arith) (omega arith) in
        let below = lower_level trail (opposite x) some (omega arith) in
        let there : place trail y ≤ length (lowered trail) = below_top trail y (omega arith) in
        let same_place : place (lowered trail) y ≡ place trail y = suffix_place (lowered_suffix trail) y there in
        let same-level : level (lowered trail) y ≡ level trail y = suffix_level (lowered_suffix trail) y there in
        let x-level : level (lowered trail) (opposite x) ≡ level trail (opposite x)
        = suffix_level (lowered_suffix trail) (opposite x) (omega arith) in
        (omega arith, omega arith)

-- one entry more, of a literal that was not on the trail
pub pending_push : {formula : Formula} {cells : List Cell} {trail : List Entry} {handled : ℕ} (e : Entry) → place trail e.literal ≡ 0
    → handled ≤ length trail → length (lowered (e ∷ trail)) ≤ handled → Pending formula cells trail handled
    → Pending formula cells (e ∷ trail) handled
pending_push {formula} {cells} {trail} {handled} e off within low p =
    record {
      units_on = λ c u. rw (old_stays e trail off (get_or (clause_of formula c) 0 0) (p.units_on c u)).0 (p.units_on c u);
      units_level = λ c u. (old_stays e trail off (get_or (clause_of formula c) 0 0) (p.units_on c u)).1 ∙ p.units_level c u;
      guarded = λ c two. guarded_push e off within (p.guarded c two);
      low = low;
    }

-- all handled: the trail is at its fixpoint, and at the fixpoint all is handled
pub propagation : {formula : Formula} {trail : List Entry} {handled : ℕ} (run : Run) → Pending formula run.cells trail handled
    → length trail ≤ handled
    → Fixpoint formula run trail
propagation {formula} {trail} run p all =
    record {
      units_true = λ c u. place_true trail (get_or (clause_of formula c) 0 0) (p.units_on c u);
      units_level = p.units_level;
      watches = λ c t. guarded_holds (p.guarded c t) all;
    }

pub unfixed : {formula : Formula} {trail : List Entry} (run : Run) → distinct (variables_on trail) ≡ true → Fixpoint formula run trail
    → Pending formula run.cells trail (length trail)
unfixed {formula} {trail} run d s =
    record {
      units_on = λ c u. true_place trail (get_or (clause_of formula c) 0 0) (s.units_true c u);
      units_level = s.units_level;
      guarded = λ c t. holds_guarded d (s.watches c t) (length trail);
      low = suffix_length (lowered_suffix trail);
    }

-- the trail without its top level is all handled
pub pending_lowered : {formula : Formula} {cells : List Cell} {trail : List Entry} {handled : ℕ} → distinct (variables_on trail) ≡ true
    → 0 < length (decisions trail) → Pending formula cells trail handled → Pending formula cells (lowered trail) (length (lowered trail))
pending_lowered {formula} {cells} {trail} {handled} d some p =
    record {
      units_on = λ c u. rw (suffix_place (lowered_suffix trail) (get_or (clause_of formula c) 0 0) (down c u)) (p.units_on c u);
      units_level = λ c u. suffix_level (lowered_suffix trail) (get_or (clause_of formula c) 0 0) (down c u) ∙ p.units_level c u;
      guarded = λ c t. guarded_lowered d some p.low (p.guarded c t) (length (lowered trail));
      low = suffix_length (lowered_suffix (lowered trail));
    }
  where
    down : (c : ℕ) → size formula c ≡ 1 → place trail (get_or (clause_of formula c) 0 0) ≤ length (lowered trail)
    down c u = below_top trail (get_or (clause_of formula c) 0 0) (let z = p.units_level c u in omega arith)

pub valid_structure : {formula : Formula} {run : Run} → Valid formula run → Structure formula run
valid_structure v =
    record {
      watched =
          record {
            cells_length = v.cells_length;
            lists_length = v.lists_length;
            watching = v.watching;
            unwatched = v.unwatched;
            listed = v.listed;
          };
      trailed = record { within = v.trail_within_lem; once = v.trail_distinct; justified = v.justified };
      counted =
          record {
            checks_length = v.checks_length;
            checks_within_lem = v.checks_within_lem;
            backtracks_within_lem = v.backtracks_within_lem;
          };
      fixed_within_lem = v.fixed_within_lem;
    }

-- the counts after some more checks
pub checks_added : {formula : Formula} {checks : List ℕ} {backtracks : ℕ} (c made : ℕ) → Counted formula checks backtracks
    → Counted formula (add_checks checks c made) backtracks
unfolding add_checks
checks_added {formula} {checks} c made k =
    record {
      checks_length = length-set checks c (min (get_or checks c 0 + made) max_count) ∙ k.checks_length;
      checks_within_lem =
          λ d. ⊎_elim (λ e. rw e (k.checks_within_lem d)) (λ e. rw e.1 (omega arith))
          (get_or-set_cases checks c d (min (get_or checks c 0 + made) max_count) 0);
      backtracks_within_lem = k.backtracks_within_lem;
    }

-- the trail with one entry more, of a variable that is not on it
pub trailed_push : {formula : Formula} {trail : List Entry} (e : Entry) → Trailed formula trail
    → literal_within formula.variables e.literal ≡ true
    → place trail e.literal ≡ 0 → place trail (opposite e.literal) ≡ 0 → (e.decided ≡ false → Reason formula trail e.literal)
    → Trailed formula (e ∷ trail)
unfolding distinct
trailed_push {formula} {trail} e t w off off' reason =
    record {
      within = λ l h. within-now l (true_place (e ∷ trail) l h) (place_cases e trail l);
      once = both (ap not (off_trail trail e.literal off off')) t.once;
      justified = (reason, t.justified);
    }
  where
    within-now : (l : ℕ) → 0 < place (e ∷ trail) l
        → PlaceCase e trail l
        → literal_within formula.variables l ≡ true
    within-now l h (inl p) = rw (← p.0) w
    within-now l h (inr p) = t.within l (place_true trail l (rw p.1 at h))

-- a valid run out of its structure and its state
pub structure_valid : {formula : Formula} {run : Run} → Structure formula run
    → (run.conflict ≡ 0 → Fixpoint formula run run.trail)
    → ((c : ℕ) → run.conflict ≡ suc c
    → (0 < size formula c) × ((m : ℕ) → member m (clause_of formula c) ≡ true → is_false run.trail m ≡ true))
    → ((c : ℕ) → run.conflict ≡ suc c → 0 < length (decisions run.trail) → Fixpoint formula run (lowered run.trail))
    → Valid formula run
structure_valid s fixpoint conflict_false fixpoint_below =
    record {
      trail_within_lem = s.trailed.within;
      cells_length = s.watched.cells_length;
      lists_length = s.watched.lists_length;
      checks_length = s.counted.checks_length;
      checks_within_lem = s.counted.checks_within_lem;
      backtracks_within_lem = s.counted.backtracks_within_lem;
      fixed_within_lem = s.fixed_within_lem;
      trail_distinct = s.trailed.once;
      justified = s.trailed.justified;
      watching = s.watched.watching;
      unwatched = s.watched.unwatched;
      listed = s.watched.listed;
      fixpoint = fixpoint;
      conflict_false = conflict_false;
      fixpoint_below = fixpoint_below;
    }

-- all handled is valid
pub going_valid : {formula : Formula} {handled : ℕ} {run : Run} → Going formula handled run → length run.trail ≤ handled
    → Valid formula run
going_valid {formula} {handled} {run} g all =
    structure_valid g.structure
    (λ q. propagation run g.pending all)
    (λ c e. absurd (let z = g.quiet in omega arith))
    (λ c e. absurd (let z = g.quiet in omega arith))

-- Propagation ends in a valid run, and a decision and a backtrack keep a run valid.
use Prim.Native.Nat.{ℕ, zero, suc, ◌+◌, ◌/◌, ◌≤◌, ◌<◌}
use native.Mathlib.Omega.{arith}
use mathlib.Core.Bool.{Bool, true, false, cond, ◌&&◌}
use mathlib.Core.List.{List, [], ◌∷◌}
use mathlib.Core.Logic.{◌⊎◌, inl, inr, ⊎_elim}
use mathlib.Core.Path.{◌≡◌, refl, sym, ◌∙◌}
use borrow.Author.Tests.{eq-eqb, le-leb, leb-true, leb-false}
use lib.Dec.{leb, eqb}
use lib.ListN.{length, length-map, length-drop}
use Rattle.base.specs.Lists.{distinct, times}
use Rattle.base.proofs.Bools.{and_parts, never, neither_left, neither_right}
use Rattle.base.proofs.Pigeonhole.{pigeonhole}
use Rattle.book.specs.Formula.{Formula, variable_of, literal_within, sound}
use Rattle.book.proofs.SoundLaws.{literal_parts}
use Rattle.run.specs.Trail.{Entry, opposite, place, literal_at, is_true, is_false, is_assigned, decisions, lowered, cut, variables_on}
use Rattle.run.specs.Scan.{Cell}
use Rattle.run.specs.Run.{Run, size, list_of, on_trail, visit, in_conflict, propagate_from, propagate, decide, backtrack, fix}
use Rattle.run.specs.Calls.{decide_refusal, backtrack_refusal, fix_refusal, max_backtracks}
use Rattle.run.specs.Valid.{one, Justified, Fixpoint, Valid}
use Rattle.run.specs.Progress.{second_literal, first_literal, among, Guard, BothGuarded, Pending, Trailed, Going, Ended, ReadingList}
use Rattle.run.proofs.Trails.{untrue_place, place_of_literal, place_injective, variable_on, place_true}
use Rattle.run.proofs.Inductions.{read_induction, next_read, read_next, propagate_induction, enough_fuel}
use Rattle.run.proofs.Conflicts.{quiet_out, out_quiet}
use Rattle.run.proofs.Propagation.{pending_push, pending_lowered, unfixed, valid_structure, going_valid, trailed_push}
use Rattle.run.proofs.Visits.{visit_outcome}
use Rattle.run.proofs.Opposites.{opposite_opposite, opposite_injective}
use Rattle.run.proofs.Levels.{Suffix, whole, newer, suffix_distinct, lowered_cases, lowered_suffix, lowered_count, suffix_true, cut_suffix, cut_decisions, decided_count}

-- the trail holds no more literals than there are variables
pub trail_short : {formula : Formula} {trail : List Entry} → Trailed formula trail → length trail ≤ formula.variables
trail_short {formula} {trail} t =
    rw (← length-map trail (λ (e : Entry). variable_of e.literal))
    (pigeonhole formula.variables (variables_on trail) t.once (λ x m. within x (variable_on trail x m)))
  where
    within : (x : ℕ) → (l : ℕ) × (0 < place trail l) × (variable_of l ≡ x) → (1 ≤ x) × (x ≤ formula.variables)
    within x k =
        let w = literal_parts formula.variables k.0 (t.within k.0 (place_true trail k.0 k.1)) in
        let e : k.0 / 2 ≡ x = k.2 in
        (omega arith, omega arith)

-- a clause that stands in no list of q watches another literal
unlisted : (l a b : ℕ) → among l a b ≡ 0 → (l ≡ a → ⊥) × (l ≡ b → ⊥)
unlisted l a b z =
    (λ e. let o : one (eqb l a) ≡ 1 = rw (eq-eqb l a e) in omega arith, λ e. let o : one (eqb l b) ≡ 1 = rw (eq-eqb l b e) in omega arith)

-- its condition goes on over the opposite of q
guarded_next : {trail : List Entry} {handled q a b : ℕ} → place trail (opposite q) ≡ suc handled → (q ≡ a → ⊥) → (q ≡ b → ⊥)
    → BothGuarded trail handled a b
    → BothGuarded trail (suc handled) a b
guarded_next {trail} {handled} {q} {a} {b} at n m k = record { forth = guard a b n k.forth; back = guard b a m k.back }
  where
    guard : (x y : ℕ) → (q ≡ x → ⊥) → Guard trail handled x y → Guard trail (suc handled) x y
    guard x y apart g p h =
        let other : place trail (opposite x) ≡ suc handled → ⊥
        = λ e. apart (opposite_injective q x (place_injective trail (opposite q) (opposite x) (omega arith) (at ∙ sym e))) in
        g p (omega arith)

-- reading begins
pub reading_begins : {formula : Formula} {handled : ℕ} {run : Run} → Going formula handled run → handled < length run.trail
    → ReadingList formula handled (next_read handled run) (list_of run.lists (next_read handled run)) run
reading_begins {formula} {handled} {run} g h =
    record {
      going = g;
      next = at;
      read = λ c two z. rest c two (unlisted q (first c) (second c) (sym (watched-by c two) ∙ z));
      left = λ c. omega arith;
    }
  where
    q : ℕ
    q = next_read handled run

    first : ℕ → ℕ
    first c = first_literal formula run.cells c

    second : ℕ → ℕ
    second c = second_literal formula run.cells c

    watched-by : (c : ℕ) → 2 ≤ size formula c → times c (list_of run.lists q) ≡ among q (first c) (second c)
    watched-by c two = rw (g.structure.watched.listed q c, le-leb 2 (size formula c) two)

    at : place run.trail (opposite q) ≡ suc handled
    at =
        rw (opposite_opposite (literal_at run.trail (suc handled)))
        (place_of_literal run.trail handled g.structure.trailed.once h)

    rest : (c : ℕ) → 2 ≤ size formula c → (q ≡ first c → ⊥) × (q ≡ second c → ⊥) → BothGuarded run.trail (suc handled) (first c) (second c)
    rest c two n = guarded_next at n.0 n.1 (g.pending.guarded c two)

pub reading_ends : {formula : Formula} {handled q : ℕ} {run : Run} → ReadingList formula handled q [] run → Going formula (suc handled) run
unfolding times
reading_ends {formula} {handled} {q} {run} r =
    record {
      structure = r.going.structure;
      quiet = r.going.quiet;
      pending =
          record {
            units_on = r.going.pending.units_on;
            units_level = r.going.pending.units_level;
            guarded = λ c two. r.read c two refl;
            low = omega (arith, r.going.pending.low);
          };
    }

module _ (formula : Formula) (s : sound formula ≡ true) where
  pub reads : (handled : ℕ) (run : Run) → Going formula handled run → handled < length run.trail
      → Going formula (suc handled) (read_next formula handled run) ⊎ Ended formula (read_next formula handled run)
  reads handled run g h =
      ⊎_elim (λ r. inl (reading_ends r)) inr
      (read_induction formula q (ReadingList formula handled q) (Ended formula)
      (λ c unread r k z. ⊎_elim (λ o. o) (λ o. absurd (never o.loud z)) (visit_outcome formula s handled q c unread r k))
      (λ c unread r k z.
      ⊎_elim (λ o. absurd (never z (quiet_out (visit formula q c r) o.going.quiet))) (λ o. o) (visit_outcome formula s handled q c unread r k))
      (list_of run.lists q) run (reading_begins g h))
    where
      q : ℕ
      q = next_read handled run

  pub short : (handled : ℕ) (run : Run) → Going formula handled run → length run.trail ≤ formula.variables
  short handled run g = trail_short g.structure.trailed

  -- propagating ends with a valid run, and any fuel over the number of variables gives the same
  pub propagated : (handled : ℕ) (run : Run) → Going formula handled run ⊎ Ended formula run → Valid formula (propagate formula handled run)
  propagated handled run state =
      ⊎_elim (λ done. going_valid done.1 done.2) (λ e. e.valid)
      (propagate_induction formula (Going formula) (Ended formula) formula.variables (λ h r g. quiet_out r g.quiet) (λ r e. e.loud)
      short reads
      (suc formula.variables) handled run (omega arith) state)

  pub fuel_enough : (extra handled : ℕ) (run : Run) → Going formula handled run ⊎ Ended formula run
      → propagate_from (suc formula.variables + extra) formula handled run ≡ propagate formula handled run
  fuel_enough extra handled run state =
      enough_fuel formula (Going formula) (Ended formula) formula.variables (λ h r g. quiet_out r g.quiet)
      (λ r e. e.loud) short reads
      (suc formula.variables + extra) (suc formula.variables) handled run (omega arith) (omega arith) state

-- what an accepted decision says
pub record Accepted (formula : Formula) (l : ℕ) (run : Run) : Type 0 where
  pub literal_within_lem : literal_within formula.variables l ≡ true
  pub quiet : run.conflict ≡ 0
  pub untrue : is_true run.trail l ≡ false
  pub unfalse : is_false run.trail l ≡ false

pub decision_accepted : (formula : Formula) (l : ℕ) (run : Run) → decide_refusal formula l run ≡ 0 → Accepted formula l run
unfolding decide_refusal
decision_accepted formula l run z = go (literal_within formula.variables l) refl (in_conflict run) refl (is_assigned run.trail l) refl z
  where
    go : (w : Bool) → literal_within formula.variables l ≡ w → (c : Bool) → in_conflict run ≡ c → (a : Bool)
        → is_assigned run.trail l ≡ a
        → ◌≡◌ {A = ℕ} (cond w (cond c 14 (cond a 15 0)) 13) 0 → Accepted formula l run
    go true p false q false r z =
        record {
          literal_within_lem = p;
          quiet = out_quiet run q;
          untrue = neither_left (is_true run.trail l) (is_false run.trail l) r;
          unfalse = neither_right (is_true run.trail l) (is_false run.trail l) r;
        }
    go true p false q true r z = absurd (omega arith)
    go true p true q a r z = absurd (omega arith)
    go false p c q a r z = absurd (omega arith)

-- a decision begins propagation with all literals before it handled
pub decision_going : {formula : Formula} {l : ℕ} {run : Run} → Valid formula run → Accepted formula l run
    → Going formula (length run.trail) (on_trail l true run)
unfolding on_trail
decision_going {formula} {l} {run} v a =
    record {
      structure =
          record {
            watched = (valid_structure v).watched;
            trailed = trailed_push e (valid_structure v).trailed a.literal_within_lem off off' (λ z. absurd (never refl z));
            counted = (valid_structure v).counted;
            fixed_within_lem = ⊎_elim (λ p. omega (arith, v.fixed_within_lem)) (λ p. omega (arith, v.fixed_within_lem)) (decided_count e run.trail);
          };
      quiet = a.quiet;
      pending = pending_push e off (omega arith) low (unfixed run v.trail_distinct (v.fixpoint a.quiet));
    }
  where
    e : Entry
    e = record { literal = l; decided = true }

    off : place run.trail l ≡ 0
    off = untrue_place run.trail l a.untrue

    off' : place run.trail (opposite l) ≡ 0
    off' = untrue_place run.trail (opposite l) a.unfalse

    low : length (lowered (e ∷ run.trail)) ≤ length run.trail
    low = ⊎_elim (λ p. rw p.1 (omega arith)) (λ p. absurd (never refl p.0)) (lowered_cases e run.trail)

pub decided_valid : (formula : Formula) (l : ℕ) (run : Run) → sound formula ≡ true → Valid formula run → Accepted formula l run
    → Valid formula (decide formula l run)
unfolding decide
decided_valid formula l run s v a = propagated formula s (length run.trail) (on_trail l true run) (inl (decision_going v a))

-- an older part of the trail keeps its conditions
justified_older : (formula : Formula) {old trail : List Entry} → Suffix old trail → Justified formula trail → Justified formula old
justified_older formula whole j = j
justified_older formula (newer e s) j = justified_older formula s j.1

pub trailed_older : {formula : Formula} {old trail : List Entry} → Suffix old trail → Trailed formula trail → Trailed formula old
trailed_older {formula} s t =
    record {
      within = λ l h. t.within l (suffix_true s l h);
      once = suffix_distinct s t.once;
      justified = justified_older formula s t.justified;
    }

pending_cut : {formula : Formula} {cells : List Cell} (k : ℕ) (trail : List Entry) → distinct (variables_on trail) ≡ true
    → k ≤ length (decisions trail)
    → Pending formula cells trail (length trail) → Pending formula cells (cut k trail) (length (cut k trail))
unfolding cut
pending_cut zero trail d h p = p
pending_cut (suc k) trail d h p =
    pending_cut k (lowered trail) (suffix_distinct (lowered_suffix trail) d) (omega (arith, lowered_count trail))
    (pending_lowered d (omega arith) p)

-- below the top level of a valid run the fixpoint holds, in conflict too
pending_below : {formula : Formula} {run : Run} → Valid formula run → 0 < length (decisions run.trail)
    → Pending formula run.cells (lowered run.trail) (length (lowered run.trail))
pending_below {formula} {run} v some = go run.conflict refl
  where
    go : (name : ℕ) → run.conflict ≡ name → Pending formula run.cells (lowered run.trail) (length (lowered run.trail))
    go zero e = pending_lowered v.trail_distinct some (unfixed run v.trail_distinct (v.fixpoint e))
    go (suc c) e = unfixed run (suffix_distinct (lowered_suffix run.trail) v.trail_distinct) (v.fixpoint_below c e some)

-- what an accepted backtrack says
pub backtrack_accepted : (k : ℕ) (run : Run) → backtrack_refusal k run ≡ 0
    → (1 ≤ k) × (k + run.fixed ≤ length (decisions run.trail)) × (run.backtracks < max_backtracks)
unfolding backtrack_refusal
backtrack_accepted k run z = go (leb 1 k && leb (k + run.fixed) (length (decisions run.trail))) refl (leb max_backtracks run.backtracks) refl z
  where
    go : (w : Bool) → (leb 1 k && leb (k + run.fixed) (length (decisions run.trail))) ≡ w → (b : Bool) → leb max_backtracks run.backtracks ≡ b
        → ◌≡◌ {A = ℕ} (cond w (cond b 17 0) 16) 0 → (1 ≤ k) × (k + run.fixed ≤ length (decisions run.trail)) × (run.backtracks < max_backtracks)
    go true p false q z = (
      leb-true 1 k (and_parts (leb 1 k) (leb (k + run.fixed) (length (decisions run.trail))) p).0,
      leb-true (k + run.fixed) (length (decisions run.trail)) (and_parts (leb 1 k) (leb (k + run.fixed) (length (decisions run.trail))) p).1,
      leb-false max_backtracks run.backtracks q,
    )
    go true p true q z = absurd (omega arith)
    go false p b q z = absurd (omega arith)

-- below the last k levels a valid run is valid, in conflict too, with any figures within their bounds
pub cut_valid : {formula : Formula} (k : ℕ) (run : Run) (backtracks fixed : ℕ) → Valid formula run → 1 ≤ k → k + fixed ≤ length (decisions run.trail)
    → backtracks ≤ max_backtracks
    → Valid formula
    (record {
      trail = cut k run.trail;
      cells = run.cells;
      lists = run.lists;
      conflict = 0;
      checks = run.checks;
      backtracks = backtracks;
      fixed = fixed;
    })
unfolding cut
cut_valid {formula} zero run backtracks fixed v one most few = absurd (omega arith)
cut_valid {formula} (suc k) run backtracks fixed v one most few =
    going_valid {handled = length (cut (suc k) run.trail)}
    (record {
      structure =
          record {
            watched = (valid_structure v).watched;
            trailed = trailed_older (cut_suffix (suc k) run.trail) (valid_structure v).trailed;
            counted =
                record { checks_length = v.checks_length; checks_within_lem = v.checks_within_lem; backtracks_within_lem = few };
            fixed_within_lem = rw (cut_decisions (suc k) run.trail, length-drop) (omega arith);
          };
      quiet = refl;
      pending =
          pending_cut k (lowered run.trail) (suffix_distinct (lowered_suffix run.trail) v.trail_distinct)
          (omega (arith, lowered_count run.trail))
          (pending_below v (omega arith));
    })
    (omega arith)

pub backtracked_valid : {formula : Formula} (k : ℕ) (run : Run) → Valid formula run → 1 ≤ k → k + run.fixed ≤ length (decisions run.trail)
    → run.backtracks < max_backtracks
    → Valid formula (backtrack k run)
unfolding backtrack
backtracked_valid k run = cut_valid k run (suc run.backtracks) run.fixed

-- what an accepted fixing says, and what it leaves
pub fix_accepted : (f : ℕ) (run : Run) → fix_refusal f run ≡ 0
    → (run.conflict ≡ 0) × (run.fixed ≤ f) × (f ≤ length (decisions run.trail))
unfolding fix_refusal
fix_accepted f run z = go (in_conflict run) refl (leb run.fixed f && leb f (length (decisions run.trail))) refl z
  where
    go : (c : Bool) → in_conflict run ≡ c → (w : Bool) → (leb run.fixed f && leb f (length (decisions run.trail))) ≡ w
        → ◌≡◌ {A = ℕ} (cond c 14 (cond w 0 22)) 0 → (run.conflict ≡ 0) × (run.fixed ≤ f) × (f ≤ length (decisions run.trail))
    go false q true p z = (
      out_quiet run q,
      leb-true run.fixed f (and_parts (leb run.fixed f) (leb f (length (decisions run.trail))) p).0,
      leb-true f (length (decisions run.trail)) (and_parts (leb run.fixed f) (leb f (length (decisions run.trail))) p).1,
    )
    go false q false p z = absurd (omega arith)
    go true q w p z = absurd (omega arith)

-- of a run's parts a fixpoint is about the cells alone
pub cells_fixpoint : {formula : Formula} {trail : List Entry} (old new : Run) → new.cells ≡ old.cells → Fixpoint formula old trail → Fixpoint formula new trail
cells_fixpoint old new same h = record { units_true = h.units_true; units_level = h.units_level; watches = rw same h.watches }

pub fixed_valid : {formula : Formula} (f : ℕ) (run : Run) → Valid formula run → f ≤ length (decisions run.trail) → Valid formula (fix f run)
unfolding fix
fixed_valid f run v h =
    record {
      trail_within_lem = v.trail_within_lem;
      cells_length = v.cells_length;
      lists_length = v.lists_length;
      checks_length = v.checks_length;
      checks_within_lem = v.checks_within_lem;
      backtracks_within_lem = v.backtracks_within_lem;
      fixed_within_lem = h;
      trail_distinct = v.trail_distinct;
      justified = v.justified;
      watching = v.watching;
      unwatched = v.unwatched;
      listed = v.listed;
      fixpoint = λ quiet. cells_fixpoint run (fix f run) refl (v.fixpoint quiet);
      conflict_false = v.conflict_false;
      fixpoint_below = λ c named some. cells_fixpoint run (fix f run) refl (v.fixpoint_below c named some);
    }

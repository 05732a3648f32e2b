-- The trail that numbers hold gets shorter: the last literal leaves it, the last levels leave it.
use Prim.Native.Nat.{ℕ, zero, suc, ◌+◌, ◌*◌, ◌-◌, ◌≤◌, ◌<◌}
use native.Mathlib.Omega.{arith}
use mathlib.Core.List.{List, [], ◌∷◌}
use mathlib.Core.Logic.{◌⊎◌, inl, inr, ⊎_elim}
use mathlib.Core.Path.{◌≡◌, refl, sym, ap, ◌∙◌}
use lib.ListN.{length, get_or, set, length-set}
use lib.Seq.{get_or-set_same, get_or-set_other}
use Rattle.base.proofs.Bools.{alike, never}
use Rattle.book.specs.Formula.{variable_of}
use Rattle.run.specs.Trail.{Entry, opposite, literal_at, decisions, lowered, cut}
use Rattle.book.proofs.SoundLaws.{literal_parts}
use Rattle.run.proofs.Opposites.{opposite_variable}
use Rattle.run.proofs.Trails.{place_new, place_true, rest_distinct, true_grows}
use Rattle.run.proofs.Levels.{CountCase, decided_count, LoweredCase, lowered_cases}
use Rattle.layout.specs.Layout.{TrailFits, watches_at, trail_at, levels_at, values_at, value_number, level_number, level_before, decisions_at, length_at, value_slot}
use Rattle.layout.specs.Encodes.{TrailHeld}
use Rattle.engine.specs.Inner.Trail.{SameBeside, unassign_nums, Last, Cutting}
use Rattle.layout.proofs.TrailLaws.{literal_cases, literal_newest, level_number_old, value_number_old, held_level_before, level_behind, level_number_top, literal_behind, newest_off, value_off, zero_off}

-- the numbers after the last literal left
module _ (v : ℕ) (numbers : List ℕ) (at l level : ℕ) where
  abbrev one : List ℕ
  one = set numbers decisions_at level

  abbrev two : List ℕ
  two = set one length_at at

  abbrev three : List ℕ
  three = set two (trail_at + at) 0

  abbrev four : List ℕ
  four = set three (levels_at v + at) 0

  abbrev shorter : List ℕ
  shorter = set four (value_slot v l) 0

  shorter_other : (j : ℕ) → (j ≡ decisions_at → ⊥) → (j ≡ length_at → ⊥) → (j ≡ trail_at + at → ⊥) → (j ≡ levels_at v + at → ⊥)
      → (j ≡ value_slot v l → ⊥) → get_or shorter j 0 ≡ get_or numbers j 0
  shorter_other j n0 n1 n2 n3 n4 =
      get_or-set_other four (value_slot v l) j 0 0 n4
      ∙ get_or-set_other three (levels_at v + at) j 0 0 n3
      ∙ get_or-set_other two (trail_at + at) j 0 0 n2
      ∙ get_or-set_other one length_at j at 0 n1
      ∙ get_or-set_other numbers decisions_at j level 0 n0

  module _ (long : watches_at v ≤ length numbers) (room : at < v) (low : 2 ≤ l) (within : variable_of l ≤ v) where
    shorter-beside : SameBeside v numbers shorter
    shorter-beside =
        record {
          same_length = simp length-set;
          header = λ i low high. shorter_other i (λ q. omega arith) (λ q. omega arith) (λ q. omega arith) (λ q. omega arith) (λ q. omega arith);
          parts = λ i h. shorter_other i (λ q. omega arith) (λ q. omega arith) (λ q. omega arith) (λ q. omega arith) (λ q. omega arith);
        }

    shorter-value : get_or shorter (value_slot v l) 0 ≡ 0
    shorter-value = get_or-set_same four (value_slot v l) 0 0 (simp length-set (omega arith))

    shorter-level : get_or shorter (levels_at v + at) 0 ≡ 0
    shorter-level =
        get_or-set_other four (value_slot v l) (levels_at v + at) 0 0 (λ q. omega arith)
        ∙ get_or-set_same three (levels_at v + at) 0 0 (simp length-set (omega arith))

    shorter-literal : get_or shorter (trail_at + at) 0 ≡ 0
    shorter-literal =
        get_or-set_other four (value_slot v l) (trail_at + at) 0 0 (λ q. omega arith)
        ∙ get_or-set_other three (levels_at v + at) (trail_at + at) 0 0 (λ q. omega arith)
        ∙ get_or-set_same two (trail_at + at) 0 0 (simp length-set (omega arith))

    shorter-count : get_or shorter length_at 0 ≡ at
    shorter-count =
        get_or-set_other four (value_slot v l) length_at 0 0 (λ q. omega arith)
        ∙ get_or-set_other three (levels_at v + at) length_at 0 0 (λ q. omega arith)
        ∙ get_or-set_other two (trail_at + at) length_at 0 0 (λ q. omega arith)
        ∙ get_or-set_same one length_at at 0 (simp length-set (omega arith))

    shorter-decided : get_or shorter decisions_at 0 ≡ level
    shorter-decided =
        get_or-set_other four (value_slot v l) decisions_at 0 0 (λ q. omega arith)
        ∙ get_or-set_other three (levels_at v + at) decisions_at 0 0 (λ q. omega arith)
        ∙ get_or-set_other two (trail_at + at) decisions_at 0 0 (λ q. omega arith)
        ∙ get_or-set_other one length_at decisions_at at 0 (λ q. omega arith)
        ∙ get_or-set_same numbers decisions_at level 0 (omega arith)

-- The last literal leaves the trail that numbers hold.
module _ (v : ℕ) (numbers : List ℕ) (k : ℕ) (e : Entry) (trail : List Entry) (cutting : Cutting v numbers k (e ∷ trail)) where
  last-bounds : (2 ≤ e.literal) × (e.literal ≤ 2 * v + 1)
  last-bounds = literal_parts v e.literal (cutting.within e.literal (place_true (e ∷ trail) e.literal (omega (arith, place_new e trail))))

  last_place : get_or numbers length_at 0 - 1 ≡ length trail
  last_place = omega (arith, cutting.is_held.count)

  last_literal : get_or numbers (trail_at + length trail) 0 ≡ e.literal
  last_literal =
      cutting.is_held.literals (length trail) cutting.short
      ∙ literal_newest e trail

  last_level : level_before v numbers (length trail) ≡ length (decisions trail)
  last_level =
      let bounds = last-bounds in
      held_level_before v numbers (e ∷ trail) (length trail) cutting.is_held (zero_off v (e ∷ trail) cutting.within) (omega (arith, cutting.short))
      ∙ level_number_old e trail (length trail) (omega arith) (newest_off e trail e.literal cutting.once refl) (λ q. omega arith)
      ∙ level_number_top trail

  module _ (long : watches_at v ≤ length numbers) where
    abbrev left : List ℕ
    left = shorter v numbers (length trail) e.literal (length (decisions trail))

    module _ (i : ℕ) (h : i < v) where
      left-literal : (i ≡ length trail) ⊎ (i ≡ length trail → ⊥) → get_or left (trail_at + i) 0 ≡ literal_at trail (suc i)
      left-literal (inl q) =
          let bounds = last-bounds in
          ap (λ (j : ℕ). get_or left (trail_at + j) 0) q
          ∙ shorter-literal v numbers (length trail) e.literal (length (decisions trail)) long cutting.short bounds.0 (omega arith)
          ∙ sym (literal_behind trail (suc i) (omega arith))
      left-literal (inr n) =
          let bounds = last-bounds in
          let room : length trail < v = cutting.short in
          shorter_other v numbers (length trail) e.literal (length (decisions trail)) (trail_at + i) (λ q. omega arith) (λ q. omega arith)
          (λ q. n (omega arith)) (λ q. omega arith) (λ q. omega arith)
          ∙ cutting.is_held.literals i h
          ∙ ⊎_elim (λ p. absurd (n (omega arith))) (λ p. p.1) (literal_cases e trail (suc i))

      left-level : (i ≡ length trail) ⊎ (i ≡ length trail → ⊥) → get_or left (levels_at v + i) 0 ≡ level_number trail (suc i)
      left-level (inl q) =
          let bounds = last-bounds in
          ap (λ (j : ℕ). get_or left (levels_at v + j) 0) q
          ∙ shorter-level v numbers (length trail) e.literal (length (decisions trail)) long cutting.short bounds.0 (omega arith)
          ∙ sym (level_behind trail (suc i) (zero_off v trail (λ l t. cutting.within l (true_grows e trail l t))) (omega arith))
      left-level (inr n) =
          let bounds = last-bounds in
          let room : length trail < v = cutting.short in
          shorter_other v numbers (length trail) e.literal (length (decisions trail)) (levels_at v + i) (λ q. omega arith) (λ q. omega arith)
          (λ q. omega arith) (λ q. n (omega arith)) (λ q. omega arith)
          ∙ cutting.is_held.levels i h
          ∙ level_number_old e trail (suc i) (omega arith) (newest_off e trail e.literal cutting.once refl) (λ q. n (omega arith))

      left-value : (suc i ≡ variable_of e.literal) ⊎ (suc i ≡ variable_of e.literal → ⊥) → get_or left (values_at v + i) 0 ≡ value_number trail (suc i)
      left-value (inl q) =
          let bounds = last-bounds in
          let place_is : i ≡ variable_of e.literal - 1 = omega arith in
          ap (λ (j : ℕ). get_or left (values_at v + j) 0) place_is
          ∙ shorter-value v numbers (length trail) e.literal (length (decisions trail)) long cutting.short bounds.0 (omega arith)
          ∙ sym (value_off trail e.literal (newest_off e trail e.literal cutting.once refl) (newest_off e trail (opposite e.literal) cutting.once (opposite_variable e.literal)))
          ∙ ap (value_number trail) (sym q)
      left-value (inr n) =
          let bounds = last-bounds in
          let room : length trail < v = cutting.short in
          shorter_other v numbers (length trail) e.literal (length (decisions trail)) (values_at v + i) (λ q. omega arith) (λ q. omega arith)
          (λ q. omega arith) (λ q. omega arith) (λ q. n (omega arith))
          ∙ cutting.is_held.values i h
          ∙ value_number_old e trail (suc i) n

    left-held : TrailHeld v left trail
    left-held =
        let bounds = last-bounds in
        record {
          count = shorter-count v numbers (length trail) e.literal (length (decisions trail)) long cutting.short bounds.0 (omega arith);
          decided = shorter-decided v numbers (length trail) e.literal (length (decisions trail)) long cutting.short bounds.0 (omega arith);
          literals = λ i h. left-literal i h (alike i (length trail));
          levels = λ i h. left-level i h (alike i (length trail));
          values = λ i h. left-value i h (alike (suc i) (variable_of e.literal));
        }

    unassigned : unassign_nums v numbers ≡ left
    unassigned = rw (last_place, last_literal, last_level)

    unassign-held : TrailHeld v (unassign_nums v numbers) trail
    unassign-held = rw unassigned left-held

    unassign-beside : SameBeside v numbers (unassign_nums v numbers)
    unassign-beside =
        let bounds = last-bounds in
        rw unassigned
        (shorter-beside v numbers (length trail) e.literal (length (decisions trail)) long cutting.short bounds.0 (omega arith))

-- Some levels have left the trail, and the rest of them is to leave it.
pub record Shortening (v : ℕ) (numbers : List ℕ) (target : ℕ) (goal : List Entry) : Type 0 where
  pub rest : List Entry
  pub cutting : Cutting v numbers (length (decisions rest) - target) rest
  pub low : target ≤ length (decisions rest)
  pub same : cut (length (decisions rest) - target) rest ≡ goal

cut_none : (trail : List Entry) → cut zero trail ≡ trail
unfolding cut
cut_none trail = refl

cut_more : (k : ℕ) (trail : List Entry) → cut (suc k) trail ≡ cut k (lowered trail)
unfolding cut
cut_more k trail = refl

undecided : {n : ℕ} → n < length (decisions []) → ⊥
unfolding decisions
undecided h = omega arith

-- what is cut stays the same when the last literal of a level that is to leave leaves
cut_last : (e : Entry) (trail : List Entry) (target : ℕ) → target < length (decisions (e ∷ trail))
    → (target ≤ length (decisions trail)) × (cut (length (decisions (e ∷ trail)) - target) (e ∷ trail) ≡ cut (length (decisions trail) - target) trail)
cut_last e trail target h = go (decided_count e trail) (lowered_cases e trail)
  where
    go : CountCase e trail → LoweredCase e trail
        → (target ≤ length (decisions trail))
        × (cut (length (decisions (e ∷ trail)) - target) (e ∷ trail) ≡ cut (length (decisions trail) - target) trail)
    go (inl p) (inl q) =
        let n : length (decisions (e ∷ trail)) - target ≡ suc (length (decisions trail) - target) = omega arith in (
          omega arith,
          ap (λ (m : ℕ). cut m (e ∷ trail)) n ∙ cut_more (length (decisions trail) - target) (e ∷ trail) ∙ ap (cut (length (decisions trail) - target)) q.1,
        )
    go (inl p) (inr q) = absurd (never p.0 q.0)
    go (inr p) (inl q) = absurd (never q.0 p.0)
    go (inr p) (inr q) =
        let n : length (decisions (e ∷ trail)) - target ≡ suc (length (decisions trail) - suc target) = omega arith in
        let m : length (decisions trail) - target ≡ suc (length (decisions trail) - suc target) = omega arith in (
          omega arith,
          ap (λ (m : ℕ). cut m (e ∷ trail)) n ∙ cut_more (length (decisions trail) - suc target) (e ∷ trail)
              ∙ ap (cut (length (decisions trail) - suc target)) q.1
              ∙ sym (ap (λ (m : ℕ). cut m trail) m ∙ cut_more (length (decisions trail) - suc target) trail),
        )

-- the last literal may leave, and the rest of the levels is to leave after it
pub record Step (v : ℕ) (numbers : List ℕ) (target : ℕ) (goal : List Entry) : Type 0 where
  pub last : Last v numbers
  pub shortening : Shortening v (unassign_nums v numbers) target goal
  pub beside : SameBeside v numbers (unassign_nums v numbers)
  pub less : get_or (unassign_nums v numbers) length_at 0 < get_or numbers length_at 0

module _ {v : ℕ} {before numbers : List ℕ} (same : SameBeside v before numbers) (fits : TrailFits v before) {target : ℕ} {goal : List Entry} where
  pub shortening_step : Shortening v numbers target goal → target < get_or numbers decisions_at 0 → Step v numbers target goal
  shortening_step s h = go s.rest s.cutting s.same (rw s.cutting.is_held.decided at h)
    where
      go : (trail : List Entry) → Cutting v numbers (length (decisions trail) - target) trail
          → cut (length (decisions trail) - target) trail ≡ goal
          → target < length (decisions trail)
          → Step v numbers target goal
      go [] c q few = absurd (undecided few)
      go (e ∷ trail) c q few =
          let long : watches_at v ≤ length numbers = omega (arith, same.same_length, fits.long) in
          let bounds = last-bounds v numbers (length (decisions (e ∷ trail)) - target) e trail c in
          let place_is : get_or numbers length_at 0 - 1 ≡ length trail = last_place v numbers (length (decisions (e ∷ trail)) - target) e trail c in
          let literal-is : get_or numbers (trail_at + (get_or numbers length_at 0 - 1)) 0 ≡ e.literal =
          rw place_is (last_literal v numbers (length (decisions (e ∷ trail)) - target) e trail c) in
          let after = unassign-held v numbers (length (decisions (e ∷ trail)) - target) e trail c long in
          let cut-same = cut_last e trail target few in
          let short : length (e ∷ trail) ≤ v = c.short in
          let counted : get_or numbers length_at 0 ≡ length (e ∷ trail) = c.is_held.count in
          record {
            last =
                record { some = omega arith; short = omega arith; low = omega arith; within = omega arith };
            shortening =
                record {
                  rest = trail;
                  cutting =
                      record {
                        is_held = after;
                        once = rest_distinct e trail c.once;
                        within = λ l t. c.within l (true_grows e trail l t);
                        short = omega arith;
                        enough = omega arith;
                      };
                  low = cut-same.0;
                  same = sym cut-same.1 ∙ q;
                };
            beside = unassign-beside v numbers (length (decisions (e ∷ trail)) - target) e trail c long;
            less = omega (arith, after.count);
          }

pub shortening_end : {v : ℕ} {numbers : List ℕ} {target : ℕ} {goal : List Entry} → Shortening v numbers target goal → get_or numbers decisions_at 0 ≤ target → TrailHeld v numbers goal
shortening_end {v} {numbers} {target} s h =
    let counted : get_or numbers decisions_at 0 ≡ length (decisions s.rest) = s.cutting.is_held.decided in
    let nothing : length (decisions s.rest) - target ≡ 0 = omega arith in
    rw (← s.same, nothing, cut_none s.rest) s.cutting.is_held

-- A literal joins the trail that numbers hold, and nothing beside the trail changes.
use Prim.Native.Nat.{ℕ, suc, ◌+◌, ◌*◌, ◌-◌, ◌%◌, ◌≤◌, ◌<◌}
use native.Mathlib.Omega.{arith}
use mathlib.Core.Bool.{true, false}
use mathlib.Core.List.{List, ◌∷◌}
use mathlib.Core.Logic.{◌⊎◌, inl, inr, ⊎_elim}
use mathlib.Core.Path.{◌≡◌, sym, ap, ◌∙◌}
use lib.ListN.{length, get_or, set, length-set}
use lib.Seq.{get_or-set_same, get_or-set_other}
use Rattle.base.proofs.Bools.{alike, never}
use Rattle.book.specs.Formula.{variable_of, literal_within}
use Rattle.run.specs.Trail.{Entry, opposite, place, literal_at, decisions, level}
use Rattle.book.proofs.SoundLaws.{literal_parts}
use Rattle.run.proofs.Levels.{decided_count}
use Rattle.layout.specs.Layout.{TrailFits, watches_at, trail_at, levels_at, values_at, value_number, level_number, decisions_at, length_at, value_slot}
use Rattle.layout.specs.Encodes.{TrailHeld}
use Rattle.engine.specs.Inner.Trail.{assign_nums, SameBeside}
use Rattle.layout.proofs.TrailLaws.{level_number_new, level_number_old, literal_cases, value_number_new, value_number_old}

-- what the numbers hold after a literal is assigned
module _ (v : ℕ) (numbers : List ℕ) (l level : ℕ) where
  abbrev stored_literal : List ℕ
  stored_literal = set numbers (trail_at + get_or numbers length_at 0) l

  abbrev stored_level : List ℕ
  stored_level = set stored_literal (levels_at v + get_or numbers length_at 0) level

  abbrev stored_value : List ℕ
  stored_value = set stored_level (value_slot v l) (2 * (get_or numbers length_at 0 + 1) + l % 2)

  pub assign_length : length (assign_nums v numbers l level) ≡ length numbers
  assign_length = simp length-set

  pub assign_other : (j : ℕ) → (j ≡ length_at → ⊥) → (j ≡ trail_at + get_or numbers length_at 0 → ⊥) → (j ≡ levels_at v + get_or numbers length_at 0 → ⊥)
      → (j ≡ value_slot v l → ⊥) → get_or (assign_nums v numbers l level) j 0 ≡ get_or numbers j 0
  assign_other j n0 n1 n2 n3 =
      get_or-set_other stored_value length_at j (get_or numbers length_at 0 + 1) 0 n0
      ∙ get_or-set_other stored_level (value_slot v l) j (2 * (get_or numbers length_at 0 + 1) + l % 2) 0 n3
      ∙ get_or-set_other stored_literal (levels_at v + get_or numbers length_at 0) j level 0 n2
      ∙ get_or-set_other numbers (trail_at + get_or numbers length_at 0) j l 0 n1

  module _ (long : watches_at v ≤ length numbers) where
    pub assign_count : get_or (assign_nums v numbers l level) length_at 0 ≡ get_or numbers length_at 0 + 1
    assign_count = get_or-set_same stored_value length_at (get_or numbers length_at 0 + 1) 0 (simp length-set (omega arith))

    pub assign_value : 2 ≤ l → variable_of l ≤ v
        → get_or (assign_nums v numbers l level) (value_slot v l) 0 ≡ 2 * (get_or numbers length_at 0 + 1) + l % 2
    assign_value low within =
        get_or-set_other stored_value length_at (value_slot v l) (get_or numbers length_at 0 + 1) 0 (λ q. omega arith)
        ∙ get_or-set_same stored_level (value_slot v l) (2 * (get_or numbers length_at 0 + 1) + l % 2) 0 (simp length-set (omega arith))

    module _ (room : get_or numbers length_at 0 < v) where
      pub assign_level : get_or (assign_nums v numbers l level) (levels_at v + get_or numbers length_at 0) 0 ≡ level
      assign_level =
          get_or-set_other stored_value length_at (levels_at v + get_or numbers length_at 0) (get_or numbers length_at 0 + 1) 0 (λ q. omega arith)
          ∙ get_or-set_other stored_level (value_slot v l) (levels_at v + get_or numbers length_at 0) (2 * (get_or numbers length_at 0 + 1) + l % 2) 0
          (λ q. omega arith)
          ∙ get_or-set_same stored_literal (levels_at v + get_or numbers length_at 0) level 0 (simp length-set (omega arith))

      pub assign_literal : get_or (assign_nums v numbers l level) (trail_at + get_or numbers length_at 0) 0 ≡ l
      assign_literal =
          get_or-set_other stored_value length_at (trail_at + get_or numbers length_at 0) (get_or numbers length_at 0 + 1) 0 (λ q. omega arith)
          ∙ get_or-set_other stored_level (value_slot v l) (trail_at + get_or numbers length_at 0) (2 * (get_or numbers length_at 0 + 1) + l % 2) 0
          (λ q. omega arith)
          ∙ get_or-set_other stored_literal (levels_at v + get_or numbers length_at 0) (trail_at + get_or numbers length_at 0) level 0 (λ q. omega arith)
          ∙ get_or-set_same numbers (trail_at + get_or numbers length_at 0) l 0 (omega arith)

-- outside trail, levels, values and count nothing changes
pub assign_beside : (v : ℕ) (numbers : List ℕ) (l level : ℕ) → get_or numbers length_at 0 < v → 2 ≤ l → variable_of l ≤ v
    → SameBeside v numbers (assign_nums v numbers l level)
assign_beside v numbers l level room low within =
    record {
      same_length = assign_length v numbers l level;
      header = λ i low high. assign_other v numbers l level i (λ q. omega arith) (λ q. omega arith) (λ q. omega arith) (λ q. omega arith);
      parts = λ i h. assign_other v numbers l level i (λ q. omega arith) (λ q. omega arith) (λ q. omega arith) (λ q. omega arith);
    }

-- two changes, one after the other
pub beside_compose : {v : ℕ} {a b c : List ℕ} → SameBeside v a b → SameBeside v b c → SameBeside v a c
beside_compose p q =
    record {
      same_length = q.same_length ∙ p.same_length;
      header = λ i low high. q.header i low high ∙ p.header i low high;
      parts = λ i h. q.parts i h ∙ p.parts i h;
    }

-- the parts of the trail still fit
pub fits_still : {v : ℕ} {a b : List ℕ} → TrailFits v a → SameBeside v a b → TrailFits v b
fits_still fits same = record { few_variables = fits.few_variables; long = omega (arith, fits.long, same.same_length) }

-- nor where the number of decisions is stored
pub decisions_beside : (v : ℕ) (numbers : List ℕ) (n : ℕ) → SameBeside v numbers (set numbers decisions_at n)
decisions_beside v numbers n =
    record {
      same_length = length-set numbers decisions_at n;
      header = λ i low high. get_or-set_other numbers decisions_at i n 0 (λ q. omega arith);
      parts = λ i h. get_or-set_other numbers decisions_at i n 0 (λ q. omega arith);
    }

-- A literal joins the trail that numbers hold; the number of decisions is already the new one.
module _ (v : ℕ) (numbers : List ℕ) (e : Entry) (trail : List Entry) where
  abbrev joined : List ℕ
  joined = assign_nums v numbers e.literal (length (decisions (e ∷ trail)))

  joins : get_or numbers length_at 0 ≡ length trail
      → get_or numbers decisions_at 0 ≡ length (decisions (e ∷ trail))
      → ((i : ℕ) → i < v → get_or numbers (trail_at + i) 0 ≡ literal_at trail (suc i))
      → ((i : ℕ) → i < v → get_or numbers (levels_at v + i) 0 ≡ level_number trail (suc i))
      → ((i : ℕ) → i < v → get_or numbers (values_at v + i) 0 ≡ value_number trail (suc i))
      → place trail e.literal ≡ 0
      → place trail (opposite e.literal) ≡ 0
      → 2 ≤ e.literal
      → variable_of e.literal ≤ v
      → length trail < v
      → watches_at v ≤ length numbers
      → TrailHeld v joined (e ∷ trail)
  joins count decided literals levels values untrue unfalse low within room long =
      record {
        count = assign_count v numbers e.literal (length (decisions (e ∷ trail))) long ∙ omega arith;
        decided =
            assign_other v numbers e.literal (length (decisions (e ∷ trail))) 1 (λ q. omega arith) (λ q. omega arith) (λ q. omega arith) (λ q. omega arith) ∙ decided;
        literals = λ i h. literal-at i h (alike i (length trail));
        levels = λ i h. level-at i h (alike i (length trail));
        values = λ i h. value-at i h (alike (suc i) (variable_of e.literal));
      }
    where
      literal-at : (i : ℕ) → i < v → (i ≡ length trail) ⊎ (i ≡ length trail → ⊥) → get_or joined (trail_at + i) 0 ≡ literal_at (e ∷ trail) (suc i)
      literal-at i h (inl q) =
          let same : i ≡ get_or numbers length_at 0 = omega arith in
          ap (λ (j : ℕ). get_or joined (trail_at + j) 0) same
          ∙ assign_literal v numbers e.literal (length (decisions (e ∷ trail))) long (omega arith)
          ∙ ⊎_elim (λ p. sym p.1) (λ p. absurd (p.0 (ap suc q))) (literal_cases e trail (suc i))
      literal-at i h (inr n) =
          assign_other v numbers e.literal (length (decisions (e ∷ trail))) (trail_at + i) (λ z. omega arith) (λ z. n (omega arith)) (λ z. omega arith) (λ z. omega arith)
          ∙ literals i h
          ∙ ⊎_elim (λ p. absurd (n (omega arith))) (λ p. sym p.1) (literal_cases e trail (suc i))

      level-at : (i : ℕ) → i < v → (i ≡ length trail) ⊎ (i ≡ length trail → ⊥) → get_or joined (levels_at v + i) 0 ≡ level_number (e ∷ trail) (suc i)
      level-at i h (inl q) =
          let same : i ≡ get_or numbers length_at 0 = omega arith in
          ap (λ (j : ℕ). get_or joined (levels_at v + j) 0) same
          ∙ assign_level v numbers e.literal (length (decisions (e ∷ trail))) long (omega arith)
          ∙ rw q (sym (level_number_new e trail))
      level-at i h (inr n) =
          assign_other v numbers e.literal (length (decisions (e ∷ trail))) (levels_at v + i) (λ z. omega arith) (λ z. omega arith) (λ z. n (omega arith)) (λ z. omega arith)
          ∙ levels i h
          ∙ sym (level_number_old e trail (suc i) (omega arith) untrue (λ z. n (omega arith)))

      value-at : (i : ℕ) → i < v → (suc i ≡ variable_of e.literal) ⊎ (suc i ≡ variable_of e.literal → ⊥) → get_or joined (values_at v + i) 0 ≡ value_number (e ∷ trail) (suc i)
      value-at i h (inl q) =
          let same : i ≡ variable_of e.literal - 1 = omega arith in
          ap (λ (j : ℕ). get_or joined (values_at v + j) 0) same
          ∙ assign_value v numbers e.literal (length (decisions (e ∷ trail))) long low within
          ∙ rw q (rw count (sym (value_number_new e trail unfalse)))
      value-at i h (inr n) =
          assign_other v numbers e.literal (length (decisions (e ∷ trail))) (values_at v + i) (λ z. omega arith) (λ z. omega arith) (λ z. omega arith) (λ z. n (omega arith))
          ∙ values i h
          ∙ sym (value_number_old e trail (suc i) n)

-- A literal joins the trail that numbers hold: any entry, with its number of decisions stored, and an implied one.
module _ (v : ℕ) (numbers : List ℕ) (e : Entry) (trail : List Entry) (level : ℕ) (held : TrailHeld v numbers trail)
    (untrue : place trail e.literal ≡ 0) (unfalse : place trail (opposite e.literal) ≡ 0)
    (within : literal_within v e.literal ≡ true) (room : length trail < v) (long : watches_at v ≤ length numbers) where
  pub held_assign : level ≡ length (decisions (e ∷ trail)) → TrailHeld v (assign_nums v (set numbers decisions_at level) e.literal level) (e ∷ trail)
  held_assign q =
      let bounds = literal_parts v e.literal within in
      rw q
      (joins v (set numbers decisions_at (length (decisions (e ∷ trail)))) e trail
      (get_or-set_other numbers decisions_at length_at (length (decisions (e ∷ trail))) 0 (λ z. omega arith) ∙ held.count)
      (get_or-set_same numbers decisions_at (length (decisions (e ∷ trail))) 0 (omega arith))
      (λ i h. get_or-set_other numbers decisions_at (trail_at + i) (length (decisions (e ∷ trail))) 0 (λ z. omega arith) ∙ held.literals i h)
      (λ i h. get_or-set_other numbers decisions_at (levels_at v + i) (length (decisions (e ∷ trail))) 0 (λ z. omega arith) ∙ held.levels i h)
      (λ i h. get_or-set_other numbers decisions_at (values_at v + i) (length (decisions (e ∷ trail))) 0 (λ z. omega arith) ∙ held.values i h)
      untrue unfalse bounds.0 (omega arith) room (simp length-set long))

  pub held_implied : e.decided ≡ false → level ≡ length (decisions trail) → TrailHeld v (assign_nums v numbers e.literal level) (e ∷ trail)
  held_implied implied q =
      let bounds = literal_parts v e.literal within in
      let same : length (decisions (e ∷ trail)) ≡ length (decisions trail) =
      ⊎_elim (λ p. absurd (never p.0 implied)) (λ p. p.1) (decided_count e trail) in
      rw (q, ← same)
      (joins v numbers e trail held.count (held.decided ∙ sym same) held.literals held.levels held.values untrue unfalse
      bounds.0 (omega arith) room long)

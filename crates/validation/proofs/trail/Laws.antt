-- The numbers that pass place by place and variable by variable are those that hold a trail of the formula's literals.
use Prim.Native.Nat.{ℕ, zero, suc, ◌+◌, ◌*◌, ◌-◌, ◌/◌, ◌%◌, ◌≤◌, ◌<◌}
use native.Mathlib.Omega.{arith}
use mathlib.Core.Bool.{Bool, true, false, cond, not}
use mathlib.Core.List.{List, [], ◌∷◌}
use mathlib.Core.Logic.{◌⊎◌, inl, inr, ⊎_elim}
use mathlib.Core.Path.{◌≡◌, refl, sym, ap, ◌∙◌}
use borrow.Author.Tests.{eqb-true, eqb-false, le-leb}
use lib.Dec.{eqb}
use lib.ListN.{length, get_or}
use Rattle.base.specs.Lists.{member, distinct}
use Rattle.base.proofs.Bools.{refuted, alike, below, both}
use Rattle.book.specs.Formula.{variable_of, literal_within}
use Rattle.run.specs.Trail.{Entry, opposite, place, literal_at, is_true, decisions, variables_on}
use Rattle.book.proofs.SoundLaws.{literal_parts}
use Rattle.run.proofs.Opposites.{OppositeCase, opposite_cases}
use Rattle.run.proofs.Trails.{PlaceCase, place_cases, place_true, true_place, place_within, variable_on, rest_distinct, consistent, place_of_literal}
use Rattle.run.proofs.Levels.{decided_count}
use Rattle.layout.specs.Layout.{length_at, decisions_at, trail_at, levels_at, values_at, value_number, level_number, level_before, held_trail, value_slot}
use Rattle.validation.specs.Inner.Trail.{TrailGood, PlaceGood, PlaceFree, ValuePlaced, ValueGood}
use Rattle.layout.proofs.TrailLaws.{literal_cases, literal_on, at_place, ValueCase, value_cases, level_number_new, level_number_old, literal_behind, level_behind, level_number_top, held_level_before, zero_off, newest_off}

-- what the checks say together
pub record TrailChecked (v : ℕ) (numbers : List ℕ) : Type 0 where
  pub count_within : get_or numbers length_at 0 ≤ v
  pub last_level : get_or numbers decisions_at 0 ≡ level_before v numbers (get_or numbers length_at 0)
  pub places : (i : ℕ) → i < get_or numbers length_at 0 → PlaceGood v numbers i
  pub free : (i : ℕ) → get_or numbers length_at 0 ≤ i → i < v → PlaceFree v numbers i
  pub values : (x : ℕ) → x < v → ValueGood v numbers x

-- the trail that numbers hold, as far as its places are good
module _ (v : ℕ) (numbers : List ℕ) where
  abbrev entry_at : ℕ → Entry
  entry_at i =
      record {
        literal = get_or numbers (trail_at + i) 0;
        decided = not (eqb (get_or numbers (levels_at v + i) 0) (level_before v numbers i));
      }

  pub held_length : (i : ℕ) → length (held_trail v numbers i) ≡ i
  unfolding held_trail
  held_length zero = refl
  held_length (suc i) = ap suc (held_length i)

  pub held_literal : (i j : ℕ) → j < i → literal_at (held_trail v numbers i) (suc j) ≡ get_or numbers (trail_at + j) 0
  unfolding held_trail
  held_literal zero j h = absurd (omega arith)
  held_literal (suc i) j h =
      ⊎_elim
      (λ p.
      let same : i ≡ j = omega (arith, held_length i) in
      p.1 ∙ ap (λ (k : ℕ). get_or numbers (trail_at + k) 0) same)
      (λ p. p.1 ∙ held_literal i j (let n : suc j ≡ suc (length (held_trail v numbers i)) → ⊥ = p.0 in omega (arith, held_length i)))
      (literal_cases (entry_at i) (held_trail v numbers i) (suc j))

  -- a literal on it stands at a place of the numbers
  on_held : (i l : ℕ) → 0 < place (held_trail v numbers i) l
      → (j : ℕ) × (j < i) × (get_or numbers (trail_at + j) 0 ≡ l) × (place (held_trail v numbers i) l ≡ suc j)
  on_held i l h =
      let most : place (held_trail v numbers i) l ≤ length (held_trail v numbers i) = place_within (held_trail v numbers i) l in
      let one_more_lem : suc (place (held_trail v numbers i) l - 1) ≡ place (held_trail v numbers i) l = omega arith in
      let inside : place (held_trail v numbers i) l - 1 < i = omega (arith, held_length i) in (
        place (held_trail v numbers i) l - 1,
        inside,
        sym (held_literal i (place (held_trail v numbers i) l - 1) inside)
            ∙ ap (literal_at (held_trail v numbers i)) one_more_lem
            ∙ at_place (held_trail v numbers i) l h,
        sym one_more_lem,
      )

  module _ (n : ℕ) (good : (i : ℕ) → i < n → PlaceGood v numbers i) where
    held-decisions : (i : ℕ) → i ≤ n → length (decisions (held_trail v numbers i)) ≡ level_before v numbers i
    unfolding held_trail level_before decisions
    held-decisions zero h = refl
    held-decisions (suc i) h =
        go (eqb (get_or numbers (levels_at v + i) 0) (level_before v numbers i)) refl (good i h).step (held-decisions i (omega arith))
      where
        go : (b : Bool) → eqb (get_or numbers (levels_at v + i) 0) (level_before v numbers i) ≡ b
            → (get_or numbers (levels_at v + i) 0 ≡ level_before v numbers i) ⊎ (get_or numbers (levels_at v + i) 0 ≡ level_before v numbers i + 1)
            → length (decisions (held_trail v numbers i)) ≡ level_before v numbers i
            → length
            (cond (not b) (get_or numbers (trail_at + i) 0 ∷ decisions (held_trail v numbers i)) (decisions (held_trail v numbers i)))
            ≡ get_or numbers (levels_at v + i) 0
        go true q w rest = rest ∙ sym (eqb-true (get_or numbers (levels_at v + i) 0) (level_before v numbers i) q)
        go false q (inl w) rest = absurd (eqb-false (get_or numbers (levels_at v + i) 0) (level_before v numbers i) q w)
        go false q (inr w) rest = omega arith

    -- the value of a variable on it says the place of its literal
    held_value : (i l : ℕ) → i ≤ n → 0 < place (held_trail v numbers i) l
        → get_or numbers (value_slot v l) 0 ≡ 2 * place (held_trail v numbers i) l + l % 2
    held_value i l h k =
        let at = on_held i l k in
        let is : get_or numbers (trail_at + at.0) 0 ≡ l = at.2 in
        let one_more_lem : 2 * (at.0 + 1) ≡ 2 * place (held_trail v numbers i) l = omega (arith, at.3) in
        let known : get_or numbers (value_slot v l) 0 ≡ 2 * (at.0 + 1) + l % 2 = rw is at (good at.0 (omega (arith, at.1))).value in
        known ∙ ap (λ (m : ℕ). m + l % 2) one_more_lem

    held-once : (i : ℕ) → i ≤ n → distinct (variables_on (held_trail v numbers i)) ≡ true
    unfolding held_trail distinct
    held-once zero h = refl
    held-once (suc i) h =
        both (ap not (refuted (member (variable_of (get_or numbers (trail_at + i) 0)) (variables_on (held_trail v numbers i))) apart))
        (held-once i (omega arith))
      where
        apart : member (variable_of (get_or numbers (trail_at + i) 0)) (variables_on (held_trail v numbers i)) ≡ true → ⊥
        apart m =
            let other = variable_on (held_trail v numbers i) (variable_of (get_or numbers (trail_at + i) 0)) m in
            let q : variable_of other.0 ≡ variable_of (get_or numbers (trail_at + i) 0) = other.2 in
            let most : place (held_trail v numbers i) other.0 ≤ i = rw (held_length i) at (place_within (held_trail v numbers i) other.0) in
            let one : get_or numbers (value_slot v (get_or numbers (trail_at + i) 0)) 0 ≡ 2 * place (held_trail v numbers i) other.0 + other.0 % 2 =
            rw q at (held_value i other.0 (omega arith) other.1) in
            omega (arith, (good i h).value)

    held-level : (i j : ℕ) → i ≤ n → j < i → level_number (held_trail v numbers i) (suc j) ≡ get_or numbers (levels_at v + j) 0
    unfolding held_trail level_before
    held-level zero j h k = absurd (omega arith)
    held-level (suc i) j h k = ⊎_elim newest (λ n. older n (held-level i j (omega arith) (omega arith))) (alike j i)
      where
        newest : j ≡ i → level_number (held_trail v numbers (suc i)) (suc j) ≡ get_or numbers (levels_at v + j) 0
        newest q =
            let end : suc j ≡ length (held_trail v numbers (suc i)) = ap suc q ∙ sym (held_length (suc i)) in
            ap (level_number (held_trail v numbers (suc i))) end
            ∙ level_number_top (held_trail v numbers (suc i))
            ∙ held-decisions (suc i) h
            ∙ ap (λ (m : ℕ). get_or numbers (levels_at v + m) 0) (sym q)

        older : (j ≡ i → ⊥) → level_number (held_trail v numbers i) (suc j) ≡ get_or numbers (levels_at v + j) 0
            → level_number (held_trail v numbers (suc i)) (suc j) ≡ get_or numbers (levels_at v + j) 0
        older n rest =
            level_number_old (entry_at i) (held_trail v numbers i) (suc j) (omega (arith, (good i h).low))
            (newest_off (entry_at i) (held_trail v numbers i) (get_or numbers (trail_at + i) 0) (held-once (suc i) h) refl)
            (λ q. n (omega (arith, held_length i)))
            ∙ rest

-- numbers that pass hold a trail
module _ (v : ℕ) (numbers : List ℕ) (checked : TrailChecked v numbers) where
  abbrev trail : List Entry
  trail = held_trail v numbers (get_or numbers length_at 0)

  trail_within_lem : (l : ℕ) → is_true trail l ≡ true → literal_within v l ≡ true
  unfolding literal_within
  trail_within_lem l t =
      let at = on_held v numbers (get_or numbers length_at 0) l (true_place trail l t) in
      let ok = checked.places at.0 at.1 in
      let is : get_or numbers (trail_at + at.0) 0 ≡ l = at.2 in
      both (le-leb 2 l (omega arith)) (le-leb l (2 * v + 1) (omega arith))

  trail_literal : (i : ℕ) → i < v → (i < get_or numbers length_at 0) ⊎ (get_or numbers length_at 0 ≤ i) → get_or numbers (trail_at + i) 0 ≡ literal_at trail (suc i)
  trail_literal i h (inl k) = sym (held_literal v numbers (get_or numbers length_at 0) i k)
  trail_literal i h (inr k) =
      (checked.free i k h).no_literal ∙ sym (literal_behind trail (suc i) (omega (arith, held_length v numbers (get_or numbers length_at 0))))

  trail_level : (i : ℕ) → i < v → (i < get_or numbers length_at 0) ⊎ (get_or numbers length_at 0 ≤ i) → get_or numbers (levels_at v + i) 0 ≡ level_number trail (suc i)
  trail_level i h (inl k) = sym (held-level v numbers (get_or numbers length_at 0) checked.places (get_or numbers length_at 0) i (omega arith) k)
  trail_level i h (inr k) =
      (checked.free i k h).no_level
      ∙ sym (level_behind trail (suc i) (zero_off v trail trail_within_lem) (omega (arith, held_length v numbers (get_or numbers length_at 0))))

  trail_value : (x : ℕ) → x < v → get_or numbers (values_at v + x) 0 ≡ value_number trail (suc x)
  trail_value x h = go (value_cases trail (suc x)) (checked.values x h)
    where
      says : (l : ℕ) → variable_of l ≡ suc x → 0 < place trail l → get_or numbers (values_at v + x) 0 ≡ 2 * place trail l + l % 2
      says l q k =
          let same : x ≡ variable_of l - 1 = omega arith in
          ap (λ (m : ℕ). get_or numbers (values_at v + m) 0) same
          ∙ held_value v numbers (get_or numbers length_at 0) checked.places (get_or numbers length_at 0) l (omega arith) k

      unsaid : (l : ℕ) → variable_of l ≡ suc x → 0 < place trail l
          → (place trail (2 * suc x) ≡ 0) × (place trail (2 * suc x + 1) ≡ 0) × (value_number trail (suc x) ≡ 0) → ⊥
      unsaid l q k p =
          ⊎_elim
          (λ s. let same : l ≡ 2 * suc x = omega arith in let z = ap (place trail) same in omega arith)
          (λ s. let same : l ≡ 2 * suc x + 1 = omega arith in let z = ap (place trail) same in omega arith)
          (alike (l % 2) 0)

      go : ValueCase trail (suc x) → ValueGood v numbers x → get_or numbers (values_at v + x) 0 ≡ value_number trail (suc x)
      go (inl p) w = omega (arith, says (2 * suc x) (omega arith) p.0)
      go (inr (inl p)) w = omega (arith, says (2 * suc x + 1) (omega arith) p.1)
      go (inr (inr p)) (inl w) = w ∙ sym p.2
      go (inr (inr p)) (inr w) =
          let inside : get_or numbers (values_at v + x) 0 / 2 - 1 < get_or numbers length_at 0 = omega arith in
          let there : 0 < place trail (get_or numbers (trail_at + (get_or numbers (values_at v + x) 0 / 2 - 1)) 0) =
          literal_on trail (suc (get_or numbers (values_at v + x) 0 / 2 - 1)) (get_or numbers (trail_at + (get_or numbers (values_at v + x) 0 / 2 - 1)) 0)
          (omega arith) (held_literal v numbers (get_or numbers length_at 0) (get_or numbers (values_at v + x) 0 / 2 - 1) inside) in
          absurd (unsaid (get_or numbers (trail_at + (get_or numbers (values_at v + x) 0 / 2 - 1)) 0) (omega arith) there p)

  pub checked_good : TrailGood v numbers
  checked_good =
      record {
        count_within = checked.count_within;
        is_held =
            record {
              count = sym (held_length v numbers (get_or numbers length_at 0));
              decided =
                  checked.last_level
                  ∙ sym (held-decisions v numbers (get_or numbers length_at 0) checked.places (get_or numbers length_at 0) (omega arith));
              literals = λ i h. trail_literal i h (below i (get_or numbers length_at 0));
              levels = λ i h. trail_level i h (below i (get_or numbers length_at 0));
              values = trail_value;
            };
        within = trail_within_lem;
        once = held-once v numbers (get_or numbers length_at 0) checked.places (get_or numbers length_at 0) (omega arith);
      }

-- numbers that hold a trail pass
level_number_step : (trail : List Entry) (h : ℕ) → distinct (variables_on trail) ≡ true → place trail 0 ≡ 0 → h < length trail
    → (level_number trail (suc h) ≡ level_number trail h) ⊎ (level_number trail (suc h) ≡ level_number trail h + 1)
level_number_step [] h d off k = absurd (omega arith)
level_number_step (e ∷ trail) h d off k =
    go (place_cases e trail 0) (alike h (length trail)) (level_number_step trail h (rest_distinct e trail d))
  where
    go : PlaceCase e trail 0 → (h ≡ length trail) ⊎ (h ≡ length trail → ⊥)
        → (place trail 0 ≡ 0 → h < length trail
        → (level_number trail (suc h) ≡ level_number trail h) ⊎ (level_number trail (suc h) ≡ level_number trail h + 1))
        → (level_number (e ∷ trail) (suc h) ≡ level_number (e ∷ trail) h) ⊎ (level_number (e ∷ trail) (suc h) ≡ level_number (e ∷ trail) h + 1)
    go (inl p) q rest = absurd (omega arith)
    go (inr p) (inl q) rest =
        let low : 0 < e.literal = let n : e.literal ≡ 0 → ⊥ = p.0 in omega arith in
        let before : level_number (e ∷ trail) h ≡ length (decisions trail) =
        level_number_old e trail h low (newest_off e trail e.literal d refl) (λ z. omega arith)
        ∙ ap (level_number trail) q
        ∙ level_number_top trail in
        let here : level_number (e ∷ trail) (suc h) ≡ length (decisions (e ∷ trail)) =
        ap (level_number (e ∷ trail)) (ap suc q) ∙ level_number_new e trail in
        ⊎_elim (λ w. inr (omega arith)) (λ w. inl (omega arith)) (decided_count e trail)
    go (inr p) (inr q) rest =
        let low : 0 < e.literal = let n : e.literal ≡ 0 → ⊥ = p.0 in omega arith in
        let before = level_number_old e trail h low (newest_off e trail e.literal d refl) (λ z. omega arith) in
        let here = level_number_old e trail (suc h) low (newest_off e trail e.literal d refl) (λ z. q (omega arith)) in
        ⊎_elim (λ w. inl (here ∙ w ∙ sym before)) (λ w. inr (omega arith))
        (rest (omega arith) (omega arith))

-- the value of a literal's variable says its place and sign
value_of_literal : (trail : List Entry) (l : ℕ) → distinct (variables_on trail) ≡ true → 0 < place trail l
    → value_number trail (variable_of l) ≡ 2 * place trail l + l % 2
value_of_literal trail l d h = go (opposite_cases l) (value_cases trail (variable_of l)) (consistent trail l d h)
  where
    go : OppositeCase l → ValueCase trail (variable_of l) → place trail (opposite l) ≡ 0
        → value_number trail (variable_of l) ≡ 2 * place trail l + l % 2
    go (inl o) w off =
        let same : place trail (2 * variable_of l) ≡ place trail l = ap (place trail) (omega arith) in
        ⊎_elim (λ a. omega arith) (λ b. ⊎_elim (λ a. absurd (omega arith)) (λ a. absurd (omega arith)) b) w
    go (inr o) w off =
        let same : place trail (2 * variable_of l + 1) ≡ place trail l = ap (place trail) (omega arith) in
        let other : place trail (2 * variable_of l) ≡ place trail (opposite l) = ap (place trail) (omega arith) in
        ⊎_elim (λ a. absurd (omega arith)) (λ b. ⊎_elim (λ a. omega arith) (λ a. absurd (omega arith)) b) w

module _ (v : ℕ) (numbers : List ℕ) (good : TrailGood v numbers) where
  abbrev kept : List Entry
  kept = held_trail v numbers (get_or numbers length_at 0)

  kept_length : length kept ≡ get_or numbers length_at 0
  kept_length = sym good.is_held.count

  kept_zero : place kept 0 ≡ 0
  kept_zero = zero_off v kept good.within

  kept_place : (i : ℕ) → i < get_or numbers length_at 0 → place kept (get_or numbers (trail_at + i) 0) ≡ suc i
  kept_place i h =
      ap (place kept) (sym (held_literal v numbers (get_or numbers length_at 0) i h)) ∙ place_of_literal kept i good.once (omega (arith, kept_length))

  place_good : (i : ℕ) → i < get_or numbers length_at 0 → PlaceGood v numbers i
  place_good i h =
      let most : get_or numbers length_at 0 ≤ v = good.count_within in
      let at : place kept (get_or numbers (trail_at + i) 0) ≡ suc i = kept_place i h in
      let bounds = literal_parts v (get_or numbers (trail_at + i) 0) (good.within (get_or numbers (trail_at + i) 0) (place_true kept (get_or numbers (trail_at + i) 0) (omega arith))) in
      let here : get_or numbers (levels_at v + i) 0 ≡ level_number kept (suc i) = good.is_held.levels i (omega arith) in
      let before : level_before v numbers i ≡ level_number kept i = held_level_before v numbers kept i good.is_held kept_zero (omega arith) in
      let one_more_lem : suc (variable_of (get_or numbers (trail_at + i) 0) - 1) ≡ variable_of (get_or numbers (trail_at + i) 0) = omega arith in
      record {
        low = bounds.0;
        within = bounds.1;
        step =
            ⊎_elim (λ w. inl (omega arith)) (λ w. inr (omega arith))
            (level_number_step kept i good.once kept_zero (omega (arith, kept_length)));
        value =
            good.is_held.values (variable_of (get_or numbers (trail_at + i) 0) - 1) (omega arith)
            ∙ ap (value_number kept) one_more_lem
            ∙ value_of_literal kept (get_or numbers (trail_at + i) 0) good.once (omega arith)
            ∙ omega arith;
      }

  place_free : (i : ℕ) → get_or numbers length_at 0 ≤ i → i < v → PlaceFree v numbers i
  place_free i k h =
      record {
        no_literal = good.is_held.literals i h ∙ literal_behind kept (suc i) (omega (arith, kept_length));
        no_level = good.is_held.levels i h ∙ level_behind kept (suc i) kept_zero (omega (arith, kept_length));
      }

  value_good : (x : ℕ) → x < v → ValueGood v numbers x
  value_good x h = go (value_cases kept (suc x)) (good.is_held.values x h)
    where
      placed : (l : ℕ) → 0 < place kept l → l ≡ 2 * (x + 1) + l % 2 → get_or numbers (values_at v + x) 0 ≡ 2 * place kept l + l % 2
          → ValuePlaced v numbers x
      placed l k q e =
          let most : get_or numbers length_at 0 ≤ v = good.count_within in
          let short : place kept l ≤ get_or numbers length_at 0 = rw kept_length at (place_within kept l) in
          let half : get_or numbers (values_at v + x) 0 / 2 ≡ place kept l = omega arith in
          let sign : get_or numbers (values_at v + x) 0 % 2 ≡ l % 2 = omega arith in
          let one_more_lem : suc (place kept l - 1) ≡ place kept l = omega arith in
          let there : get_or numbers (trail_at + (get_or numbers (values_at v + x) 0 / 2 - 1)) 0 ≡ l =
          ap (λ (m : ℕ). get_or numbers (trail_at + (m - 1)) 0) half
          ∙ good.is_held.literals (place kept l - 1) (omega arith)
          ∙ ap (literal_at kept) one_more_lem
          ∙ at_place kept l k in
          record { low = omega arith; within = omega arith; literal = there ∙ q ∙ ap (λ (m : ℕ). 2 * (x + 1) + m) (sym sign) }

      go : ValueCase kept (suc x) → get_or numbers (values_at v + x) 0 ≡ value_number kept (suc x) → ValueGood v numbers x
      go (inl p) e = inr (placed (2 * suc x) p.0 (omega arith) (omega arith))
      go (inr (inl p)) e = inr (placed (2 * suc x + 1) p.1 (omega arith) (omega arith))
      go (inr (inr p)) e = inl (e ∙ p.2)

  pub good_checked : TrailChecked v numbers
  good_checked =
      record {
        count_within = good.count_within;
        last_level =
            good.is_held.decided
            ∙ sym (level_number_top kept)
            ∙ ap (level_number kept) kept_length
            ∙ sym (held_level_before v numbers kept (get_or numbers length_at 0) good.is_held kept_zero good.count_within);
        places = place_good;
        free = place_free;
        values = value_good;
      }

-- The trail that numbers hold: places, levels and values with one entry more, behind the end and at the end, and where they are read.
use Prim.Native.Nat.{ℕ, suc, ◌+◌, ◌*◌, ◌-◌, ◌%◌, ◌≤◌, ◌<◌, zero, ◌/◌}
use native.Mathlib.Omega.{arith}
use mathlib.Core.Bool.{true}
use mathlib.Core.List.{List, [], ◌∷◌}
use mathlib.Core.Logic.{◌⊎◌, inl, inr, ⊎_elim}
use mathlib.Core.Path.{◌≡◌, refl, sym, ap, ◌∙◌}
use borrow.Author.Tests.{eq-eqb, ne_eqb}
use lib.ListN.{length, get_or}
use Rattle.base.specs.Lists.{distinct}
use Rattle.base.proofs.Bools.{alike, below}
use Rattle.book.specs.Formula.{variable_of, literal_within, positive, negative}
use Rattle.run.specs.Trail.{Entry, opposite, place, literal_at, decisions, level, is_true, variables_on}
use Rattle.book.proofs.SoundLaws.{literal_parts}
use Rattle.run.proofs.Opposites.{OppositeCase, opposite_cases, opposite_positive}
use Rattle.run.proofs.Trails.{PlaceCase, place_cases, place_new, place_old, place_within, place_true, place_untrue, consistent, newest_apart}
use Rattle.run.proofs.Levels.{decided_count, level_cases, CountCase, LevelCase}
use Rattle.layout.specs.Layout.{levels_at, values_at, value_number, level_number, level_before}
use Rattle.layout.specs.Encodes.{TrailHeld}

-- the literal at a place of a trail with one entry more
abbrev pub LiteralCase : Entry → List Entry → ℕ → Type 0
LiteralCase e trail h =
    ((h ≡ suc (length trail)) × (literal_at (e ∷ trail) h ≡ e.literal))
    ⊎ ((h ≡ suc (length trail) → ⊥) × (literal_at (e ∷ trail) h ≡ literal_at trail h))

pub literal_cases : (e : Entry) (trail : List Entry) (h : ℕ) → LiteralCase e trail h
unfolding literal_at
literal_cases e trail h =
    ⊎_elim (λ q. inl (q, rw (eq-eqb h (suc (length trail)) q))) (λ n. inr (n, rw (ne_eqb h (suc (length trail)) n)))
    (alike h (suc (length trail)))

pub literal_newest : (e : Entry) (trail : List Entry) → literal_at (e ∷ trail) (suc (length trail)) ≡ e.literal
literal_newest e trail = ⊎_elim (λ p. p.1) (λ p. absurd (p.0 refl)) (literal_cases e trail (suc (length trail)))

-- a literal at some place is on the trail
pub literal_on : (trail : List Entry) (h l : ℕ) → 0 < l → literal_at trail h ≡ l → 0 < place trail l
unfolding literal_at
literal_on [] h l low q = absurd (omega arith)
literal_on (e ∷ trail) h l low q = go (literal_cases e trail h) (place_cases e trail l) (literal_on trail h l low)
  where
    go : LiteralCase e trail h → PlaceCase e trail l → (literal_at trail h ≡ l → 0 < place trail l) → 0 < place (e ∷ trail) l
    go x (inl p) rest = omega arith
    go (inl x) (inr p) rest = absurd (p.0 (sym x.1 ∙ q))
    go (inr x) (inr p) rest = let r : 0 < place trail l = rest (sym x.1 ∙ q) in omega arith

-- a trail has a literal at its place
pub at_place : (trail : List Entry) (l : ℕ) → 0 < place trail l → literal_at trail (place trail l) ≡ l
unfolding place
at_place [] l h = absurd (omega arith)
at_place (e ∷ trail) l h =
    go (place_cases e trail l) (literal_cases e trail (place (e ∷ trail) l)) (at_place trail l)
  where
    go : PlaceCase e trail l → LiteralCase e trail (place (e ∷ trail) l)
        → (0 < place trail l → literal_at trail (place trail l) ≡ l)
        → literal_at (e ∷ trail) (place (e ∷ trail) l) ≡ l
    go (inl p) (inl q) rest = q.1 ∙ p.0
    go (inl p) (inr q) rest = absurd (q.0 p.1)
    go (inr p) (inl q) rest = absurd (omega (arith, place_within trail l))
    go (inr p) (inr q) rest = q.1 ∙ ap (literal_at trail) p.1 ∙ rest (omega arith)

-- the value of a variable: its positive literal is on the trail, or its negative one, or none
abbrev pub ValueCase : List Entry → ℕ → Type 0
ValueCase trail x =
    ((0 < place trail (2 * x)) × (value_number trail x ≡ 2 * place trail (2 * x)))
    ⊎ (((place trail (2 * x) ≡ 0) × (0 < place trail (2 * x + 1)) × (value_number trail x ≡ 2 * place trail (2 * x + 1) + 1))
    ⊎ ((place trail (2 * x) ≡ 0) × (place trail (2 * x + 1) ≡ 0) × (value_number trail x ≡ 0)))

pub value_cases : (trail : List Entry) (x : ℕ) → ValueCase trail x
unfolding value_number
value_cases trail x = go (below 0 (place trail (2 * x))) (below 0 (place trail (2 * x + 1)))
  where
    none : (n : ℕ) → n ≤ 0 → n ≡ 0
    none n h = omega arith

    go : (0 < place trail (2 * x)) ⊎ (place trail (2 * x) ≤ 0)
        → (0 < place trail (2 * x + 1)) ⊎ (place trail (2 * x + 1) ≤ 0)
        → ValueCase trail x
    go (inl p) q = inl (p, rw (place_true trail (2 * x) p))
    go (inr p) (inl q) =
        inr (inl (none (place trail (2 * x)) p, q, rw (place_untrue trail (2 * x) (none (place trail (2 * x)) p), place_true trail (2 * x + 1) q)))
    go (inr p) (inr q) =
        inr
        (inr (
          none (place trail (2 * x)) p,
          none (place trail (2 * x + 1)) q,
          rw (place_untrue trail (2 * x) (none (place trail (2 * x)) p), place_untrue trail (2 * x + 1) (none (place trail (2 * x + 1)) q)),
        ))

-- the level of a place of a trail with one entry more
pub level_number_new : (e : Entry) (trail : List Entry) → level_number (e ∷ trail) (suc (length trail)) ≡ length (decisions (e ∷ trail))
unfolding level_number
level_number_new e trail =
    rw (literal_newest e trail) (⊎_elim (λ q. q.1) (λ q. absurd (q.0 refl)) (level_cases e trail e.literal))

pub level_number_old : (e : Entry) (trail : List Entry) (h : ℕ) → 0 < e.literal → place trail e.literal ≡ 0
    → (h ≡ suc (length trail) → ⊥) → level_number (e ∷ trail) h ≡ level_number trail h
unfolding level_number
level_number_old e trail h low off other = go (literal_cases e trail h)
  where
    go : LiteralCase e trail h → level (e ∷ trail) (literal_at (e ∷ trail) h) ≡ level trail (literal_at trail h)
    go (inl p) = absurd (other p.0)
    go (inr p) =
        rw p.1
        (⊎_elim (λ q. absurd (let z = literal_on trail h e.literal low (sym q.0) in omega arith)) (λ q. q.1)
        (level_cases e trail (literal_at trail h)))

-- the value of a variable on a trail with one entry more
pub value_number_new : (e : Entry) (trail : List Entry) → place trail (opposite e.literal) ≡ 0
    → value_number (e ∷ trail) (variable_of e.literal) ≡ 2 * (length trail + 1) + e.literal % 2
value_number_new e trail unfalse =
    go (opposite_cases e.literal) (value_cases (e ∷ trail) (variable_of e.literal))
  where
    go : OppositeCase e.literal → ValueCase (e ∷ trail) (variable_of e.literal)
        → value_number (e ∷ trail) (variable_of e.literal) ≡ 2 * (length trail + 1) + e.literal % 2
    go (inl o) w =
        let q : 2 * variable_of e.literal ≡ e.literal = omega arith in
        let p : place (e ∷ trail) (2 * variable_of e.literal) ≡ suc (length trail) = ap (place (e ∷ trail)) q ∙ place_new e trail in
        ⊎_elim (λ a. omega arith) (λ b. ⊎_elim (λ a. absurd (omega arith)) (λ a. absurd (omega arith)) b) w
    go (inr o) w =
        let q : 2 * variable_of e.literal + 1 ≡ e.literal = omega arith in
        let p : place (e ∷ trail) (2 * variable_of e.literal + 1) ≡ suc (length trail) = ap (place (e ∷ trail)) q ∙ place_new e trail in
        let r : 2 * variable_of e.literal ≡ opposite e.literal = omega arith in
        let z : place (e ∷ trail) (2 * variable_of e.literal) ≡ 0 =
        place_old e trail (2 * variable_of e.literal) (λ s. omega arith) ∙ ap (place trail) r ∙ unfalse in
        ⊎_elim (λ a. absurd (omega arith)) (λ b. ⊎_elim (λ a. omega arith) (λ a. absurd (omega arith)) b) w

pub value_number_old : (e : Entry) (trail : List Entry) (x : ℕ) → (x ≡ variable_of e.literal → ⊥)
    → value_number (e ∷ trail) x ≡ value_number trail x
value_number_old e trail x other =
    go (place_cases e trail (2 * x)) (place_cases e trail (2 * x + 1)) (value_cases (e ∷ trail) x) (value_cases trail x)
  where
    go : PlaceCase e trail (2 * x) → PlaceCase e trail (2 * x + 1) → ValueCase (e ∷ trail) x → ValueCase trail x
        → value_number (e ∷ trail) x ≡ value_number trail x
    go (inl a) b p q = absurd (other (omega arith))
    go (inr a) (inl b) p q = absurd (other (omega arith))
    go (inr a) (inr b) (inl p) (inl q) = omega arith
    go (inr a) (inr b) (inl p) (inr (inl q)) = absurd (omega arith)
    go (inr a) (inr b) (inl p) (inr (inr q)) = absurd (omega arith)
    go (inr a) (inr b) (inr (inl p)) (inl q) = absurd (omega arith)
    go (inr a) (inr b) (inr (inl p)) (inr (inl q)) = omega arith
    go (inr a) (inr b) (inr (inl p)) (inr (inr q)) = absurd (omega arith)
    go (inr a) (inr b) (inr (inr p)) (inl q) = absurd (omega arith)
    go (inr a) (inr b) (inr (inr p)) (inr (inl q)) = absurd (omega arith)
    go (inr a) (inr b) (inr (inr p)) (inr (inr q)) = omega arith

-- behind the end of a trail there is no literal, and no level
pub literal_behind : (trail : List Entry) (h : ℕ) → length trail < h → literal_at trail h ≡ 0
unfolding literal_at
literal_behind [] h k = refl
literal_behind (e ∷ trail) h k =
    ⊎_elim (λ p. absurd (omega arith)) (λ p. p.1 ∙ literal_behind trail h (omega arith)) (literal_cases e trail h)

pub level_off : (trail : List Entry) (l : ℕ) → place trail l ≡ 0 → level trail l ≡ 0
unfolding level
level_off [] l k = refl
level_off (e ∷ trail) l k = go (place_cases e trail l) (level_cases e trail l) (level_off trail l)
  where
    go : PlaceCase e trail l → LevelCase e trail l → (place trail l ≡ 0 → level trail l ≡ 0) → level (e ∷ trail) l ≡ 0
    go (inl p) q rest = absurd (omega arith)
    go (inr p) (inl q) rest = absurd (p.0 q.0)
    go (inr p) (inr q) rest = q.1 ∙ rest (omega arith)

pub level_behind : (trail : List Entry) (h : ℕ) → place trail 0 ≡ 0 → length trail < h → level_number trail h ≡ 0
unfolding level_number
level_behind trail h off k = rw (literal_behind trail h k) (level_off trail 0 off)

-- a variable of which no literal is on the trail has value 0
pub value_off : (trail : List Entry) (l : ℕ) → place trail l ≡ 0 → place trail (opposite l) ≡ 0 → value_number trail (variable_of l) ≡ 0
value_off trail l untrue unfalse = go (opposite_cases l) (value_cases trail (variable_of l))
  where
    go : OppositeCase l → ValueCase trail (variable_of l) → value_number trail (variable_of l) ≡ 0
    go o (inr (inr w)) = w.2
    go (inl o) (inl w) = absurd (let q : place trail (2 * variable_of l) ≡ place trail l = ap (place trail) (omega arith) in omega arith)
    go (inr o) (inl w) =
        absurd (let q : place trail (2 * variable_of l) ≡ place trail (opposite l) = ap (place trail) (omega arith) in omega arith)
    go (inl o) (inr (inl w)) =
        absurd (let q : place trail (2 * variable_of l + 1) ≡ place trail (opposite l) = ap (place trail) (omega arith) in omega arith)
    go (inr o) (inr (inl w)) =
        absurd (let q : place trail (2 * variable_of l + 1) ≡ place trail l = ap (place trail) (omega arith) in omega arith)

-- the level before a place
pub level_before_none : (v : ℕ) (numbers : List ℕ) (h : ℕ) → h ≡ 0 → level_before v numbers h ≡ 0
unfolding level_before
level_before_none v numbers h q = rw q

pub level_before_at : (v : ℕ) (numbers : List ℕ) (h : ℕ) → (h ≡ 0 → ⊥) → level_before v numbers h ≡ get_or numbers (levels_at v + (h - 1)) 0
unfolding level_before
level_before_at v numbers zero n = absurd (n refl)
level_before_at v numbers (suc i) n = let q : suc i - 1 ≡ i = omega arith in rw q

-- the level at the end of a trail is its number of decisions
pub level_number_top : (trail : List Entry) → level_number trail (length trail) ≡ length (decisions trail)
unfolding level_number level literal_at decisions
level_number_top [] = refl
level_number_top (e ∷ trail) = level_number_new e trail

literal_none : (trail : List Entry) → literal_at trail 0 ≡ 0
unfolding literal_at
literal_none [] = refl
literal_none (e ∷ trail) = ⊎_elim (λ p. absurd (omega arith)) (λ p. p.1 ∙ literal_none trail) (literal_cases e trail 0)

level_none : (trail : List Entry) → place trail 0 ≡ 0 → level_number trail 0 ≡ 0
unfolding level_number
level_none trail off = rw (literal_none trail) (level_off trail 0 off)

pub held_level_before : (v : ℕ) (numbers : List ℕ) (trail : List Entry) (h : ℕ) → TrailHeld v numbers trail → place trail 0 ≡ 0 → h ≤ v
    → level_before v numbers h ≡ level_number trail h
unfolding level_before
held_level_before v numbers trail zero held off k = sym (level_none trail off)
held_level_before v numbers trail (suc i) held off k = held.levels i (omega arith)

none_there : (n : ℕ) → (0 < n → ⊥) → n ≡ 0
none_there n h = omega arith

-- 0 is no literal of a trail
pub zero_off : (v : ℕ) (trail : List Entry) → ((l : ℕ) → is_true trail l ≡ true → literal_within v l ≡ true) → place trail 0 ≡ 0
zero_off v trail w =
    none_there (place trail 0) (λ h. let b = literal_parts v 0 (w 0 (place_true trail 0 h)) in omega arith)

-- the variable of the newest literal has no other literal on the trail
pub newest_off : (e : Entry) (trail : List Entry) (l : ℕ) → distinct (variables_on (e ∷ trail)) ≡ true → variable_of l ≡ variable_of e.literal
    → place trail l ≡ 0
newest_off e trail l d q = none_there (place trail l) (λ h. newest_apart e trail l d h q)

-- no more decisions than literals
pub decisions_within : (trail : List Entry) → length (decisions trail) ≤ length trail
unfolding decisions
decisions_within [] = omega arith
decisions_within (e ∷ trail) = go (decided_count e trail) (decisions_within trail)
  where
    go : CountCase e trail → length (decisions trail) ≤ length trail → length (decisions (e ∷ trail)) ≤ suc (length trail)
    go (inl p) h = omega arith
    go (inr p) h = omega arith

-- an entry is that of the positive or of the negative literal, and the other one is not on the trail
abbrev SignCase : List Entry → ℕ → ℕ → Type 0
SignCase trail x entry =
    ((entry ≡ 2 * place trail (positive x)) × (place trail (negative x) ≡ 0))
    ⊎ ((entry ≡ 2 * place trail (negative x) + 1) × (place trail (positive x) ≡ 0))

sign_cases : (trail : List Entry) (x : ℕ) → distinct (variables_on trail) ≡ true → SignCase trail x (value_number trail x)
sign_cases trail x once = go (value_cases trail x)
  where
    go : ValueCase trail x → SignCase trail x (value_number trail x)
    go (inl p) = inl (p.1, rw (opposite_positive x) at (consistent trail (positive x) once p.0))
    go (inr (inl p)) = inr (p.2, p.0)
    go (inr (inr p)) = inl (omega arith, p.1)

module _ (v : ℕ) (numbers : List ℕ) (trail : List Entry) (held : TrailHeld v numbers trail) (once : distinct (variables_on trail) ≡ true) where
  entry-cases : (x : ℕ) → 1 ≤ x → x ≤ v → SignCase trail x (get_or numbers (values_at v + (x - 1)) 0)
  entry-cases x low high =
      let same : suc (x - 1) ≡ x = omega arith in
      let entry : get_or numbers (values_at v + (x - 1)) 0 ≡ value_number trail x =
      held.values (x - 1) (omega arith) ∙ ap (value_number trail) same in
      rw entry (sign_cases trail x once)

  -- the place of a literal is half of the entry of its variable x if both have the same sign, else 0
  pub place_read : (l x : ℕ) → x ≡ l / 2 → literal_within v l ≡ true → get_or numbers (values_at v + (x - 1)) 0 % 2 ≡ l % 2
      → get_or numbers (values_at v + (x - 1)) 0 / 2 ≡ place trail l
  place_read l x half w e =
      let bounds = literal_parts v l w in
      go (alike (l % 2) 0) (entry-cases x (omega arith) (omega arith))
    where
      go : (l % 2 ≡ 0) ⊎ (l % 2 ≡ 0 → ⊥) → SignCase trail x (get_or numbers (values_at v + (x - 1)) 0)
          → get_or numbers (values_at v + (x - 1)) 0 / 2 ≡ place trail l
      go (inl s) (inl p) =
          let same : place trail (2 * x) ≡ place trail l = ap (place trail) (omega arith) in
          omega arith
      go (inl s) (inr p) = absurd (omega arith)
      go (inr s) (inl p) = absurd (omega arith)
      go (inr s) (inr p) =
          let same : place trail (2 * x + 1) ≡ place trail l = ap (place trail) (omega arith) in
          omega arith

  pub place_read_none : (l x : ℕ) → x ≡ l / 2 → literal_within v l ≡ true → (get_or numbers (values_at v + (x - 1)) 0 % 2 ≡ l % 2 → ⊥)
      → 0 ≡ place trail l
  place_read_none l x half w n =
      let bounds = literal_parts v l w in
      go (alike (l % 2) 0) (entry-cases x (omega arith) (omega arith))
    where
      go : (l % 2 ≡ 0) ⊎ (l % 2 ≡ 0 → ⊥) → SignCase trail x (get_or numbers (values_at v + (x - 1)) 0)
          → 0 ≡ place trail l
      go (inl s) (inl p) = absurd (n (omega arith))
      go (inl s) (inr p) =
          let same : place trail (2 * x) ≡ place trail l = ap (place trail) (omega arith) in
          omega arith
      go (inr s) (inl p) =
          let same : place trail (2 * x + 1) ≡ place trail l = ap (place trail) (omega arith) in
          omega arith
      go (inr s) (inr p) = absurd (n (omega arith))

  -- the level of a true literal is that at its place
  pub level_read : (l : ℕ) → 0 < place trail l → length trail ≤ v → get_or numbers (levels_at v + (place trail l - 1)) 0 ≡ level trail l
  unfolding level_number
  level_read l h few =
      let within = place_within trail l in
      let same : suc (place trail l - 1) ≡ place trail l = omega arith in
      held.levels (place trail l - 1) (omega arith)
      ∙ (ap (λ (k : ℕ). level trail (literal_at trail k)) same ∙ ap (level trail) (at_place trail l h))

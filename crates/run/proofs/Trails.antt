-- Places on the trail: true and false literals, one entry more, and a trail that has no variable twice.
use Prim.Native.Nat.{ℕ, suc, ◌≤◌, ◌<◌}
use native.Mathlib.Omega.{arith}
use mathlib.Core.Bool.{Bool, true, false, cond, not, or-true}
use mathlib.Core.List.{List, [], ◌∷◌}
use mathlib.Core.Logic.{◌⊎◌, inl, inr, ⊎_elim}
use mathlib.Core.Path.{◌≡◌, refl, sym, ap, ◌∙◌}
use borrow.Author.Tests.{eqb-true, eqb-false, eq-eqb, ne_eqb, not-true, not-false}
use lib.Dec.{eqb}
use lib.ListN.{length}
use Rattle.base.specs.Lists.{member, distinct}
use Rattle.base.proofs.Bools.{and_parts, alike, either, never}
use Rattle.book.specs.Formula.{variable_of}
use Rattle.run.specs.Trail.{Entry, opposite, place, literal_at, is_true, is_false, variables_on}
use Rattle.run.proofs.Opposites.{opposite_other, opposite_variable, same_variable}

-- true literals are those with a place
pub true_place : (trail : List Entry) (l : ℕ) → is_true trail l ≡ true → 0 < place trail l
unfolding is_true
true_place trail l e = let n : place trail l ≡ 0 → ⊥ = eqb-false (place trail l) 0 (not-true (eqb (place trail l) 0) e) in omega arith

pub place_true : (trail : List Entry) (l : ℕ) → 0 < place trail l → is_true trail l ≡ true
unfolding is_true
place_true trail l h = rw (ne_eqb (place trail l) 0 (λ e. omega arith))

pub untrue_place : (trail : List Entry) (l : ℕ) → is_true trail l ≡ false → place trail l ≡ 0
unfolding is_true
untrue_place trail l e = eqb-true (place trail l) 0 (not-false (eqb (place trail l) 0) e)

pub place_untrue : (trail : List Entry) (l : ℕ) → place trail l ≡ 0 → is_true trail l ≡ false
unfolding is_true
place_untrue trail l e = rw (eq-eqb (place trail l) 0 e)

-- the place of a literal on a trail with one entry more
pub place_new : (e : Entry) (trail : List Entry) → place (e ∷ trail) e.literal ≡ suc (length trail)
unfolding place
place_new e trail = rw (eq-eqb e.literal e.literal refl)

pub place_old : (e : Entry) (trail : List Entry) (l : ℕ) → (e.literal ≡ l → ⊥) → place (e ∷ trail) l ≡ place trail l
unfolding place
place_old e trail l n = rw (ne_eqb e.literal l n)

abbrev pub PlaceCase : Entry → List Entry → ℕ → Type 0
PlaceCase e trail l =
    ((e.literal ≡ l) × (place (e ∷ trail) l ≡ suc (length trail))) ⊎ ((e.literal ≡ l → ⊥) × (place (e ∷ trail) l ≡ place trail l))

pub place_cases : (e : Entry) (trail : List Entry) (l : ℕ)
    → PlaceCase e trail l
place_cases e trail l = ⊎_elim (λ q. inl (q, rw (← q) (place_new e trail))) (λ n. inr (n, place_old e trail l n)) (alike e.literal l)

pub place_within : (trail : List Entry) (l : ℕ) → place trail l ≤ length trail
unfolding place
place_within [] l = omega arith
place_within (e ∷ trail) l = let rest = place_within trail l in ⊎_elim (λ p. omega arith) (λ p. omega arith) (place_cases e trail l)

-- a place holds one literal
pub place_injective : (trail : List Entry) (a b : ℕ) → 0 < place trail a → place trail a ≡ place trail b → a ≡ b
unfolding place
place_injective [] a b h e = absurd (omega arith)
place_injective (t ∷ trail) a b h e = go (place_cases t trail a) (place_cases t trail b) (place_injective trail a b)
  where
    go : PlaceCase t trail a
        → PlaceCase t trail b
        → (0 < place trail a → place trail a ≡ place trail b → a ≡ b)
        → a ≡ b
    go (inl p) (inl q) rest = sym p.0 ∙ q.0
    go (inl p) (inr q) rest = absurd (omega (arith, place_within trail b))
    go (inr p) (inl q) rest = absurd (omega (arith, place_within trail a))
    go (inr p) (inr q) rest = rest (omega arith) (omega arith)

pub true_grows : (e : Entry) (trail : List Entry) (l : ℕ) → is_true trail l ≡ true → is_true (e ∷ trail) l ≡ true
true_grows e trail l t =
    let h = true_place trail l t in
    place_true (e ∷ trail) l (⊎_elim (λ p. omega arith) (λ p. omega arith) (place_cases e trail l))

pub on_trail_lem : (trail : List Entry) (l : ℕ) → 0 < place trail l → member (variable_of l) (variables_on trail) ≡ true
unfolding place member
on_trail_lem [] l h = absurd (omega arith)
on_trail_lem (e ∷ trail) l h = ⊎_elim (λ p. here p.0) (λ p. there (on_trail_lem trail l (rw p.1 at h))) (place_cases e trail l)
  where
    here : e.literal ≡ l → member (variable_of l) (variables_on (e ∷ trail)) ≡ true
    here q = rw (← q, eq-eqb (variable_of e.literal) (variable_of e.literal) refl)

    there : member (variable_of l) (variables_on trail) ≡ true → member (variable_of l) (variables_on (e ∷ trail)) ≡ true
    there m = rw (m, or-true)

-- a variable of the trail has a literal on it
pub variable_on : (trail : List Entry) (x : ℕ) → member x (variables_on trail) ≡ true → (l : ℕ) × (0 < place trail l) × (variable_of l ≡ x)
unfolding member
variable_on [] x h = absurd (never h refl)
variable_on (e ∷ trail) x h = go (either (eqb x (variable_of e.literal)) (member x (variables_on trail)) h) (variable_on trail x)
  where
    go : (eqb x (variable_of e.literal) ≡ true) ⊎ (member x (variables_on trail) ≡ true)
        → (member x (variables_on trail) ≡ true → (l : ℕ) × (0 < place trail l) × (variable_of l ≡ x))
        → (l : ℕ) × (0 < place (e ∷ trail) l) × (variable_of l ≡ x)
    go (inl q) rest = (e.literal, omega (arith, place_new e trail), sym (eqb-true x (variable_of e.literal) q))
    go (inr m) rest =
        let r = rest m in
        (r.0, true_place (e ∷ trail) r.0 (true_grows e trail r.0 (place_true trail r.0 r.1)), r.2)

pub off_trail : (trail : List Entry) (l : ℕ) → place trail l ≡ 0 → place trail (opposite l) ≡ 0
    → member (variable_of l) (variables_on trail) ≡ false
unfolding place member
off_trail [] l p q = refl
off_trail (e ∷ trail) l p q =
    go (place_cases e trail l) (place_cases e trail (opposite l)) (off_trail trail l)
  where
    go : PlaceCase e trail l
        → PlaceCase e trail (opposite l)
        → (place trail l ≡ 0 → place trail (opposite l) ≡ 0 → member (variable_of l) (variables_on trail) ≡ false)
        → member (variable_of l) (variables_on (e ∷ trail)) ≡ false
    go (inl a) b rest = absurd (omega arith)
    go (inr a) (inl b) rest = absurd (omega arith)
    go (inr a) (inr b) rest =
        rw (ne_eqb (variable_of l) (variable_of e.literal) (λ s. ⊎_elim a.0 b.0 (same_variable e.literal l (sym s))))
        (rest (omega arith) (omega arith))

-- on a trail without a variable twice the newest variable is not on the rest, and the rest has none twice
pub newest_once : (e : Entry) (trail : List Entry) → distinct (variables_on (e ∷ trail)) ≡ true
    → member (variable_of e.literal) (variables_on trail) ≡ false
unfolding distinct
newest_once e trail d =
    not-true (member (variable_of e.literal) (variables_on trail))
    (and_parts (not (member (variable_of e.literal) (variables_on trail))) (distinct (variables_on trail)) d).0

pub rest_distinct : (e : Entry) (trail : List Entry) → distinct (variables_on (e ∷ trail)) ≡ true → distinct (variables_on trail) ≡ true
unfolding distinct
rest_distinct e trail d = (and_parts (not (member (variable_of e.literal) (variables_on trail))) (distinct (variables_on trail)) d).1

pub newest_apart : (e : Entry) (trail : List Entry) (l : ℕ) → distinct (variables_on (e ∷ trail)) ≡ true → 0 < place trail l
    → variable_of l ≡ variable_of e.literal → ⊥
newest_apart e trail l d h s = never (on_trail_lem trail l h) (rw s (newest_once e trail d))

-- on a trail without a variable twice the opposite of a literal on it is not there, so a true literal is not false
pub consistent : (trail : List Entry) (l : ℕ) → distinct (variables_on trail) ≡ true → 0 < place trail l → place trail (opposite l) ≡ 0
unfolding place
consistent [] l d h = refl
consistent (e ∷ trail) l d h =
    go (place_cases e trail l) (place_cases e trail (opposite l)) (consistent trail l (rest_distinct e trail d))
  where
    none_there : (k : ℕ) → (0 < k → ⊥) → k ≡ 0
    none_there k n = omega arith

    go : PlaceCase e trail l
        → PlaceCase e trail (opposite l)
        → (0 < place trail l → place trail (opposite l) ≡ 0)
        → place (e ∷ trail) (opposite l) ≡ 0
    go (inl a) (inl b) rest = absurd (opposite_other l (sym b.0 ∙ a.0))
    go (inl a) (inr b) rest =
        b.1 ∙ none_there (place trail (opposite l))
        (λ k. newest_apart e trail (opposite l) d k (opposite_variable l ∙ ap variable_of (sym a.0)))
    go (inr a) (inl b) rest =
        absurd (newest_apart e trail l d (omega arith) (sym (opposite_variable l) ∙ ap variable_of (sym b.0)))
    go (inr a) (inr b) rest = b.1 ∙ rest (omega arith)

pub true_unfalse : (trail : List Entry) → distinct (variables_on trail) ≡ true → (l : ℕ) → is_true trail l ≡ true → is_false trail l ≡ false
true_unfalse trail d l t = place_untrue trail (opposite l) (consistent trail l d (true_place trail l t))

-- the literal at a place has that place
pub place_of_literal : (trail : List Entry) (h : ℕ) → distinct (variables_on trail) ≡ true → h < length trail
    → place trail (literal_at trail (suc h)) ≡ suc h
unfolding literal_at
place_of_literal [] h d k = absurd (omega arith)
place_of_literal (e ∷ trail) h d k = go (eqb (suc h) (suc (length trail))) refl (place_of_literal trail h (rest_distinct e trail d))
  where
    go : (b : Bool) → eqb (suc h) (suc (length trail)) ≡ b
        → (h < length trail → place trail (literal_at trail (suc h)) ≡ suc h)
        → place (e ∷ trail) (cond b e.literal (literal_at trail (suc h))) ≡ suc h
    go true q rest = let s : suc h ≡ suc (length trail) = eqb-true (suc h) (suc (length trail)) q in place_new e trail ∙ sym s
    go false q rest =
        let n : suc h ≡ suc (length trail) → ⊥ = eqb-false (suc h) (suc (length trail)) q in
        let r : place trail (literal_at trail (suc h)) ≡ suc h = rest (omega arith) in
        place_old e trail (literal_at trail (suc h))
        (λ z. newest_apart e trail (literal_at trail (suc h)) d (omega arith) (ap variable_of (sym z))) ∙ r

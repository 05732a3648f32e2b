-- What the values of the numbers that hold a trail say of a literal.
use Prim.Native.Nat.{ℕ, suc, ◌+◌, ◌*◌, ◌-◌, ◌%◌, ◌≤◌, ◌<◌}
use native.Mathlib.Omega.{arith}
use mathlib.Core.Bool.{Bool, true, false, cond}
use mathlib.Core.List.{List}
use mathlib.Core.Logic.{inl, inr, ⊎_elim}
use mathlib.Core.Path.{◌≡◌, refl, sym, ap, ◌∙◌}
use borrow.Author.Tests.{eq-eqb, ne_eqb}
use lib.ListN.{length, get_or, take, drop, length-take, length-drop}
use lib.Seq.{get_or-take, get_or-drop}
use Rattle.base.specs.Lists.{distinct}
use Rattle.book.specs.Formula.{variable_of}
use Rattle.run.specs.Trail.{Entry, opposite, place, is_true, is_false, variables_on}
use Rattle.run.proofs.Opposites.{OppositeCase, opposite_cases, opposite_opposite}
use Rattle.run.proofs.Trails.{place_true, place_untrue, consistent}
use Rattle.layout.specs.Layout.{values_at, watches_at, value_number, value_slot}
use Rattle.layout.specs.Encodes.{TrailHeld}
use Rattle.layout.specs.Values.{value_read, value_in, Reads}
use Rattle.layout.specs.declared.values.Value.{Value}
use Rattle.layout.specs.declared.values.Value.TheVariants.{Open, True, False}
use Rattle.layout.proofs.TrailLaws.{ValueCase, value_cases}

-- what an entry says of a literal
pub read_open : (entry l : ℕ) → entry ≡ 0 → value_read entry l ≡ Open
unfolding value_read
read_open entry l q = rw (eq-eqb entry 0 q)

pub read_true : (entry l : ℕ) → (entry ≡ 0 → ⊥) → entry % 2 ≡ l % 2 → value_read entry l ≡ True
unfolding value_read
read_true entry l n q = rw (ne_eqb entry 0 n, eq-eqb (entry % 2) (l % 2) q)

pub read_false : (entry l : ℕ) → (entry ≡ 0 → ⊥) → (entry % 2 ≡ l % 2 → ⊥) → value_read entry l ≡ False
unfolding value_read
read_false entry l n q = rw (ne_eqb entry 0 n, ne_eqb (entry % 2) (l % 2) q)

-- the value of a literal on a trail
in_true : (trail : List Entry) (l : ℕ) → 0 < place trail l → value_in trail l ≡ True
unfolding value_in
in_true trail l h = rw (place_true trail l h)

in_false : (trail : List Entry) (l : ℕ) → place trail l ≡ 0 → 0 < place trail (opposite l) → value_in trail l ≡ False
unfolding value_in
in_false trail l h o = rw (place_untrue trail l h, place_true trail (opposite l) o)

in_open : (trail : List Entry) (l : ℕ) → place trail l ≡ 0 → place trail (opposite l) ≡ 0 → value_in trail l ≡ Open
unfolding value_in
in_open trail l h o = rw (place_untrue trail l h, place_untrue trail (opposite l) o)

-- and what it says of the literal
module _ (trail : List Entry) (l : ℕ) where
  signs : (value : Value) → value_in trail l ≡ value → (t f : Bool) → is_true trail l ≡ t → is_false trail l ≡ f → value ≡ cond t True (cond f False Open)
  unfolding value_in
  signs value e t f p q = sym e ∙ rw (p, q) refl

  pub value_true : value_in trail l ≡ True → is_true trail l ≡ true
  value_true e = go (is_true trail l) (is_false trail l) refl refl
    where
      go : (t f : Bool) → is_true trail l ≡ t → is_false trail l ≡ f → t ≡ true
      go true f p q = refl
      go false true p q = let w = signs True e false true p q in let z : ◌≡◌ {A = ℕ} 0 1 = cc in absurd (omega arith)
      go false false p q = let w = signs True e false false p q in let z : ◌≡◌ {A = ℕ} 0 1 = cc in absurd (omega arith)

  pub value_false : value_in trail l ≡ False → (is_true trail l ≡ false) × (is_false trail l ≡ true)
  value_false e = go (is_true trail l) (is_false trail l) refl refl
    where
      go : (t f : Bool) → is_true trail l ≡ t → is_false trail l ≡ f → (t ≡ false) × (f ≡ true)
      go true f p q = let w = signs False e true f p q in let z : ◌≡◌ {A = ℕ} 0 1 = cc in absurd (omega arith)
      go false true p q = (refl, refl)
      go false false p q = let w = signs False e false false p q in let z : ◌≡◌ {A = ℕ} 0 1 = cc in absurd (omega arith)

  pub value_open : value_in trail l ≡ Open → (is_true trail l ≡ false) × (is_false trail l ≡ false)
  value_open e = go (is_true trail l) (is_false trail l) refl refl
    where
      go : (t f : Bool) → is_true trail l ≡ t → is_false trail l ≡ f → (t ≡ false) × (f ≡ false)
      go true f p q = let w = signs Open e true f p q in let z : ◌≡◌ {A = ℕ} 0 1 = cc in absurd (omega arith)
      go false true p q = let w = signs Open e false true p q in let z : ◌≡◌ {A = ℕ} 0 1 = cc in absurd (omega arith)
      go false false p q = (refl, refl)

-- the value of a variable says what the trail says of its literals
pub value_reads : (trail : List Entry) (l : ℕ) → distinct (variables_on trail) ≡ true
    → value_read (value_number trail (variable_of l)) l ≡ value_in trail l
value_reads trail l d = go (opposite_cases l) (value_cases trail (variable_of l))
  where
    go : OppositeCase l → ValueCase trail (variable_of l) → value_read (value_number trail (variable_of l)) l ≡ value_in trail l
    go (inl o) w =
        let same : place trail (2 * variable_of l) ≡ place trail l = ap (place trail) (omega arith) in
        let other : place trail (2 * variable_of l + 1) ≡ place trail (opposite l) = ap (place trail) (omega arith) in
        ⊎_elim
        (λ p. read_true (value_number trail (variable_of l)) l (λ z. omega arith) (omega arith) ∙ sym (in_true trail l (omega arith)))
        (λ b.
        ⊎_elim
        (λ p. read_false (value_number trail (variable_of l)) l (λ z. omega arith) (λ z. omega arith) ∙ sym (in_false trail l (omega arith) (omega arith)))
        (λ p. read_open (value_number trail (variable_of l)) l (omega arith) ∙ sym (in_open trail l (omega arith) (omega arith)))
        b)
        w
    go (inr o) w =
        let same : place trail (2 * variable_of l + 1) ≡ place trail l = ap (place trail) (omega arith) in
        let other : place trail (2 * variable_of l) ≡ place trail (opposite l) = ap (place trail) (omega arith) in
        ⊎_elim
        (λ p.
        let off : place trail (opposite (opposite l)) ≡ 0 = consistent trail (opposite l) d (omega arith) in
        let back : place trail l ≡ 0 = ap (place trail) (sym (opposite_opposite l)) ∙ off in
        read_false (value_number trail (variable_of l)) l (λ z. omega arith) (λ z. omega arith) ∙ sym (in_false trail l back (omega arith)))
        (λ b.
        ⊎_elim
        (λ p. read_true (value_number trail (variable_of l)) l (λ z. omega arith) (omega arith) ∙ sym (in_true trail l (omega arith)))
        (λ p. read_open (value_number trail (variable_of l)) l (omega arith) ∙ sym (in_open trail l (omega arith) (omega arith)))
        b)
        w

-- the values of the numbers that hold a trail say what it says, read there
pub held_value : (v : ℕ) (numbers : List ℕ) (trail : List Entry) → TrailHeld v numbers trail → distinct (variables_on trail) ≡ true
    → (l : ℕ) → 2 ≤ l → variable_of l ≤ v → value_read (get_or numbers (value_slot v l) 0) l ≡ value_in trail l
held_value v numbers trail held d l low within =
    let one_more_lem : suc (variable_of l - 1) ≡ variable_of l = omega arith in
    let entry : get_or numbers (value_slot v l) 0 ≡ value_number trail (variable_of l) =
    held.values (variable_of l - 1) (omega arith) ∙ ap (value_number trail) one_more_lem in
    rw entry (value_reads trail l d)

-- or in a part of them
pub held_reads : (v : ℕ) (numbers : List ℕ) (trail : List Entry) → TrailHeld v numbers trail → distinct (variables_on trail) ≡ true
    → watches_at v ≤ length numbers → Reads (take v (drop (values_at v) numbers)) trail
held_reads v numbers trail held d long l low within =
    let size : length (take v (drop (values_at v) numbers)) ≡ v = simp (length-take, length-drop) (omega arith) in
    let inside : variable_of l - 1 < v = omega arith in
    let entry : get_or (take v (drop (values_at v) numbers)) (variable_of l - 1) 0 ≡ get_or numbers (value_slot v l) 0 =
    get_or-take v (drop (values_at v) numbers) (variable_of l - 1) 0 inside
    ∙ get_or-drop (values_at v) numbers (variable_of l - 1) 0 in
    rw entry (held_value v numbers trail held d l low (omega arith))

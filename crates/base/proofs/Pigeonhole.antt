-- A list of different numbers from 1 to n has at most n of them.
use Prim.Native.Nat.{ℕ, zero, suc, ◌≤◌}
use native.Mathlib.Omega.{arith}
use mathlib.Core.Bool.{Bool, true, false, cond, not, or-true}
use mathlib.Core.List.{List, [], ◌∷◌}
use mathlib.Core.Logic.{⊎_elim}
use mathlib.Core.Path.{◌≡◌, refl, sym, ap, ◌∙◌}
use borrow.Author.Tests.{eqb-true, eqb-false, eq-eqb, ne_eqb, not-true}
use lib.Dec.{eqb}
use lib.ListN.{length}
use Rattle.base.specs.Lists.{keep, member, distinct, without}
use Rattle.base.proofs.Bools.{both, either, neither_left, neither_right, never, and_parts, refuted}
use Rattle.base.proofs.Members.{member_at}

without-member : (n x : ℕ) (xs : List ℕ) → member x (without n xs) ≡ true → (member x xs ≡ true) × (x ≡ n → ⊥)
unfolding without keep member
without-member n x [] m = absurd (never m refl)
without-member n x (y ∷ xs) m = go (eqb y n) refl m (without-member n x xs)
  where
    both_ways_lem : (member x xs ≡ true) × (x ≡ n → ⊥) → (member x (y ∷ xs) ≡ true) × (x ≡ n → ⊥)
    both_ways_lem r = (rw (r.0, or-true), r.1)

    go : (b : Bool) → eqb y n ≡ b → member x (cond (not b) (y ∷ without n xs) (without n xs)) ≡ true
        → (member x (without n xs) ≡ true → (member x xs ≡ true) × (x ≡ n → ⊥)) → (member x (y ∷ xs) ≡ true) × (x ≡ n → ⊥)
    go true e m rest = both_ways_lem (rest m)
    go false e m rest =
        ⊎_elim (λ q. (rw q, λ z. eqb-false y n e (sym (eqb-true x y q) ∙ z))) (λ k. both_ways_lem (rest k))
        (either (eqb x y) (member x (without n xs)) m)

without-distinct : (n : ℕ) (xs : List ℕ) → distinct xs ≡ true → distinct (without n xs) ≡ true
unfolding without keep distinct
without-distinct n [] d = refl
without-distinct n (y ∷ xs) d = go (eqb y n) (without-distinct n xs (and_parts (not (member y xs)) (distinct xs) d).1)
  where
    new : member y xs ≡ false
    new = not-true (member y xs) (and_parts (not (member y xs)) (distinct xs) d).0

    go : (b : Bool) → distinct (without n xs) ≡ true → distinct (cond (not b) (y ∷ without n xs) (without n xs)) ≡ true
    go true rest = rest
    go false rest = both (ap not (refuted (member y (without n xs)) (λ m. never (without-member n y xs m).0 new))) rest

without_absent : (n : ℕ) (xs : List ℕ) → member n xs ≡ false → without n xs ≡ xs
unfolding without keep member
without_absent n [] m = refl
without_absent n (y ∷ xs) m =
    rw (ne_eqb y n (λ q. never (eq-eqb n y (sym q)) (neither_left (eqb n y) (member n xs) m)))
    (ap (λ (l : List ℕ). y ∷ l) (without_absent n xs (neither_right (eqb n y) (member n xs) m)))

without-length : (n : ℕ) (xs : List ℕ) → distinct xs ≡ true → length xs ≤ suc (length (without n xs))
unfolding without keep distinct
without-length n [] d = omega arith
without-length n (y ∷ xs) d = go (eqb y n) refl (without-length n xs (and_parts (not (member y xs)) (distinct xs) d).1)
  where
    go : (b : Bool) → eqb y n ≡ b → length xs ≤ suc (length (without n xs))
        → length (y ∷ xs) ≤ suc (length (cond (not b) (y ∷ without n xs) (without n xs)))
    go true e rest =
        let all : without n xs ≡ xs
        = without_absent n xs (rw (eqb-true y n e) at (not-true (member y xs) (and_parts (not (member y xs)) (distinct xs) d).0)) in
        rw all (omega arith)
    go false e rest = omega arith

pub pigeonhole : (n : ℕ) (xs : List ℕ) → distinct xs ≡ true → ((x : ℕ) → member x xs ≡ true → (1 ≤ x) × (x ≤ n)) → length xs ≤ n
unfolding without
pigeonhole zero [] d w = omega arith
pigeonhole zero (x ∷ xs) d w = absurd (let h = w x (member_at (x ∷ xs) 0 (omega arith)) in omega arith)
pigeonhole (suc n) xs d w =
    let rest : length (without (suc n) xs) ≤ n
    = pigeonhole n (without (suc n) xs) (without-distinct (suc n) xs d) (λ x m. within x (without-member (suc n) x xs m)) in
    omega (arith, without-length (suc n) xs d)
  where
    within : (x : ℕ) → (member x xs ≡ true) × (x ≡ suc n → ⊥) → (1 ≤ x) × (x ≤ n)
    within x k = let h = w x k.0 in (omega arith, omega arith)

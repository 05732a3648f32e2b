-- Opposite literals: what the opposite is, and that two literals of one variable are the same or opposite.
use Prim.Native.Nat.{ℕ, ◌+◌, ◌-◌, ◌%◌}
use native.Mathlib.Omega.{arith}
use mathlib.Core.Bool.{Bool, true, false, cond}
use mathlib.Core.Logic.{◌⊎◌, inl, inr, ⊎_elim}
use mathlib.Core.Path.{◌≡◌, refl, sym, ap, ◌∙◌}
use borrow.Author.Tests.{eqb-true, eqb-false}
use lib.Dec.{eqb}
use Rattle.base.proofs.Bools.{alike}
use Rattle.book.specs.Formula.{positive, negative, variable_of}
use Rattle.run.specs.Trail.{opposite}

-- the opposite: another literal of the same variable, whose opposite is the literal itself
abbrev pub OppositeCase : ℕ → Type 0
OppositeCase l = ((l % 2 ≡ 0) × (opposite l ≡ l + 1)) ⊎ ((l % 2 ≡ 1) × (opposite l ≡ l - 1))

pub opposite_cases : (l : ℕ) → OppositeCase l
unfolding opposite
opposite_cases l = go (eqb (l % 2) 0) refl
  where
    go : (b : Bool) → eqb (l % 2) 0 ≡ b
        → ((l % 2 ≡ 0) × (cond b (l + 1) (l - 1) ≡ l + 1)) ⊎ ((l % 2 ≡ 1) × (cond b (l + 1) (l - 1) ≡ l - 1))
    go true e = inl (eqb-true (l % 2) 0 e, refl)
    go false e = inr (let n : l % 2 ≡ 0 → ⊥ = eqb-false (l % 2) 0 e in omega arith, refl)

pub opposite_positive : (v : ℕ) → opposite (positive v) ≡ negative v
opposite_positive v = ⊎_elim (λ p. p.1) (λ p. absurd (omega arith)) (opposite_cases (positive v))

pub opposite_opposite : (l : ℕ) → opposite (opposite l) ≡ l
opposite_opposite l = go (opposite_cases l) (opposite_cases (opposite l))
  where
    go : OppositeCase l
        → OppositeCase (opposite l)
        → opposite (opposite l) ≡ l
    go (inl p) (inl q) = omega arith
    go (inl p) (inr q) = omega arith
    go (inr p) (inl q) = omega arith
    go (inr p) (inr q) = omega arith

pub opposite_other : (l : ℕ) → opposite l ≡ l → ⊥
opposite_other l e = ⊎_elim (λ p. omega arith) (λ p. omega arith) (opposite_cases l)

pub opposite_variable : (l : ℕ) → variable_of (opposite l) ≡ variable_of l
opposite_variable l = ⊎_elim (λ p. omega arith) (λ p. omega arith) (opposite_cases l)

pub opposite_injective : (a b : ℕ) → opposite a ≡ opposite b → a ≡ b
opposite_injective a b e = sym (opposite_opposite a) ∙ ap opposite e ∙ opposite_opposite b

-- two literals of one variable are the same or opposite
pub same_variable : (a b : ℕ) → variable_of a ≡ variable_of b → (a ≡ b) ⊎ (a ≡ opposite b)
same_variable a b e = go (alike a b) (opposite_cases b)
  where
    go : (a ≡ b) ⊎ (a ≡ b → ⊥) → OppositeCase b
        → (a ≡ b) ⊎ (a ≡ opposite b)
    go (inl s) p = inl s
    go (inr d) (inl p) = inr (omega arith)
    go (inr d) (inr p) = inr (omega arith)

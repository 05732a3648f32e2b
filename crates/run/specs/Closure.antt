-- The closure of statement 2: the least set that holds the decisions in force and is closed under the unit rule; since which decision it holds a literal.
use Rattle.std.specs.Prelude.{ℕ, ◌<◌, ◌≡◌, true, List}
use Rattle.base.specs.Lists.{member}
use Rattle.book.specs.Formula.{Formula}
use Rattle.run.specs.Trail.{opposite}
use Rattle.run.specs.Run.{Run, clause_of}
use Rattle.run.specs.Calls.{oldest_decisions}

pub data Closure (formula : Formula) (ds : List ℕ) : ℕ → Type 0 where
  decided : {l : ℕ} → member l ds ≡ true → Closure formula ds l
  implied : {l : ℕ} (c : ℕ) → member l (clause_of formula c) ≡ true
      → ((m : ℕ) → member m (clause_of formula c) ≡ true → (m ≡ l → ⊥) → Closure formula ds (opposite m)) → Closure formula ds l

-- closed under the unit rule: where all literals of a clause but one are false, that one is true
abbrev pub UnitClosed : Formula → (ℕ → Type 0) → Type 0
UnitClosed formula S =
    (c l : ℕ) → member l (clause_of formula c) ≡ true
    → ((m : ℕ) → member m (clause_of formula c) ≡ true → (m ≡ l → ⊥) → S (opposite m)) → S l

abbrev pub Contains : List ℕ → (ℕ → Type 0) → Type 0
Contains ds S = (l : ℕ) → member l ds ≡ true → S l

-- some variable both ways
abbrev pub BothWays : (ℕ → Type 0) → Type 0
BothWays S = (l : ℕ) × S l × S (opposite l)

-- Since the n-th decision in force, or since the opening where n is 0: the closure of the n oldest decisions holds the literal, and that of fewer does not.
pub record Since (formula : Formula) (run : Run) (n l : ℕ) : Type 0 where
  pub follows : Closure formula (oldest_decisions n run) l
  pub not_before : (m : ℕ) → m < n → Closure formula (oldest_decisions m run) l → ⊥

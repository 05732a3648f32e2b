-- The trail: the true literals in the order in which they became so, and what it says of literals and levels.
use Rattle.std.specs.Prelude.{ℕ, zero, suc, ◌+◌, ◌-◌, ◌%◌, Bool, cond, not, ◌||◌, List, [], ◌∷◌, map, eqb, length}
use Rattle.book.specs.Formula.{variable_of, met}

-- the literal of the same variable with the other sign
unfoldable pub opposite : ℕ → ℕ
opposite l = cond (eqb (l % 2) 0) (l + 1) (l - 1)

-- A trail literal is a decision (the paper's choice) or was implied (forced) by a clause.
pub record Entry : Type 0 where
  pub literal : ℕ
  pub decided : Bool

-- The trail has its newest literal first. The place of a literal on it is counted from the oldest, 1; it is 0 where the literal is not on it.
unfoldable pub place : List Entry → ℕ → ℕ
place [] l = 0
place (e ∷ trail) l = cond (eqb e.literal l) (suc (length trail)) (place trail l)

-- the literal at a place; 0 where there is none
unfoldable pub literal_at : List Entry → ℕ → ℕ
literal_at [] h = 0
literal_at (e ∷ trail) h = cond (eqb h (suc (length trail))) e.literal (literal_at trail h)

-- assigned (settled): a literal on the trail is true, and its opposite false
unfoldable pub is_true : List Entry → ℕ → Bool
is_true trail l = not (eqb (place trail l) 0)

abbrev pub is_false : List Entry → ℕ → Bool
is_false trail l = is_true trail (opposite l)

abbrev pub is_assigned : List Entry → ℕ → Bool
is_assigned trail l = is_true trail l || is_false trail l

-- a clause (the paper's rule) is met on a trail: one of its literals is true, or it has none and is always met
abbrev pub is_met : List Entry → List ℕ → Bool
is_met trail clause = met (is_true trail) clause

-- the variables on a trail
abbrev pub variables_on : List Entry → List ℕ
variables_on trail = map (λ (e : Entry). variable_of e.literal) trail

-- the decisions in force, newest first
unfoldable pub decisions : List Entry → List ℕ
decisions [] = []
decisions (e ∷ trail) = cond e.decided (e.literal ∷ decisions trail) (decisions trail)

-- The level of a trail literal: the number of decisions up to and including it.
unfoldable pub level : List Entry → ℕ → ℕ
level [] l = 0
level (e ∷ trail) l = cond (eqb e.literal l) (length (decisions (e ∷ trail))) (level trail l)

-- the trail without its top level: the latest decision and all after it leave
unfoldable pub lowered : List Entry → List Entry
lowered [] = []
lowered (e ∷ trail) = cond e.decided trail (lowered trail)

-- the trail without its last k levels
unfoldable pub cut : ℕ → List Entry → List Entry
cut zero trail = trail
cut (suc k) trail = cut k (lowered trail)

-- A clause as read: no variable stands in it twice, it is no longer than as written, and it is met by just the settings that meet it as written.
use Prim.Native.Nat.{ℕ, ◌≤◌, ◌<◌}
use native.Mathlib.Omega.{arith}
use mathlib.Core.Bool.{Bool, true, false, cond, not, ◌&&◌}
use mathlib.Core.List.{List, [], ◌∷◌, map}
use mathlib.Core.Logic.{◌⊎◌, inl, inr}
use mathlib.Core.Path.{◌≡◌, refl, sym, ap, ◌∙◌}
use borrow.Author.Tests.{eq-eqb, ne_eqb}
use lib.ListN.{length, get_or, length-map, get_or-map}
use Rattle.base.specs.Lists.{all, any, empty, member, distinct, firsts}
use Rattle.base.proofs.Bools.{alike, both, and_parts, never, refuted}
use Rattle.base.proofs.Members.{position, member_at, distinct_positions, positions_distinct}
use Rattle.base.proofs.ForAll.{any_place, any-member}
use Rattle.base.proofs.Firsts.{member-firsts, firsts-all, firsts-any, firsts_short, firsts-distinct, firsts_same}
use Rattle.book.specs.Formula.{positive, negative, variable_of, met, true_in}
use Rattle.book.specs.Reading.{both_ways, as_read}

-- positions of a list and of its variables
variable_at : (ls : List ℕ) (i : ℕ) → get_or (map variable_of ls) i 0 ≡ variable_of (get_or ls i 0)
variable_at ls i = get_or-map variable_of ls i 0

-- where no variable stands twice, each has one position
once_position : (ls : List ℕ) → distinct (map variable_of ls) ≡ true → (i j : ℕ) → i < length ls → j < length ls
    → variable_of (get_or ls i 0) ≡ variable_of (get_or ls j 0) → i ≡ j
once_position ls once i j h k e =
    distinct_positions (map variable_of ls) i j once (rw length-map h) (rw length-map k) (variable_at ls i ∙ e ∙ sym (variable_at ls j))

-- two literals of one variable stand both ways
pub both_ways_met : (clause : List ℕ) (l m : ℕ) → member l clause ≡ true → member m clause ≡ true → variable_of l ≡ variable_of m → (l ≡ m → ⊥)
    → both_ways clause ≡ true
unfolding both_ways
both_ways_met clause l m on also e n = any-member _ clause l on (go (alike l (positive (variable_of l))))
  where
    go : (l ≡ positive (variable_of l)) ⊎ (l ≡ positive (variable_of l) → ⊥)
        → (member (positive (variable_of l)) clause && member (negative (variable_of l)) clause) ≡ true
    go (inl p) =
        let other : m ≡ negative (variable_of l) = omega arith in
        both (ap (λ (x : ℕ). member x clause) (sym p) ∙ on) (ap (λ (x : ℕ). member x clause) (sym other) ∙ also)
    go (inr q) =
        let here : l ≡ negative (variable_of l) = omega arith in
        let other : m ≡ positive (variable_of l) = omega arith in
        both (ap (λ (x : ℕ). member x clause) (sym other) ∙ also) (ap (λ (x : ℕ). member x clause) (sym here) ∙ on)

-- a variable that stands both ways, and its two literals
pub record TwoWays (clause : List ℕ) : Type 0 where
  pub variable : ℕ
  pub positive_on : member (positive variable) clause ≡ true
  pub negative_on : member (negative variable) clause ≡ true

pub two_ways : (clause : List ℕ) → both_ways clause ≡ true → TwoWays clause
unfolding both_ways
two_ways clause h =
    let at = any_place _ clause 0 h in
    let v : ℕ = variable_of (get_or clause at.0 0) in
    let parts = and_parts (member (positive v) clause) (member (negative v) clause) at.2 in
    record { variable = v; positive_on = parts.0; negative_on = parts.1 }

-- no variable stands twice, once each literal stands once, exactly if none stands both ways
pub firsts_once : (ls : List ℕ) → distinct (map variable_of (firsts ls)) ≡ true → both_ways ls ≡ false
firsts_once ls once = refuted (both_ways ls) (λ h. apart (two_ways ls h))
  where
    apart : TwoWays ls → ⊥
    apart t =
        let p = position (positive t.variable) (firsts ls) (member-firsts _ ls ∙ t.positive_on) in
        let n = position (negative t.variable) (firsts ls) (member-firsts _ ls ∙ t.negative_on) in
        let same : p.0 ≡ n.0 = once_position (firsts ls) once p.0 n.0 p.1 n.1 (omega (arith, p.2, n.2)) in
        let equal : positive t.variable ≡ negative t.variable = sym p.2 ∙ ap (λ (i : ℕ). get_or (firsts ls) i 0) same ∙ n.2 in
        omega arith

once_firsts : (ls : List ℕ) → both_ways ls ≡ false → distinct (map variable_of (firsts ls)) ≡ true
once_firsts ls out =
    positions_distinct (map variable_of (firsts ls))
    (λ i j h k e. one i j (rw length-map at h) (rw length-map at k) (sym (variable_at (firsts ls) i) ∙ e ∙ variable_at (firsts ls) j))
  where
    one : (i j : ℕ) → i < length (firsts ls) → j < length (firsts ls) → variable_of (get_or (firsts ls) i 0) ≡ variable_of (get_or (firsts ls) j 0) → i ≡ j
    one i j h k e = go (alike (get_or (firsts ls) i 0) (get_or (firsts ls) j 0))
      where
        on : (i : ℕ) → i < length (firsts ls) → member (get_or (firsts ls) i 0) ls ≡ true
        on i h = sym (member-firsts _ ls) ∙ member_at (firsts ls) i h

        go : (get_or (firsts ls) i 0 ≡ get_or (firsts ls) j 0) ⊎ (get_or (firsts ls) i 0 ≡ get_or (firsts ls) j 0 → ⊥) → i ≡ j
        go (inl same) = distinct_positions (firsts ls) i j (firsts-distinct ls) h k same
        go (inr n) = absurd (never (both_ways_met ls _ _ (on i h) (on j k) e n) out)

-- which of the two a clause as read is
pub as_read_none : (clause : List ℕ) → both_ways clause ≡ true → as_read clause ≡ []
unfolding as_read
as_read_none clause h = rw h

pub as_read_firsts : (clause : List ℕ) → both_ways clause ≡ false → as_read clause ≡ firsts clause
unfolding as_read
as_read_firsts clause h = rw h

-- A clause as read has no variable twice, no more literals than as written, and each of them is one of those.
pub read_once : (clause : List ℕ) → distinct (map variable_of (as_read clause)) ≡ true
unfolding as_read distinct
read_once clause = go (both_ways clause) refl
  where
    go : (b : Bool) → both_ways clause ≡ b → distinct (map variable_of (cond b [] (firsts clause))) ≡ true
    go true e = refl
    go false e = once_firsts clause e

pub as_read_short : (clause : List ℕ) → length (as_read clause) ≤ length clause
unfolding as_read
as_read_short clause = go (both_ways clause)
  where
    go : (b : Bool) → length (cond b [] (firsts clause)) ≤ length clause
    go true = omega arith
    go false = firsts_short clause

pub as_read_within : (p : ℕ → Bool) (clause : List ℕ) → all p clause ≡ true → all p (as_read clause) ≡ true
unfolding as_read all
as_read_within p clause h = go (both_ways clause)
  where
    go : (b : Bool) → all p (cond b [] (firsts clause)) ≡ true
    go true = refl
    go false = firsts-all p clause h

-- a clause in which no variable stands twice is read as it is written
pub as_read_again : (clause : List ℕ) → distinct (map variable_of clause) ≡ true → as_read clause ≡ clause
as_read_again clause once =
    as_read_firsts clause (firsts_once clause (ap (λ (ls : List ℕ). distinct (map variable_of ls)) same ∙ once)) ∙ same
  where
    same : firsts clause ≡ clause
    same = firsts_same clause
        (positions_distinct clause (λ i j h k e. once_position clause once i j h k (ap (λ (l : ℕ). variable_of l) e)))

-- The clause as written is met in a setting of the variables exactly if the clause as read is met, where one of no literals always is.
module _ (setting : ℕ → Bool) where
  true-positive : (v : ℕ) → true_in setting (positive v) ≡ setting v
  unfolding true_in
  true-positive v =
      let same : variable_of (positive v) ≡ v = omega arith in
      rw (same, eq-eqb (positive v) (positive v) refl)

  true_negative : (v : ℕ) → true_in setting (negative v) ≡ not (setting v)
  unfolding true_in
  true_negative v =
      let same : variable_of (negative v) ≡ v = omega arith in
      rw (same, ne_eqb (negative v) (positive v) (λ z. omega arith))

  both_ways_true : (written : List ℕ) → TwoWays written → any (true_in setting) written ≡ true
  both_ways_true written t = go (setting t.variable) refl
    where
      go : (b : Bool) → setting t.variable ≡ b → any (true_in setting) written ≡ true
      go true e = any-member (true_in setting) written _ t.positive_on (true-positive t.variable ∙ e)
      go false e = any-member (true_in setting) written _ t.negative_on (true_negative t.variable ∙ ap not e)

  some_first : (written : List ℕ) → empty written ≡ false → empty (firsts written) ≡ false
  unfolding firsts empty
  some_first [] h = h
  some_first (l ∷ ls) h = refl

  pub as_read_met : (written : List ℕ) → empty written ≡ false → any (true_in setting) written ≡ met (true_in setting) (as_read written)
  unfolding as_read met empty
  as_read_met written some = go (both_ways written) refl
    where
      go : (b : Bool) → both_ways written ≡ b → any (true_in setting) written ≡ met (true_in setting) (cond b [] (firsts written))
      go true e = both_ways_true written (two_ways written e)
      go false e = rw (some_first written some) (sym (firsts-any (true_in setting) written))

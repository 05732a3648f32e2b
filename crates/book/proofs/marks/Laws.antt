-- The laws of the marks on variables: no variable seen yet, one variable more, the next literal of a clause, and what a mark says.
use Prim.Native.Nat.{ℕ, suc, ◌/◌, ◌≤◌, ◌<◌}
use mathlib.Core.Bool.{Bool, true, false, or-false, or-true}
use mathlib.Core.List.{List, [], ◌∷◌, ◌++◌, map, map-append}
use mathlib.Core.Path.{◌≡◌, refl, ◌∙◌}
use native.Mathlib.Omega.{arith}
use native.Mathlib.Nat.{le_of_eq}
use borrow.Author.Tests.{eqb-true, eqb-false, eq-eqb, ne_eqb}
use lib.Dec.{eqb}
use lib.ListN.{length, get_or, set, take, replicate, length-set, length-replicate}
use lib.Seq.{get_or-set_same, get_or-set_other, take-suc}
use Rattle.base.specs.Lists.{member}
use Rattle.base.proofs.Lists.{get_or_alike}
use Rattle.base.proofs.Members.{member_more}
use Rattle.book.specs.Formula.{variable_of}
use Rattle.book.specs.Inner.Marks.{Bounded, Marked, variable_marks}

-- fresh marks are all 0
pub bounded_fresh : Bounded (replicate variable_marks 0) 0
bounded_fresh = record { long = length-replicate {A = ℕ} variable_marks 0; below = λ k. le_of_eq (get_or_alike variable_marks k 0) }

-- under a tag above every mark no variable was seen
pub marked_none : (marks : List ℕ) (old tag : ℕ) → old < tag → Bounded marks old → Marked marks tag []
unfolding member
marked_none marks old tag less b =
    record {
      bounded = record { long = b.long; below = λ k. omega (arith, b.below k) };
      exact = λ k h. ne_eqb (get_or marks k 0) tag (λ e. omega (arith, b.below k));
    }

module _ (marks : List ℕ) (tag : ℕ) (seen : List ℕ) (x : ℕ) (within : x < variable_marks) (m : Marked marks tag seen) where
  -- the mark says whether the variable was seen
  pub marked_test : eqb (get_or marks x 0) tag ≡ member x seen
  marked_test = m.exact x within

  in_range : x < length marks
  in_range = omega (arith, m.bounded.long)

  -- a mark at the variable itself, and at any other
  at_same : (k : ℕ) → k ≡ x → get_or (set marks x tag) k 0 ≡ tag
  at_same k e = rw e (get_or-set_same marks x tag 0 in_range)

  at_other : (k : ℕ) → (k ≡ x → ⊥) → get_or (set marks x tag) k 0 ≡ get_or marks k 0
  at_other k n = get_or-set_other marks x k tag 0 n

  -- a variable is marked: it joins those seen
  pub marked_more : Marked (set marks x tag) tag (seen ++ (x ∷ []))
  marked_more =
      record {
        bounded =
            record {
              long = length-set marks x tag ∙ m.bounded.long;
              below = λ k. below k (eqb k x) refl;
            };
        exact = λ k h. exact k h (eqb k x) refl;
      }
    where
      below : (k : ℕ) (b : Bool) → eqb k x ≡ b → get_or (set marks x tag) k 0 ≤ tag
      below k true e = le_of_eq (at_same k (eqb-true k x e))
      below k false e = rw (at_other k (eqb-false k x e)) (m.bounded.below k)

      exact : (k : ℕ) → k < variable_marks → (b : Bool) → eqb k x ≡ b → eqb (get_or (set marks x tag) k 0) tag ≡ member k (seen ++ (x ∷ []))
      exact k h true e = rw (at_same k (eqb-true k x e), member_more k seen x, e, or-true) (eq-eqb tag tag refl)
      exact k h false e = rw (at_other k (eqb-false k x e), member_more k seen x, e, or-false) (m.exact k h)

-- the variables of the literals before i + 1 are those before i, and that of the literal at i
pub seen_more : (clause : List ℕ) (i l : ℕ) → i < length clause → l ≡ get_or clause i 0
    → map variable_of (take (suc i) clause) ≡ map variable_of (take i clause) ++ (l / 2 ∷ [])
seen_more clause i l h next = rw (next, take-suc clause i 0 h, map-append)

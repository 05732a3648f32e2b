-- Clauses as written and as read: what follows from them as read follows as written, and out of conflict both have the same closure.
use Prim.Native.Nat.{ℕ}
use native.Mathlib.Omega.{arith}
use mathlib.Core.Bool.{true, false}
use mathlib.Core.List.{List, []}
use mathlib.Core.Logic.{◌⊎◌, inl, inr, ◌↔◌}
use mathlib.Core.Path.{◌≡◌, refl, sym, ap, ◌∙◌}
use lib.ListN.{get_or-map}
use Rattle.base.specs.Lists.{any, member, firsts}
use Rattle.base.proofs.Bools.{alike, never, true_or_false}
use Rattle.base.proofs.Firsts.{member-firsts}
use Rattle.book.specs.Formula.{Formula, positive, negative}
use Rattle.book.specs.Reading.{both_ways, as_read, read_formula}
use Rattle.book.proofs.AsReadLaws.{TwoWays, two_ways, as_read_none, as_read_firsts}
use Rattle.run.specs.Run.{clause_of}
use Rattle.run.specs.Closure.{Closure, UnitClosed, BothWays}
use Rattle.run.proofs.Opposites.{opposite_positive, opposite_opposite}
use Rattle.run.proofs.ClosureLaws.{closure_within, closure_holds, closure_closed}

-- clause c as read, and its literals
clause_as_read : (formula : Formula) (c : ℕ) → clause_of (read_formula formula) c ≡ as_read (clause_of formula c)
unfolding read_formula as_read both_ways any firsts
clause_as_read formula c = get_or-map as_read formula.clauses c []

module _ (clause : List ℕ) (m : ℕ) where
  -- a literal of a clause as read stands in it as written, and all others do as read
  read_literal : both_ways clause ≡ false → member m (as_read clause) ≡ member m clause
  read_literal e = ap (member m) (as_read_firsts clause e) ∙ member-firsts m clause

  no_literal : both_ways clause ≡ true → member m (as_read clause) ≡ true → ⊥
  unfolding member
  no_literal e h = never (rw (as_read_none clause e) at h) refl

  read_one_way : member m (as_read clause) ≡ true → both_ways clause ≡ false
  read_one_way h = go (true_or_false (both_ways clause))
    where
      go : (both_ways clause ≡ true) ⊎ (both_ways clause ≡ false) → both_ways clause ≡ false
      go (inl e) = absurd (no_literal e h)
      go (inr e) = e

module _ (formula : Formula) (ds : List ℕ) where
  abbrev AsReadClosure : ℕ → Type 0
  AsReadClosure = Closure (read_formula formula) ds

  -- what follows from the clauses as read follows from them as written
  pub read_closure_written : {l : ℕ} → Closure (read_formula formula) ds l → Closure formula ds l
  read_closure_written = closure_within (Closure formula ds) (closure_holds formula ds) closed
    where
      closed : UnitClosed (read_formula formula) (Closure formula ds)
      closed c l h others =
          let here : member l (as_read (clause_of formula c)) ≡ true = rw (clause_as_read formula c) at h in
          let one_way = read_one_way (clause_of formula c) l here in
          closure_closed formula ds c l (sym (read_literal (clause_of formula c) l one_way) ∙ here)
          (λ m k n. others m (rw (clause_as_read formula c) (read_literal (clause_of formula c) m one_way ∙ k)) n)

  -- and out of conflict the other way round: of a clause with a variable both ways no literal is the last that is not false
  module _ (quiet : BothWays AsReadClosure → ⊥) where
    closed-as-written : UnitClosed formula AsReadClosure
    closed-as-written c l h others = go (true_or_false (both_ways clause))
      where
        clause : List ℕ
        clause = clause_of formula c

        two : TwoWays clause → AsReadClosure l
        two t = cases (alike (positive t.variable) l) (alike (negative t.variable) l)
          where
            v : ℕ
            v = t.variable

            negative-in : (positive v ≡ l → ⊥) → AsReadClosure (negative v)
            negative-in n = rw (opposite_positive v) at (others (positive v) t.positive_on n)

            positive-in : (negative v ≡ l → ⊥) → AsReadClosure (positive v)
            positive-in n = rw (← opposite_positive v, opposite_opposite) at (others (negative v) t.negative_on n)

            cases : (positive v ≡ l) ⊎ (positive v ≡ l → ⊥) → (negative v ≡ l) ⊎ (negative v ≡ l → ⊥) → AsReadClosure l
            cases (inl p) (inl q) = absurd (omega arith)
            cases (inl p) (inr q) = rw p at (positive-in q)
            cases (inr p) (inl q) = rw q at (negative-in p)
            cases (inr p) (inr q) = absurd (quiet (positive v, positive-in q, rw (opposite_positive v) (negative-in p)))

        go : (both_ways clause ≡ true) ⊎ (both_ways clause ≡ false) → AsReadClosure l
        go (inl e) = two (two_ways clause e)
        go (inr e) =
            closure_closed (read_formula formula) ds c l (rw (clause_as_read formula c) (read_literal clause l e ∙ h))
            (λ m k n. others m (sym (read_literal clause m e) ∙ rw (clause_as_read formula c) at k) n)

    pub closure_as_written : (l : ℕ) → Closure (read_formula formula) ds l ↔ Closure formula ds l
    closure_as_written l = (read_closure_written, closure_within AsReadClosure (closure_holds (read_formula formula) ds) closed-as-written)

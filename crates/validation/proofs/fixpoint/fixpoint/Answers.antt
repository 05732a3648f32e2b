use native.Mathlib.Omega.{arith}
use Rattle.validation.proofs.SaysLaws.{says_true, says_false}
use Rattle.validation.proofs.fixpoint.Laws.{watches_within, all_fixpoint, fixpoint_each}
use Rattle.validation.proofs.fixpoint.fixpoint.Goals as goal

pub clause_fixpoint-requires-clause-first_in_bounds : goal.clause_fixpoint-requires-clause-first_in_bounds
clause_fixpoint-requires-clause-first_in_bounds c =
    rw (c.clause.ensures, c.watches_at-watches.ensures, c.new-trail.ensures.variables)
    (watches_within _ _ c.args.below c.requires.trail_passed c.requires.cells_good c.loop-c.c (omega arith))

pub returns-then-not-clause_fixpoint : goal.returns-then-not-clause_fixpoint
returns-then-not-clause_fixpoint c =
    says_false
    (λ s.
    c.clause_fixpoint.ensures.no c.if-not-clause_fixpoint.true
    (rw (c.clause.ensures, c.watches_at-watches.ensures, c.new-trail.ensures.variables, c.new-trail.ensures.session)
    (fixpoint_each _ _ _ c.requires.trail_passed s c.loop-c.c (omega arith))))

pub returns : goal.returns
returns c = says_true (all_fixpoint _ _ _ c.requires.trail_passed (λ k less. c.loop-c.invariant k (omega arith)))

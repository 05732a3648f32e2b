use native.Mathlib.Omega.{arith}
use mathlib.Core.Path.{◌≡◌}
use Rattle.book.specs.Numbers.{clauses_of}
use Rattle.validation.proofs.places.Laws.{place_small}
use Rattle.validation.proofs.reasons.Laws.{marking_none, marking_same, marking_more, justified_answered}
use Rattle.validation.proofs.reasons.justified.Goals as goal
use Rattle.validation.proofs.reasons.justified.Goals.{in-Some, in_default}

pub loop-c-init : goal.loop-c-init
loop-c-init c = marking_none _ _

pub loop-c-preserved : goal.loop-c-preserved
loop-c-preserved c =
    elim c.match-implied_place.branch [
      | in-Some w ↦
          rw w.marks-is
          (marking_more _ _ _ c.loop-c.c c.loop-c.invariant _
          (let there = w.in-Some.ensures.implied.there in omega (arith, place_small _ _ w.in-Some.ensures.implied.literal c.new-trail.result.readable))
          (rw c.clause.ensures at w.in-Some.ensures))
      | in_default w ↦ rw w.marks-is (marking_same _ _ _ c.loop-c.c c.loop-c.invariant (rw c.clause.ensures at w.in_default.ensures))
    ]

pub returns : goal.returns
returns c =
    justified_answered _ _ c.loop-c.marks c.requires
    (let all : c.loop-c.c ≡ clauses_of c.args.book.now = omega arith in
    rw (all, c.new-trail.ensures.variables, c.new-trail.ensures.session) at c.loop-c.invariant) _
    (rw (c.new-trail.ensures.variables, c.new-trail.ensures.session) at c.implied_marked.ensures)

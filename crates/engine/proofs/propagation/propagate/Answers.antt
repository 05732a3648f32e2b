use Rattle.std.proofs.Common.{arith}
use Rattle.engine.proofs.propagation.Laws.{propagating_stands, propagating_ends, propagating_next, propagating_again as fixpoint-more, propagating_conflict, next_bounds, next_fits, next_opposite, reading_on_begins, reading_on_none, visiting_clause, visited_on, visited_fewer, visited_ends}
use Rattle.engine.proofs.propagation.propagate.Goals as goal

pub returns-then-session-ne0 : goal.returns-then-session-ne0
returns-then-session-ne0 c = propagating_stands c.args.book.now c.if-session-ne0.true

pub bounds-session-at : goal.bounds-session-at
bounds-session-at c =
    let next = next_bounds _ (propagating_next _ c.requires.well (c.propagating.invariant c.requires) c.propagating-test.true) in omega arith

pub opposite-requires : goal.opposite-requires
opposite-requires c =
    let next = next_bounds _ (propagating_next _ c.requires.well (c.propagating.invariant c.requires) c.propagating-test.true) in omega arith

pub first-walk-requires : goal.first-walk-requires
first-walk-requires c =
    let next = propagating_next _ c.requires.well (c.propagating.invariant c.requires) c.propagating-test.true in
    let bounds = next_opposite _ _ next c.opposite.ensures in
    (next_fits _ next, bounds.0, omega arith)

pub loop-walk-init : goal.loop-walk-init
loop-walk-init c =
    reading_on_begins _ _ c.first-walk.result c.opposite.ensures c.first-walk.ensures

pub visit_clause-requires : goal.visit_clause-requires
visit_clause-requires c =
    let next = propagating_next _ c.requires.well (c.propagating.invariant c.requires) c.propagating-test.true in
    visiting_clause _ c.requires.well (c.loop-walk.invariant next) c.loop-walk-test.true

pub loop-walk-smaller : goal.loop-walk-smaller
loop-walk-smaller c =
    let next = propagating_next _ c.requires.well (c.propagating.invariant c.requires) c.propagating-test.true in
    visited_fewer _ c.requires.well (c.loop-walk.invariant next) c.loop-walk-test.true _ c.visit_clause.ensures _ c.in-Some.is

pub loop-walk-preserved : goal.loop-walk-preserved
loop-walk-preserved c next =
    visited_on _ c.requires.well (c.loop-walk.invariant next) c.loop-walk-test.true _ c.visit_clause.ensures _ c.in-Some.is

pub propagating-smaller : goal.propagating-smaller
propagating-smaller c =
    let next = next_bounds _ (propagating_next _ c.requires.well (c.propagating.invariant c.requires) c.propagating-test.true) in omega arith

pub propagating-preserved : goal.propagating-preserved
propagating-preserved c begun =
    let next = propagating_next _ c.requires.well (c.propagating.invariant begun) c.propagating-test.true in
    fixpoint-more _ c.requires.well (c.propagating.invariant begun) c.propagating-test.true
    (reading_on_none _ (c.loop-walk.invariant next) c.loop-walk-test.false)

pub returns-after-propagating : goal.returns-after-propagating
returns-after-propagating c at = propagating_ends _ (c.propagating.invariant at) c.propagating-test.false

pub returns-in_default : goal.returns-in_default
returns-in_default c at =
    let next = propagating_next _ c.requires.well (c.propagating.invariant at) c.propagating-test.true in
    propagating_conflict _ c.requires.well (c.propagating.invariant at) c.propagating-test.true
    (visited_ends _ c.requires.well (c.loop-walk.invariant next) c.loop-walk-test.true _ c.visit_clause.ensures c.in_default.is)

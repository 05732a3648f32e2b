use Rattle.std.proofs.Common.{◌∙◌, sym, arith}
use Rattle.engine.proofs.visit.SpotLaws.{spot, watch_within, watch_valued, visited_stays, visited_seeks, visited_sought}
use Rattle.engine.proofs.visit.visit_clause.Goals as goal

pub other_node-requires : goal.other_node-requires
other_node-requires c = let s = spot c.requires in (s.standing.some, omega arith)

pub watch_slot-requires : goal.watch_slot-requires
watch_slot-requires c = let s = spot c.requires in omega arith

pub bounds-session-watch_slot : goal.bounds-session-watch_slot
bounds-session-watch_slot c = let s = spot c.requires in omega arith

pub clause_of_node-requires : goal.clause_of_node-requires
clause_of_node-requires c = (spot c.requires).standing.some

pub clause-requires-clause-c_bound : goal.clause-requires-clause-c_bound
clause-requires-clause-c_bound c = omega (arith, (spot c.requires).inside)

pub bounds-clause-watch : goal.bounds-clause-watch
bounds-clause-watch c =
    watch_within c.requires c.clause_of_node.ensures c.clause.ensures c.variables-variables.ensures c.other_node.ensures c.watch_slot.ensures

pub literal_value-value-requires : goal.literal_value-value-requires
literal_value-value-requires c =
    watch_valued c.requires c.clause_of_node.ensures c.clause.ensures c.variables-variables.ensures c.other_node.ensures c.watch_slot.ensures

pub keep-requires : goal.keep-requires
keep-requires c = ((spot c.requires).fits, (spot c.requires).standing)

pub returns-then-satisfied : goal.returns-then-satisfied
returns-then-satisfied c at =
    visited_stays at c.clause_of_node.ensures c.clause.ensures c.variables-variables.ensures c.other_node.ensures c.watch_slot.ensures
    c.literal_value-value.ensures (sym c.eq-satisfied.ensures ∙ c.if-satisfied.true) c.keep.ensures

pub seek-requires : goal.seek-requires
seek-requires c =
    visited_seeks c.requires c.clause_of_node.ensures c.clause.ensures c.variables-variables.ensures c.other_node.ensures c.watch_slot.ensures
    c.literal_value-value.ensures (sym c.eq-satisfied.ensures ∙ c.if-satisfied.false)

pub returns : goal.returns
returns c at =
    visited_sought at c.clause_of_node.ensures c.clause.ensures c.variables-variables.ensures c.other_node.ensures c.watch_slot.ensures
    c.literal_value-value.ensures (sym c.eq-satisfied.ensures ∙ c.if-satisfied.false) c.seek.ensures

use Rattle.std.proofs.Common.{◌∙◌, arith}
use Rattle.layout.proofs.FitsLaws.{fits_kept}
use Rattle.engine.proofs.visit.SpotLaws.{spot}
use Rattle.engine.proofs.visit.SeekLaws.{seeking_scannable, found_literal, visited_moved, visited_conflict, implied_asks, visited_implied}
use Rattle.engine.proofs.visit.seek.Goals as goal

pub clause_of_node-c-requires : goal.clause_of_node-c-requires
clause_of_node-c-requires c = (spot c.requires.at).standing.some

pub checks_at-requires : goal.checks_at-requires
checks_at-requires c = let s = spot c.requires.at in (omega arith, omega arith)

pub scan_at-scan-requires : goal.scan_at-scan-requires
scan_at-scan-requires c = seeking_scannable c.requires _ c.clause_of_node-c.ensures

pub clause-requires-clause-c_bound : goal.clause-requires-clause-c_bound
clause-requires-clause-c_bound c = omega (arith, (spot c.requires.at).inside)

pub offset_bounds-clause-position : goal.offset_bounds-clause-position
offset_bounds-clause-position c =
    let f = found_literal c.requires _ c.clause_of_node-c.ensures c.scan_at-scan.ensures c.in-Some.is c.clause.ensures in
    omega arith

pub bounds-clause-position : goal.bounds-clause-position
bounds-clause-position c =
    (found_literal c.requires _ c.clause_of_node-c.ensures c.scan_at-scan.ensures c.in-Some.is c.clause.ensures).inside

pub take_out-next-requires : goal.take_out-next-requires
take_out-next-requires c =
    ((spot c.requires.at).fits, (spot c.requires.at).standing)

pub overflow_cast-position : goal.overflow_cast-position
overflow_cast-position c =
    let f = found_literal c.requires _ c.clause_of_node-c.ensures c.scan_at-scan.ensures c.in-Some.is c.clause.ensures in
    omega arith

pub set_watch-requires : goal.set_watch-requires
set_watch-requires c =
    let s = (spot c.requires.at).standing in
    (fits_kept c.take_out-next.ensures.only.same_length (spot c.requires.at).fits, s.some, s.node_within)

pub push_front-requires : goal.push_front-requires
push_front-requires c =
    let s = (spot c.requires.at).standing in
    let f = found_literal c.requires _ c.clause_of_node-c.ensures c.scan_at-scan.ensures c.in-Some.is c.clause.ensures in (
      fits_kept (c.set_watch.auto.session ∙ c.take_out-next.auto.session)
          (spot c.requires.at).fits,
      f.low,
      omega arith,
      s.some,
      s.node_within,
    )

pub add_checks-requires : goal.add_checks-requires
add_checks-requires c = let s = spot c.requires.at in omega arith

pub returns-in-Some : goal.returns-in-Some
returns-in-Some c seeking =
    visited_moved seeking _ c.clause_of_node-c.ensures c.scan_at-scan.ensures c.in-Some.is (omega arith) c.clause.ensures
    c.take_out-next.ensures c.set_watch.ensures c.push_front.ensures c.add_checks.ensures

pub add_checks-requires-2 : goal.add_checks-requires-2
add_checks-requires-2 c = let s = spot c.requires.at in omega arith

pub assign-requires : goal.assign-requires
assign-requires c =
    let asks = implied_asks c.requires _ c.clause_of_node-c.ensures c.scan_at-scan.ensures c.in_default.is c.in-Open.is c.variables-variables.ensures
    (omega arith) c.add_checks-2.ensures in
    let s = spot c.requires.at in
    (record { few_variables = omega arith; long = omega arith }, asks.0, asks.1, asks.2)

pub keep-requires-in-Open : goal.keep-requires-in-Open
keep-requires-in-Open c = (
  fits_kept (c.assign.auto.session ∙ c.add_checks-2.auto.session) (spot c.requires.at).fits,
  (spot c.requires.at).standing,
)

pub returns-in-False : goal.returns-in-False
returns-in-False c seeking =
    visited_conflict seeking _ c.clause_of_node-c.ensures c.scan_at-scan.ensures c.in_default.is c.in-False.is (omega arith) c.add_checks-2.ensures

pub returns-in-Open : goal.returns-in-Open
returns-in-Open c seeking =
    visited_implied seeking _ c.clause_of_node-c.ensures c.scan_at-scan.ensures c.in_default.is c.in-Open.is c.variables-variables.ensures (omega arith)
    c.add_checks-2.ensures c.assign.ensures c.keep-in-Open.ensures

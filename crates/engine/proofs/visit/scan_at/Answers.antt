use Rattle.std.proofs.Common.{arith}
use Rattle.engine.proofs.visit.ScanAtLaws.{scan_fits, scanned_ready, scanned_is}
use Rattle.engine.proofs.visit.scan_at.Goals as goal

pub values_at-values-requires : goal.values_at-values-requires
values_at-values-requires c = let fits = scan_fits c.requires in omega arith

pub watches_at-watches-requires : goal.watches_at-watches-requires
watches_at-watches-requires c = let fits = scan_fits c.requires in omega arith

pub pointers_at-pointers-requires : goal.pointers_at-pointers-requires
pointers_at-pointers-requires c = let fits = scan_fits c.requires in (omega arith, omega arith)

pub bounds-session-pointers : goal.bounds-session-pointers
bounds-session-pointers c = let fits = scan_fits c.requires in omega arith

pub scan_clause-requires : goal.scan_clause-requires
scan_clause-requires c =
    scanned_ready c.requires _ _ _ _ _ _ c.variables-variables.ensures c.clauses.ensures c.values_at-values.ensures
    c.watches_at-watches.ensures c.pointers_at-pointers.ensures c.clause.ensures

pub returns : goal.returns
returns c s =
    scanned_is s _ _ _ _ _ _ c.variables-variables.ensures c.clauses.ensures c.values_at-values.ensures
    c.watches_at-watches.ensures c.pointers_at-pointers.ensures c.clause.ensures _ c.scan_clause.ensures

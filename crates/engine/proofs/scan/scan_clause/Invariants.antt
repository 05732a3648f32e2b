use Rattle.std.proofs.Common.{◌-◌, length}
use Rattle.engine.proofs.scan.Laws.{Scanning}
use Rattle.engine.proofs.scan.scan_clause.Given as goal

abbrev pub invariant-loop : goal.invariant-loop
invariant-loop l = Scanning l.clause l.values l.first l.second l.pointer l.position l.checks (length l.clause - l.counter)

use Prim.Native.Nat.{suc, ◌-◌}
use lib.ListN.{length}
use Rattle.quote.proofs.ScriptCalls.{BacksBefore}
use Rattle.quote.proofs.back_lines.Given as goal

abbrev pub invariant-loop-at : goal.invariant-loop-at
invariant-loop-at l = BacksBefore l.script l.count l.at

abbrev pub decreases-loop-at : goal.decreases-loop-at
decreases-loop-at l = suc (length l.script) - l.at

use Rattle.std.proofs.Common.{◌≡◌, ◌≤◌, length}
use Rattle.trials.proofs.build.put.Given as goal

abbrev pub invariant-loop-byte : goal.invariant-loop-byte
invariant-loop-byte l = (l.to ≤ length l.text) × (length l.text ≡ length l.fn.text)

abbrev pub decreases-loop-byte : goal.decreases-loop-byte
decreases-loop-byte l = length l.rest

use Rattle.std.proofs.Common.{◌≡◌, ◌≤◌, length}
use Rattle.trials.proofs.build.repeat.Given as goal

abbrev pub invariant-loop : goal.invariant-loop
invariant-loop l = (l.to ≤ length l.text) × (length l.text ≡ length l.fn.text)

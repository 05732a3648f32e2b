use Rattle.std.proofs.Common.{◌≡◌, ◌≤◌, length}
use Rattle.trials.proofs.lists.fill_all.Given as goal

abbrev pub invariant-loop-word : goal.invariant-loop-word
invariant-loop-word l = (l.n ≤ length l.out) × (length l.out ≡ length l.fn.out)

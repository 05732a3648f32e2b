use Rattle.std.proofs.Common.{ℕ, ◌≤◌, ◌<◌}
use Rattle.validation.specs.Inner.Lists.{NodeGood}
use Rattle.validation.proofs.lists.nodes_pass.Given as goal

abbrev pub invariant-loop-node : goal.invariant-loop-node
invariant-loop-node l = (n : ℕ) → n < l.node → 1 ≤ n → NodeGood l.book l.session l.marks n

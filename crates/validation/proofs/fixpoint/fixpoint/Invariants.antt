use Prim.Native.Nat.{ℕ, ◌<◌}
use Rattle.validation.proofs.fixpoint.Laws.{FixpointAt}
use Rattle.validation.proofs.fixpoint.fixpoint.Given as goal

abbrev pub invariant-loop-c : goal.invariant-loop-c
invariant-loop-c l = (k : ℕ) → k < l.c → FixpointAt l.book l.session l.below k

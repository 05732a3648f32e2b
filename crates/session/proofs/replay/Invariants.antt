use Prim.Native.Nat.{◌*◌}
use Rattle.session.proofs.ReplayLaws.{Replaying}
use Rattle.session.proofs.replay.Given as goal

abbrev pub invariant-loop-i : goal.invariant-loop-i
invariant-loop-i l = Replaying l.book l.calls l.initial.session l.session (2 * l.i)

use Rattle.std.proofs.Common.{◌≡◌, length}
use Rattle.engine.specs.Engine.{SameBehind}
use Rattle.engine.specs.Inner.Opening.{FirstWatches}
use Rattle.engine.proofs.opening.watch_all.Given as goal

abbrev pub invariant-loop-c : goal.invariant-loop-c
invariant-loop-c l =
    (length l.session ≡ length l.initial.session) × SameBehind l.book l.initial.session l.session × FirstWatches l.book l.session l.c

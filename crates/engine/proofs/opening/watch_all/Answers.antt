use Rattle.std.proofs.Common.{refl, arith}
use Rattle.engine.proofs.opening.FirstWatchLaws.{watches_begin, watches_end}
use Rattle.engine.proofs.opening.watch_all.Goals as goal

pub loop-c-init : goal.loop-c-init
loop-c-init c = (refl, refl, watches_begin _ _ c.requires.0 c.requires.1)

pub returns : goal.returns
returns c = watches_end c.loop-c.c (omega arith) c.loop-c.invariant.0 c.loop-c.invariant.1 c.loop-c.invariant.2

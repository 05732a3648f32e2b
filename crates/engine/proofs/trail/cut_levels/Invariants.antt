use Rattle.layout.specs.Layout.{length_at}
use mathlib.Core.List.{List}
use lib.ListN.{get_or}
use Rattle.run.specs.Trail.{Entry, cut}
use Rattle.engine.specs.Inner.Trail.{SameBeside, Cutting}
use Rattle.engine.proofs.trail.CutLaws.{Shortening}
use Rattle.engine.proofs.trail.cut_levels.Given as goal

abbrev pub invariant-loop-session : goal.invariant-loop-session
invariant-loop-session l =
    SameBeside l.variables l.initial.session l.session
    × ((trail : List Entry) → Cutting l.variables l.initial.session l.k trail → Shortening l.variables l.session l.target (cut l.k trail))

abbrev pub decreases-loop-session : goal.decreases-loop-session
decreases-loop-session l = get_or l.session length_at 0

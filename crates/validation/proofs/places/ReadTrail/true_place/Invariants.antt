use Prim.Native.Nat.{ℕ, ◌<◌}
use mathlib.Core.Path.{◌≡◌}
use lib.ListN.{get_or}
use Rattle.run.specs.Trail.{place}
use Rattle.validation.specs.Inner.Read.{read}
use Rattle.validation.proofs.places.ReadTrail.true_place.Given as goal

abbrev pub invariant-loop-literal : goal.invariant-loop-literal
invariant-loop-literal l =
    (k : ℕ) → k < l.literal-index → place (read l.self) (get_or l.clause k 0) ≡ 0

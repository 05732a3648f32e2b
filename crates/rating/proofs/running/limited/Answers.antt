use mathlib.Core.Path.{◌≡◌, ap, ◌∙◌}
use native.Mathlib.Omega.{arith}
use lib.IntN.{nat_abs}
use mir.Syntax.{w64}
use mir.ValLaws.{to_z-of_z}
use Rattle.std.specs.Prelude.{Some}
use Rattle.rating.proofs.PricingLaws.{limited_over, limited_within}
use Rattle.rating.proofs.running.limited.Goals as goal

pub returns-then-size_of-gt-MAX_RUNNING : goal.returns-then-size_of-gt-MAX_RUNNING
returns-then-size_of-gt-MAX_RUNNING c =
    let size : c.size_of.result ≡ nat_abs c.args.running = c.size_of.ensures ∙ ap nat_abs (to_z-of_z w64 c.args.running c.ranges.running) in
    limited_over c.args.running (omega (arith, size, c.if-size_of-gt-MAX_RUNNING.true))

pub returns : goal.returns
returns c =
    let size : c.size_of.result ≡ nat_abs c.args.running = c.size_of.ensures ∙ ap nat_abs (to_z-of_z w64 c.args.running c.ranges.running) in
    ap Some (to_z-of_z w64 c.args.running c.ranges.running) ∙ limited_within c.args.running (omega (arith, size, c.if-size_of-gt-MAX_RUNNING.false))

use Prim.Native.Nat.{◌≤◌}
use mathlib.Core.Path.{sym}
use native.Mathlib.Omega.{arith}
use Rattle.book.specs.Formula.{variable_of}
use Rattle.book.specs.Numbers.{variables_of}
use Rattle.book.proofs.SoundLaws.{literal_parts}
use Rattle.session.proofs.PassedLaws.{trail_fits, value_answers}
use Rattle.rating.proofs.running.Passed.value.Goals as goal

pub literal_value-requires : goal.literal_value-requires
literal_value-requires c =
    let within : (2 ≤ c.args.literal) × (variable_of c.args.literal ≤ c.variables.result) = let parts = literal_parts (variables_of c.args.self.book.now) c.args.literal c.requires in
    (parts.0, omega (arith, parts.1, c.variables.ensures)) in
    (trail_fits _ _ (sym c.args.self.passes) _ c.variables.ensures, (within).0, (within).1)

pub returns : goal.returns
returns c =
    let within : (2 ≤ c.args.literal) × (variable_of c.args.literal ≤ c.variables.result) = let parts = literal_parts (variables_of c.args.self.book.now) c.args.literal c.requires in
    (parts.0, omega (arith, parts.1, c.variables.ensures)) in
    value_answers _ _ (sym c.args.self.passes) _ _ _ c.variables.ensures (within).0 (within).1 c.literal_value.ensures

use Rattle.book.proofs.WellFormedLaws.{well_formed_limited}
use Rattle.engine.proofs.opening.Laws.{opening_begun, opening_done}
use Prim.Native.Nat.{◌-◌}
use mathlib.Core.Path.{◌≡◌}
use Rattle.std.proofs.Common.{◌∙◌, ap₂, arith}
use Rattle.layout.specs.Layout.{required_length}
use Rattle.engine.proofs.open.Goals as goal

pub required_length-needed-requires : goal.required_length-needed-requires
required_length-needed-requires c = let limited = well_formed_limited _ c.requires.well in (omega arith, omega arith)

pub propagate-requires : goal.propagate-requires
propagate-requires c = opening_begun _ c.requires.well c.assign_units.ensures.encodes

pub returns : goal.returns
returns c =
    let whole : c.required_length-needed.result - 0 ≡ c.required_length-needed.result = omega arith in
    opening_done _ c.requires.well _ _ _ (whole ∙ c.required_length-needed.ensures ∙ ap₂ required_length c.variables.ensures c.clauses.ensures) c.requires.long
    c.fill.ensures.len c.watch_all.ensures c.assign_units.ensures (c.propagate.ensures (opening_begun _ c.requires.well c.assign_units.ensures.encodes))

use Prim.Native.Nat.{◌/◌, ◌+◌, ◌*◌, ◌<◌}
use mathlib.Core.Path.{◌∙◌}
use native.Mathlib.Omega.{arith}
use borrow.Author.Tests.{lt-leb}
use Rattle.rating.proofs.lines.Laws.{literal_low, literal_high, literal_right}
use Rattle.rating.proofs.lines.line_within.Goals as goal
use Rattle.rating.proofs.lines.line_within.Goals.{then-line-ge2, else-line-ge2}

pub returns-then-line-variables : goal.returns-then-line-variables
returns-then-line-variables c =
    elim c.if-line-ge2.branch [
      | then-line-ge2 w ↦ c.change_within.ensures ∙ literal_right c.args.variables c.args.line (grind arith) (grind arith)
      | else-line-ge2 w ↦ absurd (grind arith)
    ]

pub returns-else-line-variables : goal.returns-else-line-variables
returns-else-line-variables c =
    elim c.if-line-ge2.branch [
      | then-line-ge2 w ↦ let over : c.args.variables < c.args.line.literal / 2 = grind arith in
          let high : 2 * c.args.variables + 1 < c.args.line.literal = omega (arith, over) in
          w.value-is ∙ lt-leb _ _ over ∙ literal_high c.args.variables c.args.line high
      | else-line-ge2 w ↦ let low : c.args.line.literal < 2 = grind arith in
          w.value-is ∙ lt-leb _ _ low ∙ literal_low c.args.variables c.args.line low
    ]

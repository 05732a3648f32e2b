use native.Mathlib.Omega.{arith}
use mathlib.Core.Path.{ap, ◌∙◌}
use mir.Syntax.{w32}
use mir.ValLaws.{to_z-of_z}
use Rattle.rating.specs.declared.Change.TheVariants.{Amount, Thousandths}
use Rattle.rating.proofs.lines.Laws.{amount_told, thousandths_told}
use Rattle.rating.proofs.lines.change_of.Goals as goal

pub returns-in-0 : goal.returns-in-0
returns-in-0 c =
    ap Amount (to_z-of_z w32 c.args.value c.ranges.value) ∙ amount_told c.args.kind c.ranges.kind (omega arith) c.args.value

pub returns-in_default : goal.returns-in_default
returns-in_default c =
    ap Thousandths (to_z-of_z w32 c.args.value c.ranges.value) ∙ thousandths_told c.args.kind (λ e. omega (arith, e)) c.args.value

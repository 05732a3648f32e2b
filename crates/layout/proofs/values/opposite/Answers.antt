use native.Mathlib.Omega.{arith}
use mathlib.Core.Logic.{⊎_elim}
use Rattle.run.proofs.Opposites.{opposite_cases}
use Rattle.layout.proofs.values.opposite.Goals as goal

pub overflow_add-result : goal.overflow_add-result
overflow_add-result c = omega arith

pub returns-then-parity-eq0 : goal.returns-then-parity-eq0
returns-then-parity-eq0 c =
    ⊎_elim (λ p. omega (arith, c.parity.ensures)) (λ p. omega (arith, c.parity.ensures)) (opposite_cases c.args.literal)

pub overflow_sub-result : goal.overflow_sub-result
overflow_sub-result c = omega (arith, c.parity.ensures)

pub returns : goal.returns
returns c =
    ⊎_elim (λ p. omega (arith, c.parity.ensures)) (λ p. omega (arith, c.parity.ensures)) (opposite_cases c.args.literal)

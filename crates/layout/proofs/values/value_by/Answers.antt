use native.Mathlib.Omega.{arith}
use mathlib.Core.Path.{sym}
use Rattle.layout.proofs.ValueLaws.{read_open, read_true, read_false}
use Rattle.layout.proofs.values.value_by.Goals as goal

pub returns-then-entry-eq0 : goal.returns-then-entry-eq0
returns-then-entry-eq0 c = sym (read_open _ _ c.if-entry-eq0.true)

pub returns-then-parity : goal.returns-then-parity
returns-then-parity c =
    sym (read_true _ _ c.if-entry-eq0.false (omega (arith, c.parity.ensures, c.parity-2.ensures, c.if-parity.true)))

pub returns : goal.returns
returns c = sym (read_false _ _ c.if-entry-eq0.false (λ q. omega (arith, c.parity.ensures, c.parity-2.ensures, c.if-parity.false)))

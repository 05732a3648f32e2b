use Rattle.std.proofs.Common.{arith, None}
use borrow.Author.Tests.{ne_eqb}
use Rattle.book.proofs.bytes.Laws.{token_empty, token_signed, token_unsigned}
use Rattle.book.proofs.bytes.token.Goals as goal

pub returns-in_err-digits : goal.returns-in_err-digits
returns-in_err-digits c = rw c.from_residual.ensures (token_empty _ c.in_err-digits.ensures.cases)

pub returns-in_err-variable-in-45-default : goal.returns-in_err-variable-in-45-default
returns-in_err-variable-in-45-default c =
    rw c.from_residual-in_err-variable-in-45-default.ensures
    (token_signed _ _ _ None c.in_ok-digits.ensures.cases.0 (omega arith) c.in_err-variable-in-45-default.ensures)

pub returns-in-0 : goal.returns-in-0
returns-in-0 c =
    rw c.in-0.is at (token_signed _ _ _ _ c.in_ok-digits.ensures.cases.0 (omega arith) c.in_ok-variable-in-45-default.ensures)

pub returns-in_default-2 : goal.returns-in_default-2
returns-in_default-2 c =
    rw (ne_eqb c.in_ok-variable-in-45-default.variable 0 (omega arith)) at
    (token_signed _ _ _ _ c.in_ok-digits.ensures.cases.0 (omega arith) c.in_ok-variable-in-45-default.ensures)

pub returns-in_err-variable-in_default : goal.returns-in_err-variable-in_default
returns-in_err-variable-in_default c =
    rw c.from_residual-in_err-variable-in_default.ensures
    (token_unsigned _ _ _ None c.in_ok-digits.ensures.cases.0 (omega arith) c.in_err-variable-in_default.ensures)

pub returns-in-0-2 : goal.returns-in-0-2
returns-in-0-2 c =
    rw c.in-0-2.is at (token_unsigned _ _ _ _ c.in_ok-digits.ensures.cases.0 (omega arith) c.in_ok-variable-in_default.ensures)

pub returns-in_default-3 : goal.returns-in_default-3
returns-in_default-3 c =
    rw (ne_eqb c.in_ok-variable-in_default.variable 0 (omega arith)) at
    (token_unsigned _ _ _ _ c.in_ok-digits.ensures.cases.0 (omega arith) c.in_ok-variable-in_default.ensures)

use native.Mathlib.Omega.{arith}
use Rattle.session.proofs.AnswerLaws.{lookup_refused}
use Rattle.session.proofs.ReadLaws.{handed_on, variable_small, variable_there}
use Rattle.session.proofs.lookup.Goals as goal

pub returns-in_err-validate : goal.returns-in_err-validate
returns-in_err-validate c = handed_on _ _ _ c.from_residual.ensures.1 (lookup_refused _ _ _ _ c.in_err-validate.ensures)

pub overflow_mul-variable : goal.overflow_mul-variable
overflow_mul-variable c =
    omega (arith, variable_small _ _ c.in_ok-validate.ensures _ c.variables-variables.ensures _ c.if-variable-eq0.false c.if-variable-variables.false)

pub literal_value-requires : goal.literal_value-requires
literal_value-requires c =
    variable_there _ _ c.in_ok-validate.ensures _ c.variables-variables.ensures _ c.if-variable-eq0.false c.if-variable-variables.false

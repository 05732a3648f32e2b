use native.Mathlib.Omega.{arith}
use borrow.Author.Tests.{eqb-true, eqb-false}
use mathlib.Core.Path.{◌≡◌, sym, ap, ◌∙◌}
use lib.ListN.{length}
use Rattle.validation.proofs.reasons.Laws.{none_at, false_at}
use Rattle.validation.proofs.conflict.conflict_false.Goals as goal

pub returns-then-not-is_empty : goal.returns-then-not-is_empty
returns-then-not-is_empty c =
    let some : length c.clause-literals.result.now ≡ 0 → ⊥ = eqb-false _ _ (sym c.is_empty.ensures ∙ c.if-not-is_empty.true) in
    false_at _ _ _ c.requires.c_bound (omega (arith, ap length c.clause-literals.ensures)) _
    (rw (c.clause-literals.ensures, c.new.ensures.variables, c.new.ensures.session) at c.all_false.ensures)

pub returns-else-not-is_empty : goal.returns-else-not-is_empty
returns-else-not-is_empty c =
    rw c.if-not-is_empty.false
    (none_at _ _ _ c.requires.c_bound
    (sym (ap length c.clause-literals.ensures) ∙ eqb-true _ _ (sym c.is_empty.ensures ∙ c.if-not-is_empty.false)))

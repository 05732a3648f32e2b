use mathlib.Core.Path.{refl, sym, ◌∙◌}
use native.Mathlib.Omega.{arith}
use Rattle.book.proofs.form.ClauseLaws.{passed_none, passed_more, passed_all, refuse_long, refuse_outside, refuse_repeated}
use Rattle.book.proofs.form.clause_sound.Goals as goal
use Rattle.book.proofs.form.clause_sound.Goals.{then-not-contains-via-then-not-contains, then-not-contains-via-else-not-contains+then-mark}
use Rattle.std.proofs.lemmas.Grind.{common_steps}

pub returns-then-clause-gt-MAX_CLAUSE-clause-value : goal.returns-then-clause-gt-MAX_CLAUSE-clause-value
returns-then-clause-gt-MAX_CLAUSE-clause-value c = sym (refuse_long _ _ (omega arith))

pub loop-l-init : goal.loop-l-init
loop-l-init c = (omega arith, passed_none _ _ _ _ c.requires.marked)

pub returns-then-not-contains-clause-value : goal.returns-then-not-contains-clause-value
returns-then-not-contains-clause-value c =
    sym
    (elim c.then-not-contains.branch [
      | then-not-contains-via-then-not-contains w ↦ refuse_outside _ _ c.loop-l.l-index (omega arith) (λ low high. grind (arith, common_steps, w.if-not-contains.ensures.value))
      | then-not-contains-via-else-not-contains+then-mark w ↦
          refuse_repeated _ _ _ _ _ _ c.loop-l.invariant.1 (omega arith) refl (grind (arith, common_steps)) (sym w.mark.ensures.value ∙ w.if-mark.true)
    ])

pub loop-l-preserved : goal.loop-l-preserved
loop-l-preserved c = (
  omega arith,
  rw c.mark.ensures.marks_after
      (passed_more _ _ _ _ _ _ c.loop-l.invariant.1 (omega arith) refl (grind (arith, common_steps)) (grind (arith, common_steps)) (grind (arith, common_steps))
      (sym c.mark.ensures.value ∙ c.if-mark.false)),
)

pub returns-clause-value : goal.returns-clause-value
returns-clause-value c = sym (passed_all _ _ _ _ _ c.loop-l.invariant.1 (omega arith) (omega arith))

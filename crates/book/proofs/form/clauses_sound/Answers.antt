use Prim.Native.Nat.{ℕ, ◌-◌}
use mathlib.Core.Path.{◌≡◌, sym, ap, ◌∙◌}
use native.Mathlib.Omega.{arith}
use Rattle.base.specs.Lists.{all}
use Rattle.book.specs.Formula.{sound_clause}
use Rattle.book.specs.Numbers.{clauses_from}
use Rattle.book.proofs.form.Laws.{clauses_more, clauses_stop, clauses_end}
use Rattle.book.proofs.marks.Laws.{bounded_fresh, marked_none}
use Rattle.book.proofs.form.clauses_sound.Goals as goal

pub loop-c-init : goal.loop-c-init
loop-c-init c =
    let all_left : c.args.clauses - 0 ≡ c.args.clauses = omega arith in
    (bounded_fresh, ap (λ (n : ℕ). all (sound_clause c.args.variables) (clauses_from c.args.book.now 0 n)) all_left)

pub clause_sound-requires-clause-marked : goal.clause_sound-requires-clause-marked
clause_sound-requires-clause-marked c = marked_none _ _ _ (omega arith) c.loop-c.invariant.0

pub returns-then-not-clause_sound : goal.returns-then-not-clause_sound
returns-then-not-clause_sound c =
    sym (clauses_stop _ _ _ _ c.loop-c-test.true (cc (c.if-not-clause_sound.ensures.value, c.clause.ensures)))
    ∙ c.loop-c.invariant.1

pub loop-c-preserved : goal.loop-c-preserved
loop-c-preserved c = (
  c.clause_sound.ensures.bounded,
  sym (clauses_more _ _ _ _ c.loop-c-test.true (cc (c.if-not-clause_sound.ensures.value, c.clause.ensures)))
      ∙ c.loop-c.invariant.1,
)

pub returns : goal.returns
returns c = sym (clauses_end _ _ _ _ (omega arith)) ∙ c.loop-c.invariant.1

use mathlib.Core.Path.{sym, refl, ◌∙◌}
use native.Mathlib.Omega.{arith}
use Rattle.book.proofs.reduce.ClauseLaws.{put_none, put_inside, variable_small, put_repeated, put_both_ways, put_new, put_all, member_any}
use Rattle.book.proofs.reduce.put_clause.Goals as goal
use Rattle.book.proofs.reduce.put_clause.Goals.{then-not-mark, else-not-mark+else-not-contains}

pub loop-l-init : goal.loop-l-init
loop-l-init c =
    put_none (record { within = c.requires.clause_value; long = c.requires.out_len.0; fits = c.requires.out_len.1 }) c.requires.marked

pub mark-requires : goal.mark-requires
mark-requires c = variable_small c.loop-l.invariant _ c.loop-l-test.true refl

pub bounds-out-end : goal.bounds-out-end
bounds-out-end c = put_inside c.loop-l.invariant c.loop-l-test.true

pub returns-then-not-contains : goal.returns-then-not-contains
returns-then-not-contains c =
    let said = put_both_ways c.loop-l.invariant _ c.loop-l-test.true refl (sym c.if-not-mark.ensures.value)
    (sym (member_any _ _) ∙ sym c.if-not-contains.ensures.value) in
    record { value = said.0; out_after = said.1.0; out_len_2 = rw c.mark.ensures.marks_after said.1.1 }

pub loop-l-preserved : goal.loop-l-preserved
loop-l-preserved c =
    elim c.if-not-mark.branch [
      | then-not-mark w ↦
          rw (c.mark.ensures.marks_after, w.out-is, w.end-is)
          (put_new c.loop-l.invariant _ c.loop-l-test.true refl (sym w.if-not-mark.ensures.value))
      | else-not-mark+else-not-contains w ↦
          rw (c.mark.ensures.marks_after, w.out-is, w.end-is)
          (put_repeated c.loop-l.invariant _ c.loop-l-test.true refl (sym (member_any _ _) ∙ sym w.if-not-contains.ensures.value))
    ]

pub returns : goal.returns
returns c =
    let said = put_all c.loop-l.invariant (omega arith) in
    record { value = said.0; out_after = said.1.0; out_len_2 = said.1.1 }

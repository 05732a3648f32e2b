use Prim.Native.Nat.{◌+◌}
use native.Mathlib.Omega.{arith}
use Rattle.layout.proofs.ceiling.Laws.{WorstBefore, worst_none, worst_more, worst_all, worst_small}
use Rattle.layout.proofs.ceiling.worst.Goals as goal

pub loop-c-init : goal.loop-c-init
loop-c-init c = worst_none _

pub clause_worst-sum-requires : goal.clause_worst-sum-requires
clause_worst-sum-requires c = record { book_value = c.requires; c_bound = omega (arith, c.clauses-c-end.ensures) }

pub overflow_add-sum : goal.overflow_add-sum
overflow_add-sum c =
    let more : WorstBefore c.args.book.now (c.loop-c.sum + c.clause_worst-sum.result) (c.loop-c.c + 1) = worst_more _ _ _ _ c.loop-c.invariant (omega (arith, c.clauses-c-end.ensures)) c.clause_worst-sum.ensures in
    omega (arith, worst_small _ c.requires _ _ (more))

pub loop-c-preserved : goal.loop-c-preserved
loop-c-preserved c =
    let more : WorstBefore c.args.book.now (c.loop-c.sum + c.clause_worst-sum.result) (c.loop-c.c + 1) = worst_more _ _ _ _ c.loop-c.invariant (omega (arith, c.clauses-c-end.ensures)) c.clause_worst-sum.ensures in
    more

pub overflow_cast-result : goal.overflow_cast-result
overflow_cast-result c = omega (arith, worst_small _ c.requires _ _ c.loop-c.invariant)

pub returns : goal.returns
returns c = worst_all _ _ _ c.loop-c.invariant (omega (arith, c.clauses-c-end.ensures))

use Rattle.std.proofs.lemmas.Result.{err_from_is_err_and}
use Rattle.book.proofs.body.LoopLaws.{token_next, so_far_start, so_far_invalid, so_far_end, so_far_short, end_within, next_unmarked, so_far_close, so_far_fault, opened_below, so_far_literal}
use Rattle.book.proofs.body.clauses_at.Goals as goal

pub loop-word-init : goal.loop-word-init
loop-word-init c =
    rw (c.begin-progress.ensures.closed_value.0, c.begin-progress.ensures.closed_value.1, c.begin-progress.ensures.closed_value.2, c.begin-progress.ensures.closed_value.3, c.begin-progress.ensures.numbers_after)
    (so_far_start c.args.text.now c.args.start.at c.args.variables c.args.clauses c.args.numbers.now c.requires.0 c.requires.3)

pub returns-in_default : goal.returns-in_default
returns-in_default c = so_far_end c.loop-word.invariant _ (rw c.in_default.is at c.next.ensures) c.ended.result c.ended.ensures

pub returns-in-None : goal.returns-in-None
returns-in-None c = so_far_invalid c.loop-word.invariant _ (token_next _ c.in-None.ensures (rw c.in-Some.is at c.next.ensures))

pub returns-then-progress-eq0 : goal.returns-then-progress-eq0
returns-then-progress-eq0 c =
    so_far_short c.loop-word.invariant _
    (token_next _ (rw c.in-Some-Close.field-0-is at c.in-Some-Close.ensures) (rw c.in-Some.is at c.next.ensures)) c.if-progress-eq0.true

pub put_clause-requires-clause-marked : goal.put_clause-requires-clause-marked
put_clause-requires-clause-marked c = next_unmarked c.loop-word.invariant

pub put_clause-requires-clause-out_len : goal.put_clause-requires-clause-out_len
put_clause-requires-clause-out_len c = (c.loop-word.invariant.written.long, (end_within c.loop-word.invariant c.requires.2).1)

pub loop-word-preserved-else-progress-eq0 : goal.loop-word-preserved-else-progress-eq0
loop-word-preserved-else-progress-eq0 c =
    so_far_close c.loop-word.invariant _ c.requires.2
    (token_next _ (rw c.in-Some-Close.field-0-is at c.in-Some-Close.ensures) (rw c.in-Some.is at c.next.ensures))
    c.if-progress-eq0.false _ _ _ c.put_clause.ensures.value c.put_clause.ensures.out_after c.put_clause.ensures.out_len_2.0 c.put_clause.ensures.out_len_2.1

pub returns-in_err-check_literal-in-Some-Literal : goal.returns-in_err-check_literal-in-Some-Literal
returns-in_err-check_literal-in-Some-Literal c =
    let fault = err_from_is_err_and c.from_residual.result c.from_residual.ensures.1 in
    rw (fault.1, fault.2)
    (so_far_fault c.loop-word.invariant c.in-Some-Literal.l _ c.in_err-check_literal-in-Some-Literal.ensures _
    (token_next _ (rw c.in-Some-Literal.field-0-is at c.in-Some-Literal.ensures) (rw c.in-Some.is at c.next.ensures)))

pub bounds-current-progress : goal.bounds-current-progress
bounds-current-progress c =
    opened_below c.loop-word.invariant c.in-Some-Literal.l c.in_ok-check_literal-in-Some-Literal.ensures

pub loop-word-preserved : goal.loop-word-preserved
loop-word-preserved c =
    so_far_literal c.loop-word.invariant c.in-Some-Literal.l c.in_ok-check_literal-in-Some-Literal.ensures _ c.requires.1
    (token_next _ (rw c.in-Some-Literal.field-0-is at c.in-Some-Literal.ensures) (rw c.in-Some.is at c.next.ensures))

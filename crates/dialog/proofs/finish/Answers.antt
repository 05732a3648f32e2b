use native.Mathlib.Omega.{arith}
use Rattle.dialog.proofs.CallLaws.{begun_within, final_count, final_bytes_lem, final_within}
use Rattle.dialog.proofs.finish.Goals as goal

pub slice_bounds-last_line-count : goal.slice_bounds-last_line-count
slice_bounds-last_line-count c =
    begun_within c.args.book.now c.args.session.now c.args.line.now c.args.kept c.args.out.now _ _ _ c.answer_begun-begun.ensures

pub slice_bounds-last_line-start : goal.slice_bounds-last_line-start
slice_bounds-last_line-start c =
    begun_within c.args.book.now c.args.session.now c.args.line.now c.args.kept c.args.out.now _ _ _ c.answer_begun-begun.ensures

pub overflow_add-result : goal.overflow_add-result
overflow_add-result c =
    omega (arith, c.well_formed, final_within c.args.book.now c.args.session.now c.args.line.now c.args.kept c.args.out.now _ _ _ c.answer_begun-begun.ensures _ _ c.last_line.ensures)

pub returns : goal.returns
returns c =
    record { value = final_count c.args.book.now c.args.session.now c.args.line.now c.args.kept c.args.out.now _ _ _ c.answer_begun-begun.ensures _ _ c.last_line.ensures; out_after = final_bytes_lem c.args.book.now c.args.session.now c.args.line.now c.args.kept c.args.out.now _ _ _ c.answer_begun-begun.ensures _ _ c.last_line.ensures; session_after = c.answer_begun-begun.ensures.numbers }

use native.Mathlib.Omega.{arith}
use Rattle.dialog.proofs.CallLaws.{front_length, took_line, took_all}
use Rattle.dialog.proofs.take.Goals as goal

pub slice_bounds-keep-end : goal.slice_bounds-keep-end
slice_bounds-keep-end c =
    front_length c.args.book.now c.args.session.now c.args.line.now c.args.kept c.args.bytes.now c.args.out.now _ c.line_end-end.ensures

pub returns-then-end-bytes : goal.returns-then-end-bytes
returns-then-end-bytes c =
    took_line c.args.book.now c.args.session.now c.args.line.now c.args.kept c.args.bytes.now c.args.out.now _ _ _ _ _ _ c.line_end-end.ensures (omega arith) c.keep-held.ensures.value c.keep-held.ensures.line_after c.answer-written.ensures

pub returns : goal.returns
returns c =
    took_all c.args.book.now c.args.session.now c.args.line.now c.args.kept c.args.bytes.now c.args.out.now _ _ _ c.line_end-end.ensures (omega arith) c.keep-held-2.ensures.value c.keep-held-2.ensures.line_after

use native.Mathlib.Omega.{arith}
use Rattle.book.specs.Numbers.{variables_of}
use Rattle.rating.proofs.running.Laws.{open_none, read_parts, open_more, open_all}
use Rattle.rating.proofs.running.Passed.open_lines.Goals as goal

pub loop-three-init : goal.loop-three-init
loop-three-init c = (c.threes-lines.ensures, open_none (variables_of c.args.self.book.now) c.args.numbers.now _ _ _ c.requires)

pub one_if_open-count-requires : goal.one_if_open-count-requires
one_if_open-count-requires c =
    let kept = c.loop-three.invariant in
    ((read_parts (variables_of c.args.self.book.now) c.args.numbers.now c.threes-lines.result.now kept.0 c.loop-three.three-index (omega arith) c.line_of-line.result c.line_of-line.ensures kept.1.ranged).0)

pub loop-three-preserved : goal.loop-three-preserved
loop-three-preserved c =
    let kept = c.loop-three.invariant in
    (kept.0, open_more _ _ _ kept.0 _ c.loop-three.count c.loop-three.three-index kept.1 (omega arith) c.line_of-line.result c.line_of-line.ensures _ c.one_if_open-count.ensures)

pub returns : goal.returns
returns c = let kept = c.loop-three.invariant in open_all _ _ _ kept.0 _ c.loop-three.count c.loop-three.three-index kept.1 (omega arith)

-- The calls on the bytes that are left go on with the part.
use Rattle.std.proofs.Common.{rules, ◌-◌, length, drop, arith, length-drop, length-take-le, sym}
use Rattle.dialog.proofs.FollowLaws.{use_told}
use Rattle.dialog.proofs.PartLaws.{one_more_lem, all_taken}
use Rattle.dialog.proofs.WrittenLaws.{written_told}
use Rattle.desk.proofs.answer_part.Goals as goal

pub loop-rest-init : goal.loop-rest-init
loop-rest-init g c = λ after printed taken. (printed, taken)

pub slice_bounds-write_all-end : goal.slice_bounds-write_all-end
slice_bounds-write_all-end g c = written_told _ _ _ _ _ _ _ _ _ _ c.take-taken.ensures

pub slice_bounds-write_all-end-in-loop-rest : goal.slice_bounds-write_all-end-in-loop-rest
slice_bounds-write_all-end-in-loop-rest g c = sym (length-take-le _ _ (written_told _ _ _ _ _ _ _ _ _ _ c.take-taken.ensures))

pub slice_bounds-rest-count : goal.slice_bounds-rest-count
slice_bounds-rest-count g c = (use_told _ _ _ _ _ _ _ _ _ _ c.take-taken.ensures (search rules)).1

pub slice_bounds-rest-start : goal.slice_bounds-rest-start
slice_bounds-rest-start g c = (use_told _ _ _ _ _ _ _ _ _ _ c.take-taken.ensures (search rules)).1

pub loop-rest-smaller : goal.loop-rest-smaller
loop-rest-smaller g c =
    let told = use_told _ _ _ _ _ _ _ _ _ _ c.take-taken.ensures (search rules) in
    rw (length-take-le (length c.loop-rest.rest.now - c.take-taken.result.used) (drop c.take-taken.result.used c.loop-rest.rest.now) (rw (length-drop c.take-taken.result.used c.loop-rest.rest.now) (omega arith))) (omega (arith, told.0, told.1))

pub loop-rest-preserved : goal.loop-rest-preserved
loop-rest-preserved g c = one_more_lem _ _ c.args.bytes.now _ _ _ _ _ (search rules) _ _ _ _ c.take-taken.ensures c.loop-rest.invariant

pub returns : goal.returns
returns g c held e = all_taken _ _ _ _ _ c.loop-rest.held _ c.loop-rest.rest.now (search rules) c.loop-rest.invariant held cc

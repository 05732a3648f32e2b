use Rattle.std.proofs.Common.{rules}
use native.Mathlib.Omega.{arith}
use Rattle.dialog.proofs.answers.Laws.{trail_counted, trail_reaches, trail_fits, trail_shown, implied_prints}
use Rattle.dialog.proofs.answers.show_implied.Goals as goal

pub returns-in_default : goal.returns-in_default
returns-in_default c = absurd (trail_shown c.args.book.now c.args.session.now c.args.implied c.requires _ c.in_default.ensures.value)

pub overflow_sub-from : goal.overflow_sub-from
overflow_sub-from c = trail_reaches c.args.book.now c.args.session.now c.args.implied c.requires _ c.in-Ok.ensures.value

pub slice_bounds-write_implied-end : goal.slice_bounds-write_implied-end
slice_bounds-write_implied-end c =
    let reaches = trail_reaches c.args.book.now c.args.session.now c.args.implied c.requires _ c.in-Ok.ensures.value in
    let fits = trail_fits c.args.book.now c.args.session.now c.args.implied c.requires _ c.in-Ok.ensures.value in
    search rules

pub returns : goal.returns
returns c =
    let counted = trail_counted c.args.book.now c.args.session.now c.args.implied c.requires _ c.in-Ok.ensures.value in
    let fits = trail_fits c.args.book.now c.args.session.now c.args.implied c.requires _ c.in-Ok.ensures.value in
    implied_prints c.args.book.now c.args.session.now c.args.implied c.requires c.args.cause _ _ _ _ c.args.out.now _ _
    counted (omega (arith, counted)) (omega (arith, counted, fits)) c.trail_from.ensures.out_after (c.write_implied.ensures.value, c.write_implied.ensures.out_after)

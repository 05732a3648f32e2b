use mathlib.Core.Path.{◌≡◌}
use mathlib.Core.Logic.{⊎_elim, inl, inr}
use native.Mathlib.Omega.{arith}
use Rattle.chapters.proofs.FitLaws.{true_fit}
use Rattle.chapters.proofs.SumLaws.{added_none, in_totals, fits_total, added_more, added_all}
use Rattle.chapters.proofs.add_up.Goals as goal

pub slice_bounds-fill-end : goal.slice_bounds-fill-end
slice_bounds-fill-end c = (true_fit _ _ _ c.requires.totals_value).roomy

pub loop-count-init : goal.loop-count-init
loop-count-init c =
    let first : c.into_iter-count-iterator.result.a.rest.now ≡ c.args.counts.now = cc in
    let second : c.into_iter-count-iterator.result.b.rest.now ≡ c.args.chapters.now = cc in
    rw (first, second)
    (added_none c.args.counts.now c.args.chapters.now c.args.totals.now _ (true_fit _ _ _ c.requires.totals_value) c.requires.counts_len_bound
    (c.fill.ensures.after (λ y e. e)))

pub bounds-totals-chapter : goal.bounds-totals-chapter
bounds-totals-chapter c = let steps = c.in-Some.ensures.steps in in_totals c.loop-count.invariant steps.0 steps.1

pub bounds-totals-chapter-in-loop-count : goal.bounds-totals-chapter-in-loop-count
bounds-totals-chapter-in-loop-count c = let steps = c.in-Some.ensures.steps in in_totals c.loop-count.invariant steps.0 steps.1

pub overflow_add-totals : goal.overflow_add-totals
overflow_add-totals c = let steps = c.in-Some.ensures.steps in omega (arith, fits_total c.loop-count.invariant steps.0 steps.1 (omega arith))

pub loop-count-preserved : goal.loop-count-preserved
loop-count-preserved c = let steps = c.in-Some.ensures.steps in rw c.from.ensures (added_more c.loop-count.invariant steps.0 steps.1 (omega arith))

pub returns : goal.returns
returns c = added_all c.loop-count.invariant (⊎_elim (λ e. inl e.1.0) (λ e. inr e.1.0) c.in-None.ensures.steps)

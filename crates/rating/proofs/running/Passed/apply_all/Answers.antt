use mathlib.Core.Path.{◌≡◌, sym, ap, ◌∙◌}
use native.Mathlib.Omega.{arith}
use lib.IntN.{ℤ}
use mir.Syntax.{w64}
use mir.Val.{to_z}
use mir.ValLaws.{to_z-of_z}
use Rattle.std.specs.Prelude.{Some, None}
use Rattle.base.proofs.Signed.{small_fits}
use Rattle.book.specs.Numbers.{variables_of, formula_of}
use Rattle.run.specs.Trail.{is_true}
use Rattle.layout.specs.Layout.{held}
use Rattle.rating.specs.Pricing.{lines_of, applied, limited, priced_by}
use Rattle.rating.proofs.running.Laws.{applied_none, read_parts, unmet_more, applied_more, applied_beyond, applied_all}
use Rattle.rating.proofs.running.Passed.apply_all.Goals as goal
use Rattle.rating.proofs.running.Passed.apply_all.Goals.{then-is_true+in_ok-amount, else-is_true}

pub loop-three-init : goal.loop-three-init
loop-three-init c =
    (c.threes-lines.ensures, rw (to_z-of_z w64 c.args.start c.ranges.start) (applied_none (variables_of c.args.self.book.now) c.args.numbers.now _ _ _ _ c.requires.list_bound c.requires.start_bound))

pub is_true-requires : goal.is_true-requires
is_true-requires c =
    let kept = c.loop-three.invariant in
    ((read_parts (variables_of c.args.self.book.now) c.args.numbers.now c.threes-lines.result.now kept.0 c.loop-three.three-index (omega arith) c.line_of-line.result c.line_of-line.ensures kept.1.ranged).0)

pub applied-requires : goal.applied-requires
applied-requires c =
    let kept = c.loop-three.invariant in
    (kept.1.small, (read_parts (variables_of c.args.self.book.now) c.args.numbers.now c.threes-lines.result.now kept.0 c.loop-three.three-index (omega arith) c.line_of-line.result c.line_of-line.ensures kept.1.ranged).1)

pub returns-in_err-amount : goal.returns-in_err-amount
returns-in_err-amount c =
    let kept = c.loop-three.invariant in
    let beyond : None ≡ limited (applied (to_z w64 c.loop-three.amount-bits) c.line_of-line.result.change) =
    c.in_err-amount.ensures ∙ ap limited (to_z-of_z w64 _ (record { sfits = c.applied.type_inv }) ∙ c.applied.ensures) in
    c.from_residual.ensures
    ∙ applied_beyond _ _ _ kept.0 _ _ _ c.loop-three.three-index kept.1 (omega arith) c.line_of-line.result c.line_of-line.ensures (sym c.if-is_true.true ∙ c.is_true.ensures) beyond
    ∙ ap (λ (x : ℤ). priced_by (is_true (held (formula_of c.args.self.book.now) c.args.self.session.now).trail) (Some x) (lines_of c.args.numbers.now)) (to_z-of_z w64 c.args.start c.ranges.start)

pub loop-three-preserved : goal.loop-three-preserved
loop-three-preserved c =
    let kept = c.loop-three.invariant in
    elim c.if-is_true.branch [
      | then-is_true+in_ok-amount w ↦
          let next : Some w.in_ok-amount.amount ≡ limited (applied (to_z w64 c.loop-three.amount-bits) c.line_of-line.result.change) =
          w.in_ok-amount.ensures ∙ ap limited (to_z-of_z w64 _ (record { sfits = w.applied.type_inv }) ∙ w.applied.ensures) in
          let more = applied_more _ _ _ kept.0 _ _ _ c.loop-three.three-index kept.1 (omega arith) c.line_of-line.result c.line_of-line.ensures (sym w.if-is_true.true ∙ c.is_true.ensures) _ next in
          (kept.0, rw (w.amount-is, to_z-of_z w64 w.in_ok-amount.amount (small_fits _ (omega (arith, more.small)))) more)
      | else-is_true w ↦ (kept.0, rw w.amount-is (unmet_more _ _ _ kept.0 _ _ _ c.loop-three.three-index kept.1 (omega arith) c.line_of-line.result c.line_of-line.ensures (sym w.if-is_true.false ∙ c.is_true.ensures)))
    ]

pub returns : goal.returns
returns c =
    let kept = c.loop-three.invariant in
    applied_all _ _ _ kept.0 _ _ _ c.loop-three.three-index kept.1 (omega arith)
    ∙ ap (λ (x : ℤ). priced_by (is_true (held (formula_of c.args.self.book.now) c.args.self.session.now).trail) (Some x) (lines_of c.args.numbers.now)) (to_z-of_z w64 c.args.start c.ranges.start)

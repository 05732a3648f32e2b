use Prim.Native.Nat.{◌+◌, ◌≤◌}
use mathlib.Core.Path.{sym, ◌∙◌}
use native.Mathlib.Omega.{arith}
use borrow.Author.Rules.{rules}
use lib.ListN.{length}
use Rattle.quote.proofs.ScriptCalls.{ends_at, backs_none, backs_all, line_within_lem, back_counted, other_passed}
use Rattle.quote.proofs.back_lines.Goals as goal
use Rattle.quote.proofs.back_lines.Goals.{then-is_back, else-is_back}

pub loop-at-init : goal.loop-at-init
loop-at-init c = backs_none _

pub overflow_add-end : goal.overflow_add-end
overflow_add-end c =
    let ends = ends_at c.args.script.now c.loop-at.at _ c.line_end.ensures in
    let inside : c.loop-at.at + c.line_end.result ≤ length c.args.script.now = line_within_lem _ _ _ (search rules) (ends) in
    search rules

pub slice_bounds-is_back-start : goal.slice_bounds-is_back-start
slice_bounds-is_back-start c =
    let ends = ends_at c.args.script.now c.loop-at.at _ c.line_end.ensures in
    let inside : c.loop-at.at + c.line_end.result ≤ length c.args.script.now = line_within_lem _ _ _ (search rules) (ends) in
    omega (arith, inside)

pub slice_bounds-is_back-end : goal.slice_bounds-is_back-end
slice_bounds-is_back-end c =
    let ends = ends_at c.args.script.now c.loop-at.at _ c.line_end.ensures in
    let inside : c.loop-at.at + c.line_end.result ≤ length c.args.script.now = line_within_lem _ _ _ (search rules) (ends) in
    omega (arith, inside)

pub overflow_add-at : goal.overflow_add-at
overflow_add-at c =
    let ends = ends_at c.args.script.now c.loop-at.at _ c.line_end.ensures in
    let inside : c.loop-at.at + c.line_end.result ≤ length c.args.script.now = line_within_lem _ _ _ (search rules) (ends) in
    search rules

pub loop-at-smaller : goal.loop-at-smaller
loop-at-smaller c =
    let ends = ends_at c.args.script.now c.loop-at.at _ c.line_end.ensures in
    let inside : c.loop-at.at + c.line_end.result ≤ length c.args.script.now = line_within_lem _ _ _ (search rules) (ends) in
    search rules

pub loop-at-preserved : goal.loop-at-preserved
loop-at-preserved c =
    let ends = ends_at c.args.script.now c.loop-at.at _ c.line_end.ensures in
    elim c.if-is_back.branch [
      | then-is_back w ↦ rw w.count-is (back_counted _ _ _ (search rules) (ends) _ c.loop-at.invariant (sym w.if-is_back.true ∙ c.is_back.ensures))
      | else-is_back w ↦ rw w.count-is (other_passed _ _ _ (search rules) (ends) _ c.loop-at.invariant (sym w.if-is_back.false ∙ c.is_back.ensures))
    ]

pub returns : goal.returns
returns c = backs_all _ _ _ c.loop-at.invariant (search rules)

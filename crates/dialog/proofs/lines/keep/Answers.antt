use native.Mathlib.Omega.{arith}
use Rattle.script.specs.Buffer.{fitting}
use Rattle.dialog.proofs.lines.Laws.{kept_over, line_over, kept_stored, line_stored, stored_within}
use Rattle.dialog.proofs.lines.keep.Goals as goal

pub returns-then-line-kept : goal.returns-then-line-kept
returns-then-line-kept c =
    record { value = kept_over c.args.line.now c.args.kept c.args.bytes.now (omega arith); line_after = line_over c.args.line.now c.args.kept c.args.bytes.now (omega arith) }

pub overflow_add-result : goal.overflow_add-result
unfolding fitting
overflow_add-result c =
    omega (arith, c.well_formed, stored_within c.args.line.now c.args.kept c.args.bytes.now _ _ c.copy_fitting.ensures.value c.copy_fitting.ensures.out_after (omega arith))

pub returns : goal.returns
unfolding fitting
returns c =
    record { value = kept_stored c.args.line.now c.args.kept c.args.bytes.now _ _ c.copy_fitting.ensures.value c.copy_fitting.ensures.out_after; line_after = line_stored c.args.line.now c.args.kept c.args.bytes.now _ _ c.copy_fitting.ensures.value c.copy_fitting.ensures.out_after }

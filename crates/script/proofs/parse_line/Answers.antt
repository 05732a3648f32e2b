use mathlib.Core.Path.{sym, ◌∙◌}
use native.Mathlib.Omega.{arith}
use lib.ListN.{length}
use Rattle.std.specs.Prelude.{Some, None}
use Rattle.std.proofs.lemmas.Slice.{between_to_end}
use Rattle.script.proofs.LineLaws.{line_negative, line_back, starts_back, line_positive}
use Rattle.script.proofs.parse_line.Goals as goal

pub returns-in_err-number : goal.returns-in_err-number
returns-in_err-number c =
    let begins = c.in-Some.ensures.cases in
    rw c.from_residual.ensures (line_negative _ None c.in_err-number.ensures _ begins.0 begins.1)

pub returns-in_ok-number : goal.returns-in_ok-number
returns-in_ok-number c =
    let begins = c.in-Some.ensures.cases in
    line_negative _ (Some c.in_ok-number.field-0) c.in_ok-number.ensures _ begins.0 begins.1

pub returns-in_err-number-2 : goal.returns-in_err-number-2
returns-in_err-number-2 c =
    let line = c.args.line.now in
    rw c.from_residual-in_err-number-2.ensures
    (line_back _ None c.in_err-number-2.ensures line (sym (c.if-starts_with.ensures.value ∙ starts_back line)) (c.in_ok-get.ensures.lookup.0.2 ∙ between_to_end line 2 (length line) (omega arith)))

pub returns-in_ok-number-2 : goal.returns-in_ok-number-2
returns-in_ok-number-2 c =
    let line = c.args.line.now in
    line_back _ (Some c.in_ok-number-2.field-0) c.in_ok-number-2.ensures line (sym (c.if-starts_with.ensures.value ∙ starts_back line))
    (c.in_ok-get.ensures.lookup.0.2 ∙ between_to_end line 2 (length line) (omega arith))

pub returns-in_err-number-3 : goal.returns-in_err-number-3
returns-in_err-number-3 c =
    rw c.from_residual-in_err-number-3.ensures
    (line_positive _ None c.in_err-number-3.ensures c.in_default.ensures.cases (sym (c.if-starts_with.ensures.value ∙ starts_back c.args.line.now)))

pub returns-in_ok-number-3 : goal.returns-in_ok-number-3
returns-in_ok-number-3 c =
    line_positive _ (Some c.in_ok-number-3.field-0) c.in_ok-number-3.ensures c.in_default.ensures.cases (sym (c.if-starts_with.ensures.value ∙ starts_back c.args.line.now))

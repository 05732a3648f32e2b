use mathlib.Core.Path.{sym}
use native.Mathlib.Omega.{arith}
use Rattle.script.proofs.writing.Laws.{puts_both, puts_as}
use Rattle.script.proofs.writing.DigitLaws.{numeral_one, numeral_more}
use Rattle.script.proofs.writing.Writer.+put_number.Goals as goal
use Rattle.script.proofs.writing.Writer.+put_number.Goals.{then-n-ge10, else-n-ge10}

pub returns : goal.returns
returns t c =
    elim c.if-n-ge10.branch [
      | then-n-ge10 w ↦ puts_as (sym (numeral_more c.args.n w.if-n-ge10.true (omega arith))) (puts_both w.put_number.ensures (rw w.self-is at c.put.ensures))
      | else-n-ge10 w ↦ puts_as (sym (numeral_one c.args.n w.if-n-ge10.false)) (rw w.self-is at c.put.ensures)
    ]

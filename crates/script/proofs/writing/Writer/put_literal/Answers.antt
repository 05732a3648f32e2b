use Rattle.script.proofs.writing.Laws.{puts_both, puts_as}
use Rattle.script.proofs.writing.DigitLaws.{signed_negative, signed_positive}
use Rattle.script.proofs.writing.Writer.put_literal.Goals as goal
use Rattle.script.proofs.writing.Writer.put_literal.Goals.{then-negative, else-negative}

pub returns : goal.returns
returns c =
    let number = rw c.from.ensures at c.put_number.ensures in
    elim c.if-negative.branch [
      | then-negative w ↦ puts_as (signed_negative c.args.literal w.if-negative.true) (puts_both w.put.ensures (rw w.self-is at number))
      | else-negative w ↦ puts_as (signed_positive c.args.literal w.if-negative.false) (rw w.self-is at number)
    ]

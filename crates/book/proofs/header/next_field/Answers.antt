use Rattle.std.specs.Prelude.{Some, None}
use Rattle.book.specs.Inner.Header.{none}
use Rattle.book.proofs.header.Laws.{field_says}
use Rattle.book.proofs.header.next_field.Goals as goal

pub returns-in_err-word : goal.returns-in_err-word
returns-in_err-word c = rw c.from_residual.ensures (none _ (rw c.in_err-word.was at c.next_in_line.ensures))

pub returns-in_err-value : goal.returns-in_err-value
returns-in_err-value c =
    rw c.from_residual-in_err-value.ensures
    (field_says c.next_in_line.result.1 (rw c.in_ok-word.was at c.next_in_line.ensures) None c.in_err-value.ensures)

pub returns : goal.returns
returns c = field_says c.next_in_line.result.1 (rw c.in_ok-word.was at c.next_in_line.ensures) (Some c.in_ok-value.value) c.in_ok-value.ensures

use Rattle.book.specs.Inner.Header.{none}
use Rattle.book.proofs.header.Laws.{keyword_says}
use Rattle.book.proofs.header.next_keyword.Goals as goal

pub returns-in_err-word : goal.returns-in_err-word
returns-in_err-word c = rw c.from_residual.ensures (none _ (rw c.in_err-word.was at c.next_in_line.ensures))

pub returns : goal.returns
returns c =
    rw c.then_some.ensures
    (keyword_says c.next_in_line.result.1 (rw c.in_ok-word.was at c.next_in_line.ensures) c.args.keyword.now c.eq.result c.eq.ensures)

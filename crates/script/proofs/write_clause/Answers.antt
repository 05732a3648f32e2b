use mathlib.Core.Path.{◌∙◌}
use borrow.Author.Rules.{rules}
use Rattle.script.specs.Inner.Writing.{Puts}
use Rattle.script.specs.Answers.{bytes, clause_line}
use Rattle.script.proofs.writing.Laws.{puts_both, line_written}
use Rattle.script.proofs.write_clause.Goals as goal

pub returns : goal.returns
unfolding bytes clause_line
returns c =
    let puts : Puts c.new-line.result c.put.new.self (clause_line c.args.cause c.args.clause) =
    puts_both c.put_cause.ensures (puts_both c.put_all.ensures (puts_both (rw c.from.ensures at c.put_number.ensures) c.put.ensures)) in
    let same_buffer = puts.same_buffer ∙ c.new-line.ensures.same_buffer in
    let written = line_written c.new-line.ensures.bytes c.new-line.ensures.end puts in
    record { value = written.0; out_after = search rules }

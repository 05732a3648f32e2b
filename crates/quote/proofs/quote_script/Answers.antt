use native.Mathlib.Omega.{arith}
use Rattle.std.proofs.lemmas.Result.{err_from_is_err_and}
use Rattle.quote.proofs.AnswerLaws.{told_length, answers_fault, answers_many, answers_quote}
use Rattle.quote.proofs.quote_script.Goals as goal

pub returns-in_err-length : goal.returns-in_err-length
returns-in_err-length c =
    let is = err_from_is_err_and c.from_residual.result c.from_residual.ensures.1 in
    rw (is.1, is.2) (answers_fault _ _ _ c.in_err-length.ensures)

pub returns-then-lines-gt-MAX_BACK_LINES : goal.returns-then-lines-gt-MAX_BACK_LINES
returns-then-lines-gt-MAX_BACK_LINES c = answers_many _ _ _ _ c.in_ok-length.ensures c.back_lines-lines.ensures c.if-lines-gt-MAX_BACK_LINES.true

pub worst-worst-requires : goal.worst-worst-requires
worst-worst-requires c = (told_length _ _ c.in_ok-length.ensures).0

pub returns : goal.returns
returns c = rw c.from.ensures (answers_quote _ _ _ _ c.in_ok-length.ensures c.back_lines-lines.ensures (omega arith) _ c.worst-worst.ensures)

use mathlib.Core.Path.{ap, sym}
use Rattle.script.specs.Answers.{bytes, call_words}
use Rattle.script.proofs.writing.Laws.{puts_both, puts_as}
use Rattle.script.proofs.writing.Writer.put_cause.Goals as goal

pub returns-in-Opening : goal.returns-in-Opening
unfolding bytes call_words
returns-in-Opening c = puts_as (ap call_words (sym c.in-Opening.is)) c.put_all.ensures

pub returns-in-Decision : goal.returns-in-Decision
unfolding bytes call_words
returns-in-Decision c = puts_as (ap call_words (sym c.in-Decision.is)) (puts_both c.put_all-in-Decision.ensures c.put_literal.ensures)

use mathlib.Core.Path.{refl}
use borrow.Author.Rules.{rules}
use Rattle.script.proofs.writing.Laws.{puts_full, puts_one}
use Rattle.script.proofs.writing.Writer.put.Goals as goal

pub returns-then-self : goal.returns-then-self
returns-then-self c = puts_one _ refl refl refl (search rules)

pub returns-else-self : goal.returns-else-self
returns-else-self c = puts_full _ _ (search rules)

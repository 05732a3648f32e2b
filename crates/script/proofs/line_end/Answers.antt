use mathlib.Core.Path.{◌∙◌}
use borrow.Author.Rules.{rules}
use Rattle.std.proofs.iter.runs.Made.{chains}
use Rattle.script.proofs.ScriptLaws.{first_end}
use Rattle.script.proofs.line_end.Goals as goal

pub returns : goal.returns
returns c = c.unwrap_or.ensures ∙ first_end c.args.bytes.now c.position.result (search (rules, chains))

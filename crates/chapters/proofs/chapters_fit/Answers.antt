use mathlib.Core.Path.{◌∙◌}
use native.Mathlib.Omega.{arith}
use borrow.Author.Rules.{rules}
use borrow.Author.Tests.{tests}
use lib.ListN.{take}
use Rattle.std.proofs.lemmas.Iterator.{YieldsList-from_slice}
use Rattle.std.proofs.lemmas.Iterator.Search.{all_from_yields_List}
use Rattle.chapters.proofs.FitLaws.{low, few_unfit, fit_by}
use Rattle.chapters.proofs.chapters_fit.Goals as goal

pub returns-then-clauses-chapters : goal.returns-then-clauses-chapters
returns-then-clauses-chapters c =
    all_from_yields_List low _ _ _ c.all.ensures.ran (YieldsList-from_slice (take c.args.clauses c.args.chapters.now) c.iter.ensures.rest)
    (λ x b q k. search (rules, tests))
    ∙ fit_by _ c.args.chapters.now _ (omega arith) (omega arith)

pub returns-else-clauses-chapters : goal.returns-else-clauses-chapters
returns-else-clauses-chapters c = let u = few_unfit c.args.clauses c.args.chapters.now c.args.room (λ r. omega arith) in let v = c.if-clauses-chapters.either in search rules

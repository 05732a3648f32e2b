use Rattle.std.proofs.Common.{rules, refl}
use Rattle.validation.proofs.AllLaws.{says_all_below}
use Rattle.validation.proofs.cells.Laws.{cells_answered}
use Rattle.validation.proofs.cells.cells_pass.Goals as goal

pub returns : goal.returns
returns c =
    cells_answered _ _ _ _ _ _ c.variables-variables.ensures c.clauses-clauses.ensures c.watches_at-watches.ensures c.pointers_at-pointers.ensures
    (says_all_below _ _ _ _ _ c.all.ensures.ran (λ d q k. search rules) (λ d q k. search rules) refl)

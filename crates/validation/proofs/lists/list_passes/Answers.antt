use Rattle.std.proofs.Common.{rules, arith}
use Rattle.validation.proofs.lists.Laws.{walking_stops}
use Rattle.validation.proofs.lists.list_passes.Goals as goal

pub returns-then-place-clauses : goal.returns-then-place-clauses
returns-then-place-clauses c =
    walking_stops _ _ _ _ _ _ c.loop-node.invariant c.requires.by_index (λ none. omega arith) (λ high own unmarked. search rules)

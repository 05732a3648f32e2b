use mathlib.Core.Path.{sym, ◌∙◌}
use Rattle.std.proofs.Common.{rules}
use Rattle.validation.proofs.SaysLaws.{says_true}
use Rattle.validation.proofs.reasons.Laws.{before_at, before_answered}
use Rattle.validation.proofs.places.ReadTrail.false_before.Goals as goal

pub returns-then-eq : goal.returns-then-eq
returns-then-eq c =
    rw c.if-eq.true (says_true (before_at _ _ _ _ c.place_of.ensures (sym c.eq.ensures ∙ c.if-eq.true)))

pub returns-else-eq : goal.returns-else-eq
returns-else-eq c =
    before_answered _ _ _ c.requires.place_value _ _ c.place_of.ensures (sym c.eq.ensures ∙ c.if-eq.false) c.false_place.ensures _ (search rules)

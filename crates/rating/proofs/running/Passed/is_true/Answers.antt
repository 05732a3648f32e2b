use mathlib.Core.Path.{refl, ap, ◌∙◌}
use denote.Enum.Bare.{sameb}
use Rattle.layout.specs.contracts.values.Value.{the_type}
use Rattle.layout.specs.declared.values.Value.{Value}
use Rattle.layout.specs.declared.values.Value.TheVariants.{True}
use Rattle.rating.proofs.running.Laws.{told_true}
use Rattle.rating.proofs.running.Passed.is_true.Goals as goal

pub returns : goal.returns
returns c =
    c.eq.ensures ∙ ap (λ (v : Value). sameb the_type v True) c.value.ensures ∙ told_true _ _ (λ (v : Value). sameb the_type v True) refl refl refl

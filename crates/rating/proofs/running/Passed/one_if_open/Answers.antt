use mathlib.Core.Bool.{Bool, cond}
use mathlib.Core.Path.{◌≡◌, refl, ap, ◌∙◌}
use borrow.Author.Rules.{rules}
use denote.Enum.Bare.{sameb}
use Rattle.layout.specs.contracts.values.Value.{the_type}
use Rattle.layout.specs.declared.values.Value.{Value}
use Rattle.layout.specs.declared.values.Value.TheVariants.{Open}
use Rattle.rating.proofs.running.Laws.{told_open}
use Rattle.rating.proofs.running.Passed.one_if_open.Goals as goal

pub returns : goal.returns
returns c =
    let byte : c.from.result ≡ cond c.eq.result 1 0 = search rules in
    byte
    ∙ ap (λ (b : Bool). cond b 1 0)
    (c.eq.ensures ∙ ap (λ (v : Value). sameb the_type v Open) c.value.ensures ∙ told_open _ _ (λ (v : Value). sameb the_type v Open) refl refl refl)

use mathlib.Core.Bool.{true}
use mathlib.Core.Path.{◌≡◌}
use Rattle.std.proofs.Common.{rules}
use Rattle.std.proofs.lemmas.Iterator.{YieldsList-from_slice}
use Rattle.std.proofs.lemmas.Iterator.Adapters.{serves_from_places}
use Rattle.book.specs.Formula.{literal_within}
use Rattle.validation.specs.Inner.Read.{read}
use Rattle.validation.specs.Inner.Reasons.{Before}
use Rattle.validation.proofs.places.Laws.{literal_within_at, says_each}
use Rattle.validation.proofs.reasons.Laws.{implied_answered}
use Rattle.validation.proofs.places.ReadTrail.implied_place.Goals as goal

pub all-requires-clause-callable : goal.all-requires-clause-callable
all-requires-clause-callable c =
    serves_from_places (YieldsList-from_slice c.args.clause.now cc) (λ x q r. search rules)
    (λ x k less e.
    let within : literal_within c.args.self.variables x.now ≡ true = literal_within_at _ _ c.requires x.now _ k less e in
    let on = c.in_ok-place.ensures.on in
    search rules)

pub returns : goal.returns
returns c =
    rw c.then_some.ensures
    (implied_answered _ _ c.args.self.readable.good.once _ c.in_ok-place.ensures _
    (says_each _ _ (Before (read c.args.self) c.in_ok-place.place) _ c.all.ensures.ran
    (YieldsList-from_slice c.args.clause.now cc) (λ x q k. search rules) (λ x q k. search rules)))

use mathlib.Core.Bool.{true}
use mathlib.Core.Path.{◌≡◌}
use Rattle.std.proofs.Common.{rules}
use Rattle.std.proofs.lemmas.Iterator.{YieldsList-from_slice}
use Rattle.std.proofs.lemmas.Iterator.Adapters.{serves_from_places}
use Rattle.book.specs.Formula.{literal_within}
use Rattle.run.specs.Trail.{is_false}
use Rattle.validation.specs.Inner.Read.{read}
use Rattle.validation.proofs.places.Laws.{literal_within_at, says_each}
use Rattle.validation.proofs.reasons.Laws.{false_there, false_not}
use Rattle.validation.proofs.places.ReadTrail.all_false.Goals as goal

pub all-requires-clause-callable : goal.all-requires-clause-callable
all-requires-clause-callable c =
    serves_from_places (YieldsList-from_slice c.args.clause.now cc) (λ x q r. search rules)
    (λ x k less e.
    let within : literal_within c.args.self.variables x.now ≡ true = literal_within_at _ _ c.requires x.now _ k less e in
    search rules)

pub returns : goal.returns
returns c =
    says_each _ _ (λ m. is_false (read c.args.self) m ≡ true) _ c.all.ensures.ran
    (YieldsList-from_slice c.args.clause.now cc) (λ x q k. search (rules, false_there)) (λ x q k. search (rules, false_not))

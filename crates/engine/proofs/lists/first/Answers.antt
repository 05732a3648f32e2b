use Rattle.std.proofs.Common.{ap, arith, get_or, ℕ, ◌≡◌}
use Rattle.book.specs.Numbers.{variables_of, clauses_of}
use Rattle.layout.specs.Layout.{head_slot}
use Rattle.engine.proofs.lists.WalkLaws.{walking_begins}
use Rattle.engine.proofs.lists.first.Goals as goal

pub returns : goal.returns
returns c =
    let slot : c.head_slot-slot.result ≡ head_slot (variables_of c.args.book.now) (clauses_of c.args.book.now) c.args.literal = omega arith in
    record { walking = λ at. walking_begins at c.requires.1 c.requires.2 slot (ap (λ (x : ℕ). get_or c.args.session.now x 0) slot) }

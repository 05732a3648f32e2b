use Rattle.std.proofs.Common.{ap, arith, get_or, ℕ, ◌≡◌}
use Rattle.book.specs.Numbers.{variables_of, clauses_of}
use Rattle.layout.specs.Layout.{link_slot}
use Rattle.engine.proofs.lists.WalkLaws.{walking_on}
use Rattle.engine.proofs.lists.keep.Goals as goal

pub returns : goal.returns
returns c =
    let slot : c.link_slot-slot.result ≡ link_slot (variables_of c.args.book.now) (clauses_of c.args.book.now) c.args.walk.node = omega arith in
    record { walking = λ at w. walking_on at w slot (ap (λ (x : ℕ). get_or c.args.session.now x 0) slot) }

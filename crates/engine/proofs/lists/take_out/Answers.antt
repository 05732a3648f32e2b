use Rattle.std.proofs.Common.{ap, refl, set, arith, get_or, ℕ, ◌≡◌}
use Rattle.book.specs.Numbers.{variables_of, clauses_of}
use Rattle.layout.specs.Layout.{link_slot}
use Rattle.engine.proofs.lists.TakeOutLaws.{slot_taken_out}
use Rattle.engine.proofs.lists.take_out.Goals as goal

pub returns : goal.returns
returns c =
    let link : c.link_slot.result ≡ link_slot (variables_of c.args.book.now) (clauses_of c.args.book.now) c.args.walk.node = omega arith in
    slot_taken_out c.requires.1 (ap (λ (x : ℕ). set c.args.session.now c.args.walk.slot (get_or c.args.session.now x 0)) link) refl
    (ap (λ (x : ℕ). get_or c.args.session.now x 0) link)

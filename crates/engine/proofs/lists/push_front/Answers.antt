use Rattle.engine.proofs.lists.PushLaws.{slot_pushed_front}
use Rattle.engine.proofs.lists.push_front.Goals as goal

pub returns : goal.returns
returns c =
    slot_pushed_front c.requires.1 c.requires.2 c.requires.3 c.requires.4
    (rw (c.head_slot-head.ensures, c.link_slot-link.ensures, c.variables-variables.ensures, c.clauses-clauses.ensures))

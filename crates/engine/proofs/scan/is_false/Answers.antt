use Rattle.std.proofs.Common.{◌∙◌}
use Rattle.engine.proofs.scan.Laws.{reads_says, says_false}
use Rattle.engine.proofs.scan.is_false.Goals as goal

pub returns : goal.returns
returns c trail reads =
    c.eq.ensures
    ∙ says_false trail c.args.literal c.value_of.result
    (reads_says c.args.values.now trail c.args.literal reads c.requires.0 c.requires.1 c.value_of.result c.value_of.ensures)

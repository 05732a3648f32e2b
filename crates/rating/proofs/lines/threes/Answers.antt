use mathlib.Core.Path.{refl}
use Rattle.rating.proofs.lines.ThreeLaws.{threes_chunks}
use Rattle.rating.proofs.lines.threes.Goals as goal

pub returns : goal.returns
returns c = rw c.as_chunks.ensures.front (threes_chunks c.args.numbers.now _ refl)

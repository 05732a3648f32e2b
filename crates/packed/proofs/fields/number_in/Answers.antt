use Rattle.std.proofs.Common.{arith}
use Rattle.packed.proofs.fields.Reading.{read_none, read_more}
use Rattle.packed.proofs.fields.number_in.Goals as goal

pub loop-byte-init : goal.loop-byte-init
loop-byte-init c = read_none _

pub loop-byte-preserved : goal.loop-byte-preserved
loop-byte-preserved c =
    rw (c.from.ensures, c.from-in-loop-byte.ensures) (read_more _ _ _ c.loop-byte.invariant (omega arith) (omega arith) (omega arith))

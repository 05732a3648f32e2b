use Rattle.chapters.proofs.SumLaws.{Added}
use Rattle.chapters.proofs.add_up.Given as goal

abbrev pub invariant-loop-count : goal.invariant-loop-count
invariant-loop-count l = Added l.counts l.chapters l.fn.totals l.totals l.count-iterator.a.rest.now l.count-iterator.b.rest.now

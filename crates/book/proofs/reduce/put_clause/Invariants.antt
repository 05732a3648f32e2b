use Rattle.book.proofs.reduce.ClauseLaws.{Put}
use Rattle.book.proofs.reduce.put_clause.Given as goal

abbrev pub invariant-loop-l : goal.invariant-loop-l
invariant-loop-l l = Put l.clause l.initial.out l.at l.tag l.marks l.out l.end l.l-index

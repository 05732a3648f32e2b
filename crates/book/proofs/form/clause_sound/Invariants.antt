use Prim.Native.Nat.{◌≤◌}
use lib.ListN.{length}
use Rattle.book.specs.Formula.{max_clause}
use Rattle.book.proofs.form.ClauseLaws.{Passed}
use Rattle.book.proofs.form.clause_sound.Given as goal

abbrev pub invariant-loop-l : goal.invariant-loop-l
invariant-loop-l l = (length l.clause ≤ max_clause) × Passed l.variables l.tag l.clause l.marks l.l-index

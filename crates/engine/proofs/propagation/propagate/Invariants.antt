use Prim.Native.Nat.{ℕ, ◌-◌}
use mathlib.Core.List.{List}
use Rattle.book.specs.Numbers.{variables_of, clauses_of}
use Rattle.engine.specs.Inner.Lists.{left_of}
use Rattle.engine.specs.Inner.Propagation.{Propagating}
use Rattle.engine.proofs.propagation.Laws.{Propagation, Next, ReadingOn}
use Rattle.engine.proofs.propagation.propagate.Given as goal

abbrev pub invariant-loop-walk : goal.invariant-loop-walk
invariant-loop-walk l =
    (next : Next l.book l.initial.session l.at) → (unread : List ℕ) × ReadingOn l.book l.initial.session l.session l.at l.walk next.run unread

abbrev pub decreases-loop-walk : goal.decreases-loop-walk
decreases-loop-walk l = left_of (variables_of l.book) (clauses_of l.book) l.session l.walk

abbrev pub invariant-propagating : goal.invariant-propagating
invariant-propagating l =
    (begun : Propagating l.book l.initial.session l.handled) → Propagation l.book l.initial.session l.session l.handled l.at begun.run

abbrev pub decreases-propagating : goal.decreases-propagating
decreases-propagating l = variables_of l.book - l.at

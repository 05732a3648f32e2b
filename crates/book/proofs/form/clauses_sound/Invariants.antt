use Prim.Native.Nat.{◌-◌}
use mathlib.Core.Path.{◌≡◌}
use Rattle.base.specs.Lists.{all}
use Rattle.book.specs.Formula.{sound_clause}
use Rattle.book.specs.Inner.Marks.{Bounded}
use Rattle.book.specs.Numbers.{clauses_from}
use Rattle.book.proofs.form.clauses_sound.Given as goal

abbrev pub invariant-loop-c : goal.invariant-loop-c
invariant-loop-c l =
    Bounded l.marks l.c
    × (all (sound_clause l.variables) (clauses_from l.book l.c (l.clauses - l.c)) ≡ all (sound_clause l.variables) (clauses_from l.book 0 l.clauses))

use Rattle.std.specs.Prelude.{◌≡◌}
use Rattle.book.specs.Numbers.{variables_of, formula_of}
use Rattle.run.specs.Trail.{is_true}
use Rattle.layout.specs.Layout.{held}
use Rattle.rating.specs.Inner.Threes.{threes_of}
use Rattle.rating.proofs.running.Laws.{AppliedBefore}
use Rattle.rating.proofs.running.Passed.apply_all.Given as goal

abbrev pub invariant-loop-three : goal.invariant-loop-three
invariant-loop-three l =
    (made : l.lines ≡ threes_of l.numbers) × AppliedBefore (variables_of l.self.book.now) l.numbers l.lines made (is_true (held (formula_of l.self.book.now) l.self.session.now).trail) l.start l.amount l.three-index

use Rattle.std.specs.Prelude.{◌≡◌}
use Rattle.book.specs.Numbers.{variables_of, formula_of}
use Rattle.layout.specs.Layout.{held}
use Rattle.rating.specs.Inner.Threes.{threes_of}
use Rattle.rating.proofs.running.Laws.{OpenBefore}
use Rattle.rating.proofs.running.Passed.open_lines.Given as goal

abbrev pub invariant-loop-three : goal.invariant-loop-three
invariant-loop-three l =
    (made : l.lines ≡ threes_of l.numbers) × OpenBefore (variables_of l.self.book.now) l.numbers l.lines made (held (formula_of l.self.book.now) l.self.session.now).trail l.count l.three-index

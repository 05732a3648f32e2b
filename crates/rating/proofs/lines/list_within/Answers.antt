use Rattle.std.proofs.Common.{◌∙◌, rules, tests, arith, length}
use Rattle.std.proofs.lemmas.Iterator.{YieldsList-from_slice}
use Rattle.std.proofs.lemmas.Iterator.Search.{all_from_yields_List}
use Rattle.std.specs.Prelude.{◌≤◌, ◌<◌}
use mathlib.Core.Logic.{inl, inr}
use borrow.Author.Tests.{ne_eqb, lt-leb}
use Rattle.rating.specs.Pricing.{max_lines}
use Rattle.rating.specs.Inner.Threes.{three_within}
use Rattle.rating.proofs.lines.ThreeLaws.{whole_and_few, not_whole_or_many}
use Rattle.rating.proofs.lines.list_within.Goals as goal
use Rattle.rating.proofs.lines.list_within.Goals.{then-numbers-eq0, else-numbers-eq0}

pub returns-then-lines-le-MAX_LINES : goal.returns-then-lines-le-MAX_LINES
returns-then-lines-le-MAX_LINES c =
    all_from_yields_List (three_within c.args.variables) _ _ _ c.all.ensures.ran
    (YieldsList-from_slice c.threes-lines.result.now cc)
    (λ x b q k. search (rules, tests))
    ∙ elim c.if-numbers-eq0.branch [
      | then-numbers-eq0 w ↦ let few : length c.threes-lines.result.now ≤ max_lines = grind arith in
          whole_and_few c.args.variables _ _ c.threes-lines.ensures w.if-numbers-eq0.true few
      | else-numbers-eq0 w ↦ absurd (grind arith)
    ]

pub returns-else-lines-le-MAX_LINES : goal.returns-else-lines-le-MAX_LINES
returns-else-lines-le-MAX_LINES c =
    elim c.if-numbers-eq0.branch [
      | then-numbers-eq0 w ↦ let many : max_lines < length c.threes-lines.result.now = grind arith in
          w.t-6-is ∙ lt-leb _ _ many ∙ not_whole_or_many c.args.variables _ _ c.threes-lines.ensures (inr many)
      | else-numbers-eq0 w ↦ w.t-6-is ∙ ne_eqb _ _ w.if-numbers-eq0.false ∙ not_whole_or_many c.args.variables _ _ c.threes-lines.ensures (inl w.if-numbers-eq0.false)
    ]

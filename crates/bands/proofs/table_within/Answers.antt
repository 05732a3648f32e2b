use Rattle.std.proofs.Common.{◌∙◌, rules, tests, arith, length}
use Rattle.std.proofs.lemmas.Iterator.{YieldsList-from_slice, YieldsList-from_map}
use Rattle.std.proofs.lemmas.Iterator.Consumers.{YieldsList-from_copied}
use Rattle.std.proofs.lemmas.Iterator.Search.{all_from_yields_List}
use Rattle.std.specs.Prelude.{◌≤◌, ◌<◌}
use mathlib.Core.Logic.{inl, inr}
use Rattle.std.proofs.lemmas.List.{length-map}
use borrow.Author.Tests.{ne_eqb, lt-leb}
use Rattle.bands.specs.Bands.{max_bands, band_within}
use Rattle.bands.specs.Inner.Triples.{band_from}
use Rattle.bands.proofs.TableLaws.{whole_and_few, not_whole_or_many}
use Rattle.bands.proofs.table_within.Goals as goal
use Rattle.bands.proofs.table_within.Goals.{then-table-eq0, else-table-eq0}

pub returns-then-bands-le-MAX_BANDS : goal.returns-then-bands-le-MAX_BANDS
returns-then-bands-le-MAX_BANDS c =
    all_from_yields_List band_within _ _ _ c.all.ensures.ran
    (YieldsList-from_map _ band_from (YieldsList-from_copied (YieldsList-from_slice c.triples-bands.result.now cc)) (cc) (λ x r q k. search rules))
    (λ x b q k. search (rules, tests))
    ∙ elim c.if-table-eq0.branch [
      | then-table-eq0 w ↦ let few : length c.triples-bands.result.now ≤ max_bands = grind arith in whole_and_few _ _ c.triples-bands.ensures w.if-table-eq0.true (simp length-map few)
      | else-table-eq0 w ↦ absurd (grind arith)
    ]

pub returns-else-bands-le-MAX_BANDS : goal.returns-else-bands-le-MAX_BANDS
returns-else-bands-le-MAX_BANDS c =
    elim c.if-table-eq0.branch [
      | then-table-eq0 w ↦ let many : max_bands < length c.triples-bands.result.now = grind arith in
          w.t-4-is ∙ lt-leb _ _ many ∙ not_whole_or_many _ _ c.triples-bands.ensures (inr (simp length-map many))
      | else-table-eq0 w ↦ w.t-4-is ∙ ne_eqb _ _ w.if-table-eq0.false ∙ not_whole_or_many _ _ c.triples-bands.ensures (inl w.if-table-eq0.false)
    ]

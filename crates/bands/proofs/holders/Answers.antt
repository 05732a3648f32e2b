use Rattle.std.proofs.Common.{◌≡◌, ap, ◌∙◌, rules, map}
use Rattle.std.specs.Prelude.{count_by}
use Rattle.bands.specs.Bands.{bands_of, lies_in, bands_at}
use Rattle.bands.specs.Inner.Triples.{band_from}
use Rattle.bands.specs.declared.Band.{Band}
use Rattle.std.specs.Prelude.{List}
use Rattle.bands.proofs.TableLaws.{count_is}
use Rattle.bands.proofs.holders.Goals as goal

pub returns : goal.returns
unfolding bands_at
returns c =
    let counted : c.count.result ≡ count_by (lies_in c.args.age) (map band_from c.triples.result.now) = search rules in
    counted ∙ ap (λ (bands : List Band). count_by (lies_in c.args.age) bands) c.triples.ensures ∙ count_is (lies_in c.args.age) (bands_of c.args.table.now)

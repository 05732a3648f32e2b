use Rattle.std.proofs.Common.{◌≡◌, sym, ap, ◌∙◌, rules, tests}
use Rattle.std.proofs.lemmas.Iterator.{YieldsList-from_slice, YieldsList-from_map}
use Rattle.std.proofs.lemmas.Iterator.Consumers.{YieldsList-from_copied}
use Rattle.std.proofs.lemmas.Iterator.Search.{find_from_yields_List}
use Rattle.std.proofs.lemmas.Iterator.Adapters.{option_map_id}
use Rattle.std.specs.Prelude.{find, List, Option}
use Rattle.std.specs.Option.{option_map_or}
use Rattle.bands.specs.Bands.{bands_of, lies_in, bands_at, factor_at}
use Rattle.bands.specs.Inner.Triples.{band_from}
use Rattle.bands.specs.declared.Band.{Band}
use Rattle.bands.proofs.TableLaws.{first_is}
use Rattle.bands.proofs.first_factor.Goals as goal

pub returns : goal.returns
unfolding bands_at factor_at
returns c =
    let told : c.map_or.result ≡ option_map_or (λ (band : Band). band.factor) c.find.result 0 = search rules in
    told ∙ ap (λ (o : Option Band). option_map_or (λ (band : Band). band.factor) o 0)
    (sym (option_map_id c.find.result)
    ∙ find_from_yields_List (lies_in c.args.age) _ _ _ c.find.ensures.ran
    (YieldsList-from_map _ band_from (YieldsList-from_copied (YieldsList-from_slice c.triples.result.now cc)) (cc) (λ x r q k. search rules))
    (λ x b q k. search (rules, tests))
    ∙ ap (λ (bands : List Band). find (lies_in c.args.age) bands) c.triples.ensures)
    ∙ first_is (lies_in c.args.age) (bands_of c.args.table.now)

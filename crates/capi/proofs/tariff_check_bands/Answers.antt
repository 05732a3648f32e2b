use mathlib.Core.Path.{ap, sym, ◌∙◌}
use Rattle.std.specs.Prelude.{Result, ⊤}
use Rattle.bands.specs.declared.TableFault.{TableFault}
use Rattle.capi.specs.Codes.{checked_code, age_after}
use Rattle.capi.proofs.tariff_check_bands.Goals as goal

pub returns-in-Ok : goal.returns-in-Ok
returns-in-Ok c =
    let is = sym c.in-Ok.is ∙ c.check_bands.ensures in
    record { value = ap checked_code is; age_after = ap (λ (r : Result ⊤ TableFault). age_after r c.args.age.now) is }

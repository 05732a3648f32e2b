use Rattle.std.proofs.Common.{◌≡◌, false, rules, arith, ◌∙◌, sym}
use Rattle.std.proofs.lemmas.Grind.{common_steps}
use Rattle.validation.proofs.ValidateLaws.{parts_fail}
use Rattle.validation.proofs.session_passes.Goals as goal

pub returns-else-lists_pass : goal.returns-else-lists_pass
returns-else-lists_pass c =
    let no : c.if-cells_pass.value ≡ false = search rules in
    no ∙ sym (parts_fail _ _ c.requires (λ p. grind (arith, common_steps)))

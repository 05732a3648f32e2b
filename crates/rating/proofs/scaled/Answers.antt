use mathlib.Core.Path.{◌≡◌, ap, ◌∙◌}
use native.Mathlib.Omega.{arith}
use lib.IntN.{pos, ◌*ℤ◌}
use mir.Syntax.{w64}
use mir.Val.{to_z, of_z}
use mir.ValLaws.{to_z-of_z}
use Rattle.base.proofs.Signed.{small_fits}
use Rattle.rating.specs.Pricing.{rounded}
use Rattle.rating.specs.Ages.{scaled}
use Rattle.rating.proofs.AgeLaws.{product_most}
use Rattle.rating.proofs.scaled.Goals as goal

pub overflow_mul-base : goal.overflow_mul-base
overflow_mul-base c =
    let wide : to_z w64 (of_z w64 c.from.result) ≡ pos c.args.factor = to_z-of_z w64 _ (record { sfits = c.from.type_inv }) ∙ c.from.ensures in
    rw (to_z-of_z w64 c.args.base c.ranges.base, wide)
    (small_fits _ (omega (arith, product_most c.args.base c.args.factor c.requires.0 c.requires.1)))

pub to_cents-requires : goal.to_cents-requires
to_cents-requires c =
    let wide : to_z w64 (of_z w64 c.from.result) ≡ pos c.args.factor = to_z-of_z w64 _ (record { sfits = c.from.type_inv }) ∙ c.from.ensures in
    let most = product_most c.args.base c.args.factor c.requires.0 c.requires.1 in
    rw (to_z-of_z w64 c.args.base c.ranges.base, wide, to_z-of_z w64 (c.args.base *ℤ pos c.args.factor) (small_fits _ (omega (arith, most)))) (omega (arith, most))

pub returns : goal.returns
unfolding scaled
returns c =
    let wide : to_z w64 (of_z w64 c.from.result) ≡ pos c.args.factor = to_z-of_z w64 _ (record { sfits = c.from.type_inv }) ∙ c.from.ensures in
    let product : to_z w64 (of_z w64 (to_z w64 (of_z w64 c.args.base) *ℤ to_z w64 (of_z w64 c.from.result))) ≡ c.args.base *ℤ pos c.args.factor =
    rw (to_z-of_z w64 c.args.base c.ranges.base, wide)
    (to_z-of_z w64 (c.args.base *ℤ pos c.args.factor) (small_fits _ (omega (arith, product_most c.args.base c.args.factor c.requires.0 c.requires.1)))) in
    to_z-of_z w64 _ (record { sfits = c.to_cents.type_inv }) ∙ c.to_cents.ensures ∙ ap rounded product

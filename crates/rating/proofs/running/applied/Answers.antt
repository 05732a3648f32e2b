use borrow.Author.Rules.{rules}
use Prim.Native.Nat.{◌≤◌}
use mathlib.Core.Path.{◌≡◌, sym, ap, ◌∙◌}
use native.Mathlib.Omega.{arith}
use lib.IntN.{nat_abs, ◌+ℤ◌, ◌*ℤ◌}
use mir.Syntax.{w32, w64}
use mir.Val.{to_z, of_z}
use mir.ValLaws.{to_z-of_z}
use Rattle.base.proofs.Signed.{size_sum, small_fits}
use Rattle.rating.specs.Pricing.{max_amount, change_within, rounded, applied}
use Rattle.rating.proofs.PricingLaws.{amount_small, thousandths_small, change_small}
use Rattle.rating.proofs.running.applied.Goals as goal

pub overflow_mul-running : goal.overflow_mul-running
overflow_mul-running c =
    let wide : to_z w64 (of_z w64 c.from-in-Thousandths.result) ≡ c.in-Thousandths.part =
    to_z-of_z w64 _ (record { sfits = c.from-in-Thousandths.type_inv }) ∙ c.from-in-Thousandths.ensures ∙ to_z-of_z w32 c.in-Thousandths.part (search rules) in
    let small = change_small c.args.running c.in-Thousandths.part c.requires.0 (thousandths_small c.in-Thousandths.part (sym (ap change_within c.in-Thousandths.is) ∙ c.requires.1)) in
    rw (to_z-of_z w64 c.args.running c.ranges.running, wide) (small_fits _ (omega (arith, small.0)))

pub to_cents-requires : goal.to_cents-requires
to_cents-requires c =
    let wide : to_z w64 (of_z w64 c.from-in-Thousandths.result) ≡ c.in-Thousandths.part =
    to_z-of_z w64 _ (record { sfits = c.from-in-Thousandths.type_inv }) ∙ c.from-in-Thousandths.ensures ∙ to_z-of_z w32 c.in-Thousandths.part (search rules) in
    let small = change_small c.args.running c.in-Thousandths.part c.requires.0 (thousandths_small c.in-Thousandths.part (sym (ap change_within c.in-Thousandths.is) ∙ c.requires.1)) in
    rw (to_z-of_z w64 c.args.running c.ranges.running, wide, to_z-of_z w64 (c.args.running *ℤ c.in-Thousandths.part) (small_fits _ (omega (arith, small.0))))
    (omega (arith, small.0))

pub overflow_add-result-in-Thousandths : goal.overflow_add-result-in-Thousandths
overflow_add-result-in-Thousandths c =
    let wide : to_z w64 (of_z w64 c.from-in-Thousandths.result) ≡ c.in-Thousandths.part =
    to_z-of_z w64 _ (record { sfits = c.from-in-Thousandths.type_inv }) ∙ c.from-in-Thousandths.ensures ∙ to_z-of_z w32 c.in-Thousandths.part (search rules) in
    let small = change_small c.args.running c.in-Thousandths.part c.requires.0 (thousandths_small c.in-Thousandths.part (sym (ap change_within c.in-Thousandths.is) ∙ c.requires.1)) in
    let product : to_z w64 (of_z w64 (to_z w64 (of_z w64 c.args.running) *ℤ to_z w64 (of_z w64 c.from-in-Thousandths.result))) ≡ c.args.running *ℤ c.in-Thousandths.part =
    rw (to_z-of_z w64 c.args.running c.ranges.running, wide) (to_z-of_z w64 (c.args.running *ℤ c.in-Thousandths.part) (small_fits _ (omega (arith, small.0)))) in
    let addend : to_z w64 (of_z w64 c.to_cents.result) ≡ rounded (c.args.running *ℤ c.in-Thousandths.part) =
    to_z-of_z w64 _ (record { sfits = c.to_cents.type_inv }) ∙ c.to_cents.ensures ∙ ap rounded product in
    rw (to_z-of_z w64 c.args.running c.ranges.running, addend)
    (small_fits _ (omega (arith, size_sum c.args.running (rounded (c.args.running *ℤ c.in-Thousandths.part)), c.requires.0, small.1)))

pub returns-in-Amount : goal.returns-in-Amount
unfolding applied
returns-in-Amount c =
    let wide : to_z w64 (of_z w64 c.from.result) ≡ c.in-Amount.cents =
    to_z-of_z w64 _ (record { sfits = c.from.type_inv }) ∙ c.from.ensures ∙ to_z-of_z w32 c.in-Amount.cents (search rules) in
    let small : nat_abs c.in-Amount.cents ≤ max_amount = amount_small c.in-Amount.cents (sym (ap change_within c.in-Amount.is) ∙ c.requires.1) in
    rw (to_z-of_z w64 c.args.running c.ranges.running, wide)
    (to_z-of_z w64 (c.args.running +ℤ c.in-Amount.cents) (small_fits _ (omega (arith, size_sum c.args.running c.in-Amount.cents, c.requires.0, small)))
    ∙ sym (ap (applied c.args.running) c.in-Amount.is))

pub returns-in-Thousandths : goal.returns-in-Thousandths
unfolding applied
returns-in-Thousandths c =
    let wide : to_z w64 (of_z w64 c.from-in-Thousandths.result) ≡ c.in-Thousandths.part =
    to_z-of_z w64 _ (record { sfits = c.from-in-Thousandths.type_inv }) ∙ c.from-in-Thousandths.ensures ∙ to_z-of_z w32 c.in-Thousandths.part (search rules) in
    let small = change_small c.args.running c.in-Thousandths.part c.requires.0 (thousandths_small c.in-Thousandths.part (sym (ap change_within c.in-Thousandths.is) ∙ c.requires.1)) in
    let product : to_z w64 (of_z w64 (to_z w64 (of_z w64 c.args.running) *ℤ to_z w64 (of_z w64 c.from-in-Thousandths.result))) ≡ c.args.running *ℤ c.in-Thousandths.part =
    rw (to_z-of_z w64 c.args.running c.ranges.running, wide) (to_z-of_z w64 (c.args.running *ℤ c.in-Thousandths.part) (small_fits _ (omega (arith, small.0)))) in
    let addend : to_z w64 (of_z w64 c.to_cents.result) ≡ rounded (c.args.running *ℤ c.in-Thousandths.part) =
    to_z-of_z w64 _ (record { sfits = c.to_cents.type_inv }) ∙ c.to_cents.ensures ∙ ap rounded product in
    rw (to_z-of_z w64 c.args.running c.ranges.running, addend)
    (to_z-of_z w64 (c.args.running +ℤ rounded (c.args.running *ℤ c.in-Thousandths.part))
    (small_fits _ (omega (arith, size_sum c.args.running (rounded (c.args.running *ℤ c.in-Thousandths.part)), c.requires.0, small.1)))
    ∙ sym (ap (applied c.args.running) c.in-Thousandths.is))

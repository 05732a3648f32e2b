use Prim.Native.Nat.{ℕ}
use mathlib.Core.List.{List}
use mathlib.Core.Path.{◌≡◌, sym, ap, ap₂, ◌∙◌}
use native.Mathlib.Omega.{arith}
use lib.IntN.{ℤ}
use mir.Syntax.{w64}
use mir.Val.{to_z, of_z}
use mir.ValLaws.{to_z-of_z}
use Rattle.std.specs.Prelude.{Ok}
use Rattle.std.proofs.lemmas.Result.{err_from_is_err_and}
use Rattle.refusals.specs.Refusals.{checked}
use Rattle.bands.specs.Bands.{factor_answer}
use Rattle.bands.proofs.Factors.{factor_most}
use Rattle.book.specs.Numbers.{formula_of}
use Rattle.layout.specs.Layout.{held}
use Rattle.rating.specs.Pricing.{lines_of, price_refusal, premium_of}
use Rattle.rating.specs.Ages.{scaled}
use Rattle.rating.proofs.AnswerLaws.{price_passed, accepted_price}
use Rattle.rating.proofs.AgeLaws.{scaled_small, age_refused, age_answered}
use Rattle.rating.proofs.price_for_age.Goals as goal

pub returns-in_err-check_price : goal.returns-in_err-check_price
returns-in_err-check_price c =
    let base_is : to_z w64 (of_z w64 c.args.base) ≡ c.args.base = to_z-of_z w64 c.args.base c.ranges.base in
    let p = err_from_is_err_and c.from_residual.result c.from_residual.ensures.1 in
    rw (p.1, p.2)
    (age_refused c.args.book.now c.args.session.now c.args.base c.args.table.now c.args.age c.args.lines.now _
    (c.in_err-check_price.ensures ∙ ap (λ (x : ℤ). checked (price_refusal c.args.book.now c.args.session.now x c.args.lines.now)) base_is))

pub scaled-requires : goal.scaled-requires
scaled-requires c =
    let base_is : to_z w64 (of_z w64 c.args.base) ≡ c.args.base = to_z-of_z w64 c.args.base c.ranges.base in
    let none = price_passed _ _ c.args.base _ c.ranges.base c.in_ok-check_price.ensures in
    let known = accepted_price _ _ _ _ none in
    let told : Ok c.in-Ok.factor ≡ factor_answer c.args.table.now c.args.age = sym c.in-Ok.is ∙ c.factor_at.ensures in
    let few = factor_most _ _ _ told in
    (rw base_is known.base_right, omega (arith, few))

pub new-requires : goal.new-requires
new-requires c =
    let none = price_passed _ _ c.args.base _ c.ranges.base c.in_ok-check_price.ensures in
    (accepted_price _ _ _ _ none).passes

pub premium_of-requires : goal.premium_of-requires
premium_of-requires c =
    let base_is : to_z w64 (of_z w64 c.args.base) ≡ c.args.base = to_z-of_z w64 c.args.base c.ranges.base in
    let none = price_passed _ _ c.args.base _ c.ranges.base c.in_ok-check_price.ensures in
    let known = accepted_price _ _ _ _ none in
    let told : Ok c.in-Ok.factor ≡ factor_answer c.args.table.now c.args.age = sym c.in-Ok.is ∙ c.factor_at.ensures in
    let start_is : to_z w64 (of_z w64 c.scaled.result) ≡ scaled c.args.base c.in-Ok.factor =
    to_z-of_z w64 _ (record { sfits = c.scaled.type_inv }) ∙ c.scaled.ensures ∙ ap (λ (x : ℤ). scaled x c.in-Ok.factor) base_is in
    record { list_bound = rw c.new.ensures.book known.list_right; start_bound = rw start_is (scaled_small c.args.base _ known.base_right (factor_most _ _ _ told)) }

pub returns-in-Ok : goal.returns-in-Ok
returns-in-Ok c =
    let base_is : to_z w64 (of_z w64 c.args.base) ≡ c.args.base = to_z-of_z w64 c.args.base c.ranges.base in
    let none = price_passed _ _ c.args.base _ c.ranges.base c.in_ok-check_price.ensures in
    let told : Ok c.in-Ok.factor ≡ factor_answer c.args.table.now c.args.age = sym c.in-Ok.is ∙ c.factor_at.ensures in
    let start_is : to_z w64 (of_z w64 c.scaled.result) ≡ scaled c.args.base c.in-Ok.factor =
    to_z-of_z w64 _ (record { sfits = c.scaled.type_inv }) ∙ c.scaled.ensures ∙ ap (λ (x : ℤ). scaled x c.in-Ok.factor) base_is in
    (c.premium_of.ensures
    ∙ ap₂ (λ (b s : List ℕ). premium_of (to_z w64 (of_z w64 c.scaled.result)) (lines_of c.args.lines.now) (Ok (held (formula_of b) s))) c.new.ensures.book c.new.ensures.session)
    ∙ ap (λ (x : ℤ). premium_of x (lines_of c.args.lines.now) (Ok (held (formula_of c.args.book.now) c.args.session.now))) start_is
    ∙ age_answered _ _ _ _ _ _ none _ told

pub returns-in-Err : goal.returns-in-Err
returns-in-Err c =
    let none = price_passed _ _ c.args.base _ c.ranges.base c.in_ok-check_price.ensures in
    age_answered c.args.book.now c.args.session.now c.args.base c.args.table.now c.args.age c.args.lines.now none _ (sym c.in-Err.is ∙ c.factor_at.ensures)

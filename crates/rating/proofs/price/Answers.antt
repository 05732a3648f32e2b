use Prim.Native.Nat.{ℕ}
use mathlib.Core.List.{List}
use mathlib.Core.Path.{◌≡◌, ap, ap₂, ◌∙◌}
use lib.IntN.{ℤ}
use mir.Syntax.{w64}
use mir.Val.{to_z, of_z}
use mir.ValLaws.{to_z-of_z}
use Rattle.std.specs.Prelude.{Ok}
use Rattle.std.proofs.lemmas.Result.{err_from_is_err_and}
use Rattle.refusals.specs.Refusals.{checked}
use Rattle.book.specs.Numbers.{formula_of}
use Rattle.layout.specs.Layout.{held}
use Rattle.rating.specs.Pricing.{lines_of, price_refusal, premium_of}
use Rattle.rating.proofs.AnswerLaws.{price_passed, base_small, accepted_price, answers_refused, answers_premium}
use Rattle.rating.proofs.price.Goals as goal

pub returns-in_err-check_price : goal.returns-in_err-check_price
returns-in_err-check_price c =
    let base_is : to_z w64 (of_z w64 c.args.base) ≡ c.args.base = to_z-of_z w64 c.args.base c.ranges.base in
    let p = err_from_is_err_and c.from_residual.result c.from_residual.ensures.1 in
    rw (p.1, p.2)
    (answers_refused c.args.book.now c.args.session.now c.args.base c.args.lines.now _
    (c.in_err-check_price.ensures ∙ ap (λ (x : ℤ). checked (price_refusal c.args.book.now c.args.session.now x c.args.lines.now)) base_is))

pub new-requires : goal.new-requires
new-requires c =
    let none = price_passed _ _ c.args.base _ c.ranges.base c.in_ok-check_price.ensures in
    (accepted_price _ _ _ _ none).passes

pub premium_of-requires : goal.premium_of-requires
premium_of-requires c =
    let base_is : to_z w64 (of_z w64 c.args.base) ≡ c.args.base = to_z-of_z w64 c.args.base c.ranges.base in
    let none = price_passed _ _ c.args.base _ c.ranges.base c.in_ok-check_price.ensures in
    let known = accepted_price _ _ _ _ none in
    record { list_bound = rw c.new.ensures.book known.list_right; start_bound = rw base_is (base_small _ known.base_right) }

pub returns : goal.returns
returns c =
    let base_is : to_z w64 (of_z w64 c.args.base) ≡ c.args.base = to_z-of_z w64 c.args.base c.ranges.base in
    let none = price_passed _ _ c.args.base _ c.ranges.base c.in_ok-check_price.ensures in
    answers_premium _ _ _ _ none _
    ((c.premium_of.ensures
    ∙ ap₂ (λ (b s : List ℕ). premium_of (to_z w64 (of_z w64 c.args.base)) (lines_of c.args.lines.now) (Ok (held (formula_of b) s))) c.new.ensures.book c.new.ensures.session)
    ∙ ap (λ (x : ℤ). premium_of x (lines_of c.args.lines.now) (Ok (held (formula_of c.args.book.now) c.args.session.now))) base_is)

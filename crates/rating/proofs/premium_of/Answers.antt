use borrow.Author.Rules.{rules}
use Prim.Native.Nat.{ℕ}
use mathlib.Core.Path.{◌≡◌, sym, ap, ap₂, ◌∙◌}
use lib.IntN.{ℤ}
use mir.Syntax.{w64}
use mir.ValLaws.{to_z-of_z}
use Rattle.std.specs.Prelude.{Ok, Some}
use Rattle.book.specs.Numbers.{formula_of}
use Rattle.run.specs.Trail.{is_true}
use Rattle.layout.specs.Layout.{held}
use Rattle.rating.specs.Pricing.{lines_of, priced_by, open_lines, offered}
use Rattle.rating.proofs.premium_of.Goals as goal

pub returns-in-Some : goal.returns-in-Some
returns-in-Some c =
    let trail = (held (formula_of c.args.passed.book.now) c.args.passed.session.now).trail in
    let all_applied : c.apply_all.result ≡ priced_by (is_true trail) (Some c.args.start) (lines_of c.args.lines.now) =
    c.apply_all.ensures ∙ ap (λ (x : ℤ). priced_by (is_true trail) (Some x) (lines_of c.args.lines.now)) (to_z-of_z w64 c.args.start c.ranges.start) in
    ap₂ (λ (x : ℤ) (n : ℕ). Ok (record { amount = x; open_lines = n })) (to_z-of_z w64 c.in-Some.amount (search rules)) c.open_lines.ensures
    ∙ ap (offered (open_lines (is_true trail) (lines_of c.args.lines.now))) (sym c.in-Some.is ∙ all_applied)

pub returns-in-None : goal.returns-in-None
returns-in-None c =
    let trail = (held (formula_of c.args.passed.book.now) c.args.passed.session.now).trail in
    let all_applied : c.apply_all.result ≡ priced_by (is_true trail) (Some c.args.start) (lines_of c.args.lines.now) =
    c.apply_all.ensures ∙ ap (λ (x : ℤ). priced_by (is_true trail) (Some x) (lines_of c.args.lines.now)) (to_z-of_z w64 c.args.start c.ranges.start) in
    ap (offered (open_lines (is_true trail) (lines_of c.args.lines.now))) (sym c.in-None.is ∙ all_applied)

use borrow.Author.Rules.{rules}
use Prim.Native.Nat.{ℕ}
use mathlib.Core.Path.{◌≡◌, sym, ap, ◌∙◌}
use lib.Dec.{leb}
use lib.IntN.{nat_abs}
use mir.Syntax.{w32}
use mir.ValLaws.{to_z-of_z}
use Rattle.rating.specs.Pricing.{max_amount, max_thousandths, change_within}
use Rattle.rating.proofs.lines.change_within.Goals as goal

pub returns-in-Amount : goal.returns-in-Amount
unfolding change_within
returns-in-Amount c =
    let size : c.unsigned_abs.result ≡ nat_abs c.in-Amount.cents
    = c.unsigned_abs.ensures.value ∙ ap nat_abs (to_z-of_z w32 c.in-Amount.cents (search rules)) in
    ap (λ (n : ℕ). leb n max_amount) size ∙ sym (ap change_within c.in-Amount.is)

pub returns-in-Thousandths : goal.returns-in-Thousandths
unfolding change_within
returns-in-Thousandths c =
    let size : c.unsigned_abs-in-Thousandths.result ≡ nat_abs c.in-Thousandths.part
    = c.unsigned_abs-in-Thousandths.ensures.value ∙ ap nat_abs (to_z-of_z w32 c.in-Thousandths.part (search rules)) in
    ap (λ (n : ℕ). leb n max_thousandths) size ∙ sym (ap change_within c.in-Thousandths.is)

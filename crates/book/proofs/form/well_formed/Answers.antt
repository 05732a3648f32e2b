use mathlib.Core.Path.{◌≡◌, sym, ◌∙◌}
use mathlib.Core.Bool.{true}
use native.Mathlib.Omega.{arith}
use Rattle.std.proofs.lemmas.Grind.{common_steps}
use Rattle.base.proofs.Bools.{never}
use Rattle.book.proofs.WellFormedLaws.{not_well_formed}
use Rattle.book.proofs.form.well_formed.Goals as goal
use Rattle.book.proofs.form.well_formed.Goals.{then-book-clauses, else-book-clauses, then-number_at-eq0, else-number_at-eq0, then-number_at-literals, else-number_at-literals, then-starts_rise, else-starts_rise, then-variables-ge1, else-variables-ge1, then-variables-le-MAX_VARIABLES, else-variables-le-MAX_VARIABLES, then-clauses-le-MAX_CLAUSES, else-clauses-le-MAX_CLAUSES}

-- where a test fails: of well-formed numbers each holds
pub returns-else-literals-le-MAX_LITERALS : goal.returns-else-literals-le-MAX_LITERALS
returns-else-literals-le-MAX_LITERALS c =
    c.if-literals-le-MAX_LITERALS.false
    ∙ sym
    (not_well_formed _ (λ parted limited.
    let v1 : c.if-book-clauses.value ≡ true = elim c.if-book-clauses.branch [ then-book-clauses w ↦ grind (arith, common_steps, parted.first) | else-book-clauses w ↦ grind (arith, common_steps, parted.long) ] in
    let v2 : c.if-number_at-eq0.value ≡ true = elim c.if-number_at-eq0.branch [ then-number_at-eq0 w ↦ grind (arith, common_steps, parted.last) | else-number_at-eq0 w ↦ absurd (never v1 w.if-number_at-eq0.false) ] in
    let v3 : c.if-number_at-literals.value ≡ true = elim c.if-number_at-literals.branch [ then-number_at-literals w ↦ grind (arith, common_steps, parted.rises) | else-number_at-literals w ↦ absurd (never v2 w.if-number_at-literals.false) ] in
    let v4 : c.if-starts_rise.value ≡ true = elim c.if-starts_rise.branch [ then-starts_rise w ↦ grind (arith, common_steps, limited.some_variables) | else-starts_rise w ↦ absurd (never v3 w.if-starts_rise.false) ] in
    let v5 : c.if-variables-ge1.value ≡ true = elim c.if-variables-ge1.branch [ then-variables-ge1 w ↦ grind (arith, common_steps, limited.variables) | else-variables-ge1 w ↦ absurd (never v4 w.if-variables-ge1.false) ] in
    let v6 : c.if-variables-le-MAX_VARIABLES.value ≡ true = elim c.if-variables-le-MAX_VARIABLES.branch [ then-variables-le-MAX_VARIABLES w ↦ grind (arith, common_steps, limited.clauses) | else-variables-le-MAX_VARIABLES w ↦ absurd (never v5 w.if-variables-le-MAX_VARIABLES.false) ] in
    let v7 : c.if-clauses-le-MAX_CLAUSES.value ≡ true = elim c.if-clauses-le-MAX_CLAUSES.branch [ then-clauses-le-MAX_CLAUSES w ↦ grind (arith, common_steps, limited.literals) | else-clauses-le-MAX_CLAUSES w ↦ absurd (never v6 w.if-clauses-le-MAX_CLAUSES.false) ] in
    never v7 c.if-literals-le-MAX_LITERALS.false))

use Prim.Native.Nat.{ℕ}
use mathlib.Core.Bool.{true}
use mathlib.Core.Path.{◌≡◌, sym, ap, ◌∙◌}
use mir.Syntax.{w64}
use mir.ValLaws.{to_z-of_z}
use Rattle.std.proofs.lemmas.Result.{err_from_is_err_and}
use Rattle.refusals.specs.declared.Refusal.TheVariants as refusal
use Rattle.refusals.proofs.OutcomeLaws.{accepted_as, refused_as, passed}
use Rattle.book.specs.Numbers.{variables_of}
use Rattle.validation.specs.Validation.{call_refusal}
use Rattle.rating.specs.Pricing.{base_within, list_within, run_refusal}
use Rattle.rating.proofs.AnswerLaws.{session_refused, base_outside, list_outside, none_outside}
use Rattle.rating.proofs.check_price.Goals as goal
use Rattle.rating.proofs.check_price.Goals.{then-not-base_within-via-then-not-base_within, then-not-base_within-via-else-not-base_within+then-not-list_within}

pub returns-in_err-check_session : goal.returns-in_err-check_session
returns-in_err-check_session c =
    let p = err_from_is_err_and c.from_residual.result c.from_residual.ensures.1 in
    rw (p.1, p.2) (session_refused c.args.book.now c.args.session.now c.args.base c.args.lines.now _ c.in_err-check_session.ensures)

pub returns-then-not-base_within : goal.returns-then-not-base_within
returns-then-not-base_within c =
    let quiet : 0 ≡ call_refusal c.args.book.now c.args.session.now (run_refusal true) = passed _ _ c.in_ok-check_session.ensures in
    elim c.then-not-base_within.branch [
      | then-not-base_within-via-then-not-base_within w ↦
          let base_told : c.base_within.result ≡ base_within c.args.base = c.base_within.ensures ∙ ap base_within (to_z-of_z w64 c.args.base c.ranges.base) in
          refused_as _ tt refusal.PriceInput (base_outside c.args.book.now c.args.session.now c.args.base c.args.lines.now quiet (sym w.if-not-base_within.true ∙ base_told))
      | then-not-base_within-via-else-not-base_within+then-not-list_within w ↦
          let list_told : w.list_within.result ≡ list_within (variables_of c.args.book.now) c.args.lines.now = w.list_within.ensures ∙ ap (λ (v : ℕ). list_within v c.args.lines.now) w.variables.ensures in
          refused_as _ tt refusal.PriceInput (list_outside c.args.book.now c.args.session.now c.args.base c.args.lines.now quiet (sym w.if-not-list_within.true ∙ list_told))
    ]

pub returns : goal.returns
returns c =
    let quiet : 0 ≡ call_refusal c.args.book.now c.args.session.now (run_refusal true) = passed _ _ c.in_ok-check_session.ensures in
    let base_told : c.base_within.result ≡ base_within c.args.base = c.base_within.ensures ∙ ap base_within (to_z-of_z w64 c.args.base c.ranges.base) in
    let list_told : c.list_within.result ≡ list_within (variables_of c.args.book.now) c.args.lines.now = c.list_within.ensures ∙ ap (λ (v : ℕ). list_within v c.args.lines.now) c.variables.ensures in
    accepted_as _ tt (none_outside c.args.book.now c.args.session.now c.args.base c.args.lines.now quiet (sym c.if-not-base_within.false ∙ base_told) (sym c.if-not-list_within.false ∙ list_told))

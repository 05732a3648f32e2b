use Rattle.std.proofs.Common.{rules}
use Rattle.std.proofs.lemmas.Result.{err_from_is_err_and}
use mir.Syntax.{w64}
use mir.Val.{SFits}
use mir.ValLaws.{to_z-of_z}
use Rattle.packed.proofs.PartLaws.{base_refused, premium_refused, lines_refused, record_read}
use Rattle.packed.proofs.records.values_of.Goals as goal

pub returns-in_err-base : goal.returns-in_err-base
returns-in_err-base c =
    let p = err_from_is_err_and c.from_residual.result c.from_residual.ensures.1 in
    rw (p.1, p.2) (base_refused _ _ c.requires.0 c.requires.1 c.requires.2 c.stands-with_base.ensures _ c.read_part.ensures _ c.in_err-base.was)

pub returns-in_err-premium : goal.returns-in_err-premium
returns-in_err-premium c =
    let p = err_from_is_err_and c.from_residual-in_err-premium.result c.from_residual-in_err-premium.ensures.1 in
    rw (p.1, p.2)
    (premium_refused _ _ c.requires.0 c.requires.1 c.requires.2 c.stands-with_base.ensures _ c.read_part.ensures _ c.in_ok-base.was c.span-second.ensures
    c.stands-with_premium.ensures _ c.read_part-2.ensures _ c.in_err-premium.was)

pub returns-in_err-open_lines : goal.returns-in_err-open_lines
returns-in_err-open_lines c =
    let p = err_from_is_err_and c.from_residual-in_err-open_lines.result c.from_residual-in_err-open_lines.ensures.1 in
    rw (p.1, p.2)
    (lines_refused _ _ c.requires.0 c.requires.1 c.requires.2 c.stands-with_base.ensures _ c.read_part.ensures _ c.in_ok-base.was c.span-second.ensures
    c.stands-with_premium.ensures _ c.read_part-2.ensures _ c.in_ok-premium.was c.span.ensures c.stands.ensures _ c.read_part-3.ensures _ c.in_err-open_lines.was)

pub returns : goal.returns
returns c =
    let base : SFits w64 c.in_ok-base.base = search rules in
    let premium : SFits w64 c.in_ok-premium.premium = search rules in
    let open_lines : SFits w64 c.in_ok-open_lines.open_lines = search rules in
    let read = record_read _ _ c.requires.0 c.requires.1 c.requires.2 c.stands-with_base.ensures _ c.read_part.ensures _ c.in_ok-base.was c.span-second.ensures
    c.stands-with_premium.ensures _ c.read_part-2.ensures _ c.in_ok-premium.was c.span.ensures c.stands.ensures _ c.read_part-3.ensures _ c.in_ok-open_lines.was in
    rw (to_z-of_z w64 _ base, to_z-of_z w64 _ premium, to_z-of_z w64 _ open_lines) read

use Rattle.std.proofs.Common.{◌≤◌, sym, ◌∙◌, rules, length}
use Rattle.std.proofs.lemmas.Result.{err_from_is_err_and}
use mir.Syntax.{w64}
use mir.Val.{SFits}
use mir.ValLaws.{to_z-of_z}
use Rattle.packed.specs.Packed.{record_of, record_written, record_after}
use Rattle.packed.proofs.FormLaws.{refused_so}
use Rattle.packed.proofs.PartLaws.{map_fits, base_fits, premium_fits, lines_fit, end_small, record_done}
use Rattle.packed.proofs.write_quote.Goals as goal

pub returns-in_err-record_refusal : goal.returns-in_err-record_refusal
unfolding record_written record_after
returns-in_err-record_refusal c =
    let p = err_from_is_err_and c.from_residual.result c.from_residual.ensures.1 in
    let said = refused_so (record_of c.args.quote.map c.args.quote.base c.args.quote.premium c.args.quote.open_lines) c.args.out.now _ _ (sym c.record_refusal.ensures ∙ c.in_err-record_refusal.was) in
    record { value = rw (p.1, p.2) said.0; out_after = said.1 }

pub bounds-out-0 : goal.bounds-out-0
bounds-out-0 c =
    let some : 1 ≤ length c.args.out.now = map_fits _ _ _ _ _ _ c.record_refusal.ensures c.in_ok-record_refusal.was in
    some

pub put_part-second-requires : goal.put_part-second-requires
put_part-second-requires c =
    let base : SFits w64 c.args.quote.base = search rules in
    base_fits _ _ _ _ _ _ c.record_refusal.ensures c.in_ok-record_refusal.was c.stands.ensures (to_z-of_z w64 _ base)

pub put_part-third-requires : goal.put_part-third-requires
put_part-third-requires c =
    let base : SFits w64 c.args.quote.base = search rules in
    let premium : SFits w64 c.args.quote.premium = search rules in
    premium_fits _ _ _ _ _ _ c.record_refusal.ensures c.in_ok-record_refusal.was c.stands.ensures (to_z-of_z w64 _ base) _ _ c.put_part-second.ensures.value c.put_part-second.ensures.out_after
    c.stands-2.ensures (to_z-of_z w64 _ premium)

pub put_part-end-requires : goal.put_part-end-requires
put_part-end-requires c =
    let base : SFits w64 c.args.quote.base = search rules in
    let premium : SFits w64 c.args.quote.premium = search rules in
    let open_lines : SFits w64 c.args.quote.open_lines = search rules in
    lines_fit _ _ _ _ _ _ c.record_refusal.ensures c.in_ok-record_refusal.was c.stands.ensures (to_z-of_z w64 _ base) _ _ c.put_part-second.ensures.value c.put_part-second.ensures.out_after
    c.stands-2.ensures (to_z-of_z w64 _ premium) _ _ c.put_part-third.ensures.value c.put_part-third.ensures.out_after c.stands-3.ensures (to_z-of_z w64 _ open_lines)

pub overflow_cast-result : goal.overflow_cast-result
overflow_cast-result c =
    let base : SFits w64 c.args.quote.base = search rules in
    let premium : SFits w64 c.args.quote.premium = search rules in
    let open_lines : SFits w64 c.args.quote.open_lines = search rules in
    let small = end_small _ _ _ _ _ _ c.record_refusal.ensures c.in_ok-record_refusal.was c.stands.ensures (to_z-of_z w64 _ base) _ _ c.put_part-second.ensures.value c.put_part-second.ensures.out_after
    c.stands-2.ensures (to_z-of_z w64 _ premium) _ _ c.put_part-third.ensures.value c.put_part-third.ensures.out_after c.stands-3.ensures (to_z-of_z w64 _ open_lines)
    _ _ c.put_part-end.ensures.value c.put_part-end.ensures.out_after in
    record { fits = small }

pub returns : goal.returns
returns c =
    let base : SFits w64 c.args.quote.base = search rules in
    let premium : SFits w64 c.args.quote.premium = search rules in
    let open_lines : SFits w64 c.args.quote.open_lines = search rules in
    let said = record_done _ _ _ _ _ _ c.record_refusal.ensures c.in_ok-record_refusal.was c.stands.ensures (to_z-of_z w64 _ base) _ _ c.put_part-second.ensures.value c.put_part-second.ensures.out_after
    c.stands-2.ensures (to_z-of_z w64 _ premium) _ _ c.put_part-third.ensures.value c.put_part-third.ensures.out_after c.stands-3.ensures (to_z-of_z w64 _ open_lines)
    _ _ c.put_part-end.ensures.value c.put_part-end.ensures.out_after in
    record { value = said.0; out_after = said.1 }

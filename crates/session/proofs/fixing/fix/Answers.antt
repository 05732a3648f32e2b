use Rattle.session.proofs.fixing.Laws.{fix_refused, fix_holds, fix_ends}
use Rattle.session.proofs.ReadLaws.{handed_on}
use Rattle.session.proofs.fixing.fix.Goals as goal

pub returns-in_err-check_fixing-clause-value : goal.returns-in_err-check_fixing-clause-value
returns-in_err-check_fixing-clause-value c = handed_on _ _ _ c.from_residual.ensures.1 (fix_refused _ _ _ _ c.in_err-check_fixing.ensures).0

pub returns-in_err-check_fixing-clause-session_after : goal.returns-in_err-check_fixing-clause-session_after
returns-in_err-check_fixing-clause-session_after c = (fix_refused _ _ _ _ c.in_err-check_fixing.ensures).1

pub fix-requires : goal.fix-requires
fix-requires c = fix_holds _ _ _ c.in_ok-check_fixing.ensures

pub returns : goal.returns
returns c =
    let done = fix_ends _ _ _ c.in_ok-check_fixing.ensures _ (c.fix.ensures (fix_holds _ _ _ c.in_ok-check_fixing.ensures)) in
    record { value = done.0; session_after = done.1 }

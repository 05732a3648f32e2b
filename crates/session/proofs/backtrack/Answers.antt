use Rattle.session.proofs.AnswerLaws.{back_refused}
use Rattle.session.proofs.ReadLaws.{handed_on, backtrack_holds, backtrack_allowed, backtrack_ends}
use Rattle.session.proofs.backtrack.Goals as goal

pub returns-in_err-check_backtrack-clause-value : goal.returns-in_err-check_backtrack-clause-value
returns-in_err-check_backtrack-clause-value c =
    handed_on _ _ _ c.from_residual.ensures.1 (back_refused _ _ _ _ c.in_err-check_backtrack.ensures).0

pub returns-in_err-check_backtrack-clause-session_after : goal.returns-in_err-check_backtrack-clause-session_after
returns-in_err-check_backtrack-clause-session_after c = (back_refused _ _ _ _ c.in_err-check_backtrack.ensures).1

pub backtrack-requires : goal.backtrack-requires
backtrack-requires c = (backtrack_holds _ _ _ c.in_ok-check_backtrack.ensures, backtrack_allowed _ _ _ c.in_ok-check_backtrack.ensures)

pub returns : goal.returns
returns c =
    let taken_back = c.backtrack.ensures (backtrack_holds _ _ _ c.in_ok-check_backtrack.ensures) (backtrack_allowed _ _ _ c.in_ok-check_backtrack.ensures) in
    let done = backtrack_ends _ _ _ c.in_ok-check_backtrack.ensures _ taken_back in
    record { value = done.0; session_after = done.1 }

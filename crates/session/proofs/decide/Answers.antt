use native.Mathlib.Omega.{arith}
use Rattle.session.proofs.AnswerLaws.{decide_refused}
use Rattle.session.proofs.ReadLaws.{handed_on, decide_holds, decide_allowed, decide_room, decide_leaves, decide_ends}
use Rattle.session.proofs.decide.Goals as goal

pub returns-in_err-check_decision-clause-value : goal.returns-in_err-check_decision-clause-value
returns-in_err-check_decision-clause-value c =
    handed_on _ _ _ c.from_residual.ensures.1 (decide_refused _ _ _ _ c.in_err-check_decision.ensures).0

pub returns-in_err-check_decision-clause-session_after : goal.returns-in_err-check_decision-clause-session_after
returns-in_err-check_decision-clause-session_after c = (decide_refused _ _ _ _ c.in_err-check_decision.ensures).1

pub bounds-session-0 : goal.bounds-session-0
bounds-session-0 c = omega (arith, decide_room _ _ _ c.in_ok-check_decision.ensures)

pub overflow_add-before : goal.overflow_add-before
overflow_add-before c = omega (arith, decide_room _ _ _ c.in_ok-check_decision.ensures)

pub decide-requires : goal.decide-requires
decide-requires c = (decide_holds _ _ _ c.in_ok-check_decision.ensures, decide_allowed _ _ _ c.in_ok-check_decision.ensures)

pub answered-requires : goal.answered-requires
answered-requires c =
    let decided = c.decide.ensures (decide_holds _ _ _ c.in_ok-check_decision.ensures) (decide_allowed _ _ _ c.in_ok-check_decision.ensures) in
    decide_leaves _ _ _ c.in_ok-check_decision.ensures _ decided

pub shape_of-session : goal.shape_of-session
shape_of-session c =
    (c.decide.ensures (decide_holds _ _ _ c.in_ok-check_decision.ensures) (decide_allowed _ _ _ c.in_ok-check_decision.ensures)).same_length

pub returns : goal.returns
returns c =
    let decided = c.decide.ensures (decide_holds _ _ _ c.in_ok-check_decision.ensures) (decide_allowed _ _ _ c.in_ok-check_decision.ensures) in
    let done = decide_ends _ _ _ c.in_ok-check_decision.ensures _ decided _ c.answered.ensures in
    record { value = done.0; session_after = done.1 }

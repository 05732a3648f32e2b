use Rattle.std.specs.Prelude.{Ok}
use mathlib.Core.Path.{ap, sym, ◌∙◌}
use native.Mathlib.Omega.{arith}
use Prim.Native.Nat.{◌+◌, ◌*◌, ◌<◌}
use lib.ListN.{length}
use Rattle.refusals.proofs.OutcomeLaws.{passed}
use Rattle.session.specs.Outcomes.{calls_of}
use Rattle.session.proofs.CallLaws.{open_accepted}
use Rattle.session.proofs.Statements.{statement_3}
use Rattle.session.proofs.OpenLaws.{replay_refused, replay_done}
use Rattle.session.proofs.ReadLaws.{handed_on}
use Rattle.session.proofs.ReplayLaws.{Replaying, replaying_decision, replaying_fixing, replaying_backtrack, replaying_next, replay_finished}
use Rattle.session.proofs.replay.Goals as goal
use Rattle.session.proofs.replay.Goals.{then-decides, else-decides+then-fixes, else-decides+else-fixes}

pub returns-in_err-check_opening-clause-value : goal.returns-in_err-check_opening-clause-value
returns-in_err-check_opening-clause-value c =
    handed_on _ _ _ c.from_residual.ensures.1 (replay_refused c.args.book.now c.args.session.now (calls_of c.args.calls.now) _ c.in_err-check_opening.ensures).0

pub returns-in_err-check_opening-clause-session_after : goal.returns-in_err-check_opening-clause-session_after
returns-in_err-check_opening-clause-session_after c =
    (replay_refused c.args.book.now c.args.session.now (calls_of c.args.calls.now) _ c.in_err-check_opening.ensures).1

pub open-requires : goal.open-requires
open-requires c = open_accepted _ _ (sym (passed _ _ c.in_ok-check_opening.ensures))

pub loop-i-preserved : goal.loop-i-preserved
loop-i-preserved c =
    let more : 2 * c.loop-i.i + 1 < length c.args.calls.now = omega arith in
    let joined : Replaying c.args.book.now c.args.calls.now c.open.new.session c.if-decides.session (2 * c.loop-i.i + 2) = elim c.if-decides.branch [
      | then-decides w ↦
          replaying_decision _ _ _ _ _ _ c.loop-i.invariant (more) (ap length w.session-is ∙ w.decide.auto.session) w.if-decides.true (w.session-is ∙ w.decide.ensures.session_after)
      | else-decides+then-fixes w ↦
          replaying_fixing _ _ _ _ _ _ c.loop-i.invariant (more) (ap length w.session-is ∙ w.fix.auto.session) w.if-decides.false w.if-fixes.true (w.session-is ∙ w.fix.ensures.session_after)
      | else-decides+else-fixes w ↦
          replaying_backtrack _ _ _ _ _ _ c.loop-i.invariant (more) (ap length w.session-is ∙ w.backtrack.auto.session) w.if-decides.false w.if-fixes.false (w.session-is ∙ w.backtrack.ensures.session_after)
    ] in
    replaying_next _ _ _ _ c.loop-i.i (joined)

pub returns : goal.returns
returns c =
    let finished = replay_finished c.args.book.now c.args.calls.now c.args.session.now _ _ _ c.in_ok-check_opening.ensures c.open.ensures c.loop-i.invariant (omega arith) in
    let done = replay_done c.args.book.now c.args.session.now (calls_of c.args.calls.now) _ (passed _ _ c.in_ok-check_opening.ensures) (finished) in
    record {
      value = ap Ok c.answered.ensures ∙ done.0;
      session_after = finished;
      replayed = statement_3 c.args.book.now c.args.session.now (calls_of c.args.calls.now) _ (finished);
    }

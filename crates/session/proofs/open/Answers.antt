use Rattle.refusals.proofs.OutcomeLaws.{passed}
use mathlib.Core.Path.{sym, ◌∙◌, ap}
use Rattle.std.specs.Prelude.{Ok}
use native.Mathlib.Omega.{arith}
use Rattle.session.proofs.CallLaws.{open_accepted}
use Rattle.session.proofs.OpenLaws.{open_refused, open_done}
use Rattle.session.proofs.ReadLaws.{handed_on}
use Rattle.session.proofs.open.Goals as goal

pub returns-in_err-check_opening-clause-value : goal.returns-in_err-check_opening-clause-value
returns-in_err-check_opening-clause-value c =
    handed_on _ _ _ c.from_residual.ensures.1 (open_refused c.args.book.now c.args.session.now _ c.in_err-check_opening.ensures).0

pub returns-in_err-check_opening-clause-session_after : goal.returns-in_err-check_opening-clause-session_after
returns-in_err-check_opening-clause-session_after c = (open_refused c.args.book.now c.args.session.now _ c.in_err-check_opening.ensures).1

pub open-requires : goal.open-requires
open-requires c =
    open_accepted c.args.book.now c.args.session.now (sym (passed _ _ c.in_ok-check_opening.ensures))

pub answered-requires : goal.answered-requires
answered-requires c = (omega (arith, c.open.ensures.encodes.long), omega arith)

pub shape_of-session : goal.shape_of-session
shape_of-session c = c.open.ensures.same_length

pub returns : goal.returns
returns c =
    let done = open_done c.args.book.now c.args.session.now _ (passed _ _ c.in_ok-check_opening.ensures) c.open.ensures in
    record { value = ap Ok c.answered.ensures ∙ done.0; session_after = done.1 }

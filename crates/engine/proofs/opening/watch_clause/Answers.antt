use Rattle.std.proofs.Common.{refl, ◌∙◌, arith}
use Rattle.book.proofs.WellFormedLaws.{well_formed_limited}
use Rattle.layout.proofs.FitsLaws.{session_fits, fits_kept}
use Rattle.engine.proofs.opening.Laws.{clause_read}
use Rattle.engine.proofs.opening.FirstWatchLaws.{first_none, first_some}
use Rattle.engine.proofs.opening.watch_clause.Goals as goal

pub returns-in_default : goal.returns-in_default
returns-in_default c = first_none _ _ c.requires.0.well c.requires.1 c.clause.ensures c.in_default.len_below

pub overflow_cast-node : goal.overflow_cast-node
overflow_cast-node c = let limited = well_formed_limited _ c.requires.0.well in omega arith

pub overflow_add-node : goal.overflow_add-node
overflow_add-node c = let limited = well_formed_limited _ c.requires.0.well in omega arith

pub set_watch-requires : goal.set_watch-requires
set_watch-requires c = (session_fits _ _ refl refl c.requires.0, omega arith, omega arith)

pub overflow_add-node-2 : goal.overflow_add-node-2
overflow_add-node-2 c = let limited = well_formed_limited _ c.requires.0.well in omega arith

pub push_front-requires : goal.push_front-requires
push_front-requires c =
    let b = clause_read _ _ _ c.requires.0.well c.requires.1 c.clause.ensures 0 (omega arith) in
    (fits_kept c.set_watch.auto.session (session_fits _ _ refl refl c.requires.0), b.0, omega arith, omega arith, omega arith)

pub overflow_add-node-3 : goal.overflow_add-node-3
overflow_add-node-3 c = let limited = well_formed_limited _ c.requires.0.well in omega arith

pub push_front-requires-2 : goal.push_front-requires-2
push_front-requires-2 c =
    let b = clause_read _ _ _ c.requires.0.well c.requires.1 c.clause.ensures 1 (omega arith) in
    (fits_kept (c.push_front.auto.session ∙ c.set_watch.auto.session) (session_fits _ _ refl refl c.requires.0), b.0, omega arith, omega arith, omega arith)

pub returns : goal.returns
returns c =
    first_some _ _ c.requires.0.well c.requires.1 _ _ c.clause.ensures
    c.in-len2-up.len_at_least c.set_watch.ensures c.push_front.ensures c.push_front-2.ensures

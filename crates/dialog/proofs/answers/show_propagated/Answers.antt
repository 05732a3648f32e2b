use Rattle.dialog.proofs.answers.Laws.{shown_implied, shown_conflict}
use Rattle.dialog.proofs.answers.show_propagated.Goals as goal

pub show_implied-requires : goal.show_implied-requires
show_implied-requires c = c.requires _ c.in-Implied.is

pub returns-in-Implied : goal.returns-in-Implied
returns-in-Implied c = shown_implied c.args.book.now c.args.session.now c.args.cause _ c.args.out.now _ _ _ c.in-Implied.is c.show_implied.ensures

pub returns-in-Conflict : goal.returns-in-Conflict
returns-in-Conflict c =
    shown_conflict c.args.book.now c.args.session.now c.args.cause _ c.args.out.now _ _ _ c.in-Conflict.is (c.write_clause.ensures.value, c.write_clause.ensures.out_after)

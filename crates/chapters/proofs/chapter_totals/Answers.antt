use mathlib.Core.Path.{◌≡◌, sym}
use Rattle.std.proofs.lemmas.Result.{err_from_is_err_and}
use native.Mathlib.Omega.{arith}
use borrow.Author.Rules.{rules}
use lib.ListN.{length, take}
use lib.Seq.{length-take-le}
use Rattle.chapters.proofs.AnswerLaws.{few_told, answers_refused, answers_unfit, answers_fit}
use Rattle.chapters.proofs.chapter_totals.Goals as goal

pub returns-in_err-clauses : goal.returns-in_err-clauses
returns-in_err-clauses c =
    let is = err_from_is_err_and c.from_residual.result c.from_residual.ensures.1 in
    let told = answers_refused c.args.book.now c.args.session.now c.args.chapters.now c.args.totals.now _ c.in_err-clauses.ensures.value in
    record { value = rw (is.1, is.2) told.0; totals_after = told.1 }

pub returns-then-not-chapters_fit : goal.returns-then-not-chapters_fit
returns-then-not-chapters_fit c =
    let told = answers_unfit c.args.book.now c.args.session.now c.args.chapters.now c.args.totals.now _ c.in_ok-clauses.ensures.value c.if-not-chapters_fit.ensures in
    record { value = told.0; totals_after = told.1 }

pub slice_bounds-counts-end : goal.slice_bounds-counts-end
slice_bounds-counts-end c =
    let few = few_told c.args.book.now c.args.session.now _ c.in_ok-clauses.ensures.value in
    search rules

pub slice_bounds-add_up-end : goal.slice_bounds-add_up-end
slice_bounds-add_up-end c =
    let few = few_told c.args.book.now c.args.session.now _ c.in_ok-clauses.ensures.value in
    sym (length-take-le _ _ (search rules))

pub add_up-requires : goal.add_up-requires
add_up-requires c =
    let few = few_told c.args.book.now c.args.session.now _ c.in_ok-clauses.ensures.value in
    let handed : length (take c.in_ok-clauses.field-0 c.checks.new.out) ≡ c.in_ok-clauses.field-0 = length-take-le _ _ (search rules) in
    record { counts_len_bound = omega arith; totals_value = rw handed (search rules) }

pub returns : goal.returns
returns c =
    let told = answers_fit c.args.book.now c.args.session.now c.args.chapters.now c.args.totals.now _ c.in_ok-clauses.ensures.value _ _ _ (search rules) c.checks.ensures.out_after c.if-not-chapters_fit.ensures c.add_up.ensures in
    record { value = told.0; totals_after = told.1 }

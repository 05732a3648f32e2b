use mathlib.Core.Path.{refl, sym, ap, subst, ◌∙◌}
use mathlib.Core.List.{map}
use lib.ListN.{length-set, length-map}
use Rattle.std.specs.Prelude.{Err}
use Rattle.std.proofs.lemmas.Result.{err_from_is_err_and}
use Rattle.book.specs.Inner.Parse.{ParsedSays}
use Rattle.book.specs.Reading.{as_read, read_formula}
use Rattle.book.proofs.parse.Laws.{text_start, outside_none, outside_variables, outside_clauses, within_limits, header_refused, header_taken, stored_front}
use Rattle.book.proofs.parse.parse.Goals as goal
use Rattle.book.proofs.parse.parse.Goals.{then-variables-eq0-via-then-variables-eq0, then-variables-eq0-via-else-variables-eq0+then-variables-gt-MAX_VARIABLES, then-variables-eq0-via-else-variables-eq0+else-variables-gt-MAX_VARIABLES+then-clauses-gt-MAX_CLAUSES}

pub returns-in_default : goal.returns-in_default
returns-in_default c = text_start _ _ c.line_start-at.ensures ∙ c.in_default.ensures

pub returns-then-variables-eq0 : goal.returns-then-variables-eq0
returns-then-variables-eq0 c =
    text_start _ _ c.line_start-at.ensures ∙ c.in-Some.ensures.1 ∙ header_refused _ _ _
    (elim c.then-variables-eq0.branch [
      | then-variables-eq0-via-then-variables-eq0 w ↦ outside_none _ _ w.if-variables-eq0.true
      | then-variables-eq0-via-else-variables-eq0+then-variables-gt-MAX_VARIABLES w ↦ outside_variables _ _ w.if-variables-gt-MAX_VARIABLES.true
      | then-variables-eq0-via-else-variables-eq0+else-variables-gt-MAX_VARIABLES+then-clauses-gt-MAX_CLAUSES w ↦ outside_clauses _ _ w.if-clauses-gt-MAX_CLAUSES.true
    ])

pub returns-in_err-literals : goal.returns-in_err-literals
returns-in_err-literals c =
    let p = err_from_is_err_and c.from_residual.result c.from_residual.ensures.1 in
    subst (ParsedSays c.args.text.now c.clauses_at.new.numbers) (sym (p.1 ∙ ap Err p.2))
    (text_start _ _ c.line_start-at.ensures
    ∙ c.in-Some.ensures.1
    ∙ header_taken _ _ _ (within_limits _ _ c.if-variables-eq0.false c.if-variables-gt-MAX_VARIABLES.false c.if-clauses-gt-MAX_CLAUSES.false)
    ∙ c.in_err-literals.ensures)

pub returns : goal.returns
unfolding read_formula
returns c =
    let read = c.in_ok-literals.ensures in
    record {
      written = record { variables = c.in-Some.header.variables; clauses = read.0 };
      is_accepted = text_start _ _ c.line_start-at.ensures
          ∙ c.in-Some.ensures.1
          ∙ header_taken _ _ _ (within_limits _ _ c.if-variables-eq0.false c.if-variables-gt-MAX_VARIABLES.false c.if-clauses-gt-MAX_CLAUSES.false)
          ∙ read.1;
      same_variables = refl;
      same_clauses = read.2;
      same_literals = read.3;
      long = simp length-set read.4.long;
      front = stored_front _ _ _ _ _ _ (map as_read read.0) refl refl read.4 (length-map read.0 as_read ∙ read.2) read.3;
    }

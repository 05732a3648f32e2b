use Rattle.std.proofs.Common.{arith, ap₂, ◌∙◌}
use borrow.Author.Tests.{eq-eqb, ne_eqb}
use Rattle.base.proofs.Lists.{begins_at, begins_end}
use Rattle.book.specs.Text.{header}
use Rattle.book.proofs.header.Laws.{first_fails, second_fails, third_fails, fourth_fails, fifth_word, well_headed, tokens_behind, malformed_first, malformed_words, well_formed_header}
use Rattle.book.proofs.header.header_at.Goals as goal
use Rattle.book.proofs.header.header_at.Goals.{then-text-at-via-then-text-at, then-text-at-via-else-text-at+then-text-at-ne112}

pub returns-then-text-at : goal.returns-then-text-at
returns-then-text-at c =
    elim c.then-text-at.branch [
      | then-text-at-via-then-text-at w ↦ malformed_first _ _ c.requires.1 (begins_end 112 c.args.text.now c.args.at w.if-text-at.true)
      | then-text-at-via-else-text-at+then-text-at-ne112 w ↦
          malformed_first _ _ c.requires.1 (begins_at 112 c.args.text.now c.args.at (omega arith) ∙ ne_eqb _ _ w.if-text-at-ne112.true)
    ]

pub returns-in_err-behind_p : goal.returns-in_err-behind_p
returns-in_err-behind_p c = rw c.from_residual.ensures (malformed_words _ _ c.requires.1 (first_fails c.in_err-behind_p.ensures))

pub returns-in_err-behind_cnf : goal.returns-in_err-behind_cnf
returns-in_err-behind_cnf c =
    rw c.from_residual-in_err-behind_cnf.ensures
    (malformed_words _ _ c.requires.1 (second_fails c.in_ok-behind_p.ensures c.in_err-behind_cnf.ensures))

pub returns-in_err-variables : goal.returns-in_err-variables
returns-in_err-variables c =
    rw c.from_residual-in_err-variables.ensures
    (malformed_words _ _ c.requires.1 (third_fails c.in_ok-behind_p.ensures c.in_ok-behind_cnf.ensures c.in_err-variables.ensures))

pub returns-in_err-clauses : goal.returns-in_err-clauses
returns-in_err-clauses c =
    rw c.from_residual-in_err-clauses.ensures
    (malformed_words _ _ c.requires.1 (fourth_fails c.in_ok-behind_p.ensures c.in_ok-behind_cnf.ensures c.in_ok-variables.ensures.0 c.in_err-clauses.ensures))

pub returns-in-Some-default : goal.returns-in-Some-default
returns-in-Some-default c =
    malformed_words _ _ c.requires.1
    (fifth_word c.in_ok-behind_p.ensures c.in_ok-behind_cnf.ensures c.in_ok-variables.ensures.0 c.in_ok-clauses.ensures.0
    (rw c.in-Some-default.is-0 at c.next_in_line.ensures))

pub returns-in-None-default : goal.returns-in-None-default
returns-in-None-default c =
    let ends = rw c.in-None-default.is-0 at c.next_in_line.ensures in (
      ends.within,
      well_formed_header _ _ c.requires.1 _ _ _
          (begins_at 112 c.args.text.now c.args.at (omega arith) ∙ eq-eqb _ _ c.if-text-at-ne112.false)
          (well_headed c.in_ok-behind_p.ensures c.in_ok-behind_cnf.ensures c.in_ok-variables.ensures.0 c.in_ok-clauses.ensures.0 ends
          ∙ ap₂ header c.in_ok-variables.ensures.1 c.in_ok-clauses.ensures.1)
          (tokens_behind c.in_ok-behind_p.ensures c.in_ok-behind_cnf.ensures c.in_ok-variables.ensures.0 c.in_ok-clauses.ensures.0 ends),
    )

-- The answer of a line, as bytes, and the session behind it; the last line. All of them by what the calls on the session answer.
use Rattle.std.specs.Prelude.{ℕ, ◌-◌, List, length, Option, Some, None, Result, Ok, Err, ⊤}
use Rattle.book.specs.Numbers.{formula_of}
use Rattle.run.specs.Run.{Run, trail_behind}
use Rattle.layout.specs.Layout.{held}
use Rattle.session.specs.Outcomes.{decide_answer, decide_numbers, backtrack_answer, backtrack_numbers, total_answer, figures_answer}
use Rattle.refusals.specs.declared.Refusal.{Refusal}
use Rattle.refusals.specs.Refusals.{number_of}
use Rattle.session.specs.declared.Propagated.{Propagated}
use Rattle.session.specs.declared.Propagated.TheVariants as propagated
use Rattle.session.specs.declared.Shown.{Shown}
use Rattle.script.specs.declared.Line.{Line}
use Rattle.script.specs.declared.Line.TheVariants as asks
use Rattle.script.specs.declared.Cause.{Cause}
use Rattle.script.specs.declared.Cause.TheVariants.{Decision}
use Rattle.script.specs.Answers.{implied_line, clause_line, back_line, refused_line, end_line}

-- the line of an opening or a decision: by its answer, and by the run that the session then holds
unfoldable pub propagated_bytes : Cause → Result Propagated Refusal → Run → List ℕ
propagated_bytes cause (Ok (propagated.Implied n)) run = implied_line cause (trail_behind (length run.trail - n) run)
propagated_bytes cause (Ok (propagated.Conflict clause)) run = clause_line cause clause
propagated_bytes cause (Err refusal) run = refused_line (number_of refusal)

-- the line of a backtrack of k
unfoldable pub back_bytes : ℕ → Result ⊤ Refusal → List ℕ
back_bytes k (Ok done) = back_line k
back_bytes k (Err refusal) = refused_line (number_of refusal)

-- the last line
unfoldable pub end_bytes : Result ℕ Refusal → Result Shown Refusal → List ℕ
end_bytes (Err refusal) figures = refused_line (number_of refusal)
end_bytes (Ok checks) (Err refusal) = refused_line (number_of refusal)
end_bytes (Ok checks) (Ok shown) = end_line shown.decisions shown.backtracks checks

module _ (book session : List ℕ) where
  -- the session behind a line, by what the line asks for
  unfoldable pub line_numbers : Option Line → List ℕ
  line_numbers (Some (asks.Choose l)) = decide_numbers book session l
  line_numbers (Some (asks.Back k)) = backtrack_numbers book session k
  line_numbers None = session

  -- the answer to a line
  unfoldable pub line_answer : Option Line → List ℕ
  line_answer (Some (asks.Choose l)) = propagated_bytes (Decision l) (decide_answer book session l) (held (formula_of book) (decide_numbers book session l))
  line_answer (Some (asks.Back k)) = back_bytes k (backtrack_answer book session k)
  line_answer None = refused_line 18

  unfoldable pub last_line : List ℕ
  last_line = end_bytes (total_answer book session) (figures_answer book session)

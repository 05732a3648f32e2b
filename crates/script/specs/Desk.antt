-- The whole output of the script program, by the text of `tariff.cnf` and the script.
use Rattle.std.specs.Prelude.{ℕ, suc, cond, Option, Some, None, List, [], ◌∷◌, ◌++◌, eqb, length}
use Rattle.base.specs.Lists.{sum}
use Rattle.book.specs.Formula.{Formula}
use Rattle.book.specs.Reading.{Judged, refused, accepted, read_text}
use Rattle.run.specs.Trail.{decisions}
use Rattle.run.specs.Run.{Run, trail_behind, in_conflict, open_run, decide}
use Rattle.run.specs.Calls.{decision, backtrack_by, decide_refusal, backtrack_refusal, step}
use Rattle.script.specs.declared.Line.{Line}
use Rattle.script.specs.declared.Line.TheVariants.{Choose, Back}
use Rattle.script.specs.declared.Cause.{Cause}
use Rattle.script.specs.declared.Cause.TheVariants.{Opening, Decision}
use Rattle.script.specs.Script.{script_lines, line_of}
use Rattle.script.specs.Answers.{implied_line, clause_line, back_line, refused_line, end_line}

-- the line of a call that propagated: the conflict clause, or what came on the trail behind the first so many
unfoldable pub propagated_line : Cause → ℕ → Run → List ℕ
propagated_line cause before run = cond (in_conflict run) (clause_line cause run.conflict) (implied_line cause (trail_behind before run))

-- `refused` and the number, or, where it is 0, the line of an accepted call
unfoldable pub unless_refused : ℕ → List ℕ → List ℕ
unless_refused refusal line = cond (eqb refusal 0) line (refused_line refusal)

-- the answer to a line in the run's own state
unfoldable pub answer_to : Formula → Run → Option Line → List ℕ
answer_to formula run (Some (Choose l)) =
    unless_refused (decide_refusal formula l run) (propagated_line (Decision l) (suc (length run.trail)) (decide formula l run))
answer_to formula run (Some (Back k)) = unless_refused (backtrack_refusal k run) (back_line k)
answer_to formula run None = refused_line 18

-- the run behind a line
unfoldable pub step_of : Formula → Run → Option Line → Run
step_of formula run (Some (Choose l)) = step formula run (decision l)
step_of formula run (Some (Back k)) = step formula run (backtrack_by k)
step_of formula run None = run

-- the last line where the script has led to a run: decisions in force, accepted backtracks, total checks
abbrev pub end_line_of : Run → List ℕ
end_line_of run = end_line (length (decisions run.trail)) run.backtracks (sum run.checks)

-- one answer a line, then the last line
unfoldable pub answers_to : Formula → Run → List (List ℕ) → List ℕ
answers_to formula run [] = end_line_of run
answers_to formula run (line ∷ lines) =
    answer_to formula run (line_of line) ++ answers_to formula (step_of formula run (line_of line)) lines

-- A refused book prints its line and nothing more; else the opening's line, and then the script is answered.
unfoldable pub output_for : Judged → List ℕ → List ℕ
output_for (refused number) script = refused_line number
output_for (accepted formula) script =
    propagated_line Opening 0 (open_run formula) ++ answers_to formula (open_run formula) (script_lines script)

unfoldable pub desk_output : List ℕ → List ℕ → List ℕ
desk_output text script = output_for (read_text text) script

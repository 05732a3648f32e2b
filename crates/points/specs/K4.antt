-- Points of request K4, evaluated: repeated literals, rules with a feature both ways, and lent sessions over such a rule.
use Rattle.std.specs.Prelude.{ℕ, zero, suc, ◌≡◌, refl, true, false, List, [], ◌∷◌, ◌++◌, replicate, set}
use Rattle.base.specs.Lists.{all, any, keep, flat, empty, member, distinct, same, begins, times, table, up_to, sum, without, firsts}
use Rattle.book.specs.Formula.{Formula, positive, negative, met, literal_within, sound_clause, sound}
use Rattle.book.specs.Numbers.{starts, numbers_of, clauses_from, rising, well_formed}
use Rattle.book.specs.Text.{blank, line_end, extend, split, not_skipped, lines_of, filled, words_of, decimal, is_digit, unsigned, unsigned_token, negative_token, token_of, headed, header_in, header_of}
use Rattle.book.specs.Faults.{fault, opened, closed, written, not_number, over_variables, wrong_length, surplus, unfinished, over_literals, faults_at, faults_from, outside, body_of, faults_under, faults_of}
use Rattle.book.specs.Reading.{before, earlier, least, onto, clauses_in, formula_under, formula_in, both_ways, as_read, read_formula, Judged, refused, accepted, judged, read_text}
use Rattle.book.specs.Printer.{digits}
use Rattle.run.specs.Trail.{opposite, place, literal_at, is_true, decisions, level, lowered}
use Rattle.run.specs.Scan.{watched, next, one_more, scan_from, scan}
use Rattle.run.specs.Run.{trail_behind, no_cell, push_front, take_out, add_checks, other_watch, moved, scanned_action, action, on_trail, with_watches, with_conflict, counted, perform_action, visit, read_list, propagate_from, first_cell, watch_all, fresh, assign_unit, assign_units, open_run, decide, backtrack}
use Rattle.run.specs.Calls.{decide_refusal, backtrack_refusal, refusal, perform_call, step}
use Rattle.layout.specs.Layout.{conflict_at, required_length, watches_at, pointers_at, checks_at, heads_at, links_at, value_number, level_number, node_of, watch_literal, first_node, behind, head_number, link_number, watch_number, encode, level_before, held_trail, held_cells, chain_from, held_lists, held}
use Rattle.validation.specs.Validation.{has_reason, is_justified, is_watching, is_guarded, watches_hold, is_fixpoint, is_conflict, is_listed, is_valid, passes}
use Rattle.script.specs.Script.{script_lines, numbered, back_of, line_of}
use Rattle.script.specs.Answers.{bytes, signed, listed, call_words, implied_line, clause_line, back_line, refused_line, end_line}
use Rattle.script.specs.Desk.{propagated_line, unless_refused, answer_to, step_of, answers_to, output_for, desk_output}

-- a book of one rule over 5 features, as text and as formula
abbrev ruled : List ℕ → List ℕ
ruled words = bytes "p cnf 5 1\n" ++ words

abbrev reads : List ℕ → Judged
reads clause = accepted (record { variables = 5; clauses = clause ∷ [] })

-- the text of a rule that has feature 1 so many times
unfoldable pub ones : ℕ → List ℕ
ones zero = bytes "0\n"
ones (suc n) = bytes "1 " ++ ones n

-- one feature, one rule that is always met, and the session that an opening of it leaves
abbrev pub always_met : Formula
always_met = record { variables = 1; clauses = [] ∷ [] }

abbrev pub idle : List ℕ
idle = replicate (required_length 1 1) 0

pub record Points : Type 0 where
  -- A repeated literal stands once, at its first place.
  pub repeated : read_text (ruled (bytes "3 3 -5 0\n")) ≡ reads (positive 3 ∷ negative 5 ∷ [])
  pub first_place : read_text (ruled (bytes "3 2 3 2 -1 0\n")) ≡ reads (positive 3 ∷ positive 2 ∷ negative 1 ∷ [])
  -- A rule with a feature both ways has no literals, also where the feature is repeated.
  pub both_ways_lem : read_text (ruled (bytes "3 -3 0\n")) ≡ reads []
  pub both_ways_repeated : read_text (ruled (bytes "3 5 3 -3 0\n")) ≡ reads []
  -- It keeps its number: rule 3 is contradicted, and rule 2 is the one that is always met.
  pub keeps_number :
      desk_output (bytes "p cnf 2 3\n1 0\n2 -2 0\n-1 -1 0\n") (bytes "b 1\n") ≡ bytes "open rule 3\nrefused 16\nend choices 0 backs 0 checks 0\n"
  -- It watches nothing, forces nothing and costs nothing: of `1 2 3` and `2 -2 1` only the first is scanned.
  pub no_watch : (open_run always_met).cells ≡ no_cell ∷ []
  pub no_list : (open_run always_met).lists ≡ [] ∷ [] ∷ [] ∷ [] ∷ []
  pub nothing_implied : (open_run always_met).trail ≡ []
  pub no_checks :
      desk_output (bytes "p cnf 3 2\n1 2 2 3 0\n2 -2 1 0\n") (bytes "-1\n-2\n")
      ≡ bytes "open forced 0:\nchoose -1 forced 0:\nchoose -2 forced 1: 3\nend choices 2 backs 0 checks 2\n"
  -- Number 6 counts literals as written.
  pub ones_255 : read_text (bytes "p cnf 1 1\n" ++ ones 255) ≡ accepted (record { variables = 1; clauses = (positive 1 ∷ []) ∷ [] })
  pub ones_256 : read_text (bytes "p cnf 1 1\n" ++ ones 256) ≡ refused 6
  -- In book numbers a length of 0 means such a rule; a feature twice in a rule is still 11, with either sign.
  pub numbers : numbers_of (record { variables = 5; clauses = [] ∷ (positive 2 ∷ []) ∷ [] ∷ [] }) ≡ 5 ∷ 3 ∷ 1 ∷ 0 ∷ 0 ∷ 1 ∷ 1 ∷ 4 ∷ []
  pub length_0 : well_formed (5 ∷ 3 ∷ 1 ∷ 0 ∷ 0 ∷ 1 ∷ 1 ∷ 4 ∷ []) ≡ true
  pub twice : well_formed (5 ∷ 1 ∷ 2 ∷ 0 ∷ 2 ∷ 4 ∷ 4 ∷ []) ≡ false
  pub two_signs : well_formed (5 ∷ 1 ∷ 2 ∷ 0 ∷ 2 ∷ 4 ∷ 5 ∷ []) ≡ false
  -- A lent session may have any count for such a rule, and fails where it names it, watches it or has it in a list.
  pub opened : encode always_met (open_run always_met) ≡ idle
  pub passing : passes always_met idle ≡ true
  pub any_count : passes always_met (set idle (checks_at 1 1) 7) ≡ true
  pub named : passes always_met (set idle conflict_at 1) ≡ false
  pub in_a_list : passes always_met (set idle (heads_at 1 1) 1) ≡ false
  pub watching : passes always_met (set idle (watches_at 1) 1) ≡ false
  pub pointing : passes always_met (set idle (pointers_at 1 1) 1) ≡ false
  pub linked : passes always_met (set idle (links_at 1 1) 2) ≡ false
  -- A rule is met by a true literal; one of no literals always.
  pub met_always : met (λ (l : ℕ). false) [] ≡ true
  pub met_by_none : met (λ (l : ℕ). false) (positive 1 ∷ []) ≡ false

pub points : Points
unfolding met firsts both_ways as_read read_formula ones script_lines numbered back_of line_of signed listed call_words implied_line clause_line back_line refused_line end_line propagated_line unless_refused answer_to step_of answers_to output_for desk_output trail_behind sum any distinct times table up_to sound_clause sound starts numbers_of clauses_from rising well_formed value_number level_number node_of watch_literal first_node behind head_number link_number watch_number encode level_before held_trail held_cells chain_from held_lists held has_reason is_justified is_watching is_guarded watches_hold is_fixpoint is_conflict is_listed is_valid passes all keep flat empty member same begins literal_within blank line_end extend split not_skipped lines_of filled words_of decimal is_digit unsigned unsigned_token negative_token token_of headed header_in header_of fault opened closed written not_number over_variables wrong_length surplus unfinished over_literals faults_at faults_from outside body_of faults_under faults_of before earlier least onto clauses_in formula_under formula_in judged read_text digits opposite place literal_at is_true decisions level lowered watched next one_more scan_from scan push_front without take_out add_checks other_watch moved scanned_action action on_trail with_watches with_conflict counted perform_action visit read_list propagate_from first_cell watch_all fresh assign_unit assign_units open_run decide backtrack decide_refusal backtrack_refusal refusal perform_call step bytes
points =
    record {
      repeated = refl;
      first_place = refl;
      both_ways_lem = refl;
      both_ways_repeated = refl;
      keeps_number = refl;
      no_watch = refl;
      no_list = refl;
      nothing_implied = refl;
      no_checks = refl;
      ones_255 = refl;
      ones_256 = refl;
      numbers = refl;
      length_0 = refl;
      twice = refl;
      two_signs = refl;
      opened = refl;
      passing = refl;
      any_count = refl;
      named = refl;
      in_a_list = refl;
      watching = refl;
      pointing = refl;
      linked = refl;
      met_always = refl;
      met_by_none = refl;
    }

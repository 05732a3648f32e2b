-- The marked points of document 01 on text and run, as one table of equations that the definitions compute.
use Rattle.std.specs.Prelude.{ℕ, zero, suc, ◌≡◌, refl, true, false, List, [], ◌∷◌, ◌++◌, map, length, take, Result, Ok, Err}
use Rattle.refusals.specs.declared.Refusal.{Refusal}
use Rattle.refusals.specs.Refusals.{number_of, refusals, first_with, refusal_of}
use Rattle.base.specs.Lists.{all, any, keep, flat, empty, member, distinct, same, begins, times, table, up_to, sum, without, firsts}
use Rattle.book.specs.Formula.{Formula, positive, negative, literal_within, sound_clause, sound}
use Rattle.book.specs.Numbers.{starts, numbers_of, clauses_from, rising, well_formed}
use Rattle.book.specs.Text.{blank, line_end, extend, split, not_skipped, lines_of, filled, words_of, decimal, is_digit, unsigned, unsigned_token, negative_token, token_of, headed, header_in, header_of}
use Rattle.book.specs.Faults.{fault, opened, closed, written, not_number, over_variables, wrong_length, surplus, unfinished, over_literals, faults_at, faults_from, outside, body_of, faults_under, faults_of}
use Rattle.book.specs.Reading.{before, earlier, least, onto, clauses_in, formula_under, formula_in, both_ways, as_read, read_formula, refused, accepted, judged, read_text}
use Rattle.book.specs.Printer.{digits, print_number}
use Rattle.run.specs.Trail.{Entry, opposite, place, literal_at, is_true, decisions, level, lowered, cut}
use Rattle.run.specs.Scan.{watched, next, one_more, scan_from, scan}
use Rattle.run.specs.Run.{Run, trail_behind, size, cell_of, list_of, push_front, take_out, add_checks, other_watch, moved, scanned_action, action, on_trail, with_watches, with_conflict, counted, perform_action, visit, read_list, propagate_from, first_cell, watch_all, fresh, assign_unit, assign_units, open_run, decide, backtrack}
use Rattle.run.specs.Calls.{Call, decision, backtrack_by, decide_refusal, backtrack_refusal, refusal, perform_call, step, step_all, reference}
use Rattle.layout.specs.Layout.{value_number, level_number, node_of, watch_literal, first_node, behind, head_number, link_number, watch_number, encode, level_before, held_trail, held_cells, chain_from, held_lists, held}
use Rattle.validation.specs.Validation.{has_reason, is_justified, is_watching, is_guarded, watches_hold, is_fixpoint, is_conflict, is_listed, is_valid, passes, call_refusal, read_refusal}
use Rattle.session.specs.Outcomes.{session_backtrack_refusal, backtrack_numbers, overwritten, figures_answer}
use Rattle.script.specs.Script.{script_lines, numbered, back_of, line_of}
use Rattle.script.specs.Answers.{bytes, signed, listed, call_words, implied_line, clause_line, back_line, refused_line, end_line}
use Rattle.script.specs.Desk.{propagated_line, unless_refused, answer_to, step_of, answers_to, output_for, desk_output}
use Rattle.run.specs.Ceiling.{checks_of, checks_since, count_at_latest, ceiling}

-- an answer that refuses by a number of the table
abbrev pub refuses : {A : Type 0} → ℕ → Result A Refusal
refuses number = Err (refusal_of number)

-- the numbers of the table
abbrev refusal_numbers : List ℕ
refusal_numbers =
    1 ∷ 2 ∷ 3 ∷ 4 ∷ 5 ∷ 6 ∷ 8 ∷ 9 ∷ 10 ∷ 11 ∷ 12 ∷ 13 ∷ 14 ∷ 15 ∷ 16 ∷ 17 ∷ 18 ∷ 19 ∷ 20 ∷ 22 ∷ 23 ∷ 24 ∷ 25 ∷ 26 ∷ []

-- n numbers from one on as text, each followed by a blank, and a 0; and as literals
unfoldable pub counting : ℕ → ℕ → List ℕ
counting from zero = bytes "0\n"
counting from (suc n) = print_number from ++ (32 ∷ counting (suc from) n)

unfoldable pub positives : ℕ → ℕ → List ℕ
positives from zero = []
positives from (suc n) = positive from ∷ positives (suc from) n

-- the text of one clause of n literals, and its formula
abbrev pub long_text : ℕ → List ℕ
long_text n = bytes "p cnf 500 1\n" ++ counting 1 n

abbrev pub long_formula : ℕ → Formula
long_formula n = record { variables = 500; clauses = positives 1 n ∷ [] }

abbrev pub no_clauses : ℕ → Formula
no_clauses variables = record { variables = variables; clauses = [] }

-- trail entries, a trail from its oldest literal on
abbrev pub decided : ℕ → Entry
decided l = record { literal = l; decided = true }

abbrev pub implied : ℕ → Entry
implied l = record { literal = l; decided = false }

unfoldable pub reversed : List Entry → List Entry → List Entry
reversed done [] = done
reversed done (e ∷ trail) = reversed (e ∷ done) trail

abbrev pub trail_oldest : Run → List Entry
trail_oldest run = reversed [] run.trail

-- the clauses `1` and `-1`
abbrev pub opposed : Formula
opposed = record { variables = 1; clauses = (positive 1 ∷ []) ∷ (negative 1 ∷ []) ∷ [] }

-- the listing: its book, its lines as calls, and the run after the first n of them
abbrev pub listing : Formula
listing =
    record {
      variables = 4;
      clauses =
          (positive 1 ∷ positive 2 ∷ positive 3 ∷ [])
          ∷ (negative 3 ∷ positive 4 ∷ [])
          ∷ (negative 4 ∷ negative 2 ∷ positive 1 ∷ [])
          ∷ [];
    }

abbrev pub calls : List Call
calls = decision (negative 1) ∷ decision (negative 2) ∷ backtrack_by 1 ∷ decision (negative 3) ∷ decision (positive 1) ∷ backtrack_by 3 ∷ []

abbrev pub run_after : ℕ → Run
run_after n = reference listing (take n calls)

-- the listing's run with two decisions in force, as one that has made n backtracks
abbrev pub worn : ℕ → Run
worn n =
    record {
      trail = (run_after 2).trail;
      cells = (run_after 2).cells;
      lists = (run_after 2).lists;
      conflict = (run_after 2).conflict;
      checks = (run_after 2).checks;
      backtracks = n;
      fixed = (run_after 2).fixed;
    }

-- the session that holds it, in just the required length
abbrev pub worn_session : List ℕ
worn_session = encode listing (worn 999999)

-- three clauses of which two come to watch one literal
abbrev pub sharing : Formula
sharing =
    record {
      variables = 5;
      clauses = (positive 1 ∷ positive 2 ∷ positive 3 ∷ []) ∷ (positive 3 ∷ positive 4 ∷ []) ∷ (positive 3 ∷ positive 5 ∷ []) ∷ [];
    }

-- three clauses that watch one literal, of which the middle one can move
abbrev pub crossed : Formula
crossed =
    record {
      variables = 5;
      clauses = (positive 1 ∷ positive 2 ∷ []) ∷ (positive 1 ∷ positive 3 ∷ positive 4 ∷ []) ∷ (positive 1 ∷ positive 5 ∷ []) ∷ [];
    }

-- one clause of four literals; a clause read behind one that implies a literal; a conflict with a clause left unread
abbrev pub circled : Formula
circled = record { variables = 4; clauses = (positive 1 ∷ positive 2 ∷ positive 3 ∷ positive 4 ∷ []) ∷ [] }

abbrev pub queued : Formula
queued = record { variables = 4; clauses = (positive 1 ∷ positive 3 ∷ positive 4 ∷ []) ∷ (positive 1 ∷ negative 4 ∷ []) ∷ [] }

abbrev pub torn : Formula
torn =
    record {
      variables = 3;
      clauses = (positive 1 ∷ positive 3 ∷ []) ∷ (positive 1 ∷ positive 2 ∷ []) ∷ (positive 1 ∷ negative 2 ∷ []) ∷ [];
    }

pub record MarkedPoints : Type 0 where
  -- The refusal of each number of the table has that number.
  pub refusals_numbered : map (λ (number : ℕ). number_of (refusal_of number)) refusal_numbers ≡ refusal_numbers
  -- 255 literals read, 256 give 6.
  pub literals_255 : read_text (long_text 255) ≡ accepted (long_formula 255)
  pub literals_256 : read_text (long_text 256) ≡ refused 6
  -- V 500 read, 501 gives 3, as does 0.
  pub variables_500 : read_text (bytes "p cnf 500 0\n") ≡ accepted (no_clauses 500)
  pub variables_501 : read_text (bytes "p cnf 501 0\n") ≡ refused 3
  pub variables_0 : read_text (bytes "p cnf 0 0\n") ≡ refused 3
  -- `1 1 0` is read as a rule of one literal (K4; document 01 gave 7).
  pub repeated_variable : read_text (bytes "p cnf 1 1\n1 1 0\n") ≡ accepted (record { variables = 1; clauses = (positive 1 ∷ []) ∷ [] })
  -- Empty text gives 2.
  pub empty_text : read_text (bytes "") ≡ refused 2
  -- C 0 opens with nothing forced.
  pub no_clauses_trail : (open_run (no_clauses 4)).trail ≡ []
  pub no_clauses_conflict : (open_run (no_clauses 4)).conflict ≡ 0
  pub no_clauses_output : desk_output (bytes "p cnf 4 0\n") [] ≡ bytes "open forced 0:\nend choices 0 backs 0 checks 0\n"
  -- Rules `1` and `-1`: `open rule 2`; a choice then gives 14, a take-back 16.
  pub opposed_text : read_text (bytes "p cnf 1 2\n1 0\n-1 0\n") ≡ accepted opposed
  pub opposed_conflict : (open_run opposed).conflict ≡ 2
  pub opposed_decision : refusal opposed (decision (positive 1)) (open_run opposed) ≡ 14
  pub opposed_backtrack : refusal opposed (backtrack_by 1) (open_run opposed) ≡ 16
  pub opposed_output :
      desk_output (bytes "p cnf 1 2\n1 0\n-1 0\n") (bytes "1\nb 1\n") ≡ bytes "open rule 2\nrefused 14\nrefused 16\nend choices 0 backs 0 checks 0\n"
  -- The listing: its book and the lines `-1`, `-2`, `b 1`, `-3`, `1`, `b 3`; the trail at the opening and after each accepted line.
  pub listing_text : read_text (bytes "p cnf 4 3\n1 2 3 0\n-3 4 0\n-4 -2 1 0\n") ≡ accepted listing
  pub listing_open : trail_oldest (run_after 0) ≡ []
  pub listing_1 : trail_oldest (run_after 1) ≡ decided (negative 1) ∷ []
  pub listing_2 : trail_oldest (run_after 2) ≡ decided (negative 1) ∷ decided (negative 2) ∷ implied (positive 3) ∷ implied (positive 4) ∷ []
  pub listing_3 : trail_oldest (run_after 3) ≡ decided (negative 1) ∷ []
  pub listing_4 : trail_oldest (run_after 4) ≡ decided (negative 1) ∷ decided (negative 3) ∷ implied (positive 2) ∷ implied (negative 4) ∷ []
  -- The whole output of the program on the listing.
  pub listing_output :
      desk_output (bytes "p cnf 4 3\n1 2 3 0\n-3 4 0\n-4 -2 1 0\n") (bytes "-1\n-2\nb 1\n-3\n1\nb 3\n")
      ≡ bytes "open forced 0:\nchoose -1 forced 0:\nchoose -2 forced 2: 3 4\nback 1\nchoose -3 forced 2: 2 -4\nrefused 15\nrefused 16\nend choices 2 backs 1 checks 4\n"
  -- `refused 15`, `refused 16`; `end choices 2 backs 1 checks 4`.
  pub listing_5 : refusal listing (decision (positive 1)) (run_after 4) ≡ 15
  pub listing_6 : refusal listing (backtrack_by 3) (run_after 5) ≡ 16
  pub end_conflict : (run_after 6).conflict ≡ 0
  pub end_decisions : length (decisions (run_after 6).trail) ≡ 2
  pub end_backtracks : (run_after 6).backtracks ≡ 1
  pub end_checks : sum (run_after 6).checks ≡ 4
  -- Rule 1 above has 2 checks before `b 1` and 1 after; its ceiling is 3 each time.
  pub clause_1_before : checks_since listing 0 (take 2 calls) ≡ 2
  pub clause_1_after : checks_since listing 0 calls ≡ 1
  pub clause_1_ceiling : ceiling (size listing 0) ≡ 3
  -- Rule 3 has 1, rule 2 none.
  pub clause_3 : checks_of (run_after 6) 2 ≡ 1
  pub clause_2 : checks_of (run_after 6) 1 ≡ 0
  -- In a passing session with two choices in force that records 999,999 take-backs, one more, of 1, is taken, the next of 1 gives 17.
  pub worn_decisions : length (decisions (worn 999999).trail) ≡ 2
  pub worn_taken : refusal listing (backtrack_by 1) (worn 999999) ≡ 0
  pub worn_refused : refusal listing (backtrack_by 1) (step listing (worn 999999) (backtrack_by 1)) ≡ 17
  pub worn_passes : passes listing worn_session ≡ true
  pub worn_figures : figures_answer (numbers_of listing) worn_session ≡ Ok (record { decisions = 2; backtracks = 999999; trail = 4; conflict = 0 })
  pub worn_session_taken : session_backtrack_refusal (numbers_of listing) worn_session 1 ≡ 0
  pub worn_session_refused : session_backtrack_refusal (numbers_of listing) (backtrack_numbers (numbers_of listing) worn_session 1) 1 ≡ 17
  -- Not marked, and pinned by no theorem: the order of a watch list. A rule goes to the front of its watches' lists at the opening; a
  -- rule whose watch moves goes to the front of the new literal's list, and the watch keeps its place in the pair.
  -- A list is read front to back, and the rules that stay keep their order.
  pub order_open : list_of (open_run sharing).lists (positive 3) ≡ 2 ∷ 1 ∷ []
  pub order_moved : list_of (reference sharing (decision (negative 1) ∷ [])).lists (positive 3) ≡ 0 ∷ 2 ∷ 1 ∷ []
  pub order_left : list_of (reference sharing (decision (negative 1) ∷ [])).lists (positive 1) ≡ []
  pub pair_moved : cell_of (reference sharing (decision (negative 1) ∷ [])) 0 ≡ record { first = 2; second = 1; pointer = 2 }
  pub order_read : trail_oldest (reference crossed (decision (negative 1) ∷ [])) ≡ decided (negative 1) ∷ implied (positive 5) ∷ implied (positive 2) ∷ []
  pub order_kept : list_of (reference crossed (decision (negative 1) ∷ [])).lists (positive 1) ≡ 2 ∷ 0 ∷ []
  -- Not marked: the faults that a desk would not notice. The scan goes on behind the pointer; the pointer stays over a take-back; a watch
  -- does not move to a literal that is false and not yet handled. A contradiction ends propagation, and a take-back then takes the
  -- literals that were not handled off the trail, too.
  pub scan_behind_pointer : checks_of (reference circled (decision (negative 1) ∷ decision (negative 3) ∷ [])) 0 ≡ 2
  pub pointer_stays : cell_of (reference circled (decision (negative 1) ∷ backtrack_by 1 ∷ [])) 0 ≡ record { first = 2; second = 1; pointer = 2 }
  pub unhandled_is_false : trail_oldest (reference queued (decision (negative 1) ∷ [])) ≡ decided (negative 1) ∷ implied (negative 4) ∷ implied (positive 3) ∷ []
  pub unhandled_checks : checks_of (reference queued (decision (negative 1) ∷ [])) 0 ≡ 1
  pub conflict_ends_trail : trail_oldest (reference torn (decision (negative 1) ∷ [])) ≡ decided (negative 1) ∷ implied (negative 2) ∷ []
  pub conflict_ends_named : (reference torn (decision (negative 1) ∷ [])).conflict ≡ 2
  pub unhandled_gone : trail_oldest (reference torn (decision (negative 1) ∷ backtrack_by 1 ∷ [])) ≡ []
  pub unhandled_open : refusal torn (decision (negative 2)) (reference torn (decision (negative 1) ∷ backtrack_by 1 ∷ [])) ≡ 0

pub marked_points : MarkedPoints
unfolding refusals first_with refusal_of script_lines numbered back_of line_of signed listed call_words implied_line clause_line back_line refused_line end_line propagated_line unless_refused answer_to step_of answers_to output_for desk_output trail_behind sum any distinct times table up_to sound_clause sound starts numbers_of clauses_from rising well_formed value_number level_number node_of watch_literal first_node behind head_number link_number watch_number encode level_before held_trail held_cells chain_from held_lists held has_reason is_justified is_watching is_guarded watches_hold is_fixpoint is_conflict is_listed is_valid passes call_refusal read_refusal session_backtrack_refusal backtrack_numbers overwritten figures_answer all keep flat empty member same begins literal_within blank line_end extend split not_skipped lines_of filled words_of decimal is_digit unsigned unsigned_token negative_token token_of headed header_in header_of fault opened closed written not_number over_variables wrong_length surplus unfinished over_literals faults_at faults_from outside body_of faults_under faults_of before earlier least onto clauses_in formula_under formula_in both_ways as_read read_formula judged read_text digits opposite place literal_at is_true decisions level lowered cut watched next one_more scan_from scan push_front without firsts take_out add_checks other_watch moved scanned_action action on_trail with_watches with_conflict counted perform_action visit read_list propagate_from first_cell watch_all fresh assign_unit assign_units open_run decide backtrack decide_refusal backtrack_refusal refusal perform_call step step_all reference count_at_latest bytes counting positives reversed
marked_points =
    record {
      refusals_numbered = refl;
      literals_255 = refl;
      literals_256 = refl;
      variables_500 = refl;
      variables_501 = refl;
      variables_0 = refl;
      repeated_variable = refl;
      empty_text = refl;
      no_clauses_trail = refl;
      no_clauses_conflict = refl;
      no_clauses_output = refl;
      opposed_text = refl;
      opposed_conflict = refl;
      opposed_decision = refl;
      opposed_backtrack = refl;
      opposed_output = refl;
      listing_text = refl;
      listing_open = refl;
      listing_1 = refl;
      listing_2 = refl;
      listing_3 = refl;
      listing_4 = refl;
      listing_output = refl;
      listing_5 = refl;
      listing_6 = refl;
      end_conflict = refl;
      end_decisions = refl;
      end_backtracks = refl;
      end_checks = refl;
      clause_1_before = refl;
      clause_1_after = refl;
      clause_1_ceiling = refl;
      clause_3 = refl;
      clause_2 = refl;
      worn_decisions = refl;
      worn_taken = refl;
      worn_refused = refl;
      worn_passes = refl;
      worn_figures = refl;
      worn_session_taken = refl;
      worn_session_refused = refl;
      order_open = refl;
      order_moved = refl;
      order_left = refl;
      pair_moved = refl;
      order_read = refl;
      order_kept = refl;
      scan_behind_pointer = refl;
      pointer_stays = refl;
      unhandled_is_false = refl;
      unhandled_checks = refl;
      conflict_ends_trail = refl;
      conflict_ends_named = refl;
      unhandled_gone = refl;
      unhandled_open = refl;
    }

-- Points of request K7, evaluated: fixings and their refusals, take-backs that reach a fixed choice, lent sessions with an f.
use Rattle.std.specs.Prelude.{ℕ, ◌≡◌, refl, true, false, List, [], ◌∷◌, set, Ok}
use Rattle.base.specs.Lists.{all, any, keep, flat, member, distinct, same, times, table, up_to, without}
use Rattle.book.specs.Formula.{positive, negative, literal_within, sound_clause, sound}
use Rattle.book.specs.Numbers.{starts, numbers_of, clauses_from, rising, well_formed}
use Rattle.run.specs.Trail.{opposite, place, literal_at, is_true, decisions, level, lowered, cut}
use Rattle.run.specs.Scan.{watched, next, one_more, scan_from, scan}
use Rattle.run.specs.Run.{Run, push_front, take_out, add_checks, other_watch, moved, scanned_action, action, on_trail, with_watches, with_conflict, counted, perform_action, visit, read_list, propagate_from, first_cell, watch_all, fresh, assign_unit, assign_units, open_run, decide, backtrack, fix}
use Rattle.run.specs.Calls.{Call, decision, backtrack_by, fix_by, decide_refusal, backtrack_refusal, fix_refusal, refusal, perform_call, step, step_all, reference, oldest_decisions}
use Rattle.run.specs.Ceiling.{count_at_latest, checks_since}
use Rattle.layout.specs.Layout.{fixed_at, max_session, value_number, level_number, node_of, watch_literal, first_node, behind, head_number, link_number, watch_number, encode, level_before, held_trail, held_cells, chain_from, held_lists, held}
use Rattle.validation.specs.Validation.{has_reason, is_justified, is_watching, is_guarded, watches_hold, is_fixpoint, is_conflict, is_listed, is_valid, passes, call_refusal, read_refusal}
use Rattle.session.specs.Outcomes.{open_refusal, open_numbers, overwritten, session_decide_refusal, session_backtrack_refusal, session_fix_refusal, fix_answer, fix_numbers, fixed_answer, calls_of}
use Rattle.points.specs.Points.{listing, opposed, torn, worn, refuses}

-- the listing's book with the choices -1 and -2 in force, and then other calls
abbrev after : List Call → Run
after calls = reference listing (decision (negative 1) ∷ decision (negative 2) ∷ calls)

-- the session that holds these two choices, with f of them fixed
abbrev fixed_session : ℕ → List ℕ
fixed_session f = set (encode listing (after [])) fixed_at f

-- a session in contradiction under its one choice, with f of it fixed
abbrev conflict_session : ℕ → List ℕ
conflict_session f = set (encode torn (reference torn (decision (negative 1) ∷ []))) fixed_at f

pub record Points : Type 0 where
  -- f is 0 at opening, whatever was lent.
  pub opened : (open_run listing).fixed ≡ 0
  pub opened_again : open_numbers (numbers_of listing) (fixed_session 2) ≡ encode listing (open_run listing)
  -- A fixing of the first f choices in force: any f from the present one to the choices in force, else 22.
  pub none : refusal listing (fix_by 0) (after []) ≡ 0
  pub all_in_force : refusal listing (fix_by 2) (after []) ≡ 0
  pub over : refusal listing (fix_by 3) (after []) ≡ 22
  pub set_to : (after (fix_by 1 ∷ [])).fixed ≡ 1
  pub below : refusal listing (fix_by 0) (after (fix_by 1 ∷ [])) ≡ 22
  pub again : refusal listing (fix_by 1) (after (fix_by 1 ∷ [])) ≡ 0
  pub above : refusal listing (fix_by 2) (after (fix_by 1 ∷ [])) ≡ 0
  pub undecided : refusal listing (fix_by 1) (open_run listing) ≡ 22
  -- In contradiction it is 14, also where it would be 22; with no choice in force too.
  pub in_conflict : refusal torn (fix_by 0) (reference torn (decision (negative 1) ∷ [])) ≡ 14
  pub before_22 : refusal torn (fix_by 9) (reference torn (decision (negative 1) ∷ [])) ≡ 14
  pub at_opening : refusal opposed (fix_by 0) (open_run opposed) ≡ 14
  -- A take-back that would reach a fixed choice is 16, before 17; one that would not is taken, and f stays.
  pub reaching : refusal listing (backtrack_by 2) (after (fix_by 1 ∷ [])) ≡ 16
  pub not_reaching : refusal listing (backtrack_by 1) (after (fix_by 1 ∷ [])) ≡ 0
  pub of_none : refusal listing (backtrack_by 0) (after (fix_by 1 ∷ [])) ≡ 16
  pub all_fixed : refusal listing (backtrack_by 1) (after (fix_by 2 ∷ [])) ≡ 16
  pub before_17 : refusal listing (backtrack_by 2) (fix 1 (worn 1000000)) ≡ 16
  pub at_17 : refusal listing (backtrack_by 1) (fix 1 (worn 1000000)) ≡ 17
  pub kept : (after (fix_by 1 ∷ backtrack_by 1 ∷ [])).fixed ≡ 1
  pub left : decisions (after (fix_by 1 ∷ backtrack_by 1 ∷ [])).trail ≡ negative 1 ∷ []
  pub left_over : refusal listing (fix_by 2) (after (fix_by 1 ∷ backtrack_by 1 ∷ [])) ≡ 22
  -- The oldest choices are meant, whatever stands above them.
  pub oldest : oldest_decisions 1 (after (fix_by 1 ∷ [])) ≡ negative 1 ∷ []
  pub oldest_later : oldest_decisions 1 (after (fix_by 1 ∷ backtrack_by 1 ∷ decision (negative 3) ∷ backtrack_by 2 ∷ [])) ≡ negative 1 ∷ []
  -- An accepted fixing sets only f. It ends no period: rule 1 has its 2 checks since the opening.
  pub only_f : encode listing (after (fix_by 1 ∷ [])) ≡ fixed_session 1
  pub period : checks_since listing 0 (decision (negative 1) ∷ fix_by 1 ∷ decision (negative 2) ∷ []) ≡ 2
  -- A contradiction that a list of calls leads to: its choice is not fixed, and can be taken back.
  pub way_back : refusal torn (backtrack_by 1) (reference torn (fix_by 0 ∷ decision (negative 1) ∷ [])) ≡ 0
  -- The calls of the session.
  pub accepted : fix_answer (numbers_of listing) (fixed_session 0) 1 ≡ Ok tt
  pub numbers : fix_numbers (numbers_of listing) (fixed_session 0) 1 ≡ fixed_session 1
  pub refused : fix_answer (numbers_of listing) (fixed_session 2) 1 ≡ refuses 22
  pub unchanged : fix_numbers (numbers_of listing) (fixed_session 2) 1 ≡ fixed_session 2
  pub said : fixed_answer (numbers_of listing) (fixed_session 2) ≡ Ok 2
  -- The examination wants f at most the choices in force.
  pub at_most : passes listing (fixed_session 2) ≡ true
  pub too_many : passes listing (fixed_session 3) ≡ false
  pub too_many_said : fixed_answer (numbers_of listing) (fixed_session 3) ≡ refuses 12
  -- A session in contradiction with its one choice fixed, which can only be lent so, passes and is stuck.
  pub stuck_passes : passes torn (conflict_session 1) ≡ true
  pub stuck_decision : session_decide_refusal (numbers_of torn) (conflict_session 1) (positive 3) ≡ 14
  pub stuck_backtrack : session_backtrack_refusal (numbers_of torn) (conflict_session 1) 1 ≡ 16
  pub stuck_fixing : session_fix_refusal (numbers_of torn) (conflict_session 1) 1 ≡ 14
  pub free_backtrack : session_backtrack_refusal (numbers_of torn) (conflict_session 0) 1 ≡ 0
  -- A list as numbers: 0 chooses, 2 fixes, every other kind takes back.
  pub kinds : calls_of (0 ∷ 3 ∷ 2 ∷ 1 ∷ 1 ∷ 4 ∷ 4294967295 ∷ 5 ∷ []) ≡ decision 3 ∷ fix_by 1 ∷ backtrack_by 4 ∷ backtrack_by 5 ∷ []
  -- The most numbers that a session needs.
  pub most : max_session ≡ 11505

pub points : Points
unfolding open_refusal open_numbers overwritten session_decide_refusal session_backtrack_refusal session_fix_refusal fix_answer fix_numbers fixed_answer calls_of count_at_latest any distinct times table up_to sound_clause sound starts numbers_of clauses_from rising well_formed value_number level_number node_of watch_literal first_node behind head_number link_number watch_number encode level_before held_trail held_cells chain_from held_lists held has_reason is_justified is_watching is_guarded watches_hold is_fixpoint is_conflict is_listed is_valid passes call_refusal read_refusal all flat member same literal_within opposite place literal_at is_true decisions level lowered cut watched next one_more scan_from scan push_front without take_out add_checks other_watch moved scanned_action action on_trail with_watches with_conflict counted perform_action visit read_list propagate_from first_cell watch_all fresh assign_unit assign_units open_run decide backtrack fix decide_refusal backtrack_refusal fix_refusal refusal perform_call step step_all reference keep
points =
    record {
      opened = refl;
      opened_again = refl;
      none = refl;
      all_in_force = refl;
      over = refl;
      set_to = refl;
      below = refl;
      again = refl;
      above = refl;
      undecided = refl;
      in_conflict = refl;
      before_22 = refl;
      at_opening = refl;
      reaching = refl;
      not_reaching = refl;
      of_none = refl;
      all_fixed = refl;
      before_17 = refl;
      at_17 = refl;
      kept = refl;
      left = refl;
      left_over = refl;
      oldest = refl;
      oldest_later = refl;
      only_f = refl;
      period = refl;
      way_back = refl;
      accepted = refl;
      numbers = refl;
      refused = refl;
      unchanged = refl;
      said = refl;
      at_most = refl;
      too_many = refl;
      too_many_said = refl;
      stuck_passes = refl;
      stuck_decision = refl;
      stuck_backtrack = refl;
      stuck_fixing = refl;
      free_backtrack = refl;
      kinds = refl;
      most = refl;
    }

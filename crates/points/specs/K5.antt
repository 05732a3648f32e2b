-- Points of request K5, evaluated: the level that a lookup carries, of what an opening forces, of choices and of what they force, after take-backs and
-- fixings, and in contradiction.
use Rattle.std.specs.Prelude.{ℕ, ◌≡◌, refl, List, [], ◌∷◌, set, Result, Ok}
use Rattle.refusals.specs.declared.Refusal.{Refusal}
use Rattle.base.specs.Lists.{all, any, keep, flat, member, distinct, same, times, table, up_to, without}
use Rattle.book.specs.Formula.{Formula, positive, negative, literal_within, sound_clause, sound}
use Rattle.book.specs.Numbers.{starts, numbers_of, clauses_from, rising, well_formed}
use Rattle.run.specs.Trail.{opposite, place, literal_at, is_true, decisions, level, lowered, cut}
use Rattle.run.specs.Scan.{watched, next, one_more, scan_from, scan}
use Rattle.run.specs.Run.{push_front, take_out, add_checks, other_watch, moved, scanned_action, action, on_trail, with_watches, with_conflict, counted, perform_action, visit, read_list, propagate_from, first_cell, watch_all, fresh, assign_unit, assign_units, open_run, decide, backtrack, fix}
use Rattle.run.specs.Calls.{Call, decision, backtrack_by, fix_by, decide_refusal, backtrack_refusal, fix_refusal, refusal, perform_call, step, step_all, reference}
use Rattle.layout.specs.Layout.{length_at, value_number, level_number, node_of, watch_literal, first_node, behind, head_number, link_number, watch_number, encode, level_before, held_trail, held_cells, chain_from, held_lists, held}
use Rattle.validation.specs.Validation.{has_reason, is_justified, is_watching, is_guarded, watches_hold, is_fixpoint, is_conflict, is_listed, is_valid, passes, call_refusal, read_refusal}
use Rattle.session.specs.Outcomes.{lookup_refusal, lookup_answer}
use Rattle.session.specs.declared.Assigned.{Assigned}
use Rattle.session.specs.declared.Assigned.TheVariants.{Open, Positive, Negative}
use Rattle.points.specs.Points.{listing, opposed, torn, refuses}

-- what a lookup answers in the session that holds the run of some calls on a book
abbrev pub shown : Formula → List Call → ℕ → Result Assigned Refusal
shown formula calls v = lookup_answer (numbers_of formula) (encode formula (reference formula calls)) v

-- the listing's book, and its first two choices before other calls
abbrev after : List Call → ℕ → Result Assigned Refusal
after calls = shown listing (decision (negative 1) ∷ decision (negative 2) ∷ calls)

-- the rules `1`, `-1 -2` and `3 4`
abbrev forcing : Formula
forcing = record { variables = 4; clauses = (positive 1 ∷ []) ∷ (negative 1 ∷ negative 2 ∷ []) ∷ (positive 3 ∷ positive 4 ∷ []) ∷ [] }

pub record Points : Type 0 where
  -- What the opening forces is at level 0, wanted or barred, and stays so.
  pub opened_positive : shown forcing [] 1 ≡ Ok (Positive 0)
  pub opened_negative : shown forcing [] 2 ≡ Ok (Negative 0)
  pub opened_stays : shown forcing (decision (negative 3) ∷ []) 2 ≡ Ok (Negative 0)
  pub first_implied : shown forcing (decision (negative 3) ∷ []) 4 ≡ Ok (Positive 1)
  pub none_yet : shown forcing [] 3 ≡ Ok Open
  -- A choice has its own level, and what it forces has the same.
  pub decision_1 : after [] 1 ≡ Ok (Negative 1)
  pub decision_2 : after [] 2 ≡ Ok (Negative 2)
  pub implied_3 : after [] 3 ≡ Ok (Positive 2)
  pub implied_4 : after [] 4 ≡ Ok (Positive 2)
  -- A take-back leaves the levels below; what it took is open, and may be settled the other way at another level.
  pub left : after (backtrack_by 1 ∷ []) 1 ≡ Ok (Negative 1)
  pub taken : after (backtrack_by 1 ∷ []) 2 ≡ Ok Open
  pub taken_with : after (backtrack_by 1 ∷ []) 3 ≡ Ok Open
  pub anew : after (backtrack_by 1 ∷ decision (negative 3) ∷ []) 2 ≡ Ok (Positive 2)
  pub anew_earlier : after (backtrack_by 2 ∷ decision (positive 4) ∷ []) 4 ≡ Ok (Positive 1)
  -- A fixing and a refused call change no level.
  pub fixed_decision : after (fix_by 1 ∷ []) 1 ≡ Ok (Negative 1)
  pub above_fixed : after (fix_by 1 ∷ []) 3 ≡ Ok (Positive 2)
  pub refused_call : after (decision (positive 3) ∷ backtrack_by 9 ∷ fix_by 9 ∷ []) 4 ≡ Ok (Positive 2)
  -- In contradiction too: at the opening, and at a choice.
  pub opposed_opening : shown opposed [] 1 ≡ Ok (Positive 0)
  pub torn_decision : shown torn (decision (negative 1) ∷ []) 1 ≡ Ok (Negative 1)
  pub torn_implied : shown torn (decision (negative 1) ∷ []) 2 ≡ Ok (Negative 1)
  pub torn_open : shown torn (decision (negative 1) ∷ []) 3 ≡ Ok Open
  pub torn_older : shown torn (decision (positive 3) ∷ decision (negative 1) ∷ []) 3 ≡ Ok (Positive 1)
  pub torn_latest : shown torn (decision (positive 3) ∷ decision (negative 1) ∷ []) 2 ≡ Ok (Negative 2)
  -- Refused, it has none.
  pub no_variable : after [] 0 ≡ refuses 13
  pub over : after [] 5 ≡ refuses 13
  pub damaged : lookup_answer (numbers_of listing) (set (encode listing (reference listing [])) length_at 1) 1 ≡ refuses 12

pub points : Points
unfolding lookup_refusal lookup_answer any distinct times table up_to sound_clause sound starts numbers_of clauses_from rising well_formed value_number level_number node_of watch_literal first_node behind head_number link_number watch_number encode level_before held_trail held_cells chain_from held_lists held has_reason is_justified is_watching is_guarded watches_hold is_fixpoint is_conflict is_listed is_valid passes call_refusal read_refusal all flat member same literal_within opposite place literal_at is_true decisions level lowered cut watched next one_more scan_from scan push_front without take_out add_checks other_watch moved scanned_action action on_trail with_watches with_conflict counted perform_action visit read_list propagate_from first_cell watch_all fresh assign_unit assign_units open_run decide backtrack fix decide_refusal backtrack_refusal fix_refusal refusal perform_call step step_all reference keep
points =
    record {
      opened_positive = refl;
      opened_negative = refl;
      opened_stays = refl;
      first_implied = refl;
      none_yet = refl;
      decision_1 = refl;
      decision_2 = refl;
      implied_3 = refl;
      implied_4 = refl;
      left = refl;
      taken = refl;
      taken_with = refl;
      anew = refl;
      anew_earlier = refl;
      fixed_decision = refl;
      above_fixed = refl;
      refused_call = refl;
      opposed_opening = refl;
      torn_decision = refl;
      torn_implied = refl;
      torn_open = refl;
      torn_older = refl;
      torn_latest = refl;
      no_variable = refl;
      over = refl;
      damaged = refl;
    }

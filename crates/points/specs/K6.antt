-- Points of request K6, evaluated: the totals of chapters, what is answered by true, by false and by a refusal, and the lent totals afterwards.
use Rattle.std.specs.Prelude.{ℕ, suc, ◌≡◌, refl, Bool, true, false, List, [], ◌∷◌, ◌++◌, set, take, replicate, Result, Ok}
use Rattle.refusals.specs.declared.Refusal.{Refusal}
use Rattle.base.specs.Lists.{all, any, keep, flat, member, distinct, same, times, table, up_to, sum, without}
use Rattle.book.specs.Formula.{literal_within, sound_clause, sound}
use Rattle.book.specs.Numbers.{starts, numbers_of, clauses_from, rising, well_formed}
use Rattle.run.specs.Trail.{opposite, place, literal_at, is_true, decisions, level, lowered, cut}
use Rattle.run.specs.Scan.{watched, next, one_more, scan_from, scan}
use Rattle.run.specs.Run.{push_front, take_out, add_checks, other_watch, moved, scanned_action, action, on_trail, with_watches, counted, perform_action, visit, read_list, propagate_from, first_cell, watch_all, fresh, assign_unit, assign_units, open_run, decide, backtrack}
use Rattle.run.specs.Calls.{decide_refusal, backtrack_refusal, refusal, perform_call, step, step_all, reference}
use Rattle.layout.specs.Layout.{length_at, checks_at, value_number, level_number, node_of, watch_literal, first_node, behind, head_number, link_number, watch_number, encode, level_before, held_trail, held_cells, chain_from, held_lists, held}
use Rattle.validation.specs.Validation.{has_reason, is_justified, is_watching, is_guarded, watches_hold, is_fixpoint, is_conflict, is_listed, is_valid, passes, call_refusal, read_refusal}
use Rattle.chapters.specs.Chapters.{chapter_total, chapter_totals, chapters_fit, chapter_answer, chapter_numbers}
use Rattle.points.specs.Points.{listing, calls, no_clauses, refuses}
use Rattle.points.specs.K4.{always_met, idle}

-- the listing's book and the session that its calls leave, with counts 3, 0 and 1
abbrev book : List ℕ
book = numbers_of listing

abbrev session : List ℕ
session = encode listing (reference listing calls)

-- so many lent totals, none of them 0
abbrev buffer : ℕ → List ℕ
buffer n = replicate n 7

-- what is answered and left for chapters and so many lent totals
abbrev answer : List ℕ → ℕ → Result Bool Refusal
answer chapters room = chapter_answer book session chapters room

abbrev left : List ℕ → ℕ → List ℕ
left chapters room = chapter_numbers book session chapters (buffer room)

-- the session with the largest count for each rule
abbrev full : List ℕ
full = set (set (set session (checks_at 4 3) 4294967295) (suc (checks_at 4 3)) 4294967295) (suc (suc (checks_at 4 3))) 4294967295

pub record Points : Type 0 where
  -- The listing's counts by chapter; together they are its 4 checks.
  pub counts : (reference listing calls).checks ≡ 3 ∷ 0 ∷ 1 ∷ []
  pub filed : answer (0 ∷ 31 ∷ 0 ∷ []) 32 ≡ Ok true
  pub first_and_last : left (0 ∷ 31 ∷ 0 ∷ []) 32 ≡ 4 ∷ replicate 31 0
  pub apart : left (31 ∷ 0 ∷ 1 ∷ []) 32 ≡ 0 ∷ 1 ∷ replicate 29 0 ++ (3 ∷ [])
  pub together : sum (take 32 (left (31 ∷ 0 ∷ 1 ∷ []) 32)) ≡ 4
  -- What is lent behind the 32 stays.
  pub behind_stays : left (0 ∷ 31 ∷ 0 ∷ []) 34 ≡ 4 ∷ replicate 31 0 ++ (7 ∷ 7 ∷ [])
  -- A chapter over 31, fewer chapters than rules, fewer than 32 totals: false, and nothing is written.
  pub over : answer (0 ∷ 31 ∷ 32 ∷ []) 32 ≡ Ok false
  pub over_first : answer (32 ∷ 31 ∷ 0 ∷ []) 32 ≡ Ok false
  pub over_left : left (0 ∷ 31 ∷ 32 ∷ []) 32 ≡ buffer 32
  pub fewer_chapters : answer (0 ∷ 31 ∷ []) 32 ≡ Ok false
  pub fewer_chapters_left : left (0 ∷ 31 ∷ []) 32 ≡ buffer 32
  pub fewer_totals : answer (0 ∷ 31 ∷ 0 ∷ []) 31 ≡ Ok false
  pub fewer_totals_left : left (0 ∷ 31 ∷ 0 ∷ []) 31 ≡ buffer 31
  -- What lies behind the chapters of the rules is not looked at.
  pub not_looked_at : left (0 ∷ 31 ∷ 0 ∷ 32 ∷ []) 32 ≡ 4 ∷ replicate 31 0
  -- 11 and 12 come before false.
  pub book_at_fault : chapter_answer (set book 0 0) session [] 0 ≡ refuses 11
  pub session_at_fault : chapter_answer book (set session length_at 9) [] 0 ≡ refuses 12
  pub refused_left : chapter_numbers book (set session length_at 9) (0 ∷ 31 ∷ 0 ∷ []) (buffer 32) ≡ buffer 32
  -- Three full counts in one chapter.
  pub full_counts : chapter_numbers book full (5 ∷ 5 ∷ 5 ∷ []) (buffer 32) ≡ replicate 5 0 ++ (12884901885 ∷ replicate 26 0)
  -- A rule that is always met has a chapter like any other.
  pub always_met_lem : chapter_numbers (numbers_of always_met) (set idle (checks_at 1 1) 9) (31 ∷ []) (buffer 32) ≡ replicate 31 0 ++ (9 ∷ [])
  pub always_met_over : chapter_answer (numbers_of always_met) idle (32 ∷ []) 32 ≡ Ok false
  -- A book without rules needs no chapters.
  pub no_clauses_lem : chapter_numbers (numbers_of (no_clauses 4)) (encode (no_clauses 4) (open_run (no_clauses 4))) [] (buffer 32) ≡ replicate 32 0

pub points : Points
unfolding chapter_total chapter_totals chapters_fit chapter_answer chapter_numbers any distinct times table up_to sound_clause sound starts numbers_of clauses_from rising well_formed value_number level_number node_of watch_literal first_node behind head_number link_number watch_number encode level_before held_trail held_cells chain_from held_lists held has_reason is_justified is_watching is_guarded watches_hold is_fixpoint is_conflict is_listed is_valid passes call_refusal read_refusal all flat member same literal_within opposite place literal_at is_true decisions level lowered cut watched next one_more scan_from scan push_front without take_out add_checks other_watch moved scanned_action action on_trail with_watches counted perform_action visit read_list propagate_from first_cell watch_all fresh assign_unit assign_units open_run decide backtrack decide_refusal backtrack_refusal refusal perform_call step step_all reference keep sum
points =
    record {
      counts = refl;
      filed = refl;
      first_and_last = refl;
      apart = refl;
      together = refl;
      behind_stays = refl;
      over = refl;
      over_first = refl;
      over_left = refl;
      fewer_chapters = refl;
      fewer_chapters_left = refl;
      fewer_totals = refl;
      fewer_totals_left = refl;
      not_looked_at = refl;
      book_at_fault = refl;
      session_at_fault = refl;
      refused_left = refl;
      full_counts = refl;
      always_met_lem = refl;
      always_met_over = refl;
      no_clauses_lem = refl;
    }

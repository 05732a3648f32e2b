-- Points of request K11, evaluated: W, the lines of the form `b k` of a script, and what is quoted, beside what the script costs.
use Rattle.std.specs.Prelude.{ℕ, ◌+◌, ◌≡◌, refl, true, List, [], ◌∷◌, ◌++◌, set, take, replicate, Result, Ok}
use Rattle.refusals.specs.declared.Refusal.{Refusal}
use Rattle.base.specs.Lists.{all, keep, flat, member, distinct, table, sum, without}
use Rattle.book.specs.Formula.{Formula, positive, literal_within, sound_clause, sound}
use Rattle.book.specs.Text.{line_end, decimal, is_digit, unsigned}
use Rattle.book.specs.Reading.{onto}
use Rattle.book.specs.Numbers.{starts, numbers_of, clauses_from, rising, well_formed}
use Rattle.run.specs.Trail.{opposite, place, literal_at, is_true, decisions, lowered, cut}
use Rattle.run.specs.Scan.{watched, next, one_more, scan_from, scan}
use Rattle.run.specs.Run.{push_front, take_out, add_checks, other_watch, moved, scanned_action, action, on_trail, with_watches, counted, perform_action, visit, read_list, propagate_from, first_cell, watch_all, fresh, assign_unit, assign_units, open_run, decide, backtrack}
use Rattle.run.specs.Calls.{decision, backtrack_by, fix_by, decide_refusal, backtrack_refusal, refusal, perform_call, step, step_all, reference}
use Rattle.run.specs.Ceiling.{clause_worst, worst, backtracks_asked}
use Rattle.session.specs.Outcomes.{open_refusal}
use Rattle.script.specs.Script.{script_lines, numbered, back_of, line_of}
use Rattle.script.specs.Answers.{bytes}
use Rattle.quote.specs.Quote.{line_calls, script_calls, is_back, back_lines, quote_answer}
use Rattle.quote.specs.declared.Quote.{Quote}
use Rattle.points.specs.Points.{listing, no_clauses, refuses}

-- the listing's book and script
abbrev book : List ℕ
book = numbers_of listing

abbrev script : List ℕ
script = bytes "-1\n-2\nb 1\n-3\n1\nb 3\n"

-- the answer that quotes these four numbers
abbrev quoted_as : ℕ → ℕ → ℕ → ℕ → Result Quote Refusal
quoted_as length worst back_lines ceiling = Ok (record { length = length; worst = worst; back_lines = back_lines; ceiling = ceiling })

-- W of one clause of n literals
abbrev worst_of : ℕ → ℕ
worst_of n = clause_worst (replicate n 2)

-- clauses of 3, 0, 1 and 2 literals
abbrev mixed : Formula
mixed = record { variables = 3; clauses = (2 ∷ 4 ∷ 6 ∷ []) ∷ [] ∷ (4 ∷ []) ∷ (3 ∷ 7 ∷ []) ∷ [] }

-- the positive literal of variable i + 1
abbrev positive_of : ℕ → ℕ
positive_of i = positive (i + 1)

-- 6,000 literals in 24 clauses, the fewest that hold so many
abbrev full : Formula
full = record { variables = 255; clauses = replicate 23 (table 255 positive_of) ++ (table 135 positive_of ∷ []) }

pub record Points : Type 0 where
  -- The listing: 3 + 1 + 3 checks at most between two take-backs, two lines `b k`, though `b 3` is refused; the script then costs 4.
  pub quoted : quote_answer book script ≡ quoted_as 43 7 2 21
  pub cost : sum (reference listing (script_calls script)).checks ≡ 4
  pub calls : script_calls script ≡ decision 3 ∷ decision 5 ∷ backtrack_by 1 ∷ decision 7 ∷ decision 2 ∷ backtrack_by 3 ∷ []
  pub accepted_backtracks : (reference listing (script_calls script)).backtracks ≡ 1
  -- Without such lines W is quoted once, for the opening and the choices.
  pub no_script : quote_answer book [] ≡ quoted_as 43 7 0 7
  pub decisions_only : quote_answer book (bytes "-1\n-2\n") ≡ quoted_as 43 7 0 7
  -- The opening gives 10 exactly if lent fewer numbers.
  pub one_fewer : open_refusal book 42 ≡ 10
  pub as_quoted : open_refusal book 43 ≡ 0
  -- W of one clause, of clauses of 3, 0, 1 and 2 literals, and the greatest W, of a formula within the limits.
  pub no_literals : worst_of 0 ≡ 0
  pub one_literal : worst_of 1 ≡ 0
  pub two_literals : worst_of 2 ≡ 1
  pub three_literals : worst_of 3 ≡ 3
  pub longest : worst_of 255 ≡ 507
  pub together : worst mixed ≡ 4
  pub greatest : worst full ≡ 11928
  pub greatest_sound : sound full ≡ true
  -- What is quoted where a clause has no literals, and where there is no clause.
  pub mixed_quoted : quote_answer (numbers_of mixed) (bytes "b 1\n") ≡ quoted_as 44 4 1 8
  pub no_clauses_lem : quote_answer (numbers_of (no_clauses 4)) (bytes "b 1\n") ≡ quoted_as 25 0 1 0
  -- Lines that count, and lines that do not.
  pub counts_zero : back_lines (bytes "b 0\n") ≡ 1
  pub counts_zeros_before : back_lines (bytes "b 01\n") ≡ 1
  pub counts_nine_digits : back_lines (bytes "b 123456789\n") ≡ 1
  pub counts_without_end : back_lines (bytes "1\nb 2") ≡ 1
  pub not_ten_digits : back_lines (bytes "b 1234567890\n") ≡ 0
  pub not_two_blanks : back_lines (bytes "b  1\n") ≡ 0
  pub not_with_byte_13 : back_lines (98 ∷ 32 ∷ 49 ∷ 13 ∷ 10 ∷ []) ≡ 0
  pub not_a_blank_behind : back_lines (bytes "b 1 \n") ≡ 0
  pub not_alone : back_lines (bytes "b\nb \n") ≡ 0
  pub not_a_sign : back_lines (bytes "b -1\nb +1\n") ≡ 0
  pub not_a_decision : back_lines (bytes "1\n-1\n0\n\n") ≡ 0
  -- A front part that ends inside a line may have a line more: at a byte 10 it has not.
  pub part_inside : back_lines (take 3 (bytes "b 1x\n")) ≡ 1
  pub whole : back_lines (bytes "b 1x\n") ≡ 0
  -- Only a take-back counts, accepted or not; a fixing does not.
  pub asked : backtracks_asked (decision 2 ∷ backtrack_by 1 ∷ fix_by 0 ∷ backtrack_by 0 ∷ []) ≡ 2
  -- Book numbers at fault; what lies behind them is not looked at.
  pub book_at_fault : quote_answer (set book 0 0) script ≡ refuses 11
  pub no_book : quote_answer [] [] ≡ refuses 11
  pub behind : quote_answer (book ++ (9 ∷ 9 ∷ [])) script ≡ quoted_as 43 7 2 21

pub points : Points
unfolding clause_worst worst backtracks_asked open_refusal bytes script_lines numbered back_of line_of line_calls script_calls is_back back_lines quote_answer line_end decimal is_digit unsigned onto all keep flat member distinct table sum without sound_clause sound literal_within starts numbers_of clauses_from rising well_formed opposite place literal_at is_true decisions lowered cut watched next one_more scan_from scan push_front take_out add_checks other_watch moved scanned_action action on_trail with_watches counted perform_action visit read_list propagate_from first_cell watch_all fresh assign_unit assign_units open_run decide backtrack decide_refusal backtrack_refusal refusal perform_call step step_all reference
points =
    record {
      quoted = refl;
      cost = refl;
      calls = refl;
      accepted_backtracks = refl;
      no_script = refl;
      decisions_only = refl;
      one_fewer = refl;
      as_quoted = refl;
      no_literals = refl;
      one_literal = refl;
      two_literals = refl;
      three_literals = refl;
      longest = refl;
      together = refl;
      greatest = refl;
      greatest_sound = refl;
      mixed_quoted = refl;
      no_clauses_lem = refl;
      counts_zero = refl;
      counts_zeros_before = refl;
      counts_nine_digits = refl;
      counts_without_end = refl;
      not_ten_digits = refl;
      not_two_blanks = refl;
      not_with_byte_13 = refl;
      not_a_blank_behind = refl;
      not_alone = refl;
      not_a_sign = refl;
      not_a_decision = refl;
      part_inside = refl;
      whole = refl;
      asked = refl;
      book_at_fault = refl;
      no_book = refl;
      behind = refl;
    }

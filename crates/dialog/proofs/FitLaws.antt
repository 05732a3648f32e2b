-- Every answer fits the buffer of the program: no line has more than 2,558 bytes, whatever the session holds.
use Rattle.std.specs.Prelude.{Option, Some, None, Result, Ok, Err, ⊤}
use Rattle.refusals.specs.declared.Refusal.{Refusal}
use Rattle.refusals.specs.Refusals.{number_of}
use Prim.Native.Nat.{ℕ, suc, ◌+◌, ◌-◌, ◌≤◌, ◌<◌}
use mathlib.Core.Path.{◌≡◌, refl, sym, ◌∙◌}
use mathlib.Core.Bool.{Bool, true, false, cond}
use mathlib.Core.List.{List, []}
use mathlib.Core.Logic.{⊎_elim}
use native.Mathlib.Omega.{arith}
use borrow.Author.Tests.{lt-ltb}
use lib.Dec.{ltb}
use lib.ListN.{length, take, length-append, length-drop}
use lib.Seq.{get_or-drop}
use Rattle.base.specs.Lists.{all, table}
use Rattle.base.proofs.Bools.{below}
use Rattle.base.proofs.ForAll.{all_places}
use Rattle.base.proofs.Tables.{length-table, get_or-table}
use Rattle.book.specs.Numbers.{formula_of}
use Rattle.book.proofs.SoundLaws.{literal_parts}
use Rattle.book.proofs.WellFormedLaws.{well_formed_limited}
use Rattle.run.specs.Trail.{literal_at}
use Rattle.run.specs.Run.{Run, trail_behind}
use Rattle.run.proofs.Trails.{place_true}
use Rattle.layout.specs.Layout.{held}
use Rattle.layout.proofs.TrailLaws.{literal_on}
use Rattle.session.specs.Outcomes.{open_answer, open_numbers, decide_answer, decide_numbers, backtrack_answer, total_answer, figures_answer}
use Rattle.session.specs.declared.Propagated.{Propagated}
use Rattle.session.specs.declared.Propagated.TheVariants as propagated
use Rattle.session.specs.declared.Shown.{Shown}
use Rattle.script.specs.declared.Line.{Line}
use Rattle.script.specs.declared.Line.TheVariants as asks
use Rattle.script.specs.declared.Cause.{Cause}
use Rattle.script.specs.declared.Cause.TheVariants.{Opening, Decision}
use Rattle.script.specs.Script.{line_of}
use Rattle.script.proofs.LineLengths.{short_literal, length_implied, length_clause, length_back, length_refused, length_end}
use Rattle.dialog.specs.Answering.{propagated_bytes, back_bytes, end_bytes, line_answer, last_line}
use Rattle.dialog.specs.Starting.{open_bytes}
use Rattle.dialog.specs.Taking.{begun_bytes, begun_numbers, final_bytes}
use Rattle.dialog.specs.Program.{HoldsRun, max_answer}
use Rattle.dialog.specs.Inner.Printing.{ShowsImplied}
use Rattle.dialog.proofs.OutcomeLaws.{trail_few, passing_holds, decision_shows, opening_shows}

-- 58 bytes, and 5 for each of 500 literals
abbrev most_bytes : ℕ
most_bytes = 2558

module _ (book session : List ℕ) (run : Run) (buffer : List ℕ) (h : HoldsRun book session run buffer) where
  literal-short : (at : ℕ) → literal_at run.trail at < 2000
  literal-short at = ⊎_elim inside outside (below 0 (literal_at run.trail at))
    where
      inside : 0 < literal_at run.trail at → literal_at run.trail at < 2000
      inside some =
          let l : ℕ = literal_at run.trail at in
          let on = place_true run.trail l (literal_on run.trail at l some refl) in
          omega (arith, (literal_parts (formula_of book).variables l (h.valid.trail_within_lem l on)).1, (well_formed_limited book h.well).variables)

      outside : literal_at run.trail at ≤ 0 → literal_at run.trail at < 2000
      outside none = omega arith

  trail_short : (before : ℕ) → all short_literal (trail_behind before run) ≡ true
  unfolding trail_behind
  trail_short before =
      let n : ℕ = length run.trail in
      let f : ℕ → ℕ = λ (i : ℕ). literal_at run.trail (suc i) in
      all_places short_literal (trail_behind before run) 0
      (λ i less.
      let inside : before + i < n = omega (arith, less, length-drop before (table n f), length-table n f) in
      rw (get_or-drop before (table n f) i 0 ∙ get_or-table n f (before + i) 0 inside) (lt-ltb (f (before + i)) 2000 (literal-short (suc (before + i)))))

  trail_count : (before : ℕ) → length (trail_behind before run) ≤ 500
  unfolding trail_behind
  trail_count before =
      let n : ℕ = length run.trail in
      let f : ℕ → ℕ = λ (i : ℕ). literal_at run.trail (suc i) in
      omega (arith, length-drop before (table n f), length-table n f, trail_few book session run buffer h)

-- the line of a call that propagated
propagated_fits : (book session : List ℕ) (cause : Cause) (made : Result Propagated Refusal) → ((n : ℕ) → made ≡ Ok (propagated.Implied n) → ShowsImplied book session n)
    → length (propagated_bytes cause made (held (formula_of book) session)) ≤ most_bytes
unfolding propagated_bytes
propagated_fits book session cause (Ok (propagated.Implied n)) s =
    let run : Run = held (formula_of book) session in
    let whole = passing_holds book session (sym (s n refl).passes) in
    let before : ℕ = length run.trail - n in
    omega (arith, length_implied cause (trail_behind before run) (trail_short book session run session whole before), trail_count book session run session whole before)
propagated_fits book session cause (Ok (propagated.Conflict clause)) s = omega (arith, length_clause cause clause)
propagated_fits book session cause (Err refusal) s = omega (arith, length_refused (number_of refusal))

back_fits : (k : ℕ) (made : Result ⊤ Refusal) → length (back_bytes k made) ≤ most_bytes
unfolding back_bytes
back_fits k (Ok done) = omega (arith, length_back k)
back_fits k (Err refusal) = omega (arith, length_refused (number_of refusal))

end_fits : (sum : Result ℕ Refusal) (figures : Result Shown Refusal) → length (end_bytes sum figures) ≤ 88
unfolding end_bytes
end_fits (Err refusal) figures = omega (arith, length_refused (number_of refusal))
end_fits (Ok checks) (Err refusal) = omega (arith, length_refused (number_of refusal))
end_fits (Ok checks) (Ok shown) = length_end shown.decisions shown.backtracks checks

module _ (book session : List ℕ) where
  line-fits : (line : Option Line) → length (line_answer book session line) ≤ most_bytes
  unfolding line_answer
  line-fits (Some (asks.Choose l)) = propagated_fits book (decide_numbers book session l) (Decision l) (decide_answer book session l) (decision_shows book session l)
  line-fits (Some (asks.Back k)) = back_fits k (backtrack_answer book session k)
  line-fits None = omega (arith, length_refused 18)

  -- The answer to a line,
  pub answer_fits : (line : Option Line) → length (line_answer book session line) ≤ max_answer
  answer_fits line = omega (arith, line-fits line)

  -- the line of an opening,
  pub opening_fits : length (open_bytes book session) ≤ max_answer
  unfolding open_bytes
  opening_fits = omega (arith, propagated_fits book (open_numbers book session) Opening (open_answer book (length session)) (opening_shows book session))

  -- and the last two lines together.
  pub final_fits : (line : List ℕ) (kept : ℕ) → length (final_bytes book session line kept) ≤ max_answer
  unfolding begun_bytes last_line
  final_fits line kept =
      let after : List ℕ = begun_numbers book session line kept in
      rw (length-append (begun_bytes book session line kept) (last_line book after))
      (omega (arith, go (ltb 0 kept), end_fits (total_answer book after) (figures_answer book after)))
    where
      go : (b : Bool) → length (cond b (line_answer book session (line_of (take kept line))) []) ≤ most_bytes
      go true = line-fits (line_of (take kept line))
      go false = omega arith

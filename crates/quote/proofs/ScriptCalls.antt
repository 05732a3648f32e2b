-- The calls of a script: as many of them are backtracks as the script has lines of the form `b k`, and the script program makes just these calls. And what
-- the loop that counts these lines knows.
use Prim.Native.Nat.{ℕ, zero, suc, ◌+◌, ◌-◌, ◌≤◌, ◌<◌}
use mathlib.Core.Path.{◌≡◌, refl, sym, ap, ◌∙◌}
use mathlib.Core.Bool.{Bool, true, false, cond}
use mathlib.Core.List.{List, [], ◌∷◌, ◌++◌, map, append_assoc}
use Rattle.std.specs.Prelude.{Option, Some, None}
use native.Mathlib.Omega.{arith}
use lib.ListN.{length, take, drop, length-drop, drop_of_length-le}
use lib.Seq.{drop-drop}
use Rattle.base.specs.Lists.{keep, flat}
use Rattle.base.proofs.Lists.{tail_whole}
use Rattle.base.proofs.Until.{take-until, until_within}
use Rattle.book.specs.Formula.{Formula}
use Rattle.book.specs.Text.{line_end}
use Rattle.run.specs.Run.{Run, open_run}
use Rattle.run.specs.Calls.{Call, decision, backtrack_by, fix_by, step_all, reference}
use Rattle.run.specs.Ceiling.{backtracks_asked}
use Rattle.script.specs.declared.Line.{Line}
use Rattle.script.specs.declared.Line.TheVariants.{Choose, Back}
use Rattle.script.specs.Script.{script_lines, line_bytes, line_of}
use Rattle.script.specs.Desk.{end_line_of, answer_to, step_of, answers_to}
use Rattle.script.proofs.ScriptLaws.{lines_first, lines_parted}
use Rattle.quote.specs.Quote.{line_calls, script_calls, is_back, back_lines}

-- the calls and the lines of the form `b k` of so many lines
abbrev lines_calls : List (List ℕ) → List Call
lines_calls lines = flat (map (λ (line : List ℕ). line_calls (line_of line)) lines)

abbrev lines_backs : List (List ℕ) → ℕ
lines_backs lines = length (keep (λ (line : List ℕ). is_back (line_of line)) lines)

abbrev one : Bool → ℕ
one b = cond b 1 0

-- how many there are, by the first line
backs_first : (line : List ℕ) (lines : List (List ℕ)) → lines_backs (line ∷ lines) ≡ one (is_back (line_of line)) + lines_backs lines
unfolding keep
backs_first line lines = go (is_back (line_of line))
  where
    go : (b : Bool) → length (cond b (line ∷ keep (λ (l : List ℕ). is_back (line_of l)) lines) (keep (λ (l : List ℕ). is_back (line_of l)) lines)) ≡ one b + lines_backs lines
    go true = omega arith
    go false = omega arith

asked_first : (line : Option Line) (calls : List Call) → backtracks_asked (line_calls line ++ calls) ≡ one (is_back line) + backtracks_asked calls
unfolding line_calls is_back backtracks_asked
asked_first (Some (Choose l)) calls = omega arith
asked_first (Some (Back k)) calls = omega arith
asked_first None calls = omega arith

asked_lines : (lines : List (List ℕ)) → backtracks_asked (lines_calls lines) ≡ lines_backs lines
unfolding flat keep backtracks_asked
asked_lines [] = refl
asked_lines (line ∷ lines) =
    omega (arith, asked_first (line_of line) (lines_calls lines), backs_first line lines, asked_lines lines)

-- The calls of a script ask for as many backtracks as it has lines of the form `b k`.
pub back_lines_lem : (script : List ℕ) → backtracks_asked (script_calls script) ≡ back_lines script
unfolding script_calls back_lines
back_lines_lem script = asked_lines (script_lines script)

-- a front part of a list of calls asks for no more
pub asked_part : (j : ℕ) (calls : List Call) → backtracks_asked (take j calls) ≤ backtracks_asked calls
unfolding backtracks_asked
asked_part zero calls = omega arith
asked_part (suc j) [] = omega arith
asked_part (suc j) (decision l ∷ calls) = asked_part j calls
asked_part (suc j) (backtrack_by k ∷ calls) = omega (arith, asked_part j calls)
asked_part (suc j) (fix_by f ∷ calls) = asked_part j calls

module _ (formula : Formula) where
  line-steps : (run : Run) (line : Option Line) (calls : List Call) → step_all formula run (line_calls line ++ calls) ≡ step_all formula (step_of formula run line) calls
  unfolding line_calls step_of step_all
  line-steps run (Some (Choose l)) calls = refl
  line-steps run (Some (Back k)) calls = refl
  line-steps run None calls = refl

  answers_end : (lines : List (List ℕ)) (run : Run) → (front : List ℕ) × (answers_to formula run lines ≡ front ++ end_line_of (step_all formula run (lines_calls lines)))
  unfolding answers_to flat step_all
  answers_end [] run = ([], refl)
  answers_end (line ∷ lines) run =
      let rest = answers_end lines (step_of formula run (line_of line)) in
      let calls = lines_calls lines in (
        answer_to formula run (line_of line) ++ rest.0,
        ap (λ (later : List ℕ). answer_to formula run (line_of line) ++ later) rest.1
            ∙ sym (append_assoc (answer_to formula run (line_of line)) rest.0 (end_line_of (step_all formula (step_of formula run (line_of line)) calls)))
            ∙ ap (λ (r : Run). (answer_to formula run (line_of line) ++ rest.0) ++ end_line_of r) (sym (line-steps run (line_of line) calls)),
      )

  -- The answers to a script end with the figures of the reference run of its calls.
  pub script_run : (script : List ℕ)
      → (front : List ℕ) × (answers_to formula (open_run formula) (script_lines script) ≡ front ++ end_line_of (reference formula (script_calls script)))
  unfolding script_calls reference
  script_run script = answers_end (script_lines script) (open_run formula)

backs_append : (lines others : List (List ℕ)) → lines_backs (lines ++ others) ≡ lines_backs lines + lines_backs others
unfolding keep
backs_append [] others = omega arith
backs_append (line ∷ lines) others =
    omega (arith, backs_first line (lines ++ others), backs_first line lines, backs_append lines others)

-- So the part up to a byte 10 has no more lines of the form `b k`.
pub back_lines_part : (first rest : List ℕ) → back_lines (first ++ (10 ∷ [])) ≤ back_lines (first ++ (10 ∷ rest))
unfolding back_lines
back_lines_part first rest =
    omega (arith, ap lines_backs (lines_parted first rest), backs_append (script_lines (first ++ (10 ∷ []))) (script_lines rest))

-- What the loop over the lines knows at a place: `count` of the lines before it are of the form `b k`.
pub record BacksBefore (script : List ℕ) (count at : ℕ) : Type 0 where
  pub few : count ≤ at
  pub rest : count + back_lines (drop at script) ≡ back_lines script

-- where the line that stands at a place ends
pub ends_at : (script : List ℕ) (at n : ℕ) → n ≡ length (line_bytes (take (length script - at) (drop at script))) → at + n ≡ at + length (line_bytes (drop at script))
ends_at script at n e = ap (λ (k : ℕ). at + k) (e ∙ ap (λ (bytes : List ℕ). length (line_bytes bytes)) (tail_whole at script))

pub backs_none : (script : List ℕ) → BacksBefore script 0 0
backs_none script = record { few = omega arith; rest = omega arith }

pub backs_all : (script : List ℕ) (count at : ℕ) → BacksBefore script count at → length script ≤ at → count ≡ back_lines script
unfolding back_lines script_lines keep
backs_all script count at r h =
    let none : lines_backs (script_lines (drop at script)) ≡ 0 = ap (λ (l : List ℕ). lines_backs (script_lines l)) (drop_of_length-le script h) in
    omega (arith, r.rest)

-- a line from `at` to `end`
module _ (script : List ℕ) (at end : ℕ) (h : at < length script) (ends : end ≡ at + length (line_bytes (drop at script))) where
  pub line_within_lem : end ≤ length script
  line_within_lem = omega (arith, until_within line_end script at (omega arith))

  line_is : take (end - at) (drop at script) ≡ line_bytes (drop at script)
  line_is =
      let size : end - at ≡ length (line_bytes (drop at script)) = omega arith in
      rw size (take-until line_end (drop at script))

  counts : back_lines (drop at script) ≡ one (is_back (line_of (take (end - at) (drop at script)))) + back_lines (drop (end + 1) script)
  unfolding back_lines
  counts =
      let some : 0 < length (drop at script) = rw (length-drop at script) (omega arith) in
      let behind : at + suc (length (line_bytes (drop at script))) ≡ end + 1 = omega arith in
      ap lines_backs (lines_first (drop at script) some)
      ∙ backs_first (line_bytes (drop at script)) (script_lines (drop (suc (length (line_bytes (drop at script)))) (drop at script)))
      ∙ rw (line_is, drop-drop (suc (length (line_bytes (drop at script)))) at script, behind)

  module _ (count : ℕ) (r : BacksBefore script count at) where
    pub back_counted : true ≡ is_back (line_of (take (end - at) (drop at script))) → BacksBefore script (count + 1) (end + 1)
    back_counted e =
        let is : back_lines (drop at script) ≡ one true + back_lines (drop (end + 1) script) = rw (← e) at counts in
        record { few = omega (arith, r.few); rest = omega (arith, r.rest) }

    pub other_passed : false ≡ is_back (line_of (take (end - at) (drop at script))) → BacksBefore script count (end + 1)
    other_passed e =
        let is : back_lines (drop at script) ≡ one false + back_lines (drop (end + 1) script) = rw (← e) at counts in
        record { few = omega (arith, r.few); rest = omega (arith, r.rest) }

-- The bytes that `start`, `take` and `finish` hand out, joined, are the output of the script program, however the script is parted.
use Rattle.std.specs.Prelude.{Option, Result}
use Rattle.refusals.specs.declared.Refusal.{Refusal}
use Prim.Native.Nat.{ℕ, zero, suc, ◌≤◌}
use mathlib.Core.Path.{◌≡◌, refl, ap, ap₂, sym, ◌∙◌}
use mathlib.Core.Bool.{Bool, true, false}
use mathlib.Core.List.{List, [], ◌∷◌, ◌++◌, append_assoc}
use native.Mathlib.Omega.{arith}
use native.Mathlib.Numerals.{add-one}
use borrow.Author.Tests.{le-ltb, ltb-true, ltb-false}
use lib.Dec.{ltb}
use lib.ListN.{length, take, drop, length-drop, drop_of_length-le}
use lib.Seq.{take-nil}
use Rattle.base.specs.Lists.{copied, flat}
use Rattle.base.proofs.Copies.{length_copy}
use Rattle.book.specs.Formula.{Formula, max_book}
use Rattle.book.specs.Numbers.{numbers_of, formula_of, well_formed}
use Rattle.book.specs.Reading.{Judged, refused, accepted, read_text}
use Rattle.book.proofs.FaultLaws.{refused_number}
use Rattle.book.proofs.Accepted.{accepted_sound, accepted_well_formed}
use Rattle.book.proofs.NumberLaws.{book_fits, formula_of_numbers}
use Rattle.run.specs.Run.{Run, open_run}
use Rattle.layout.specs.Layout.{max_session}
use Rattle.session.specs.Outcomes.{open_numbers, open_refusal}
use Rattle.session.proofs.Statements.{numbers_suffice}
use Rattle.session.specs.declared.Propagated.{Propagated}
use Rattle.script.specs.declared.Line.{Line}
use Rattle.script.specs.declared.Cause.TheVariants.{Opening}
use Rattle.script.specs.Script.{line_of, script_lines, line_bytes}
use Rattle.script.specs.Answers.{refused_line}
use Rattle.script.specs.Buffer.{fitting}
use Rattle.script.specs.Desk.{propagated_line, answer_to, step_of, answers_to, output_for, desk_output}
use Rattle.script.proofs.LineLengths.{length_refused}
use Rattle.dialog.specs.Starting.{StartLeft, start_left, started_by, open_bytes, opening, starting_by, starting}
use Rattle.dialog.specs.Taking.{TakeLeft, keeping, ending, taking}
use Rattle.dialog.specs.Program.{Lends, Holds, PartTaken, used_up, goes_on, ScriptPrints, reads, finishes, StartPrints, refuses, opens, ProgramPrints, holding, takes, handed, holds_then, handed_last}
use Rattle.dialog.specs.declared.Started.{Started}
use Rattle.dialog.specs.declared.Started.TheVariants as started
use Rattle.dialog.proofs.OutcomeLaws.{opening_holds, run_opening}
use Rattle.dialog.proofs.LineLaws.{opening_answers}
use Rattle.dialog.proofs.FitLaws.{opening_fits}
use Rattle.script.proofs.ScriptLaws.{joined, joined_none, lines_kept, lines_ended}
use Rattle.dialog.proofs.FollowLaws.{handed_whole, use_some, Follows, ended_hands, ended_follows, kept_follows, finish_joined}

-- what a call of `take` is, by whether its bytes have the end of a line
module _ (book session line : List ℕ) (kept : ℕ) (bytes out : List ℕ) where
  taking-ends : ltb (length (line_bytes bytes)) (length bytes) ≡ true → taking book session line kept bytes out ≡ ending book session line kept (line_bytes bytes) out
  unfolding taking
  taking-ends e = rw e

  taking_keeps : ltb (length (line_bytes bytes)) (length bytes) ≡ false → taking book session line kept bytes out ≡ keeping session line kept bytes out
  unfolding taking
  taking_keeps e = rw e

  ending_used : (ending book session line kept bytes out).answer.used ≡ suc (length bytes)
  unfolding ending
  ending_used = add-one (length bytes)

  keeping_used : (keeping session line kept bytes out).answer.used ≡ length bytes
  unfolding keeping
  keeping_used = refl

  keeping_hands : handed (keeping session line kept bytes out) ≡ []
  unfolding keeping
  keeping_hands = refl

-- the answers to a part, and to what comes behind it
part_joined : (book : List ℕ) {holds after : Holds} {part first : List ℕ} → PartTaken book holds part after first
    → (rest printed : List ℕ)
    → ((run : Run) (begun buffer : List ℕ) → Follows book after run begun buffer → printed ≡ answers_to (formula_of book) run (joined begun (script_lines rest)))
    → (run : Run) (begun buffer : List ℕ) → Follows book holds run begun buffer
    → first ++ printed ≡ answers_to (formula_of book) run (joined begun (script_lines (part ++ rest)))
unfolding answers_to
part_joined book used_up rest printed next run begun buffer f = next run begun buffer f
part_joined book (goes_on {holds = holds} {bytes = part} {printed = handed-on} some taken) rest printed next run begun buffer f =
    append_assoc (handed (takes book holds part)) handed-on printed
    ∙ go (ltb (length (line_bytes part)) (length part)) refl
    (λ run' begun' buffer' f'. part_joined book taken rest printed next run' begun' buffer' f')
  where
    go : (b : Bool) → ltb (length (line_bytes part)) (length part) ≡ b
        → ((run : Run) (begun buffer : List ℕ) → Follows book (holds_then (takes book holds part)) run begun buffer
        → handed-on ++ printed ≡ answers_to (formula_of book) run (joined begun (script_lines (drop (takes book holds part).answer.used part ++ rest))))
        → handed (takes book holds part) ++ (handed-on ++ printed) ≡ answers_to (formula_of book) run (joined begun (script_lines (part ++ rest)))
    go true e ih =
        let front : List ℕ = line_bytes part in
        let line : Option Line = line_of (begun ++ front) in
        let took : takes book holds part ≡ ending book holds.session holds.line holds.kept front holds.out
        = taking-ends book holds.session holds.line holds.kept part holds.out e in
        let follows : Follows book (holds_then (takes book holds part)) (step_of (formula_of book) run line) [] buffer
        = rw took (ended_follows book holds run begun buffer f front) in
        let used : (takes book holds part).answer.used ≡ suc (length front)
        = ap (λ (o : TakeLeft). o.answer.used) took ∙ ending_used book holds.session holds.line holds.kept front holds.out in
        let hands : handed (takes book holds part) ≡ answer_to (formula_of book) run line
        = ap (λ (o : TakeLeft). handed o) took ∙ ended_hands book holds run begun buffer f front in
        ap₂ (λ (x y : List ℕ). x ++ y) hands
        (ih (step_of (formula_of book) run line) [] buffer follows
        ∙ ap (answers_to (formula_of book) (step_of (formula_of book) run line))
        (joined_none (script_lines (drop (takes book holds part).answer.used part ++ rest)) ∙ ap (λ (n : ℕ). script_lines (drop n part ++ rest)) used))
        ∙ ap (answers_to (formula_of book) run) (sym (lines_ended rest begun part (ltb-true (length front) (length part) e)))
    go false e ih =
        let took : takes book holds part ≡ keeping holds.session holds.line holds.kept part holds.out
        = taking_keeps book holds.session holds.line holds.kept part holds.out e in
        let follows : Follows book (holds_then (takes book holds part)) run (begun ++ part) buffer = rw took (kept_follows book holds run begun buffer f part) in
        let used : (takes book holds part).answer.used ≡ length part
        = ap (λ (o : TakeLeft). o.answer.used) took ∙ keeping_used book holds.session holds.line holds.kept part holds.out in
        let hands : handed (takes book holds part) ≡ []
        = ap (λ (o : TakeLeft). handed o) took ∙ keeping_hands book holds.session holds.line holds.kept part holds.out in
        let behind : drop (takes book holds part).answer.used part ≡ [] = rw used (drop_of_length-le part {i = length part} (omega arith)) in
        ap (λ (x : List ℕ). x ++ (handed-on ++ printed)) hands
        ∙ ih run (begun ++ part) buffer follows
        ∙ ap (λ (x : List ℕ). answers_to (formula_of book) run (joined (begun ++ part) (script_lines (x ++ rest)))) behind
        ∙ ap (answers_to (formula_of book) run) (sym (lines_kept rest begun part (ltb-false (length (line_bytes part)) (length part) e)))

-- the answers to the parts of a script, joined
answers_joined : (book : List ℕ) {holds : Holds} {parts : List (List ℕ)} {printed : List ℕ} → ScriptPrints book holds parts printed
    → (run : Run) (begun buffer : List ℕ) → Follows book holds run begun buffer
    → printed ≡ answers_to (formula_of book) run (joined begun (script_lines (flat parts)))
unfolding flat script_lines
answers_joined book (finishes {holds}) run begun buffer f = finish_joined book holds run begun buffer f
answers_joined book (reads {parts = parts} {printed = printed} taken rest) run begun buffer f =
    part_joined book taken (flat parts) printed (λ run' begun' buffer' f'. answers_joined book rest run' begun' buffer' f') run begun buffer f

-- what the program prints behind a start
refused_prints : {line : List ℕ} {left : StartLeft} {parts : List (List ℕ)} {printed : List ℕ} → StartPrints line left parts printed
    → (n : ℕ) → left.answer ≡ started.Refused n → printed ≡ take n left.out
refused_prints {left = left} (refuses {n = m} e) n q = let same : m ≡ n = cc in ap (λ (k : ℕ). take k left.out) same
refused_prints (opens e rest) n q = let z : ◌≡◌ {A = ℕ} 0 1 = cc in absurd (omega arith)

opened_prints : {line : List ℕ} {left : StartLeft} {parts : List (List ℕ)} {printed : List ℕ} → StartPrints line left parts printed
    → (n : ℕ) → left.answer ≡ started.Open n
    → (rest : List ℕ) × (ScriptPrints left.book (holding left.session line 0 left.out) parts rest) × (printed ≡ take n left.out ++ rest)
opened_prints (refuses e) n q = let z : ◌≡◌ {A = ℕ} 0 1 = cc in absurd (omega arith)
opened_prints {left = left} (opens {n = m} {printed = printed} e rest) n q =
    let same : m ≡ n = cc in (printed, rest, ap (λ (k : ℕ). take k left.out ++ printed) same)

module _ (text book session out : List ℕ) where
  -- a text that is refused
  refused_starts : (n : ℕ) → read_text text ≡ refused n
      → starting text book session out ≡ start_left (started.Refused (fitting (refused_line n) out)) book session (copied (refused_line n) out)
  unfolding starting starting_by
  refused_starts n e = rw (← (refused_number text n e).0) (rw e)

  -- a text that is accepted
  module _ (formula : Formula) (e : read_text text ≡ accepted formula) where
    abbrev behind : List ℕ
    behind = drop (length (numbers_of formula)) book

    abbrev read : List ℕ
    read = numbers_of formula ++ behind

    well : well_formed read ≡ true
    well = accepted_well_formed text formula behind e

    same : formula_of read ≡ formula
    same = formula_of_numbers formula behind

    module _ (for_book : max_book ≤ length book) (for_session : max_session ≤ length session) where
      accepts : open_refusal read (length session) ≡ 0
      accepts = numbers_suffice read (length session) well for_session

      accepted-starts : starting text book session out
          ≡ start_left (started.Open (fitting (open_bytes read session) out)) read (open_numbers read session) (copied (open_bytes read session) out)
      unfolding starting starting_by opening started_by
      accepted-starts =
          rw (e, le-ltb (length book) (length (numbers_of formula)) (omega (arith, book_fits formula (accepted_sound text formula e))))
          (ap (λ (s : Started). start_left s read (open_numbers read session) (copied (open_bytes read session) out))
          (ap (λ (a : Result Propagated Refusal). started_by a (fitting (open_bytes read session) out)) (run_opening read session accepts)))

-- For every text and every way to part a script: what the program prints is the output of the script program.
pub desk_output_lem : (text book session line out : List ℕ) → Lends book session line out → (parts : List (List ℕ)) (printed : List ℕ)
    → ProgramPrints text book session line out parts printed → printed ≡ desk_output text (flat parts)
unfolding desk_output output_for
desk_output_lem text book session line out lends parts printed p = go (read_text text) refl
  where
    go : (j : Judged) → read_text text ≡ j → printed ≡ output_for j (flat parts)
    go (refused n) e =
        let q : StartPrints line (start_left (started.Refused (fitting (refused_line n) out)) book session (copied (refused_line n) out)) parts printed
        = rw (refused_starts text book session out n e) at p in
        refused_prints q (fitting (refused_line n) out) refl ∙ handed_whole (refused_line n) out (omega (arith, length_refused n)) lends.for_answers
    go (accepted formula) e =
        let numbers : List ℕ = read text book session out formula e in
        let bytes : List ℕ = open_bytes numbers session in
        let accepts : open_refusal numbers (length session) ≡ 0 = accepts text book session out formula e lends.for_book lends.for_session in
        let q : StartPrints line (start_left (started.Open (fitting bytes out)) numbers (open_numbers numbers session) (copied bytes out)) parts printed
        = rw (accepted-starts text book session out formula e lends.for_book lends.for_session) at p in
        let told = opened_prints q (fitting bytes out) refl in
        let follows : Follows numbers (holding (open_numbers numbers session) line 0 (copied bytes out)) (open_run (formula_of numbers)) [] session
        = record {
          runs = opening_holds numbers session accepts;
          room = lends.for_line;
          within = omega arith;
          bytes = sym (take-nil {A = ℕ} (length line));
          answers = omega (arith, length_copy bytes out, lends.for_answers);
        } in
        told.2
        ∙ ap₂ (λ (x y : List ℕ). x ++ y)
        (handed_whole bytes out (opening_fits numbers session) lends.for_answers ∙ opening_answers numbers session accepts)
        (answers_joined numbers told.1 (open_run (formula_of numbers)) [] session follows
        ∙ ap (answers_to (formula_of numbers) (open_run (formula_of numbers))) (joined_none (script_lines (flat parts))))
        ∙ ap (λ (x : Formula). propagated_line Opening 0 (open_run x) ++ answers_to x (open_run x) (script_lines (flat parts))) (same text book session out formula e)

-- The loop ends: a part is used up, and the program prints something, whatever the parts.
part_taken : (book : List ℕ) (n : ℕ) (holds : Holds) (part : List ℕ) → length part ≤ n → (after : Holds) × (printed : List ℕ) × PartTaken book holds part after printed
part_taken book zero holds part h = none part h
  where
    none : (part : List ℕ) → length part ≤ 0 → (after : Holds) × (printed : List ℕ) × PartTaken book holds part after printed
    none [] h = (holds, [], used_up)
    none (byte ∷ bytes) h = absurd (omega arith)
part_taken book (suc n) holds part h = more part h (λ holds' part' h'. part_taken book n holds' part' h')
  where
    more : (part : List ℕ) → length part ≤ suc n
        → ((holds : Holds) (part : List ℕ) → length part ≤ n → (after : Holds) × (printed : List ℕ) × PartTaken book holds part after printed)
        → (after : Holds) × (printed : List ℕ) × PartTaken book holds part after printed
    more [] h ih = (holds, [], used_up)
    more (byte ∷ bytes) h ih =
        let left : TakeLeft = takes book holds (byte ∷ bytes) in
        let used = use_some book holds.session holds.line holds.kept (byte ∷ bytes) holds.out (omega arith) in
        let r = ih (holds_then left) (drop left.answer.used (byte ∷ bytes)) (rw (length-drop left.answer.used (byte ∷ bytes)) (omega arith)) in
        (r.0, handed left ++ r.1, goes_on {bytes = byte ∷ bytes} (omega arith) r.2)

parts_print : (book : List ℕ) (parts : List (List ℕ)) (holds : Holds) → (printed : List ℕ) × ScriptPrints book holds parts printed
parts_print book [] holds = (handed_last book holds, finishes)
parts_print book (part ∷ parts) holds =
    let taken = part_taken book (length part) holds part (omega arith) in
    let r = parts_print book parts taken.0 in
    (taken.1 ++ r.0, reads taken.2 r.1)

pub program_ends : (text book session line out : List ℕ) (parts : List (List ℕ)) → (printed : List ℕ) × ProgramPrints text book session line out parts printed
program_ends text book session line out parts = go (starting text book session out).answer refl
  where
    go : (s : Started) → (starting text book session out).answer ≡ s → (printed : List ℕ) × ProgramPrints text book session line out parts printed
    go (started.Refused n) e = (take n (starting text book session out).out, refuses e)
    go (started.Open n) e =
        let left : StartLeft = starting text book session out in
        let r = parts_print left.book parts (holding left.session line 0 left.out) in
        (take n left.out ++ r.0, opens e r.1)

-- The fixed decisions of every session that passes: they stay; the way back out of a conflict, and where there is none; what a fixing stores; an opening fixes nothing.
use Rattle.std.specs.Prelude.{Ok}
use Prim.Native.Nat.{ℕ, ◌≤◌}
use native.Mathlib.Omega.{arith}
use mathlib.Core.Path.{◌≡◌, refl, ap, sym, ◌∙◌}
use mathlib.Core.Bool.{true, false, cond}
use mathlib.Core.List.{List, [], ◌∷◌}
use lib.Dec.{leb}
use lib.ListN.{length, set}
use Rattle.book.specs.Formula.{Formula, positive, negative, literal_within}
use Rattle.book.specs.Numbers.{well_formed, formula_of}
use Rattle.book.proofs.WellFormedLaws.{well_formed_sound}
use Rattle.run.specs.Trail.{decisions, level}
use Rattle.run.specs.Run.{Run, in_conflict, open_run, fix}
use Rattle.run.specs.Calls.{Call, max_backtracks, decide_refusal, backtrack_refusal, fix_refusal, step_all}
use Rattle.run.specs.Valid.{Valid}
use Rattle.run.proofs.Theorems.{open_valid, all_valid}
use Rattle.run.proofs.Since.{oldest_low}
use Rattle.run.proofs.Fixed.{open_fixed, fixed_never_falls, fixed_stay, conflict_way_back, conflict_decide, conflict_fix, stuck, stuck_backtrack}
use Rattle.layout.specs.Layout.{fixed_at, encode, held}
use Rattle.validation.specs.Validation.{read_refusal}
use Rattle.session.specs.Outcomes.{overwritten, open_refusal, open_numbers, session_decide_refusal, session_backtrack_refusal, session_fix_refusal, fix_numbers, fixed_answer, lookup_answer, call_numbers, played_numbers}
use Rattle.session.specs.Statement.{FixedStay}
use Rattle.session.specs.declared.Assigned.TheVariants.{Positive, Negative}
use Rattle.session.proofs.CallLaws.{held_overwritten, call_refusal_lem, played, open_accepted}
use Rattle.session.proofs.PassedLaws.{well, facts, own_refusal, true_within}
use Rattle.session.proofs.Statements.{whole, fixed_after, call_holds, call_passes}
use Rattle.session.proofs.LookupLaws.{shows_positive, shows_negative, positive_shown, negative_shown}
use Rattle.session.proofs.ShownLevels.{levels_after}
use Rattle.session.proofs.fixing.Laws.{fix_none}

-- what lookup shows at level 0 and at the levels of the fixed decisions it shows so ever after
module _ (book : List ℕ) where
  -- how many are fixed does not fall over a call, and so many are then in force
  still_fixed : (session : List ℕ) → read_refusal book session ≡ 0 → (call : Call)
      → let after = held (formula_of book) (call_numbers book session call) in
      ((held (formula_of book) session).fixed ≤ after.fixed) × (after.fixed ≤ length (decisions after.trail))
  unfolding step_all
  still_fixed session e call = (
    rw (call_holds book session e call)
        (fixed_never_falls (formula_of book) (well_formed_sound book (well book session (sym e))) (held (formula_of book) session) (facts book session (sym e)).0
        (call ∷ [])),
    (facts book (call_numbers book session call) (sym (call_passes book session e call))).0.fixed_within_lem,
  )

  kept_positive : (calls : List Call) (session : List ℕ) (v n : ℕ) → n ≤ (held (formula_of book) session).fixed → lookup_answer book session v ≡ Ok (Positive n)
      → lookup_answer book (played_numbers book session calls) v ≡ Ok (Positive n)
  unfolding played_numbers
  kept_positive [] session v n low a = a
  kept_positive (call ∷ calls) session v n low a =
      let still = still_fixed session (sym (positive_shown book session v n a).0.none) call in
      kept_positive calls (call_numbers book session call) v n (omega arith) ((levels_after book session call).positive_stays v n a (omega arith))

  kept_negative : (calls : List Call) (session : List ℕ) (v n : ℕ) → n ≤ (held (formula_of book) session).fixed → lookup_answer book session v ≡ Ok (Negative n)
      → lookup_answer book (played_numbers book session calls) v ≡ Ok (Negative n)
  unfolding played_numbers
  kept_negative [] session v n low a = a
  kept_negative (call ∷ calls) session v n low a =
      let still = still_fixed session (sym (negative_shown book session v n a).0.none) call in
      kept_negative calls (call_numbers book session call) v n (omega arith) ((levels_after book session call).negative_stays v n a (omega arith))

module _ (book session : List ℕ) (e : read_refusal book session ≡ 0) where
  abbrev formula : Formula
  formula = formula_of book

  abbrev run : Run
  run = held formula session

  ok : well_formed book ≡ true
  ok = well book session (sym e)

  valid : Valid formula run
  valid = (facts book session (sym e)).0

  module _ (calls : List Call) where
    abbrev later : List ℕ
    later = played_numbers book session calls

    abbrev reached : Run
    reached = step_all formula run calls

    reached-valid : Valid formula reached
    reached-valid = all_valid formula (well_formed_sound book ok) calls run valid

    later-is : later ≡ overwritten formula reached session
    later-is = ap (λ (numbers : List ℕ). played_numbers book numbers calls) (whole book session e) ∙ played book session ok calls run valid

    later-held : held formula later ≡ reached
    later-held = ap (held formula) later-is ∙ held_overwritten book session ok reached reached-valid

    later-passes : read_refusal book later ≡ 0
    unfolding read_refusal
    later-passes = rw later-is (call_refusal_lem book session ok reached reached-valid (λ (r : Run). 0))

    later-told : fixed_answer book later ≡ Ok (held formula later).fixed
    later-told = rw (later-held, later-is) (fixed_after book session ok reached reached-valid)

  -- Whatever is called, the fixed decisions stay.
  pub fixed_decisions_stay : (calls : List Call) → FixedStay book session calls
  unfolding played_numbers step_all
  fixed_decisions_stay calls =
      record {
        told = (later-told [], later-told calls);
        never_falls = rw (later-held calls) (fixed_never_falls formula (well_formed_sound book ok) run valid calls);
        same = rw (later-held calls) (fixed_stay formula (well_formed_sound book ok) run valid calls);
        positive_kept = λ v n low a. kept_positive book calls session v n low a;
        negative_kept = λ v n low a. kept_negative book calls session v n low a;
        shown_positive = λ v m.
            let old = oldest_low run.fixed run valid.trail_distinct (positive v) m in
            let bounds = true_within book session (sym e) (positive v) old.0 in
            kept_positive book calls session v (level run.trail (positive v)) old.1
            ((shows_positive book session (sym e) v (omega arith) (omega arith) (level run.trail (positive v))).1 (old.0, refl));
        shown_negative = λ v m.
            let old = oldest_low run.fixed run valid.trail_distinct (negative v) m in
            let bounds = true_within book session (sym e) (negative v) old.0 in
            kept_negative book calls session v (level run.trail (negative v)) old.1
            ((shows_negative book session (sym e) v (omega arith) (omega arith) (level run.trail (negative v))).1 (old.0, refl));
      }

  -- Where calls lead the session from out of conflict into one, a backtrack of 1 is accepted, or refused by 17 where no backtrack is left.
  pub way_back : in_conflict run ≡ false → (calls : List Call) → in_conflict (held formula (played_numbers book session calls)) ≡ true
      → session_backtrack_refusal book (played_numbers book session calls) 1
      ≡ cond (leb max_backtracks (held formula (played_numbers book session calls)).backtracks) 17 0
  unfolding session_backtrack_refusal
  way_back quiet calls loud =
      own_refusal book (played_numbers book session calls) (sym (later-passes calls)) (backtrack_refusal 1)
      ∙ rw (later-held calls) (conflict_way_back formula (well_formed_sound book ok) run valid quiet calls (rw (later-held calls) at loud))

  -- In conflict with all decisions fixed every call is refused, decisions by 14 (13 of no literal), backtracks by 16, fixings by 14; the numbers stay.
  module _ (loud : in_conflict run ≡ true) (all : run.fixed ≡ length (decisions run.trail)) where
    pub stuck_refusals : ((l : ℕ) → session_decide_refusal book session l ≡ cond (literal_within formula.variables l) 14 13)
        × ((k : ℕ) → session_backtrack_refusal book session k ≡ 16)
        × ((f : ℕ) → session_fix_refusal book session f ≡ 14)
    unfolding session_decide_refusal session_backtrack_refusal session_fix_refusal
    stuck_refusals = (
      λ l. own_refusal book session (sym e) (decide_refusal formula l) ∙ conflict_decide formula run loud l,
      λ k. own_refusal book session (sym e) (backtrack_refusal k) ∙ stuck_backtrack formula run loud all k,
      λ f. own_refusal book session (sym e) (fix_refusal f) ∙ conflict_fix run loud f,
    )

    pub stuck_numbers : (calls : List Call) → played_numbers book session calls ≡ session
    stuck_numbers calls = later-is calls ∙ rw (stuck formula run loud all calls) (sym (whole book session e))

stored : (formula : Formula) (f : ℕ) (run : Run) (session : List ℕ) → overwritten formula (fix f run) session ≡ set (overwritten formula run session) fixed_at f
unfolding overwritten encode fix
stored formula f run session = refl

-- An accepted fixing stores f, and no other number changes.
pub fixing_stores_one : (book session : List ℕ) (f : ℕ) → session_fix_refusal book session f ≡ 0 → fix_numbers book session f ≡ set session fixed_at f
unfolding fix_numbers
fixing_stores_one book session f e =
    rw e
    (stored (formula_of book) f (held (formula_of book) session) session
    ∙ ap (λ (numbers : List ℕ). set numbers fixed_at f) (sym (whole book session (sym (fix_none book session f (sym e))))))

-- An accepted opening fixes nothing, whatever was lent.
pub opening_fixes_none : (book buffer : List ℕ) → open_refusal book (length buffer) ≡ 0 → fixed_answer book (open_numbers book buffer) ≡ Ok 0
unfolding open_numbers
opening_fixes_none book buffer e =
    let ok : well_formed book ≡ true = (open_accepted book buffer e).well in
    let s = well_formed_sound book ok in
    rw e (fixed_after book buffer ok (open_run (formula_of book)) (open_valid (formula_of book) s) ∙ ap Ok (open_fixed (formula_of book) s))

-- The ceiling of statement 3: the checks of a clause in a period and in all, over every list of calls.
use Prim.Native.Nat.{ℕ, ◌+◌, ◌*◌, ◌≤◌, ◌<◌}
use native.Mathlib.Omega.{arith}
use native.Mathlib.Nat.{mul-suc, mul-le-mul}
use native.Mathlib.Numerals.{add-one}
use mathlib.Core.Path.{◌≡◌, refl, ◌∙◌, ap}
use mathlib.Core.Bool.{Bool, true, false}
use mathlib.Core.List.{List}
use lib.Dec.{leb}
use lib.ListN.{length, get_or}
use borrow.Author.Tests.{leb-false, leb-true}
use Rattle.base.proofs.Lists.{get_or_alike}
use Rattle.book.specs.Formula.{Formula, sound}
use Rattle.run.specs.Run.{Run, clause_of, size, cell_of, max_count, on_trail, with_conflict, fresh, backtrack, fix}
use Rattle.run.specs.Calls.{Call, step_all, reference}
use Rattle.run.specs.Valid.{Valid}
use Rattle.run.specs.Ceiling.{checks_of, count_before, checks_since, ceiling}
use Rattle.run.proofs.Clauses.{clause_short}
use Rattle.run.proofs.ScanLaws.{pointer_within}
use Rattle.run.proofs.Opening.{fresh_watched}
use Rattle.run.proofs.Theorems.{reference_valid}
use Rattle.run.proofs.CeilingClause.{spending_begins}
use Rattle.run.proofs.CeilingRun.{InPeriod, spends, period_within, period_grows, period_conflict, period_fix, period_visit, visit_backtracks, visit_checks, added_grows, added_elsewhere}
use Rattle.run.proofs.RunInduction.{Keeps, calls_keep, reference_keeps}

fresh_checks : (formula : Formula) (c : ℕ) → checks_of (fresh formula) c ≡ 0
unfolding fresh
fresh_checks formula c = get_or_alike (length formula.clauses) c 0

-- the checks of the periods before are within as many ceilings as there were backtracks
record WithinCeiling (formula : Formula) (c before : ℕ) (run : Run) : Type 0 where
  period : InPeriod formula c before run
  periods_before : before ≤ ceiling (size formula c) * run.backtracks

begins_within : (formula : Formula) (c : ℕ) (run : Run) → (cell_of run c).pointer < size formula c
    → checks_of run c ≤ ceiling (size formula c) * run.backtracks → WithinCeiling formula c (checks_of run c) run
begins_within formula c run pointer few =
    record { period = spends (spending_begins (clause_of formula c) run.trail (cell_of run c) (checks_of run c) pointer); periods_before = few }

fresh_within : (formula : Formula) → sound formula ≡ true → (c : ℕ) → 2 ≤ size formula c → WithinCeiling formula c 0 (fresh formula)
unfolding fresh
fresh_within formula ok c many =
    rw (fresh_checks formula c) at
    (begins_within formula c (fresh formula) (pointer_within (size formula c) (cell_of (fresh formula) c) ((fresh_watched formula ok).watching c many))
    (omega (arith, fresh_checks formula c)))

within_ceiling_kept : (formula : Formula) → sound formula ≡ true → (c : ℕ) → 2 ≤ size formula c → Keeps formula c (WithinCeiling formula c)
unfolding on_trail with_conflict backtrack fix
within_ceiling_kept formula ok c many =
    record {
      at_literal = λ before l decided run w.
          record { period = period_grows formula c before l decided run w.period; periods_before = w.periods_before };
      at_unit_conflict = λ before d run w.
          record { period = period_conflict formula c before d run many w.period; periods_before = w.periods_before };
      at_visit = λ before q d run quiet structure v w.
          record {
            period = period_visit formula c before q d run quiet structure v w.period;
            periods_before = rw (visit_backtracks formula q d run) w.periods_before;
          };
      at_backtrack = λ before k run valid accepted w.
          begins_within formula c (backtrack k run) (pointer_within (size formula c) (cell_of run c) (valid.watching c many))
          (rw mul-suc (omega (arith, w.periods_before, period_within formula c before run many w.period)));
      at_fix = λ before f run w. record { period = period_fix formula c before f run w.period; periods_before = w.periods_before };
    }

reference_within : (formula : Formula) → sound formula ≡ true → (calls : List Call) (c : ℕ) → 2 ≤ size formula c
    → WithinCeiling formula c (count_before formula c calls) (reference formula calls)
reference_within formula ok calls c many =
    reference_keeps formula ok c (WithinCeiling formula c) (within_ceiling_kept formula ok c many) (fresh_within formula ok c many) calls

period_most : (formula : Formula) → sound formula ≡ true → (calls : List Call) (c : ℕ) → 2 ≤ size formula c
    → checks_of (reference formula calls) c ≤ count_before formula c calls + ceiling (size formula c)
period_most formula ok calls c many =
    period_within formula c (count_before formula c calls) (reference formula calls) many (reference_within formula ok calls c many).period

pub ceiling_in_period : (formula : Formula) → sound formula ≡ true → (calls : List Call) (c : ℕ) → 2 ≤ size formula c
    → checks_since formula c calls ≤ ceiling (size formula c)
ceiling_in_period formula ok calls c many = omega (arith, period_most formula ok calls c many)

pub ceiling_in_all : (formula : Formula) → sound formula ≡ true → (calls : List Call) (c : ℕ) → 2 ≤ size formula c
    → checks_of (reference formula calls) c ≤ ceiling (size formula c) * ((reference formula calls).backtracks + 1)
ceiling_in_all formula ok calls c many =
    rw (add-one, mul-suc)
    (omega (arith, period_most formula ok calls c many, (reference_within formula ok calls c many).periods_before))

-- a count never falls
grows_kept : (formula : Formula) (c : ℕ) → Keeps formula c (λ before run. before ≤ checks_of run c)
unfolding on_trail with_conflict backtrack fix
grows_kept formula c =
    record {
      at_literal = λ before l decided run h. h;
      at_unit_conflict = λ before d run h. h;
      at_visit = λ before q d run quiet structure v h.
          visit_checks formula q d run (λ checks. before ≤ get_or checks c 0) h
          (λ made. omega (arith, added_grows run.checks c d made (structure.counted.checks_within_lem c)));
      at_backtrack = λ before k run valid accepted h. omega arith;
      at_fix = λ before f run h. h;
    }

pub count_before_within : (formula : Formula) → sound formula ≡ true → (calls : List Call) (c : ℕ)
    → count_before formula c calls ≤ checks_of (reference formula calls) c
count_before_within formula ok calls c = reference_keeps formula ok c (λ before run. before ≤ checks_of run c) (grows_kept formula c) (omega arith) calls

-- so the checks of a period are a difference
pub checks_by_period : (formula : Formula) → sound formula ≡ true → (calls : List Call) (c : ℕ)
    → checks_of (reference formula calls) c ≡ count_before formula c calls + checks_since formula c calls
checks_by_period formula ok calls c = omega (arith, count_before_within formula ok calls c)

-- a clause of one literal or of none is never visited: its count stays
count_kept : (formula : Formula) (c n : ℕ) → size formula c < 2 → Keeps formula c (λ before run. checks_of run c ≡ n)
unfolding on_trail with_conflict backtrack fix
count_kept formula c n few =
    record {
      at_literal = λ before l decided run h. h;
      at_unit_conflict = λ before d run h. h;
      at_visit = λ before q d run quiet structure v h. visit_checks formula q d run (λ checks. get_or checks c 0 ≡ n) h
          (λ made. added_elsewhere run.checks c d made (λ same. absurd (omega (arith, v.two, ap (λ x. size formula x) same))) ∙ h);
      at_backtrack = λ before k run valid accepted h. h;
      at_fix = λ before f run h. h;
    }

pub unscanned_cost_nothing : (formula : Formula) → sound formula ≡ true → (calls : List Call) (c : ℕ) → size formula c < 2
    → checks_of (reference formula calls) c ≡ 0
unscanned_cost_nothing formula ok calls c few =
    reference_keeps formula ok c (λ before run. checks_of run c ≡ 0) (count_kept formula c 0 few) (fresh_checks formula c) calls

-- of any valid run, too, whatever its count is
pub unscanned_count : (formula : Formula) → sound formula ≡ true → (run : Run) → Valid formula run → (calls : List Call) (c : ℕ) → size formula c < 2
    → checks_of (step_all formula run calls) c ≡ checks_of run c
unscanned_count formula ok run v calls c few =
    calls_keep formula ok c (λ before next. checks_of next c ≡ checks_of run c) (count_kept formula c (checks_of run c) few) calls 0 run v refl

-- so one of no literals, which is always met, costs nothing
pub always_met_costs_nothing : (formula : Formula) → sound formula ≡ true → (calls : List Call) (c : ℕ) → size formula c ≡ 0
    → checks_of (reference formula calls) c ≡ 0
always_met_costs_nothing formula ok calls c z = unscanned_cost_nothing formula ok calls c (omega arith)

-- no count saturates
pub counts_never_saturate : (formula : Formula) → sound formula ≡ true → (calls : List Call) (c : ℕ)
    → checks_of (reference formula calls) c < max_count
counts_never_saturate formula ok calls c = go (leb 2 (size formula c)) refl
  where
    go : (t : Bool) → leb 2 (size formula c) ≡ t → checks_of (reference formula calls) c < max_count
    go true e =
        let few : ceiling (size formula c) ≤ 507 = omega (arith, clause_short formula ok c) in
        let b : (reference formula calls).backtracks + 1 ≤ 1000001 = omega (arith, (reference_valid formula ok calls).backtracks_within_lem) in
        let product : ceiling (size formula c) * ((reference formula calls).backtracks + 1) ≤ 507 * 1000001 = mul-le-mul few b in
        omega (arith, ceiling_in_all formula ok calls c (leb-true 2 (size formula c) e))
    go false e = omega (arith, unscanned_cost_nothing formula ok calls c (leb-false 2 (size formula c) e))

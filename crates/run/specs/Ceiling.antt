-- What statement 3 counts: the checks of a clause since the latest accepted backtrack of a list of calls, and their ceiling. And W, the sum of the
-- ceilings of all clauses, and how many backtracks a list of calls asks for.
use Rattle.std.specs.Prelude.{ℕ, suc, ◌*◌, ◌-◌, cond, List, [], ◌∷◌, map, leb, eqb, length, get_or}
use Rattle.base.specs.Lists.{sum}
use Rattle.book.specs.Formula.{Formula}
use Rattle.run.specs.Run.{Run, open_run}
use Rattle.run.specs.Calls.{Call, decision, backtrack_by, fix_by, backtrack_refusal, step, reference}

abbrev pub checks_of : Run → ℕ → ℕ
checks_of run c = get_or run.checks c 0

-- the count of clause c at the latest accepted backtrack among the calls made from `run` on; `count` where there is none
unfoldable pub count_at_latest : Formula → ℕ → ℕ → Run → List Call → ℕ
count_at_latest formula c count run [] = count
count_at_latest formula c count run (decision l ∷ calls) = count_at_latest formula c count (step formula run (decision l)) calls
count_at_latest formula c count run (backtrack_by k ∷ calls) =
    count_at_latest formula c
    (cond (eqb (backtrack_refusal k run) 0) (checks_of run c) count)
    (step formula run (backtrack_by k))
    calls
count_at_latest formula c count run (fix_by f ∷ calls) = count_at_latest formula c count (step formula run (fix_by f)) calls

-- The checks of clause c when the period began: at the latest accepted backtrack, or 0, as the opening began, where there is none.
abbrev pub count_before : Formula → ℕ → List Call → ℕ
count_before formula c calls = count_at_latest formula c 0 (open_run formula) calls

-- the checks of clause c since the period began
abbrev pub checks_since : Formula → ℕ → List Call → ℕ
checks_since formula c calls = checks_of (reference formula calls) c - count_before formula c calls

-- the ceiling of a clause of n ≥ 2 literals in one period
abbrev pub ceiling : ℕ → ℕ
ceiling n = 2 * n - 3

-- The ceiling of any clause in one period; one of fewer than two literals costs none.
unfoldable pub clause_worst : List ℕ → ℕ
clause_worst clause = cond (leb 2 (length clause)) (ceiling (length clause)) 0

-- W: the ceiling of all clauses together in one period.
unfoldable pub worst : Formula → ℕ
worst formula = sum (map clause_worst formula.clauses)

-- how many backtracks a list of calls asks for, accepted or not
unfoldable pub backtracks_asked : List Call → ℕ
backtracks_asked [] = 0
backtracks_asked (decision l ∷ calls) = backtracks_asked calls
backtracks_asked (backtrack_by k ∷ calls) = suc (backtracks_asked calls)
backtracks_asked (fix_by f ∷ calls) = backtracks_asked calls

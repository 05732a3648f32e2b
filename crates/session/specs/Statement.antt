-- Statements 2 and 3 of the service description: of every session that passes and of what the calls report, and of a whole list of calls on one session.
-- After a call, the levels (K5); after any calls, that what is fixed stays (K7).
use Rattle.std.specs.Prelude.{Result, Ok}
use Rattle.refusals.specs.declared.Refusal.{Refusal}
use Rattle.std.specs.Prelude.{ℕ, suc, ◌+◌, ◌*◌, ◌-◌, ◌≤◌, ◌<◌, ◌≡◌, true, List, [], ◌∷◌, ◌↔◌, ◌⊎◌, length}
use Rattle.base.specs.Lists.{sum, member, distinct}
use Rattle.book.specs.Formula.{Formula, positive, negative}
use Rattle.book.specs.Numbers.{formula_of, well_formed}
use Rattle.run.specs.Trail.{is_true, is_false, decisions, level}
use Rattle.run.specs.Run.{Run, size, clause_of, in_conflict, max_count, trail_behind}
use Rattle.run.specs.Closure.{Closure, BothWays, Since}
use Rattle.run.specs.Calls.{Call, backtrack_refusal, reference, oldest_decisions}
use Rattle.run.specs.Ceiling.{checks_of, count_before, checks_since, ceiling}
use Rattle.layout.specs.Layout.{held}
use Rattle.validation.specs.Validation.{passes}
use Rattle.session.specs.Outcomes.{overwritten, open_refusal, open_answer, open_numbers, decide_answer, decide_numbers, backtrack_numbers, lookup_answer, total_answer, fixed_answer, call_numbers, played_numbers}
use Rattle.session.specs.declared.Propagated.{Propagated}
use Rattle.session.specs.declared.Propagated.TheVariants.{Implied, Conflict}
use Rattle.session.specs.declared.Assigned.TheVariants.{Open, Positive, Negative}

module _ (formula : Formula) where
  -- What an opening or a decision that is accepted reports: by the decisions then in force, what was true before it implied anything, and
  -- the run that the session then holds.
  pub record Reported (ds : List ℕ) (Before : ℕ → Type 0) (after : Run) (answer : Result Propagated Refusal) : Type 0 where
    -- it answers a conflict exactly if the closure of the decisions holds some variable both ways
    pub conflicts : ((name : ℕ) × (answer ≡ Ok (Conflict name))) ↔ BothWays (Closure formula ds)
    -- the clause that it names has a literal, and every one is then false
    pub named : (name : ℕ) → answer ≡ Ok (Conflict name)
        → (c : ℕ) × (name ≡ suc c) × (0 < size formula c) × ((m : ℕ) → member m (clause_of formula c) ≡ true → is_false after.trail m ≡ true)
    -- otherwise it answers how many literals it implied, and these, the last ones on the trail, are just what the closure gained, each once
    pub gained : (BothWays (Closure formula ds) → ⊥)
        → (n : ℕ) × (answer ≡ Ok (Implied n))
        × (length (trail_behind (length after.trail - n) after) ≡ n)
        × (distinct (trail_behind (length after.trail - n) after) ≡ true)
        × ((l : ℕ) → (member l (trail_behind (length after.trail - n) after) ≡ true) ↔ (Closure formula ds l × (Before l → ⊥)))

module _ (book : List ℕ) where
  abbrev formula : Formula
  formula = formula_of book

  abbrev pub OpenReported : List ℕ → Type 0
  OpenReported buffer = Reported formula [] (λ l. ⊥) (held formula (open_numbers book buffer)) (open_answer book (length buffer))

  -- Of every session that passes, whoever lent it, on the run that it holds:
  module _ (session : List ℕ) where
    abbrev run : Run
    run = held formula session

    pub record Statement2 : Type 0 where
      -- out of conflict a literal is true exactly if it is in the closure of the decisions in force
      pub closure : run.conflict ≡ 0 → (l : ℕ) → (is_true run.trail l ≡ true) ↔ Closure formula (decisions run.trail) l
      -- it is in conflict exactly if the closure holds some variable both ways, and the conflict clause then has a literal and is all false
      pub both_ways_lem : (in_conflict run ≡ true) ↔ BothWays (Closure formula (decisions run.trail))
      pub conflict_clause : (c : ℕ) → run.conflict ≡ suc c
          → (0 < size formula c) × ((m : ℕ) → member m (clause_of formula c) ≡ true → is_false run.trail m ≡ true)
      -- and lookup tells it: out of conflict it answers positive, or negative, at some level exactly if that literal of the variable is in the closure
      pub shown_positive : run.conflict ≡ 0 → (v : ℕ) → 1 ≤ v → v ≤ formula.variables
          → ((n : ℕ) × (lookup_answer book session v ≡ Ok (Positive n))) ↔ Closure formula (decisions run.trail) (positive v)
      pub shown_negative : run.conflict ≡ 0 → (v : ℕ) → 1 ≤ v → v ≤ formula.variables
          → ((n : ℕ) × (lookup_answer book session v ≡ Ok (Negative n))) ↔ Closure formula (decisions run.trail) (negative v)
      -- the level that it carries, in conflict too, tells since which decision the literal is true
      pub since_positive : (v n : ℕ) → lookup_answer book session v ≡ Ok (Positive n) → Since formula run n (positive v)
      pub since_negative : (v n : ℕ) → lookup_answer book session v ≡ Ok (Negative n) → Since formula run n (negative v)
      -- and what is so since the n-th decision it shows at level n, out of conflict, and in conflict where a later decision is in force
      pub at_level_positive : (v n : ℕ) → (run.conflict ≡ 0) ⊎ (n < length (decisions run.trail))
          → Since formula run n (positive v) → lookup_answer book session v ≡ Ok (Positive n)
      pub at_level_negative : (v n : ℕ) → (run.conflict ≡ 0) ⊎ (n < length (decisions run.trail))
          → Since formula run n (negative v) → lookup_answer book session v ≡ Ok (Negative n)

    -- a decision of l: before it implied anything, l and the closure of the decisions before it were true
    abbrev pub DecideReported : ℕ → Type 0
    DecideReported l =
        Reported formula (l ∷ decisions run.trail) (λ m. (m ≡ l) ⊎ Closure formula (decisions run.trail) m)
        (held formula (decide_numbers book session l)) (decide_answer book session l)

    -- after one call on it, refused or not
    module _ (call : Call) where
      abbrev after : List ℕ
      after = call_numbers book session call

      -- the decisions that are then in force
      abbrev left : ℕ
      left = length (decisions (held formula after).trail)

      pub record LevelsAfter : Type 0 where
        -- what lookup showed it shows still, at its level, where so many decisions are still in force, and else shows as open
        pub positive_stays : (v n : ℕ) → lookup_answer book session v ≡ Ok (Positive n) → n ≤ left → lookup_answer book after v ≡ Ok (Positive n)
        pub negative_stays : (v n : ℕ) → lookup_answer book session v ≡ Ok (Negative n) → n ≤ left → lookup_answer book after v ≡ Ok (Negative n)
        pub positive_leaves : (v n : ℕ) → lookup_answer book session v ≡ Ok (Positive n) → left < n → lookup_answer book after v ≡ Ok Open
        pub negative_leaves : (v n : ℕ) → lookup_answer book session v ≡ Ok (Negative n) → left < n → lookup_answer book after v ≡ Ok Open
        -- what it showed as open it shows as open still where no decision has joined; what it shows otherwise has joined with a new decision, and is at its level
        pub open_stays : (v : ℕ) → lookup_answer book session v ≡ Ok Open → left ≤ length (decisions run.trail) → lookup_answer book after v ≡ Ok Open
        pub positive_joins : (v n : ℕ) → lookup_answer book session v ≡ Ok Open → lookup_answer book after v ≡ Ok (Positive n)
            → (length (decisions run.trail) < left) × (n ≡ left)
        pub negative_joins : (v n : ℕ) → lookup_answer book session v ≡ Ok Open → lookup_answer book after v ≡ Ok (Negative n)
            → (length (decisions run.trail) < left) × (n ≡ left)

    -- after any calls on it, refused ones included
    module _ (calls : List Call) where
      abbrev later : List ℕ
      later = played_numbers book session calls

      pub record FixedStay : Type 0 where
        -- how many decisions are fixed is told, and has not fallen
        pub told : (fixed_answer book session ≡ Ok run.fixed) × (fixed_answer book later ≡ Ok (held formula later).fixed)
        pub never_falls : run.fixed ≤ (held formula later).fixed
        -- those that were fixed are the same, the oldest ones
        pub same : oldest_decisions run.fixed (held formula later) ≡ oldest_decisions run.fixed run
        -- what lookup showed at their levels, or at level 0, it shows still, in conflict too; and each of them is shown so, at its level
        pub positive_kept : (v n : ℕ) → n ≤ run.fixed → lookup_answer book session v ≡ Ok (Positive n) → lookup_answer book later v ≡ Ok (Positive n)
        pub negative_kept : (v n : ℕ) → n ≤ run.fixed → lookup_answer book session v ≡ Ok (Negative n) → lookup_answer book later v ≡ Ok (Negative n)
        pub shown_positive : (v : ℕ) → member (positive v) (oldest_decisions run.fixed run) ≡ true
            → lookup_answer book later v ≡ Ok (Positive (level run.trail (positive v)))
        pub shown_negative : (v : ℕ) → member (negative v) (oldest_decisions run.fixed run) ≡ true
            → lookup_answer book later v ≡ Ok (Negative (level run.trail (negative v)))

  -- After an accepted opening on any lent numbers and then any calls, refused ones included, of the numbers that are then left:
  module _ (buffer : List ℕ) (calls : List Call) (left : List ℕ) where
    -- the reference run of the calls
    abbrev reached : Run
    reached = reference formula calls

    pub record Statement3 : Type 0 where
      -- what the session holds, count by count, is what the reference run has, and what lay behind its numbers is untouched
      pub holds : held formula left ≡ reached
      pub numbers : left ≡ overwritten formula reached buffer
      -- 11 and 12 never arise
      pub book_passes : well_formed book ≡ true
      pub session_passes : passes formula left ≡ true
      -- as many decisions are fixed as in the reference run
      pub fixed : fixed_answer book left ≡ Ok reached.fixed
      -- the total is the sum of the counts, and no count has stopped at its largest value
      pub total : total_answer book left ≡ Ok (sum reached.checks)
      pub exact : (c : ℕ) → checks_of reached c < max_count
      -- a clause's checks are those before the latest accepted backtrack (none, where there is none) and those since then; of n ≥ 2 literals it
      -- has at most 2 × n − 3 since then, and at most (2 × n − 3) × (b + 1) in all; of one literal or of none it costs nothing
      pub periods : (c : ℕ) → checks_of reached c ≡ count_before formula c calls + checks_since formula c calls
      pub in_period : (c : ℕ) → 2 ≤ size formula c → checks_since formula c calls ≤ ceiling (size formula c)
      pub in_all : (c : ℕ) → 2 ≤ size formula c → checks_of reached c ≤ ceiling (size formula c) * (reached.backtracks + 1)
      pub unscanned : (c : ℕ) → size formula c < 2 → checks_of reached c ≡ 0
      -- a backtrack that is accepted next moves no watch, pointer or list, and makes no check
      pub backtrack_moves_nothing : (k : ℕ) → backtrack_refusal k reached ≡ 0
          → ((held formula (backtrack_numbers book left k)).cells ≡ reached.cells)
          × ((held formula (backtrack_numbers book left k)).lists ≡ reached.lists)
          × ((held formula (backtrack_numbers book left k)).checks ≡ reached.checks)

    -- what `replay` carries of the numbers that it leaves: statement 3, where the opening is accepted
    abbrev pub Replayed : Type 0
    Replayed = open_refusal book (length buffer) ≡ 0 → Statement3

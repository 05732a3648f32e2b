-- Request K14, two agents, one outcome: two sessions on one book, what it is to hold the same decisions, and what is then alike.
use Rattle.std.specs.Prelude.{ℕ, ◌≡◌, true, false, List, Result, Ok, Err}
use Rattle.base.specs.Lists.{member}
use Rattle.book.specs.Numbers.{formula_of}
use Rattle.run.specs.Trail.{is_true, decisions}
use Rattle.run.specs.Run.{Run, in_conflict}
use Rattle.run.specs.Closure.{Contains}
use Rattle.layout.specs.Layout.{held}
use Rattle.refusals.specs.declared.Refusal.{Refusal}
use Rattle.session.specs.Outcomes.{lookup_answer}
use Rattle.session.specs.declared.Assigned.{Assigned}
use Rattle.session.specs.declared.Assigned.TheVariants as assigned

-- The answer to a lookup with its level left out, so that it says no more than open, positive (the paper's wanted), negative (barred) or which refusal.
unfoldable pub unlevelled : Result Assigned Refusal → Result Assigned Refusal
unlevelled (Ok assigned.Open) = Ok assigned.Open
unlevelled (Ok (assigned.Positive level)) = Ok (assigned.Positive 0)
unlevelled (Ok (assigned.Negative level)) = Ok (assigned.Negative 0)
unlevelled (Err refusal) = Err refusal

-- Of two sessions on one book, by the runs that they hold:
module _ (book a b : List ℕ) where
  abbrev run_a : Run
  run_a = held (formula_of book) a

  abbrev run_b : Run
  run_b = held (formula_of book) b

  -- the same decisions (the paper's choices) are in force, in whatever order
  abbrev pub SameDecisions : Type 0
  SameDecisions = (l : ℕ) → member l (decisions run_a.trail) ≡ member l (decisions run_b.trail)

  -- every decision in force in a is in force in b, too, or follows there: it is true in b
  abbrev pub DecisionsTrue : Type 0
  DecisionsTrue = Contains (decisions run_a.trail) (λ (l : ℕ). is_true run_b.trail l ≡ true)

  pub record Agreement : Type 0 where
    -- both are in conflict (the paper's contradiction), or neither is
    pub conflicts : in_conflict run_a ≡ in_conflict run_b
    -- where a is not, so that neither is: every lookup, of any number, says the same in both but for the level
    pub lookups : in_conflict run_a ≡ false → (v : ℕ) → unlevelled (lookup_answer book a v) ≡ unlevelled (lookup_answer book b v)

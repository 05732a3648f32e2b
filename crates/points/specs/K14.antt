-- Points of request K14, evaluated: the same choices in other orders and after other take-backs, one settled already, and in contradiction; and which sentences
-- they refute: that levels are alike, too, and lookups in contradiction.
use Rattle.std.specs.Prelude.{ℕ, ◌≡◌, refl, Bool, true, false, ◌||◌, List, [], ◌∷◌, eqb, Result, Ok, Err}
use Rattle.std.proofs.Common.{arith, sym, ap, ◌∙◌}
use Rattle.base.specs.Lists.{all, any, keep, flat, member, distinct, same, times, table, up_to, without}
use Rattle.book.specs.Formula.{Formula, positive, negative, literal_within, sound_clause, sound}
use Rattle.book.specs.Numbers.{starts, numbers_of, formula_of, clauses_from, rising, well_formed}
use Rattle.run.specs.Trail.{opposite, place, literal_at, is_true, decisions, level, lowered, cut}
use Rattle.run.specs.Scan.{watched, next, one_more, scan_from, scan}
use Rattle.run.specs.Run.{Run, in_conflict, push_front, take_out, add_checks, other_watch, moved, scanned_action, action, on_trail, with_watches, with_conflict, counted, perform_action, visit, read_list, propagate_from, first_cell, watch_all, fresh, assign_unit, assign_units, open_run, decide, backtrack, fix}
use Rattle.run.specs.Calls.{Call, decision, backtrack_by, fix_by, decide_refusal, backtrack_refusal, fix_refusal, refusal, perform_call, step, step_all, reference}
use Rattle.layout.specs.Layout.{value_number, level_number, node_of, watch_literal, first_node, behind, head_number, link_number, watch_number, encode, level_before, held_trail, held_cells, chain_from, held_lists, held}
use Rattle.validation.specs.Validation.{has_reason, is_justified, is_watching, is_guarded, watches_hold, is_fixpoint, is_conflict, is_listed, is_valid, passes, call_refusal, read_refusal}
use Rattle.refusals.specs.declared.Refusal.{Refusal}
use Rattle.refusals.specs.declared.Refusal.TheVariants.{NoVariable}
use Rattle.refusals.specs.Refusals.{refusals, first_with, refusal_of}
use Rattle.session.specs.declared.Assigned.{Assigned}
use Rattle.session.specs.Outcomes.{lookup_refusal, lookup_answer}
use Rattle.session.specs.declared.Assigned.TheVariants.{Open, Positive, Negative}
use Rattle.agreement.specs.Agreement.{unlevelled, SameDecisions}
use Rattle.points.specs.K5.{shown}

-- the rule `-1 3`
abbrev implying : Formula
implying = record { variables = 3; clauses = (negative 1 ∷ positive 3 ∷ []) ∷ [] }

-- the calls of two agents: features 1 and 2, and in the other order, after other choices and take-backs, the first choice fixed
abbrev one_agent : List Call
one_agent = decision (positive 1) ∷ decision (positive 2) ∷ []

abbrev other_agent : List Call
other_agent =
    decision (negative 3) ∷ decision (negative 2) ∷ backtrack_by 2 ∷ decision (positive 2) ∷ fix_by 1 ∷ decision (negative 1) ∷ backtrack_by 1 ∷ decision (positive 1) ∷ []

-- 1 and then 3, which is settled by then, and 3 and then 1
abbrev assigned_already : List Call
assigned_already = decision (positive 1) ∷ decision (positive 3) ∷ []

abbrev both_in_force : List Call
both_in_force = decision (positive 3) ∷ decision (positive 1) ∷ []

-- the rules `-1 3 -2` and `-2 -3 -1`, and features 1 and 2 in the other order
abbrev opposing : Formula
opposing = record { variables = 3; clauses = (negative 1 ∷ positive 3 ∷ negative 2 ∷ []) ∷ (negative 2 ∷ negative 3 ∷ negative 1 ∷ []) ∷ [] }

abbrev other_order : List Call
other_order = decision (positive 2) ∷ decision (positive 1) ∷ []

-- the session that holds the run of some calls on a book
abbrev session : Formula → List Call → List ℕ
session formula calls = encode formula (reference formula calls)

-- the run that it holds
abbrev held_run : Formula → List Call → Run
held_run formula calls = held (formula_of (numbers_of formula)) (session formula calls)

swapped : (p q : Bool) → (p || (q || false)) ≡ (q || (p || false))
swapped true true = refl
swapped true false = refl
swapped false true = refl
swapped false false = refl

pub record Points : Type 0 where
  -- The same choices are in force in two sessions that pass, with other counts of take-backs and of fixed choices.
  pub one_passes : read_refusal (numbers_of implying) (session implying one_agent) ≡ 0
  pub other_passes : read_refusal (numbers_of implying) (session implying other_agent) ≡ 0
  pub same_decisions : SameDecisions (numbers_of implying) (session implying one_agent) (session implying other_agent)
  pub one_decisions : decisions (reference implying one_agent).trail ≡ positive 2 ∷ positive 1 ∷ []
  pub other_decisions : decisions (reference implying other_agent).trail ≡ positive 1 ∷ positive 2 ∷ []
  pub one_backtracks : (reference implying one_agent).backtracks ≡ 0
  pub other_backtracks : (reference implying other_agent).backtracks ≡ 2
  pub one_fixed : (reference implying one_agent).fixed ≡ 0
  pub other_fixed : (reference implying other_agent).fixed ≡ 1
  -- Neither is in contradiction, and the features are settled alike, at other levels.
  pub one_quiet : in_conflict (held_run implying one_agent) ≡ false
  pub other_quiet : in_conflict (held_run implying other_agent) ≡ false
  pub one_1 : shown implying one_agent 1 ≡ Ok (Positive 1)
  pub one_2 : shown implying one_agent 2 ≡ Ok (Positive 2)
  pub one_3 : shown implying one_agent 3 ≡ Ok (Positive 1)
  pub other_1 : shown implying other_agent 1 ≡ Ok (Positive 2)
  pub other_2 : shown implying other_agent 2 ≡ Ok (Positive 1)
  pub other_3 : shown implying other_agent 3 ≡ Ok (Positive 2)
  pub one_unlevelled : unlevelled (shown implying one_agent 3) ≡ Ok (Positive 0)
  pub other_unlevelled : unlevelled (shown implying other_agent 3) ≡ Ok (Positive 0)
  pub one_refused : unlevelled (shown implying one_agent 4) ≡ Err NoVariable
  pub other_refused : unlevelled (shown implying other_agent 4) ≡ Err NoVariable
  -- A choice that is settled already is refused, and so is not in force; the outcome is that of both choices.
  pub assigned : refusal implying (decision (positive 3)) (reference implying (decision (positive 1) ∷ [])) ≡ 15
  pub assigned_decisions : decisions (reference implying assigned_already).trail ≡ positive 1 ∷ []
  pub both_decisions : decisions (reference implying both_in_force).trail ≡ positive 1 ∷ positive 3 ∷ []
  pub assigned_1 : shown implying assigned_already 1 ≡ Ok (Positive 1)
  pub assigned_2 : shown implying assigned_already 2 ≡ Ok Open
  pub assigned_3 : shown implying assigned_already 3 ≡ Ok (Positive 1)
  pub both_1 : shown implying both_in_force 1 ≡ Ok (Positive 2)
  pub both_2 : shown implying both_in_force 2 ≡ Ok Open
  pub both_3 : shown implying both_in_force 3 ≡ Ok (Positive 1)
  -- In contradiction the rules that are named, and what lookups say, may differ with the order.
  pub one_contradicts : read_refusal (numbers_of opposing) (session opposing one_agent) ≡ 0
  pub other_contradicts : read_refusal (numbers_of opposing) (session opposing other_order) ≡ 0
  pub contradicting_decisions : SameDecisions (numbers_of opposing) (session opposing one_agent) (session opposing other_order)
  pub one_conflict : (held_run opposing one_agent).conflict ≡ 2
  pub other_conflict : (held_run opposing other_order).conflict ≡ 1
  pub one_in_conflict : shown opposing one_agent 3 ≡ Ok (Positive 2)
  pub other_in_conflict : shown opposing other_order 3 ≡ Ok (Negative 2)

pub points : Points
unfolding refusal_of first_with refusals unlevelled lookup_refusal lookup_answer any distinct times table up_to sound_clause sound starts numbers_of clauses_from rising well_formed value_number level_number node_of watch_literal first_node behind head_number link_number watch_number encode level_before held_trail held_cells chain_from held_lists held has_reason is_justified is_watching is_guarded watches_hold is_fixpoint is_conflict is_listed is_valid passes call_refusal read_refusal all flat member same literal_within opposite place literal_at is_true decisions level lowered cut watched next one_more scan_from scan push_front without take_out add_checks other_watch moved scanned_action action on_trail with_watches with_conflict counted perform_action visit read_list propagate_from first_cell watch_all fresh assign_unit assign_units open_run decide backtrack fix decide_refusal backtrack_refusal fix_refusal refusal perform_call step step_all reference keep
points =
    record {
      one_passes = refl;
      other_passes = refl;
      same_decisions = λ l. swapped (eqb l (positive 2)) (eqb l (positive 1));
      one_decisions = refl;
      other_decisions = refl;
      one_backtracks = refl;
      other_backtracks = refl;
      one_fixed = refl;
      other_fixed = refl;
      one_quiet = refl;
      other_quiet = refl;
      one_1 = refl;
      one_2 = refl;
      one_3 = refl;
      other_1 = refl;
      other_2 = refl;
      other_3 = refl;
      one_unlevelled = refl;
      other_unlevelled = refl;
      one_refused = refl;
      other_refused = refl;
      assigned = refl;
      assigned_decisions = refl;
      both_decisions = refl;
      assigned_1 = refl;
      assigned_2 = refl;
      assigned_3 = refl;
      both_1 = refl;
      both_2 = refl;
      both_3 = refl;
      one_contradicts = refl;
      other_contradicts = refl;
      contradicting_decisions = λ l. swapped (eqb l (positive 2)) (eqb l (positive 1));
      one_conflict = refl;
      other_conflict = refl;
      one_in_conflict = refl;
      other_in_conflict = refl;
    }

-- `two_agents` with another end: what would hold of two sessions on one book that pass and hold the same decisions
abbrev Claim : (List ℕ → List ℕ → List ℕ → Type 0) → Type 0
Claim Claimed = (book a b : List ℕ) → read_refusal book a ≡ 0 → read_refusal book b ≡ 0 → SameDecisions book a b → Claimed book a b

-- It is false that out of conflict positive variables have the same level,
pub levels_refuted : Claim (λ book a b. in_conflict (held (formula_of book) a) ≡ false
    → (v m n : ℕ) → lookup_answer book a v ≡ Ok (Positive m) → lookup_answer book b v ≡ Ok (Positive n) → m ≡ n) → ⊥
levels_refuted claim =
    let alike = claim (numbers_of implying) (session implying one_agent) (session implying other_agent) points.one_passes points.other_passes points.same_decisions in
    let levels : ◌≡◌ {A = ℕ} 1 2 = alike points.one_quiet 1 1 2 points.one_1 points.other_1 in
    absurd (omega arith)

-- and that lookups are alike but for the level wherever both are in conflict or neither is.
pub conflict_refuted : Claim (λ book a b. in_conflict (held (formula_of book) a) ≡ in_conflict (held (formula_of book) b)
    → (v : ℕ) → unlevelled (lookup_answer book a v) ≡ unlevelled (lookup_answer book b v)) → ⊥
unfolding unlevelled
conflict_refuted claim =
    let alike = claim (numbers_of opposing) (session opposing one_agent) (session opposing other_order) points.one_contradicts points.other_contradicts points.contradicting_decisions in
    let both-in : in_conflict (held_run opposing one_agent) ≡ in_conflict (held_run opposing other_order) = rw (points.one_conflict, points.other_conflict) in
    let signs : ◌≡◌ {A = Result Assigned Refusal} (Ok (Positive 0)) (Ok (Negative 0)) = sym (ap unlevelled points.one_in_conflict) ∙ alike both-in 3 ∙ ap unlevelled points.other_in_conflict in
    let z : ◌≡◌ {A = ℕ} 0 1 = cc in absurd (omega arith)

-- What holds of every premium: its amount is bounded at every line, and it follows from the book, the decisions, the base and the list.
use Prim.Native.Nat.{ℕ, ◌≤◌}
use mathlib.Core.Bool.{Bool, true, false, cond, not, ◌||◌}
use mathlib.Core.List.{List, [], ◌∷◌}
use mathlib.Core.Logic.{◌↔◌, ◌⊎◌, inl, inr}
use mathlib.Core.Path.{◌≡◌, refl, sym, ap, ap₂, ◌∙◌}
use native.Mathlib.Omega.{arith}
use borrow.Author.Tests.{eqb-true}
use lib.Dec.{eqb}
use lib.IntN.{ℤ, nat_abs}
use lib.ListN.{length, take, drop, take-append-drop}
use lib.Seq.{take_all}
use Rattle.base.specs.Lists.{all, member, keep}
use Rattle.base.proofs.Bools.{never, and_parts, same_test}
use Rattle.base.proofs.Counts.{one_most, count_few}
use Rattle.book.specs.Formula.{variable_of, positive, negative, literal_within, sound}
use Rattle.book.specs.Numbers.{variables_of, formula_of}
use Rattle.book.proofs.SoundLaws.{literal_parts}
use Rattle.book.proofs.WellFormedLaws.{well_formed_sound}
use Rattle.run.specs.Trail.{opposite, is_true, decisions}
use Rattle.run.specs.Run.{Run, in_conflict}
use Rattle.run.specs.Closure.{Closure}
use Rattle.run.specs.Valid.{Valid}
use Rattle.run.proofs.Conflicts.{quiet_out, out_quiet}
use Rattle.run.proofs.Opposites.{same_variable, opposite_opposite, opposite_positive}
use Rattle.run.proofs.Theorems.{same_decisions_agree, conflicting_decisions}
use Rattle.layout.specs.Layout.{held}
use Rattle.validation.specs.Validation.{read_refusal}
use Rattle.std.specs.Prelude.{Ok, Err, Option, Some, None}
use Rattle.refusals.specs.Refusals.{refusal_of}
use Rattle.session.specs.Outcomes.{lookup_answer}
use Rattle.session.specs.declared.Assigned.TheVariants as assigned
use Rattle.session.proofs.PassedLaws.{well, facts, own_refusal}
use Rattle.session.proofs.LookupLaws.{shows_open}
use Rattle.session.proofs.Statements.{statement_2}
use Rattle.rating.specs.Pricing.{max_running, lines_of, line_within, list_within, priced_by, open_lines, one_if_open, offered, premium_of, rates_within, run_refusal, price_refusal, premium_answer, line_open}
use Rattle.rating.specs.Statement.{after, Bounded}
use Rattle.rating.specs.declared.RateLine.{RateLine}
use Rattle.rating.proofs.PricingLaws.{Small, at_small, priced_small, priced_append, priced_beyond, open_first, priced_alike, open_alike, list_parts, line_parts}
use Rattle.rating.proofs.AnswerLaws.{base_small, accepted_price, answered}

open_is_neither : (a b : Bool) → (◌≡◌ {A = ℕ} (cond (not (a || b)) 1 0) 1) ↔ ((a ≡ false) × (b ≡ false))
open_is_neither true b = (λ e. absurd (omega (arith, e)), λ k. absurd (never refl k.0))
open_is_neither false true = (λ e. absurd (omega (arith, e)), λ k. absurd (never refl k.1))
open_is_neither false false = (λ e. (refl, refl), λ k. refl)

-- A line is open exactly where lookup tells that its variable is.
pub open_by_lookup : (book session : List ℕ) → read_refusal book session ≡ 0 → (l : ℕ) → literal_within (variables_of book) l ≡ true
    → (one_if_open (is_true (held (formula_of book) session).trail) l ≡ 1) ↔ (lookup_answer book session (variable_of l) ≡ Ok assigned.Open)
open_by_lookup book session e l within = go (same_variable (positive (variable_of l)) l (omega arith))
  where
    holds : ℕ → Bool
    holds = is_true (held (formula_of book) session).trail

    shows : (lookup_answer book session (variable_of l) ≡ Ok assigned.Open) ↔ ((holds (positive (variable_of l)) ≡ false) × (holds (negative (variable_of l)) ≡ false))
    shows =
        let parts = literal_parts (variables_of book) l within in
        shows_open book session (sym e) (variable_of l) (omega (arith, parts.0)) (omega (arith, parts.1))

    is_open : (one_if_open holds l ≡ 1) ↔ ((holds l ≡ false) × (holds (opposite l) ≡ false))
    is_open = open_is_neither (holds l) (holds (opposite l))

    go : (positive (variable_of l) ≡ l) ⊎ (positive (variable_of l) ≡ opposite l) → (one_if_open holds l ≡ 1) ↔ (lookup_answer book session (variable_of l) ≡ Ok assigned.Open)
    go (inl is) =
        let other : negative (variable_of l) ≡ opposite l = sym (opposite_positive (variable_of l)) ∙ ap opposite is in (
          λ o. let k = is_open.0 o in shows.1 (ap holds is ∙ k.0, ap holds other ∙ k.1),
          λ a. let k = shows.0 a in is_open.1 (sym (ap holds is) ∙ k.0, sym (ap holds other) ∙ k.1),
        )
    go (inr is) =
        let other : negative (variable_of l) ≡ l = sym (opposite_positive (variable_of l)) ∙ ap opposite is ∙ opposite_opposite l in (
          λ o. let k = is_open.0 o in shows.1 (ap holds is ∙ k.1, ap holds other ∙ k.0),
          λ a. let k = shows.0 a in is_open.1 (sym (ap holds other) ∙ k.1, sym (ap holds is) ∙ k.0),
        )

-- lines none of whose variables is open
none_open_lines : (holds : ℕ → Bool) (v : ℕ) → ((l : ℕ) → literal_within v l ≡ true → one_if_open holds l ≡ 1 → ⊥)
    → (lines : List RateLine) → all (line_within v) lines ≡ true → open_lines holds lines ≡ 0
unfolding all open_lines keep
none_open_lines holds v shut [] e = refl
none_open_lines holds v shut (line ∷ lines) e =
    let parts = and_parts (line_within v line) (all (line_within v) lines) e in
    let not-one = shut line.literal (line_parts v line parts.0).0 in
    omega (arith, open_first holds line lines, one_most (line_open holds) line, not-one, none_open_lines holds v shut lines parts.1)

module _ (book session : List ℕ) (base : ℤ) (numbers : List ℤ) where
  abbrev run : Run
  run = held (formula_of book) session

  abbrev lines : List RateLine
  lines = lines_of numbers

  -- from a start within the limit of the running amount on
  pub bounded_from : nat_abs base ≤ max_running → list_within (variables_of book) numbers ≡ true → (amount : ℤ) (n : ℕ)
      → priced_by (is_true run.trail) (Some base) lines ≡ Some amount → open_lines (is_true run.trail) lines ≡ n → Bounded book session base numbers amount n
  unfolding open_lines
  bounded_from most list_right amount n priced counted =
      let small = at_small base most in
      let few-of-them : open_lines (is_true run.trail) lines ≤ length lines = count_few (line_open (is_true run.trail)) lines in
      let whole : after book session base numbers (length lines) ≡ Some amount
      = ap (priced_by (is_true run.trail) (Some base)) (take_all (length lines) lines (omega arith)) ∙ priced in
      record {
        every_line = λ j.
            let parted : priced_by (is_true run.trail) (after book session base numbers j) (drop j lines) ≡ Some amount
            = sym (priced_append (is_true run.trail) (take j lines) (drop j lines) (Some base)) ∙ ap (priced_by (is_true run.trail) (Some base)) (take-append-drop j lines) ∙ priced in
            go (drop j lines) (after book session base numbers j) refl parted (priced_small (is_true run.trail) (take j lines) (Some base) small);
        last = whole;
        amount_within = priced_small (is_true run.trail) lines (Some base) small amount priced;
        few_open = omega (arith, counted, few-of-them);
        few_lines = (list_parts (variables_of book) numbers list_right).1;
      }
    where
      go : (rest : List RateLine) (state : Option ℤ) {now : Option ℤ} → now ≡ state → priced_by (is_true run.trail) now rest ≡ Some amount → Small now
          → (running : ℤ) × (now ≡ Some running) × (nat_abs running ≤ max_running)
      go rest (Some x) is ends small = (x, is, small x is)
      go rest None is ends small =
          let w = sym (priced_beyond (is_true run.trail) rest) ∙ ap (λ (s : Option ℤ). priced_by (is_true run.trail) s rest) (sym is) ∙ ends in
          cc

  -- An amount that is answered is within its limit at every line.
  pub amount_bounded : (amount : ℤ) (n : ℕ) → premium_answer book session base numbers ≡ Ok (record { amount = amount; open_lines = n }) → Bounded book session base numbers amount n
  amount_bounded amount n e =
      let told = answered book session base numbers amount n e in
      let known = accepted_price book session base numbers told.0 in
      bounded_from (base_small base known.base_right) known.list_right amount n told.1 told.2

  -- Out of conflict a line applies exactly if its literal is in the closure of the decisions in force: whatever test says of each literal whether it is in the
  -- closure, what the lines come to follows from it, the start and the list;
  pub offered_by_closure : read_refusal book session ≡ 0 → run.conflict ≡ 0
      → (holds : ℕ → Bool) → ((l : ℕ) → (holds l ≡ true) ↔ Closure (formula_of book) (decisions run.trail) l)
      → premium_of base lines (Ok run) ≡ offered (open_lines holds lines) (priced_by holds (Some base) lines)
  offered_by_closure passed out holds by-closure =
      let closed = (statement_2 book session passed).closure out in
      let agree : (l : ℕ) → is_true run.trail l ≡ holds l
      = λ l. same_test (is_true run.trail l) (holds l) (λ t. (by-closure l).1 ((closed l).0 t)) (λ t. (closed l).1 ((by-closure l).0 t)) in
      ap₂ offered (open_alike (is_true run.trail) holds agree lines) (priced_alike (is_true run.trail) holds agree lines (Some base))

  -- and so does the answer.
  pub price_by_closure : 0 ≡ price_refusal book session base numbers
      → (holds : ℕ → Bool) → ((l : ℕ) → (holds l ≡ true) ↔ Closure (formula_of book) (decisions run.trail) l)
      → premium_answer book session base numbers ≡ offered (open_lines holds lines) (priced_by holds (Some base) lines)
  unfolding premium_answer
  price_by_closure e holds by-closure =
      let known = accepted_price book session base numbers e in
      rw (← e) (offered_by_closure known.passes known.out holds by-closure)

  -- Where no variable is open, no line is.
  pub all_assigned : (amount : ℤ) (n : ℕ) → premium_answer book session base numbers ≡ Ok (record { amount = amount; open_lines = n })
      → ((v : ℕ) → 1 ≤ v → v ≤ variables_of book → lookup_answer book session v ≡ Ok assigned.Open → ⊥) → n ≡ 0
  all_assigned amount n e none_open =
      let told = answered book session base numbers amount n e in
      let known = accepted_price book session base numbers told.0 in
      sym told.2
      ∙ none_open_lines (is_true run.trail) (variables_of book)
      (λ l within is_open.
      let parts = literal_parts (variables_of book) l within in
      none_open (variable_of l) (omega (arith, parts.0)) (omega (arith, parts.1)) ((open_by_lookup book session known.passes l within).0 is_open))
      lines (list_parts (variables_of book) numbers known.list_right).2

-- what a session that passes is refused by, without 11 and 12
own_price : (book session : List ℕ) (base : ℤ) (numbers : List ℤ) → 0 ≡ read_refusal book session
    → price_refusal book session base numbers ≡ run_refusal (rates_within book base numbers) (held (formula_of book) session)
unfolding price_refusal
own_price book session base numbers none = own_refusal book session none (run_refusal (rates_within book base numbers))

-- Two sessions on one book that pass and hold the same decisions, in whatever order:
module _ (book a b : List ℕ) (e : read_refusal book a ≡ 0) (f : read_refusal book b ≡ 0)
    (same : (l : ℕ) → member l (decisions (held (formula_of book) a).trail) ≡ member l (decisions (held (formula_of book) b).trail)) where
  abbrev run_a : Run
  run_a = held (formula_of book) a

  abbrev run_b : Run
  run_b = held (formula_of book) b

  s : sound (formula_of book) ≡ true
  s = well_formed_sound book (well book a (sym e))

  valid_a : Valid (formula_of book) run_a
  valid_a = (facts book a (sym e)).0

  valid_b : Valid (formula_of book) run_b
  valid_b = (facts book b (sym f)).0

  alike : in_conflict run_a ≡ in_conflict run_b
  alike =
      same_test (in_conflict run_a) (in_conflict run_b) (conflicting_decisions (formula_of book) run_a run_b s valid_a valid_b same)
      (conflicting_decisions (formula_of book) run_b run_a s valid_b valid_a (λ l. sym (same l)))

  module _ (base : ℤ) (numbers : List ℤ) where
    -- the lines come to the same in both, from any start on
    pub same_offered : 0 ≡ price_refusal book b base numbers → (start : ℤ) → premium_of start (lines_of numbers) (Ok run_a) ≡ premium_of start (lines_of numbers) (Ok run_b)
    same_offered quiet start =
        let out = (accepted_price book b base numbers quiet).out in
        let agree = same_decisions_agree (formula_of book) run_a run_b s valid_a valid_b same (out_quiet run_a (alike ∙ quiet_out run_b out)) out in
        ap₂ offered (open_alike (is_true run_a.trail) (is_true run_b.trail) agree (lines_of numbers))
        (priced_alike (is_true run_a.trail) (is_true run_b.trail) agree (lines_of numbers) (Some start))

    pub same_refusal : price_refusal book a base numbers ≡ price_refusal book b base numbers
    same_refusal = own_price book a base numbers (sym e) ∙ rw alike (sym (own_price book b base numbers (sym f)))

    -- they are priced alike, refused or not.
    pub same_decisions_same_price : premium_answer book a base numbers ≡ premium_answer book b base numbers
    unfolding premium_answer
    same_decisions_same_price = rw same_refusal (go (eqb (price_refusal book b base numbers) 0) refl)
      where
        go : (t : Bool) → eqb (price_refusal book b base numbers) 0 ≡ t
            → premium_of base (lines_of numbers) (cond t (Ok run_a) (Err (refusal_of (price_refusal book b base numbers))))
            ≡ premium_of base (lines_of numbers) (cond t (Ok run_b) (Err (refusal_of (price_refusal book b base numbers))))
        go true q = same_offered (sym (eqb-true _ 0 q)) base
        go false q = refl

-- The level that lookup carries: at most the decisions in force and 500, a decision's own, 0 after an opening, and what a call leaves of it.
use Rattle.std.specs.Prelude.{Ok}
use Prim.Native.Nat.{ℕ, ◌-◌, ◌≤◌, ◌<◌}
use native.Mathlib.Omega.{arith}
use mathlib.Core.Path.{◌≡◌, ap, sym, ◌∙◌}
use mathlib.Core.Bool.{true, false}
use mathlib.Core.List.{List}
use mathlib.Core.Logic.{◌⊎◌, ⊎_elim}
use lib.ListN.{length, get_or}
use Rattle.base.proofs.Bools.{refuted}
use Rattle.base.proofs.Members.{member_at}
use Rattle.book.specs.Formula.{positive, negative}
use Rattle.book.specs.Numbers.{formula_of}
use Rattle.book.proofs.WellFormedLaws.{well_formed_sound}
use Rattle.run.specs.Trail.{is_true, decisions, level}
use Rattle.run.specs.Run.{Run}
use Rattle.run.specs.Calls.{Call}
use Rattle.run.proofs.Levels.{level_within}
use Rattle.run.proofs.Theorems.{open_undecided}
use Rattle.run.proofs.ClosureLaws.{decisions_true}
use Rattle.run.proofs.Since.{Aged, decision_level, call_ages}
use Rattle.layout.specs.Layout.{held}
use Rattle.layout.proofs.TrailLaws.{decisions_within}
use Rattle.validation.specs.Validation.{read_refusal}
use Rattle.session.specs.Outcomes.{lookup_answer, call_numbers, open_refusal, open_numbers}
use Rattle.session.specs.Statement.{LevelsAfter}
use Rattle.session.specs.declared.Assigned.TheVariants.{Positive, Negative}
use Rattle.session.proofs.PassedLaws.{well, facts, count_is, count_within, true_within}
use Rattle.session.proofs.LookupLaws.{Looked, not_both, shows_positive, shows_negative, shows_open, positive_shown, negative_shown, open_shown}
use Rattle.session.proofs.Statements.{call_holds, call_passes, open_holds}

module _ (book session : List ℕ) where
  abbrev run : Run
  run = held (formula_of book) session

  -- Of any numbers: the level that lookup answers is at most the decisions in force, and at most 500.
  pub lookup_level_within : (v n : ℕ) → (lookup_answer book session v ≡ Ok (Positive n)) ⊎ (lookup_answer book session v ≡ Ok (Negative n))
      → (n ≤ length (decisions run.trail)) × (n ≤ 500)
  lookup_level_within v n a =
      ⊎_elim (λ p. let shown = positive_shown book session v n p in bounds (positive v) shown.0 shown.1.1)
      (λ p. let shown = negative_shown book session v n p in bounds (negative v) shown.0 shown.1.1) a
    where
      bounds : (l : ℕ) → Looked book session v → level run.trail l ≡ n → (n ≤ length (decisions run.trail)) × (n ≤ 500)
      bounds l looked is =
          let low = level_within run.trail l in
          (omega arith, omega (arith, decisions_within run.trail, count_is book session looked.none, count_within book session looked.none))

  -- Of every session that passes: lookup shows the n-th decision in force at level n.
  module _ (e : read_refusal book session ≡ 0) (n : ℕ) (low : 1 ≤ n) (high : n ≤ length (decisions run.trail)) where
    abbrev nth : ℕ
    nth = get_or (decisions run.trail) (length (decisions run.trail) - n) 0

    nth-true : is_true run.trail nth ≡ true
    nth-true = decisions_true run.trail nth (member_at (decisions run.trail) (length (decisions run.trail) - n) (omega arith))

    nth-level : level run.trail nth ≡ n
    nth-level =
        omega (arith, decision_level run.trail (facts book session (sym e)).0.trail_distinct (length (decisions run.trail) - n) (omega arith))

    pub decision_shown : (v : ℕ)
        → (nth ≡ positive v → lookup_answer book session v ≡ Ok (Positive n)) × (nth ≡ negative v → lookup_answer book session v ≡ Ok (Negative n))
    decision_shown v =
        let bounds = true_within book session (sym e) nth nth-true in (
          λ p. (shows_positive book session (sym e) v (omega arith) (omega arith) n).1 (rw p at nth-true, rw p at nth-level),
          λ p. (shows_negative book session (sym e) v (omega arith) (omega arith) n).1 (rw p at nth-true, rw p at nth-level),
        )

  -- where one of its literals is true, the other one is not
  other-untrue : 0 ≡ read_refusal book session → (v : ℕ)
      → (is_true run.trail (positive v) ≡ true → is_true run.trail (negative v) ≡ false)
      × (is_true run.trail (negative v) ≡ true → is_true run.trail (positive v) ≡ false)
  other-untrue none v =
      let both = not_both book session none v in
      (λ t. refuted (is_true run.trail (negative v)) (λ f. both t f), λ f. refuted (is_true run.trail (positive v)) (λ t. both t f))

  module _ (call : Call) where
    abbrev after : List ℕ
    after = call_numbers book session call

    abbrev left : ℕ
    left = length (decisions (held (formula_of book) after).trail)

    aged : (l : ℕ) → 0 ≡ read_refusal book session → Aged run.trail (held (formula_of book) after).trail l
    aged l none =
        rw (call_holds book session (sym none) call)
        (call_ages (formula_of book) (well_formed_sound book (well book session none)) run (facts book session none).0 l call)

    passes-after : 0 ≡ read_refusal book session → 0 ≡ read_refusal book after
    passes-after none = sym (call_passes book session (sym none) call)

    -- where a literal has left, no decision has joined, and so no other literal
    gone : (l m : ℕ) → 0 ≡ read_refusal book session → is_true run.trail l ≡ true → is_true run.trail m ≡ false → left < level run.trail l
        → (is_true (held (formula_of book) after).trail l ≡ false) × (is_true (held (formula_of book) after).trail m ≡ false)
    gone l m none t untrue high = (
      (aged l none).leaves t high,
      refuted (is_true (held (formula_of book) after).trail m)
          (λ joined. let more = ((aged m none).joins untrue joined).0 in omega (arith, level_within run.trail l)),
    )

    -- Of any numbers: what lookup shows after a call, refused or not.
    pub levels_after : LevelsAfter book session call
    levels_after =
        record {
          positive_stays = λ v n a low.
              let shown = positive_shown book session v n a in
              let still = (aged (positive v) shown.0.none).stays shown.1.0 (omega arith) in
              (shows_positive book after (passes-after shown.0.none) v shown.0.low shown.0.high n).1 (still.0, still.1 ∙ shown.1.1);
          negative_stays = λ v n a low.
              let shown = negative_shown book session v n a in
              let still = (aged (negative v) shown.0.none).stays shown.1.0 (omega arith) in
              (shows_negative book after (passes-after shown.0.none) v shown.0.low shown.0.high n).1 (still.0, still.1 ∙ shown.1.1);
          positive_leaves = λ v n a high.
              let shown = positive_shown book session v n a in
              let none = gone (positive v) (negative v) shown.0.none shown.1.0 ((other-untrue shown.0.none v).0 shown.1.0) (omega arith) in
              (shows_open book after (passes-after shown.0.none) v shown.0.low shown.0.high).1 none;
          negative_leaves = λ v n a high.
              let shown = negative_shown book session v n a in
              let none = gone (negative v) (positive v) shown.0.none shown.1.0 ((other-untrue shown.0.none v).1 shown.1.0) (omega arith) in
              (shows_open book after (passes-after shown.0.none) v shown.0.low shown.0.high).1 (none.1, none.0);
          open_stays = λ v a few.
              let before = open_shown book session v a in
              let untrue : (l : ℕ) → is_true run.trail l ≡ false → is_true (held (formula_of book) after).trail l ≡ false
              = λ l none. refuted (is_true (held (formula_of book) after).trail l) (λ t. let more = ((aged l before.0.none).joins none t).0 in omega arith) in
              (shows_open book after (passes-after before.0.none) v before.0.low before.0.high).1
              (untrue (positive v) before.1.0, untrue (negative v) before.1.1);
          positive_joins = λ v n a b.
              let before = open_shown book session v a in
              let shown = positive_shown book after v n b in
              let joined = (aged (positive v) before.0.none).joins before.1.0 shown.1.0 in
              (joined.0, sym shown.1.1 ∙ joined.1);
          negative_joins = λ v n a b.
              let before = open_shown book session v a in
              let shown = negative_shown book after v n b in
              let joined = (aged (negative v) before.0.none).joins before.1.1 shown.1.0 in
              (joined.0, sym shown.1.1 ∙ joined.1);
        }

-- After an accepted opening lookup shows every variable as open or at level 0, whatever was lent.
pub opening_level : (book buffer : List ℕ) → open_refusal book (length buffer) ≡ 0 → (v n : ℕ)
    → (lookup_answer book (open_numbers book buffer) v ≡ Ok (Positive n)) ⊎ (lookup_answer book (open_numbers book buffer) v ≡ Ok (Negative n)) → n ≡ 0
opening_level book buffer e v n a =
    let within = (lookup_level_within book (open_numbers book buffer) v n a).0 in
    let undecided : length (decisions (held (formula_of book) (open_numbers book buffer)).trail) ≡ 0 =
    ap (λ (run : Run). length (decisions run.trail)) (open_holds book buffer e) ∙ ap length (open_undecided (formula_of book)) in
    omega arith

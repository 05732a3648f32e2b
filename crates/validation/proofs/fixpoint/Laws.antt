-- The fixpoint of one clause, by the heights of its literals, and of all clauses of a book.
use Prim.Native.Nat.{ℕ, suc, ◌+◌, ◌*◌, ◌-◌, ◌≤◌, ◌<◌}
use native.Mathlib.Omega.{arith}
use mathlib.Core.Bool.{Bool, true, false, cond}
use mathlib.Core.List.{List}
use mathlib.Core.Logic.{◌⊎◌, inl, inr, ⊎_elim}
use mathlib.Core.Path.{◌≡◌, refl, sym, subst, ap, ◌∙◌}
use lib.Dec.{leb}
use lib.ListN.{length, get_or}
use Rattle.std.specs.Prelude.{Some}
use Rattle.book.specs.Numbers.{variables_of, clauses_of, clause_at, formula_of}
use Rattle.book.proofs.PartLaws.{clauses_counted, clause_of_formula}
use Rattle.run.specs.Trail.{Entry, opposite, place, level, lowered}
use Rattle.run.specs.Scan.{Cell}
use Rattle.run.specs.Run.{clause_of, size, cell_of}
use Rattle.run.specs.Valid.{first_watch, second_watch, Fixpoint}
use Rattle.run.proofs.Clauses.{clause_exists}
use Rattle.run.proofs.Trails.{true_place, place_true, place_within}
use Rattle.run.specs.Progress.{Guard, BothGuarded}
use Rattle.run.proofs.Propagation.{guarded_holds, holds_guarded}
use Rattle.layout.specs.Layout.{decisions_at, levels_at, watches_at, held}
use Rattle.validation.specs.Inner.Says.{Says}
use Rattle.validation.specs.Inner.Cells.{CellsGood}
use Rattle.validation.specs.Inner.Fixpoint.{FixpointOn, height, ClauseFixpoint}
use Rattle.validation.specs.Inner.Places.{Readable, TrailPassed, PlaceOf, trail_of, trail_on}
use Rattle.validation.proofs.ReadLaws.{read_before}
use Rattle.validation.proofs.SaysLaws.{says_up_to}
use Rattle.layout.proofs.HeldLaws.{get_or_cells}
use Rattle.layout.proofs.TrailLaws.{level_read}
use Rattle.validation.proofs.fixpoint.HeightLaws.{HeightCase, height_on, height_cases, chosen_distinct, chosen_off, chosen_top, chosen_on}

-- what is read at the place p of a literal
module _ (v : ℕ) (numbers : List ℕ) (r : Readable v numbers) (l : ℕ) where
  short : length (trail_of v numbers) ≤ v
  short = omega (arith, r.good.is_held.count, r.good.count_within)

  pub level_off : (lower : Bool) → place (trail_of v numbers) l ≡ 0 → height (trail_on v numbers lower) l ≡ 0
  level_off lower off = chosen_off (trail_of v numbers) r.good.once lower l off

  module _ (p : ℕ) (there : PlaceOf (trail_of v numbers) l (Some p)) where
    module _ (levels : ℕ) (levels-are : levels ≡ levels_at v) (lower : Bool) where
      level-there : get_or numbers (levels + (p - 1)) 0 ≡ level (trail_of v numbers) l
      level-there =
          read_before numbers levels-are (sym there.1)
          ∙ level_read v numbers (trail_of v numbers) r.good.is_held r.good.once l (omega arith) short

      pub level_top : lower ≡ true → get_or numbers (levels + (p - 1)) 0 ≡ get_or numbers decisions_at 0
          → height (trail_on v numbers lower) l ≡ 0
      level_top low top =
          chosen_top (trail_of v numbers) r.good.once lower l low (sym level-there ∙ (top ∙ r.good.is_held.decided))

      pub level_on : (lower ≡ false) ⊎ (get_or numbers (levels + (p - 1)) 0 ≡ get_or numbers decisions_at 0 → ⊥)
          → height (trail_on v numbers lower) l ≡ get_or numbers (levels + (p - 1)) 0 + 1
      level_on w =
          let is : height (trail_on v numbers lower) l ≡ suc (level (trail_of v numbers) l) =
          chosen_on (trail_of v numbers) r.good.once lower l (omega arith)
          (⊎_elim (λ f. inl f) (λ n. inr (λ e. n (level-there ∙ (e ∙ sym r.good.is_held.decided)))) w) in
          omega (arith, level-there)

-- a guard by the levels of the literal's opposite and of the other literal
module _ (trail : List Entry) (a b o : ℕ) (is : o ≡ opposite a) where
  pub guard_free : height trail o ≡ 0 → Guard trail (length trail) a b
  guard_free none h w = go (rw is at none) (height_cases trail (opposite a))
    where
      go : height trail (opposite a) ≡ 0 → HeightCase trail (opposite a) → (0 < place trail b) × (level trail b ≤ level trail (opposite a))
      go off (inl p) = absurd (omega arith)
      go off (inr p) = absurd (omega arith)

  module _ (against : ℕ) (first : height trail o ≡ against + 1) where
    opposed : height trail (opposite a) ≡ against + 1
    opposed = rw is at first

    pub guard_none : height trail b ≡ 0 → Guard trail (length trail) a b → ⊥
    guard_none off g = go (height_cases trail (opposite a)) (height_cases trail b)
      where
        go : HeightCase trail (opposite a) → HeightCase trail b → ⊥
        go (inl p) (inl q) = omega arith
        go (inl p) (inr q) =
            let k = g p.0 (place_within trail (opposite a)) in
            omega arith
        go (inr p) q = omega (arith, opposed)

    module _ (guard : ℕ) (second : height trail b ≡ guard + 1) where
      guard_holds : guard ≤ against → Guard trail (length trail) a b
      guard_holds low h w = go opposed (height_cases trail (opposite a)) (height_cases trail b)
        where
          go : height trail (opposite a) ≡ against + 1 → HeightCase trail (opposite a) → HeightCase trail b
              → (0 < place trail b) × (level trail b ≤ level trail (opposite a))
          go e (inl p) (inl q) = (q.0, omega arith)
          go e (inl p) (inr q) = absurd (omega arith)
          go e (inr p) q = absurd (omega arith)

      guard_not : against < guard → Guard trail (length trail) a b → ⊥
      guard_not high g = go opposed (height_cases trail (opposite a)) (height_cases trail b)
        where
          go : height trail (opposite a) ≡ against + 1 → HeightCase trail (opposite a) → HeightCase trail b → ⊥
          go e (inl p) (inl q) =
              let k = g p.0 (place_within trail (opposite a)) in
              omega arith
          go e (inl p) (inr q) = omega arith
          go e (inr p) q = omega arith

      pub guard_answered : Says (leb guard against) (Guard trail (length trail) a b)
      guard_answered = says_up_to guard against guard_holds guard_not

-- clause c of the book, with the watches that the numbers hold
module _ (book numbers : List ℕ) (below : Bool) where
  abbrev pub FixpointAt : ℕ → Type 0
  FixpointAt c =
      ClauseFixpoint (trail_on (variables_of book) numbers below) (clause_at book c) (get_or numbers (watches_at (variables_of book) + 2 * c) 0)
      (get_or numbers (watches_at (variables_of book) + 2 * c + 1) 0)

  abbrev trail : List Entry
  trail = trail_on (variables_of book) numbers below

  abbrev literal : ℕ → ℕ
  literal c = get_or (clause_of (formula_of book) c) 0 0

  module _ (x : TrailPassed book numbers) where
    cell_at : (c : ℕ) → c < clauses_of book
        → ((cell_of (held (formula_of book) numbers) c).first ≡ get_or numbers (watches_at (variables_of book) + 2 * c) 0)
        × ((cell_of (held (formula_of book) numbers) c).second ≡ get_or numbers (watches_at (variables_of book) + 2 * c + 1) 0)
    unfolding held
    cell_at c less =
        let inside : c < length (formula_of book).clauses = rw (clauses_counted book) less in
        let here : 0 + c ≡ c = omega arith in
        let cell = get_or_cells (variables_of book) (length (formula_of book).clauses) numbers 0 (length (formula_of book).clauses) c inside in (
          ap (λ (k : Cell). k.first) cell ∙ ap (λ (k : ℕ). get_or numbers (watches_at (variables_of book) + 2 * k) 0) here,
          ap (λ (k : Cell). k.second) cell ∙ ap (λ (k : ℕ). get_or numbers (watches_at (variables_of book) + 2 * k + 1) 0) here,
        )

    -- the watches are positions of their clause
    pub watches_within : CellsGood (formula_of book) numbers → (c : ℕ) → c < clauses_of book → 2 ≤ length (clause_at book c)
        → (get_or numbers (watches_at (variables_of book) + 2 * c) 0 < length (clause_at book c))
        × (get_or numbers (watches_at (variables_of book) + 2 * c + 1) 0 < length (clause_at book c))
    watches_within cells c less two =
        let same = clause_of_formula book c less in
        let here = cell_at c less in
        let w = cells.watching c (rw same two) in
        rw (← same, ← here.0, ← here.1) (w.first_within, w.second_within)

    trail_held : cond below (lowered (held (formula_of book) numbers).trail) (held (formula_of book) numbers).trail ≡ trail
    unfolding held
    trail_held = refl

    -- the fixpoint holds exactly if it holds of each clause
    pub all_fixpoint : ((c : ℕ) → c < clauses_of book → FixpointAt c) → FixpointOn (formula_of book) numbers below
    all_fixpoint all =
        subst (λ (t : List Entry). Fixpoint (formula_of book) (held (formula_of book) numbers) t) (sym trail_held)
        record {
          units_true = λ c one. place_true trail (literal c) (unit-on c one);
          units_level = λ c one. unit-level c one;
          watches = λ c two. guarded_holds (kept c two) (omega arith);
        }
      where
        inside : (c : ℕ) → 0 < size (formula_of book) c → c < clauses_of book
        inside c some = rw (clauses_counted book) at (clause_exists (formula_of book) c some)

        unit : (c : ℕ) → size (formula_of book) c ≡ 1 → height trail (literal c) ≡ 1
        unit c one =
            let less = inside c (omega arith) in
            let same = clause_of_formula book c less in
            rw same ((all c less).unit (rw same at one))

        unit-on : (c : ℕ) → size (formula_of book) c ≡ 1 → 0 < place trail (literal c)
        unit-on c one = let h = unit c one in ⊎_elim (λ p. p.0) (λ p. absurd (omega arith)) (height_cases trail (literal c))

        unit-level : (c : ℕ) → size (formula_of book) c ≡ 1 → level trail (literal c) ≡ 0
        unit-level c one = let h = unit c one in ⊎_elim (λ p. omega arith) (λ p. absurd (omega arith)) (height_cases trail (literal c))

        kept : (c : ℕ) → 2 ≤ size (formula_of book) c
            → BothGuarded trail (length trail) (first_watch (formula_of book) (held (formula_of book) numbers) c)
            (second_watch (formula_of book) (held (formula_of book) numbers) c)
        kept c two =
            let less = inside c (omega arith) in
            let same = clause_of_formula book c less in
            let here = cell_at c less in
            rw (here.0, here.1, same) ((all c less).watches (rw same at two))

    pub fixpoint_each : FixpointOn (formula_of book) numbers below → (c : ℕ) → c < clauses_of book → FixpointAt c
    fixpoint_each on c less =
        record {
          unit = λ one. unit (rw (← same) at one);
          watches = λ two. watches (rw (← same) at two);
        }
      where
        s : Fixpoint (formula_of book) (held (formula_of book) numbers) trail
        s = subst (λ (t : List Entry). Fixpoint (formula_of book) (held (formula_of book) numbers) t) trail_held on

        same : clause_of (formula_of book) c ≡ clause_at book c
        same = clause_of_formula book c less

        unit : size (formula_of book) c ≡ 1 → height trail (get_or (clause_at book c) 0 0) ≡ 1
        unit one =
            rw (← same)
            (height_on trail (get_or (clause_of (formula_of book) c) 0 0) (true_place trail _ (s.units_true c one)) ∙ ap suc (s.units_level c one))

        watches : 2 ≤ size (formula_of book) c
            → BothGuarded trail (length trail) (get_or (clause_at book c) (get_or numbers (watches_at (variables_of book) + 2 * c) 0) 0)
            (get_or (clause_at book c) (get_or numbers (watches_at (variables_of book) + 2 * c + 1) 0) 0)
        watches two =
            let here = cell_at c less in
            rw (← here.0, ← here.1, ← same)
            (holds_guarded (chosen_distinct (trail_of (variables_of book) numbers) x.good.once below) (s.watches c two) (length trail))

-- Watches and pointers as session numbers hold them: the cell and the size of a clause, and what the test of one cell answers.
use Prim.Native.Nat.{ℕ, ◌+◌, ◌*◌, ◌≤◌, ◌<◌}
use native.Mathlib.Omega.{arith}
use mathlib.Core.Bool.{Bool, true}
use mathlib.Core.List.{List, []}
use mathlib.Core.Logic.{⊎_elim}
use mathlib.Core.Path.{◌≡◌, sym, ap, ◌∙◌}
use lib.ListN.{length, get_or, drop, get_or-eq_default}
use lib.Seq.{get_or-take, get_or-drop}
use Rattle.base.proofs.Bools.{below}
use Rattle.book.specs.Formula.{Formula}
use Rattle.book.specs.Numbers.{variables_of, clauses_of, clause_at, formula_of}
use Rattle.book.proofs.PartLaws.{clauses_counted, clause_of_formula}
use Rattle.run.specs.Scan.{Cell}
use Rattle.run.specs.Run.{size, no_cell, cell_at}
use Rattle.layout.specs.Layout.{watches_at, pointers_at, checks_at, held}
use Rattle.validation.specs.Validation.{is_watching}
use Rattle.validation.specs.Inner.Says.{Says}
use Rattle.validation.specs.Inner.Cells.{CellsGood}
use Rattle.layout.proofs.HeldLaws.{length_cells, get_or_cells}
use Rattle.validation.proofs.SaysLaws.{says_alike}
use Rattle.validation.proofs.ConditionLaws.{watching_said, watching_tests, unwatched_said, unwatched_tests}

-- the cell of a clause as numbers hold it
abbrev number_cell : ℕ → ℕ → List ℕ → ℕ → Cell
number_cell v c numbers d =
    record {
      first = get_or numbers (watches_at v + 2 * d) 0;
      second = get_or numbers (watches_at v + 2 * d + 1) 0;
      pointer = get_or numbers (pointers_at v c + d) 0;
    }

module _ (formula : Formula) (numbers : List ℕ) where
  pub held_cell_lem : (d : ℕ) → d < length formula.clauses
      → cell_at (held formula numbers).cells d ≡ number_cell formula.variables (length formula.clauses) numbers d
  unfolding held
  held_cell_lem d h =
      get_or_cells formula.variables (length formula.clauses) numbers 0 (length formula.clauses) d h
      ∙ ap (number_cell formula.variables (length formula.clauses) numbers) (omega arith)

  pub held_cells_length : length (held formula numbers).cells ≡ length formula.clauses
  unfolding held
  held_cells_length = length_cells formula.variables (length formula.clauses) numbers 0 (length formula.clauses)

  pub held_check : (d : ℕ) → d < length formula.clauses
      → get_or (held formula numbers).checks d 0 ≡ get_or numbers (checks_at formula.variables (length formula.clauses) + d) 0
  unfolding held
  held_check d h =
      get_or-take (length formula.clauses) (drop (checks_at formula.variables (length formula.clauses)) numbers) d 0 h
      ∙ get_or-drop (checks_at formula.variables (length formula.clauses)) numbers d 0

-- a book whose form is known
module _ (book : List ℕ) where
  pub size_is : (d : ℕ) → d < clauses_of book → size (formula_of book) d ≡ length (clause_at book d)
  size_is d h = ap length (clause_of_formula book d h)

  -- the cells that the code reads
  module _ (numbers : List ℕ) (clauses watches pointers : ℕ) where
    abbrev read_cell : ℕ → Cell
    read_cell d =
        record { first = get_or numbers (watches + 2 * d) 0; second = get_or numbers (watches + 2 * d + 1) 0; pointer = get_or numbers (pointers + d) 0 }

    abbrev EachWatching : Type 0
    EachWatching = (d : ℕ) → d < clauses → is_watching (length (clause_at book d)) (read_cell d) ≡ true

    module _ (variables : ℕ) (variables_are : variables ≡ variables_of book) (clauses_are : clauses ≡ clauses_of book)
        (watches_are : watches ≡ watches_at variables) (pointers_are : pointers ≡ pointers_at variables clauses) where
      same_cell : (d : ℕ) → d < clauses
          → is_watching (length (clause_at book d)) (read_cell d) ≡ is_watching (size (formula_of book) d) (cell_at (held (formula_of book) numbers).cells d)
      same_cell d h =
          let inside : d < clauses_of book = omega arith in
          let within : d < length (formula_of book).clauses = omega (arith, clauses_counted book) in
          let at : pointers_at (variables_of book) (length (formula_of book).clauses) + d ≡ pointers + d = omega (arith, clauses_counted book) in
          let from : watches_at (variables_of book) ≡ watches = omega arith in
          rw (held_cell_lem (formula_of book) numbers d within, size_is d inside, at, from)

      clause-none : (d : ℕ) → clauses ≤ d → size (formula_of book) d ≡ 0
      clause-none d h = ap length (get_or-eq_default (formula_of book).clauses [] (omega (arith, clauses_counted book)))

      cell-none : (d : ℕ) → clauses ≤ d → cell_at (held (formula_of book) numbers).cells d ≡ no_cell
      cell-none d h =
          get_or-eq_default (held (formula_of book) numbers).cells no_cell (omega (arith, held_cells_length (formula_of book) numbers, clauses_counted book))

      cells_good : EachWatching → CellsGood (formula_of book) numbers
      cells_good each =
          record {
            watching =
                λ d two.
                ⊎_elim
                (λ z. watching_said (size (formula_of book) d) (cell_at (held (formula_of book) numbers).cells d) two (sym (same_cell d z) ∙ each d z))
                (λ z. absurd (let none = clause-none d z in omega arith)) (below d clauses);
            unwatched =
                λ d few.
                ⊎_elim
                (λ z. unwatched_said (size (formula_of book) d) (cell_at (held (formula_of book) numbers).cells d) few (sym (same_cell d z) ∙ each d z))
                (λ z. cell-none d z) (below d clauses);
          }

      each_watching : CellsGood (formula_of book) numbers → EachWatching
      each_watching good d h =
          same_cell d h
          ∙ ⊎_elim
          (λ few. rw (good.unwatched d few) (unwatched_tests (size (formula_of book) d) few))
          (λ two. watching_tests (size (formula_of book) d) (cell_at (held (formula_of book) numbers).cells d) two (good.watching d two))
          (below (size (formula_of book) d) 2)

      pub cells_answered : {r : Bool} → Says r EachWatching → Says r (CellsGood (formula_of book) numbers)
      cells_answered = says_alike cells_good each_watching

-- W, as the loop over the clauses meets it.
use Prim.Native.Nat.{ℕ, ◌+◌, ◌≤◌, ◌<◌}
use mathlib.Core.Path.{◌≡◌, sym, ap, ◌∙◌}
use mathlib.Core.Bool.{true}
use mathlib.Core.List.{List, [], map}
use native.Mathlib.Omega.{arith}
use lib.ListN.{length, get_or, length-map, get_or-map}
use Rattle.base.proofs.Sums.{Summed, summed_none, summed_more, summed_all}
use Rattle.book.specs.Numbers.{clauses_of, clause_at, formula_of, well_formed}
use Rattle.book.proofs.PartLaws.{clauses_counted, clause_of_formula}
use Rattle.book.proofs.WellFormedLaws.{well_formed_sound}
use Rattle.run.specs.Ceiling.{clause_worst, worst}
use Rattle.run.proofs.Worst.{worst_within}

module _ (book : List ℕ) where
  -- what the loop knows: `sum` is the sum over the first c clauses
  abbrev pub WorstBefore : ℕ → ℕ → Type 0
  WorstBefore sum c = Summed (map clause_worst (formula_of book).clauses) sum c

  counted : length (map clause_worst (formula_of book).clauses) ≡ clauses_of book
  counted = length-map (formula_of book).clauses clause_worst ∙ clauses_counted book

  pub worst_none : WorstBefore 0 0
  worst_none = summed_none (map clause_worst (formula_of book).clauses)

  pub worst_more : (sum c n : ℕ) → WorstBefore sum c → c < clauses_of book → n ≡ clause_worst (clause_at book c) → WorstBefore (sum + n) (c + 1)
  unfolding clause_worst
  worst_more sum c n r h e =
      let here : get_or (map clause_worst (formula_of book).clauses) c 0 ≡ clause_worst (clause_at book c)
      = get_or-map clause_worst (formula_of book).clauses c [] ∙ ap clause_worst (clause_of_formula book c h) in
      summed_more _ sum c n r (omega (arith, counted)) (e ∙ sym here)

  pub worst_all : (sum c : ℕ) → WorstBefore sum c → clauses_of book ≤ c → sum ≡ worst (formula_of book)
  unfolding worst
  worst_all sum c r h = summed_all _ sum c r (omega (arith, counted))

  -- so far it is small
  pub worst_small : well_formed book ≡ true → (sum c : ℕ) → WorstBefore sum c → sum ≤ 11928
  unfolding worst
  worst_small well sum c r = omega (arith, r.rest, worst_within (formula_of book) (well_formed_sound book well))

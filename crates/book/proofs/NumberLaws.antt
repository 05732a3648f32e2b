-- The book numbers of a formula: how many they are, that they hold the formula, and that a sound formula's are well formed.
use Prim.Native.Nat.{ℕ, suc, ◌+◌, ◌-◌, ◌≤◌}
use mathlib.Core.Bool.{true}
use mathlib.Core.List.{List, [], ◌∷◌, ◌++◌, append_assoc}
use mathlib.Core.Path.{◌≡◌, refl, sym, ◌∙◌, ap, ap₂}
use native.Mathlib.Omega.{arith}
use borrow.Author.Tests.{le-leb}
use lib.ListN.{length, get_or, take, drop, length-append}
use lib.Seq.{take-append_seam, drop-append_seam, drop-drop, drop_at, get_or-drop}
use Rattle.base.specs.Lists.{flat}
use Rattle.book.specs.Formula.{Formula, literals, max_book, sound}
use Rattle.book.specs.Numbers.{starts, numbers_of, clauses_of, start_of, clause_at, clauses_from, formula_of, rising, well_formed}
use Rattle.book.specs.Inner.Form.{Parted}
use Rattle.book.proofs.SoundLaws.{formula_parts}
use Rattle.book.proofs.WellFormedLaws.{formula_decides}

length_starts : (from : ℕ) (clauses : List (List ℕ)) → length (starts from clauses) ≡ suc (length clauses)
unfolding starts
length_starts from [] = refl
length_starts from (clause ∷ clauses) = ap suc (length_starts (from + length clause) clauses)

pub length_numbers : (formula : Formula) → length (numbers_of formula) ≡ length formula.clauses + length (literals formula) + 4
unfolding numbers_of
length_numbers formula =
    omega (arith, length-append (starts 0 formula.clauses) (literals formula), length_starts 0 formula.clauses)

-- the largest book has room for the numbers of every formula within the limits
pub book_fits : (formula : Formula) → sound formula ≡ true → length (numbers_of formula) ≤ max_book
book_fits formula h = let p = formula_parts formula h in omega (arith, length_numbers formula)

-- the first of the starts, and the last
starts_first : (from : ℕ) (clauses : List (List ℕ)) (more : List ℕ) → get_or (starts from clauses ++ more) 0 0 ≡ from
unfolding starts
starts_first from [] more = refl
starts_first from (clause ∷ clauses) more = refl

starts_last : (from : ℕ) (clauses : List (List ℕ)) (more : List ℕ)
    → get_or (starts from clauses ++ more) (length clauses) 0 ≡ from + length (flat clauses)
unfolding starts flat
starts_last from [] more = omega arith
starts_last from (clause ∷ clauses) more =
    rw (starts_last (from + length clause) clauses more, length-append) (omega arith)

-- Numbers that hold some clauses from clause c on: their starts stand at start c, and their literals where the first start says.
abbrev Heads : List ℕ → List ℕ → ℕ → ℕ → List (List ℕ) → Type 0
Heads numbers more c from clauses = drop (3 + c) numbers ≡ starts from clauses ++ more

abbrev Tails : List ℕ → List ℕ → ℕ → List (List ℕ) → Type 0
Tails numbers rest from clauses = drop (clauses_of numbers + 4 + from) numbers ≡ flat clauses ++ rest

module _ (numbers more rest : List ℕ) where
  start-held : (c from : ℕ) (clauses : List (List ℕ)) → Heads numbers more c from clauses → start_of numbers c ≡ from
  start-held c from clauses heads =
      let same : 3 + c ≡ 3 + c + 0 = omega arith in
      ap (λ (k : ℕ). get_or numbers k 0) same
      ∙ sym (get_or-drop (3 + c) numbers 0 0)
      ∙ ap (λ (l : List ℕ). get_or l 0 0) heads
      ∙ starts_first from clauses more

  heads_next : (c from : ℕ) (clause : List ℕ) (clauses : List (List ℕ)) → Heads numbers more c from (clause ∷ clauses)
      → Heads numbers more (suc c) (from + length clause) clauses
  unfolding starts
  heads_next c from clause clauses heads =
      let next : 3 + suc c ≡ 3 + c + 1 = omega arith in
      ap (λ (k : ℕ). drop k numbers) next ∙ sym (drop-drop 1 (3 + c) numbers) ∙ ap (drop 1) heads

  tails_next : (from : ℕ) (clause : List ℕ) (clauses : List (List ℕ)) → Tails numbers rest from (clause ∷ clauses)
      → Tails numbers rest (from + length clause) clauses
  unfolding flat
  tails_next from clause clauses tails =
      let next : clauses_of numbers + 4 + (from + length clause) ≡ clauses_of numbers + 4 + from + length clause = omega arith in
      ap (λ (k : ℕ). drop k numbers) next
      ∙ sym (drop-drop (length clause) (clauses_of numbers + 4 + from) numbers)
      ∙ ap (drop (length clause)) tails
      ∙ rw append_assoc (drop-append_seam clause (flat clauses ++ rest))

  clause_held : (c from : ℕ) (clause : List ℕ) (clauses : List (List ℕ)) → Heads numbers more c from (clause ∷ clauses)
      → Tails numbers rest from (clause ∷ clauses) → clause_at numbers c ≡ clause
  unfolding flat
  clause_held c from clause clauses heads tails =
      let begin : start_of numbers c ≡ from = start-held c from (clause ∷ clauses) heads in
      let end : start_of numbers (suc c) ≡ from + length clause =
      start-held (suc c) (from + length clause) clauses (heads_next c from clause clauses heads) in
      let size : start_of numbers (suc c) - start_of numbers c ≡ length clause = omega arith in
      ap₂ (λ (n k : ℕ). take n (drop (clauses_of numbers + 4 + k) numbers)) size begin
      ∙ ap (take (length clause)) tails
      ∙ rw append_assoc (take-append_seam clause (flat clauses ++ rest))

  clauses_held : (c from : ℕ) (clauses : List (List ℕ)) → Heads numbers more c from clauses → Tails numbers rest from clauses
      → clauses_from numbers c (length clauses) ≡ clauses
  unfolding clauses_from
  clauses_held c from [] heads tails = refl
  clauses_held c from (clause ∷ clauses) heads tails =
      ap₂
      (λ (x : List ℕ) (xs : List (List ℕ)). x ∷ xs)
      (clause_held c from clause clauses heads tails)
      (clauses_held
      (suc c)
      (from + length clause)
      clauses
      (heads_next c from clause clauses heads)
      (tails_next from clause clauses tails))

  rising_held : (c from : ℕ) (clauses : List (List ℕ)) → Heads numbers more c from clauses
      → rising numbers c (length clauses) ≡ true
  unfolding rising
  rising_held c from [] heads = refl
  rising_held c from (clause ∷ clauses) heads =
      let next : Heads numbers more (suc c) (from + length clause) clauses = heads_next c from clause clauses heads in
      let begin : start_of numbers c ≡ from = start-held c from (clause ∷ clauses) heads in
      let end : start_of numbers (suc c) ≡ from + length clause = start-held (suc c) (from + length clause) clauses next in
      rw (
        le-leb (start_of numbers c) (start_of numbers (suc c)) (omega arith),
        rising_held (suc c) (from + length clause) clauses next,
      )

-- the numbers of a formula, and what stands behind them
module _ (formula : Formula) (rest : List ℕ) where
  heads-all : Heads (numbers_of formula ++ rest) (literals formula ++ rest) 0 0 formula.clauses
  unfolding numbers_of
  heads-all = append_assoc (starts 0 formula.clauses) (literals formula) rest

  tails_all : Tails (numbers_of formula ++ rest) rest 0 formula.clauses
  unfolding numbers_of
  tails_all =
      let place : length formula.clauses + 4 + 0 ≡ 3 + suc (length formula.clauses) = omega arith in
      ap (λ (k : ℕ). drop k (numbers_of formula ++ rest)) place
      ∙ sym (drop-drop (suc (length formula.clauses)) 3 (numbers_of formula ++ rest))
      ∙ ap (drop (suc (length formula.clauses))) heads-all
      ∙ drop_at
      (starts 0 formula.clauses)
      (literals formula ++ rest)
      (suc (length formula.clauses))
      (length_starts 0 formula.clauses)

  last_start : start_of (numbers_of formula ++ rest) (length formula.clauses) ≡ length (literals formula)
  last_start =
      sym (get_or-drop 3 (numbers_of formula ++ rest) (length formula.clauses) 0)
      ∙ ap (λ (l : List ℕ). get_or l (length formula.clauses) 0) heads-all
      ∙ starts_last 0 formula.clauses (literals formula ++ rest)
      ∙ omega arith

  -- the formula comes back
  pub formula_of_numbers : formula_of (numbers_of formula ++ rest) ≡ formula
  unfolding numbers_of
  formula_of_numbers =
      ap
      (λ (clauses : List (List ℕ)). record { variables = formula.variables; clauses = clauses })
      (clauses_held (numbers_of formula ++ rest) (literals formula ++ rest) rest 0 0 formula.clauses heads-all tails_all)

  -- the starts part the literals
  numbers_part : Parted (numbers_of formula ++ rest)
  unfolding numbers_of
  numbers_part = record {
    long = rw (length-append, length_numbers) (omega arith);
    first = start-held (numbers_of formula ++ rest) (literals formula ++ rest) rest 0 0 formula.clauses heads-all;
    last = last_start;
    rises = rising_held (numbers_of formula ++ rest) (literals formula ++ rest) rest 0 0 formula.clauses heads-all;
  }

  pub numbers_well_formed : sound formula ≡ true → well_formed (numbers_of formula ++ rest) ≡ true
  numbers_well_formed ok = formula_decides (numbers_of formula ++ rest) numbers_part ∙ ap sound formula_of_numbers ∙ ok

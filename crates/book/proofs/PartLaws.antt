-- Book numbers whose starts part the literals: each clause lies within them, and together the clauses are the literals.
use Prim.Native.Nat.{ℕ, zero, suc, ◌+◌, ◌-◌, ◌≤◌, ◌<◌}
use mathlib.Core.Bool.{Bool, true, false}
use mathlib.Core.List.{List, [], ◌∷◌, ◌++◌}
use mathlib.Core.Path.{◌≡◌, refl, sym, ◌∙◌, ap, ap₂}
use native.Mathlib.Omega.{arith}
use native.Mathlib.Numerals.{add-one}
use native.Mathlib.Nat.{le_trans, le_of_eq}
use borrow.Author.Tests.{leb-true, eqb-true, eqb-false}
use lib.Dec.{leb, eqb}
use lib.ListN.{length, get_or, take, drop, length-drop}
use lib.Seq.{take-add, drop-drop, drop-cons, length-take-le}
use Rattle.base.specs.Lists.{flat}
use Rattle.base.proofs.Bools.{and_parts}
use Rattle.base.proofs.Lists.{part, part_none, part_join, length_part}
use Rattle.book.specs.Numbers.{starts, variables_of, clauses_of, literals_of, start_of, clause_start, clause_at, clauses_from, formula_of, numbers_of, rising}
use Rattle.book.specs.Inner.Form.{Parted}

first_three : (l : List ℕ) → 3 ≤ length l → take 3 l ≡ get_or l 0 0 ∷ get_or l 1 0 ∷ get_or l 2 0 ∷ []
first_three [] h = absurd (omega arith)
first_three (a ∷ []) h = absurd (omega arith)
first_three (a ∷ b ∷ []) h = absurd (omega arith)
first_three (a ∷ b ∷ c ∷ l) h = refl

module _ (numbers : List ℕ) where
  -- of starts that rise none is above the next
  pub rising_step : (c n : ℕ) → rising numbers c n ≡ true → (k : ℕ) → c ≤ k → k < c + n → start_of numbers k ≤ start_of numbers (suc k)
  unfolding rising
  rising_step c zero r k low high = absurd (omega arith)
  rising_step c (suc n) r k low high =
      go
      (and_parts (leb (start_of numbers c) (start_of numbers (suc c))) (rising numbers (suc c) n) r)
      (rising_step (suc c) n)
      (eqb k c)
      refl
    where
      go : (leb (start_of numbers c) (start_of numbers (suc c)) ≡ true) × (rising numbers (suc c) n ≡ true)
          → (rising numbers (suc c) n ≡ true → (k : ℕ) → suc c ≤ k → k < suc c + n → start_of numbers k ≤ start_of numbers (suc k))
          → (b : Bool) → eqb k c ≡ b → start_of numbers k ≤ start_of numbers (suc k)
      go p step true e = rw (eqb-true k c e) (leb-true _ _ p.0)
      go p step false e = step p.1 k (omega (arith, eqb-false k c e)) (omega arith)

  -- a clause is the part of the numbers from its start to the next
  clause_part : (c : ℕ) → clause_at numbers c ≡ part (clause_start numbers c) (clause_start numbers (suc c)) numbers
  clause_part c =
      let same : start_of numbers (suc c) - start_of numbers c ≡ clause_start numbers (suc c) - clause_start numbers c = omega arith in
      ap (λ (n : ℕ). take n (drop (clause_start numbers c) numbers)) same

  pub clause_between : (c s e : ℕ) → s ≡ clause_start numbers c → e ≡ clause_start numbers (c + 1)
      → part s e numbers ≡ clause_at numbers c
  clause_between c s e begin end = rw (begin, end, add-one) (sym (clause_part c))

  length_clauses : (c n : ℕ) → length (clauses_from numbers c n) ≡ n
  unfolding clauses_from
  length_clauses c zero = refl
  length_clauses c (suc n) = ap suc (length_clauses (suc c) n)

  -- the formula of a book has C clauses
  pub clauses_counted : length (formula_of numbers).clauses ≡ clauses_of numbers
  clauses_counted = length_clauses 0 (clauses_of numbers)

  get_or_clauses : (c n k : ℕ) → k < n → get_or (clauses_from numbers c n) k [] ≡ clause_at numbers (c + k)
  unfolding clauses_from
  get_or_clauses c zero k h = absurd (omega arith)
  get_or_clauses c (suc n) zero h = ap (clause_at numbers) (omega arith)
  get_or_clauses c (suc n) (suc k) h =
      let next : suc c + k ≡ c + suc k = omega arith in
      rw next at (get_or_clauses (suc c) n k (omega arith))

  -- clause c of the formula that numbers hold
  pub clause_of_formula : (c : ℕ) → c < clauses_of numbers → get_or (formula_of numbers).clauses c [] ≡ clause_at numbers c
  clause_of_formula c h =
      let same : 0 + c ≡ c = omega arith in
      get_or_clauses 0 (clauses_of numbers) c h ∙ ap (clause_at numbers) same

  module _ (parted : Parted numbers) where
    pub start_rises : (c : ℕ) → c < clauses_of numbers → start_of numbers c ≤ start_of numbers (suc c)
    start_rises c h = rising_step 0 (clauses_of numbers) parted.rises c (omega arith) (omega arith)

    start-below : (n c e : ℕ) → c + n ≡ e → e ≤ clauses_of numbers → start_of numbers c ≤ start_of numbers e
    start-below zero c e q h = le_of_eq (ap (start_of numbers) (omega arith))
    start-below (suc n) c e q h = le_trans (start_rises c (omega arith)) (start-below n (suc c) e (omega arith) h)

    -- no start is above L
    pub start_within : (c : ℕ) → c ≤ clauses_of numbers → start_of numbers c ≤ literals_of numbers
    start_within c h = rw parted.last at (start-below (clauses_of numbers - c) c (clauses_of numbers) (omega arith) (omega arith))

    -- a clause lies within the numbers
    pub clause_rises : (c : ℕ) → c < clauses_of numbers → clause_start numbers c ≤ clause_start numbers (suc c)
    clause_rises c h = omega (arith, start_rises c h)

    pub start_inside : (c : ℕ) → c ≤ clauses_of numbers → clause_start numbers c ≤ length numbers
    start_inside c h = omega (arith, start_within c h, parted.long)

    -- the same at a start and an end that were read
    pub clause_inside : (c s e : ℕ) → c < clauses_of numbers → s ≡ clause_start numbers c → e ≡ clause_start numbers (c + 1)
        → (s ≤ e) × (e ≤ length numbers)
    clause_inside c s e h begin end =
        let next : clause_start numbers (c + 1) ≡ clause_start numbers (suc c) = ap (clause_start numbers) (add-one c) in
        (omega (arith, clause_rises c h), omega (arith, start_inside (suc c) h))

    -- the same from the numbers themselves
    pub clause_read : (clauses c : ℕ) → clauses ≡ clauses_of numbers → c < clauses
        → (clauses + 4 + get_or numbers (3 + c) 0 ≤ clauses + 4 + get_or numbers (4 + c) 0)
        × (clauses + 4 + get_or numbers (4 + c) 0 ≤ length numbers)
        × (part (clauses + 4 + get_or numbers (3 + c) 0) (clauses + 4 + get_or numbers (4 + c) 0) numbers ≡ clause_at numbers c)
    clause_read clauses c counted h =
        let next : 4 + c ≡ 3 + (c + 1) = omega arith in
        let begin : clauses + 4 + get_or numbers (3 + c) 0 ≡ clause_start numbers c = omega arith in
        let end : clauses + 4 + get_or numbers (4 + c) 0 ≡ clause_start numbers (c + 1) = rw (next, counted) in
        let inside = clause_inside c _ _ (omega arith) begin end in
        (inside.0, inside.1, clause_between c _ _ begin end)

    pub length_clause : (c : ℕ) → c < clauses_of numbers
        → length (clause_at numbers c) ≡ start_of numbers (suc c) - start_of numbers c
    length_clause c h =
        let inside : clause_start numbers (suc c) ≤ length numbers = start_inside (suc c) h in
        rw (clause_part c, length_part (clause_start numbers c) (clause_start numbers (suc c)) numbers inside) (omega arith)

    -- n clauses, one after the other, are a part of the numbers
    flat-clauses : (n c e : ℕ) → c + n ≡ e → e ≤ clauses_of numbers
        → flat (clauses_from numbers c n) ≡ part (clause_start numbers c) (clause_start numbers e) numbers
    unfolding flat clauses_from
    flat-clauses zero c e q h =
        let same : c ≡ e = omega arith in
        rw (same, part_none)
    flat-clauses (suc n) c e q h =
        let here : clause_at numbers c ≡ part (clause_start numbers c) (clause_start numbers (suc c)) numbers = clause_part c in
        rw (here, flat-clauses n (suc c) e (omega arith) h)
        (part_join (clause_start numbers c) (clause_start numbers (suc c)) (clause_start numbers e) numbers
        (clause_rises c (omega arith))
        (omega (arith, start-below n (suc c) e (omega arith) h)))

    -- the starts of n clauses, and the end of the last, are a part of the numbers
    starts-clauses : (n c e : ℕ) → c + n ≡ e → e ≤ clauses_of numbers
        → starts (start_of numbers c) (clauses_from numbers c n) ≡ take (suc n) (drop (3 + c) numbers)
    unfolding starts clauses_from
    starts-clauses zero c e q h =
        let inside : 3 + c < length numbers = omega (arith, parted.long) in
        rw (drop-cons numbers (3 + c) 0 inside)
    starts-clauses (suc n) c e q h =
        let inside : 3 + c < length numbers = omega (arith, parted.long) in
        let next : start_of numbers c + length (clause_at numbers c) ≡ start_of numbers (suc c) =
        rw (length_clause c (omega arith)) (omega (arith, start_rises c (omega arith))) in
        let after : 3 + suc c ≡ suc (3 + c) = omega arith in
        rw (drop-cons numbers (3 + c) 0 inside, next)
        (ap
        (λ (l : List ℕ). start_of numbers c ∷ l)
        (starts-clauses n (suc c) e (omega arith) h ∙ ap (λ (k : ℕ). take (suc n) (drop k numbers)) after))

    starts-part : starts 0 (clauses_from numbers 0 (clauses_of numbers)) ≡ take (suc (clauses_of numbers)) (drop 3 numbers)
    starts-part =
        ap (λ (s : ℕ). starts s (clauses_from numbers 0 (clauses_of numbers))) (sym parted.first)
        ∙ starts-clauses (clauses_of numbers) 0 (clauses_of numbers) (omega arith) (omega arith)

    literals-part : flat (clauses_from numbers 0 (clauses_of numbers)) ≡ take (literals_of numbers) (drop (clauses_of numbers + 4) numbers)
    literals-part =
        let from : clause_start numbers 0 ≡ clauses_of numbers + 4 = omega (arith, parted.first) in
        let size : clause_start numbers (clauses_of numbers) - clause_start numbers 0 ≡ literals_of numbers =
        omega (arith, parted.first, parted.last) in
        flat-clauses (clauses_of numbers) 0 (clauses_of numbers) (omega arith) (omega arith)
        ∙ ap₂ (λ (s n : ℕ). take n (drop s numbers)) from size

    pub length_literals : length (flat (clauses_from numbers 0 (clauses_of numbers))) ≡ literals_of numbers
    length_literals =
        let inside : literals_of numbers ≤ length (drop (clauses_of numbers + 4) numbers) =
        rw length-drop (omega (arith, parted.long)) in
        rw (literals-part, length-take-le (literals_of numbers) (drop (clauses_of numbers + 4) numbers) inside)

    -- book numbers up to C + L + 4 are those of the formula that they hold
    pub numbers_parted : take (clauses_of numbers + literals_of numbers + 4) numbers ≡ numbers_of (formula_of numbers)
    unfolding numbers_of
    numbers_parted =
        rw (whole, after, clauses_counted, length_literals, starts-part, literals-part)
      where
        behind : clauses_of numbers + literals_of numbers + 4 ≡ 3 + (suc (clauses_of numbers) + literals_of numbers)
        behind = omega arith

        place : 3 + suc (clauses_of numbers) ≡ clauses_of numbers + 4
        place = omega arith

        whole : take (clauses_of numbers + literals_of numbers + 4) numbers
            ≡ take 3 numbers
            ++ (take (suc (clauses_of numbers)) (drop 3 numbers) ++ take (literals_of numbers) (drop (clauses_of numbers + 4) numbers))
        whole =
            rw (
              behind,
              take-add 3 (suc (clauses_of numbers) + literals_of numbers) numbers,
              take-add (suc (clauses_of numbers)) (literals_of numbers) (drop 3 numbers),
              drop-drop (suc (clauses_of numbers)) 3 numbers,
              place,
            )

        after : take 3 numbers ≡ variables_of numbers ∷ clauses_of numbers ∷ literals_of numbers ∷ []
        after = first_three numbers (omega (arith, parted.long))

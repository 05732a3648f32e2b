-- The book numbers: V, C, L, then C + 1 starts, then L literals; and their form, which number 11 of the table asks.
use Rattle.std.specs.Prelude.{ℕ, zero, suc, ◌+◌, ◌-◌, Bool, true, ◌&&◌, List, [], ◌∷◌, ◌++◌, leb, eqb, length, get_or, take, drop}
use Rattle.book.specs.Formula.{Formula, literals, sound}

-- where each clause begins among the literal numbers, and where the last one ends; a clause of no literals begins where the next one does
unfoldable pub starts : ℕ → List (List ℕ) → List ℕ
starts from [] = from ∷ []
starts from (clause ∷ clauses) = from ∷ starts (from + length clause) clauses

-- the book numbers of a formula
unfoldable pub numbers_of : Formula → List ℕ
numbers_of formula =
    formula.variables ∷ length formula.clauses ∷ length (literals formula) ∷ (starts 0 formula.clauses ++ literals formula)

-- V, C, L and the starts of book numbers; 0 where there is none
abbrev pub variables_of : List ℕ → ℕ
variables_of numbers = get_or numbers 0 0

abbrev pub clauses_of : List ℕ → ℕ
clauses_of numbers = get_or numbers 1 0

abbrev pub literals_of : List ℕ → ℕ
literals_of numbers = get_or numbers 2 0

abbrev pub start_of : List ℕ → ℕ → ℕ
start_of numbers c = get_or numbers (3 + c) 0

-- the place in the book numbers at which clause c begins (c from 0); clause c ends where clause c + 1 begins
abbrev pub clause_start : List ℕ → ℕ → ℕ
clause_start numbers c = clauses_of numbers + 4 + start_of numbers c

-- clause c: the literal numbers from its start up to the next clause's start
abbrev pub clause_at : List ℕ → ℕ → List ℕ
clause_at numbers c = take (start_of numbers (suc c) - start_of numbers c) (drop (clause_start numbers c) numbers)

-- n clauses from clause c on
unfoldable pub clauses_from : List ℕ → ℕ → ℕ → List (List ℕ)
clauses_from numbers c zero = []
clauses_from numbers c (suc n) = clause_at numbers c ∷ clauses_from numbers (suc c) n

-- the formula that book numbers hold
abbrev pub formula_of : List ℕ → Formula
formula_of numbers = record { variables = variables_of numbers; clauses = clauses_from numbers 0 (clauses_of numbers) }

-- none of n starts from start c on is above the next one
unfoldable pub rising : List ℕ → ℕ → ℕ → Bool
rising numbers c zero = true
rising numbers c (suc n) = leb (start_of numbers c) (start_of numbers (suc c)) && rising numbers (suc c) n

-- The form of book numbers, for lists of any length. Number 11 is given exactly where it fails. What lies behind C + L + 4 is not looked at.
unfoldable pub well_formed : List ℕ → Bool
well_formed numbers =
    leb (clauses_of numbers + literals_of numbers + 4) (length numbers)
    && eqb (start_of numbers 0) 0
    && eqb (start_of numbers (clauses_of numbers)) (literals_of numbers)
    && rising numbers 0 (clauses_of numbers)
    && sound (formula_of numbers)

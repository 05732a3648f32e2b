-- A formula as text: one line for the header, one for each clause.
use Rattle.std.specs.Prelude.{ℕ, zero, suc, ◌+◌, ◌/◌, ◌%◌, cond, List, [], ◌∷◌, ◌++◌, map, ltb, eqb, length}
use Rattle.base.specs.Lists.{flat, empty}
use Rattle.book.specs.Formula.{Formula, positive, negative, variable_of}

-- the decimal digits of a number that has at most so many
unfoldable pub digits : ℕ → ℕ → List ℕ
digits zero n = []
digits (suc places) n = cond (ltb n 10) ((48 + n) ∷ []) (digits places (n / 10) ++ ((48 + n % 10) ∷ []))

abbrev pub print_number : ℕ → List ℕ
print_number n = digits 9 n

-- the variable, with a `-` before it if the literal is negative
unfoldable pub print_literal : ℕ → List ℕ
print_literal l = cond (eqb (l % 2) 1) (45 ∷ print_number (variable_of l)) (print_number (variable_of l))

-- the literals, each followed by a blank, then 0 and the end of the line
unfoldable pub print_clause : List ℕ → List ℕ
print_clause [] = 48 ∷ 10 ∷ []
print_clause (l ∷ ls) = print_literal l ++ (32 ∷ print_clause ls)

-- a clause as a text can write it: one of no literals with variable 1 both ways
unfoldable pub spelled : List ℕ → List ℕ
spelled clause = cond (empty clause) (positive 1 ∷ negative 1 ∷ []) clause

-- `p cnf V C`, and the clauses
unfoldable pub print_text : Formula → List ℕ
print_text formula =
    112 ∷ 32 ∷ 99 ∷ 110 ∷ 102 ∷ 32 ∷ (print_number formula.variables
    ++ (32 ∷ (print_number (length formula.clauses) ++ (10 ∷ flat (map print_clause (map spelled formula.clauses))))))

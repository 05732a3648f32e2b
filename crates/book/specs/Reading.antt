-- What reading a text gives: the refusal by document 01's table, or the formula, and the numbers written.
use Rattle.std.specs.Prelude.{ℕ, Bool, cond, ◌&&◌, ◌||◌, List, [], ◌∷◌, map, leb, ltb, eqb, length}
use Rattle.std.proofs.Math.Option.{Option, none, some}
use Rattle.base.specs.Lists.{any, member, firsts}
use Rattle.book.specs.Formula.{Formula, positive, negative, variable_of}
use Rattle.book.specs.Text.{Piece, Token, literal, close, invalid, token_of, lines_of, Header, header, malformed, header_of}
use Rattle.book.specs.Faults.{Fault, faults_of, body_of}

abbrev pub max_text : ℕ
max_text = 60000

-- the earlier of two faults; at one place the one of the lower number
unfoldable pub before : Fault → Fault → Bool
before a b = ltb a.place b.place || (eqb a.place b.place && leb a.number b.number)

unfoldable pub earlier : Fault → Option Fault → Option Fault
earlier a none = some a
earlier a (some b) = some (cond (before a b) a b)

unfoldable pub least : List Fault → Option Fault
least [] = none
least (a ∷ faults) = earlier a (least faults)

-- the clauses as written by the words, each closed by a 0
unfoldable pub onto : ℕ → List (List ℕ) → List (List ℕ)
onto l [] = (l ∷ []) ∷ []
onto l (clause ∷ clauses) = (l ∷ clause) ∷ clauses

unfoldable pub clauses_in : List Token → List (List ℕ)
clauses_in [] = []
clauses_in (literal l ∷ tokens) = onto l (clauses_in tokens)
clauses_in (close ∷ tokens) = [] ∷ clauses_in tokens
clauses_in (invalid ∷ tokens) = clauses_in tokens

-- the formula of a text without faults, as written
unfoldable pub formula_under : Header → List Token → Formula
formula_under malformed tokens = record { variables = 0; clauses = [] }
formula_under (header variables clauses) tokens = record { variables = variables; clauses = clauses_in tokens }

unfoldable pub formula_in : List Piece → Formula
formula_in [] = record { variables = 0; clauses = [] }
formula_in (line ∷ lines) = formula_under (header_of line) (map (λ (w : Piece). token_of w.bytes) (body_of lines))

-- some variable of the clause stands both ways
unfoldable pub both_ways : List ℕ → Bool
both_ways clause = any (λ (l : ℕ). member (positive (variable_of l)) clause && member (negative (variable_of l)) clause) clause

-- A repeated literal stands once, at its first place. A clause with a variable both ways is always met: it keeps its number and has no literals.
unfoldable pub as_read : List ℕ → List ℕ
as_read clause = cond (both_ways clause) [] (firsts clause)

-- the formula as read
unfoldable pub read_formula : Formula → Formula
read_formula formula = record { variables = formula.variables; clauses = map as_read formula.clauses }

-- What a text is: refused by a number of the table, or a formula.
pub data Judged : Type 0 where
  refused : ℕ → Judged
  accepted : Formula → Judged

unfoldable pub judged : Option Fault → Formula → Judged
judged none formula = accepted formula
judged (some fault) formula = refused fault.number

-- Number 1 first, then the earliest place in the text, at one place the lowest number.
unfoldable pub read_text : List ℕ → Judged
read_text text =
    cond (ltb max_text (length text))
    (refused 1)
    (judged (least (faults_of (length text) (lines_of text))) (read_formula (formula_in (lines_of text))))

-- Literals, clauses and formulas, and the limits that document 01 sets them.
use Rattle.std.specs.Prelude.{ℕ, ◌+◌, ◌*◌, ◌/◌, Bool, cond, not, ◌&&◌, ◌||◌, List, map, leb, eqb, length}
use Rattle.base.specs.Lists.{all, any, flat, empty, distinct}

-- A literal (the paper's literal) is 2 × its variable (feature), plus 1 if it is negative (barred); else it is positive (wanted).
abbrev pub positive : ℕ → ℕ
positive variable = 2 * variable

abbrev pub negative : ℕ → ℕ
negative variable = 2 * variable + 1

abbrev pub variable_of : ℕ → ℕ
variable_of literal = literal / 2

-- A clause (rule) is a list of literals. A formula (rule book) has variables 1 to V and its clauses in book order.
pub record Formula : Type 0 where
  pub variables : ℕ
  pub clauses : List (List ℕ)

-- A clause is met if one of its literals is true. One of no literals stands for a rule with a feature both ways, and is always met.
unfoldable pub met : (ℕ → Bool) → List ℕ → Bool
met is_true clause = empty clause || any is_true clause

-- the value of a literal in a setting, which says of each variable whether it is true
unfoldable pub true_in : (ℕ → Bool) → ℕ → Bool
true_in setting l = cond (eqb l (positive (variable_of l))) (setting (variable_of l)) (not (setting (variable_of l)))

-- the literals of all clauses; L is how many they are
abbrev pub literals : Formula → List ℕ
literals formula = flat formula.clauses

abbrev pub max_variables : ℕ
max_variables = 500

abbrev pub max_clauses : ℕ
max_clauses = 1500

abbrev pub max_literals : ℕ
max_literals = 6000

abbrev pub max_clause : ℕ
max_clause = 255

-- the numbers of the largest book: C + L + 4
abbrev pub max_book : ℕ
max_book = max_clauses + max_literals + 4

-- a literal of one of V variables
unfoldable pub literal_within : ℕ → ℕ → Bool
literal_within variables literal = leb 2 literal && leb literal (2 * variables + 1)

-- at most 255 literals of the V variables, no variable twice
unfoldable pub sound_clause : ℕ → List ℕ → Bool
sound_clause variables clause =
    leb (length clause) max_clause
    && all (literal_within variables) clause
    && distinct (map variable_of clause)

-- a formula within document 01's limits
unfoldable pub sound : Formula → Bool
sound formula =
    leb 1 formula.variables
    && leb formula.variables max_variables
    && leb (length formula.clauses) max_clauses
    && leb (length (literals formula)) max_literals
    && all (sound_clause formula.variables) formula.clauses

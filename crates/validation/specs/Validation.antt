-- The validation of a lent session (document 01, "Examination"), as a test: the numbers are those of a valid run.
use Rattle.std.specs.Prelude.{ℕ, zero, suc, ◌+◌, ◌*◌, Bool, true, cond, not, ◌&&◌, ◌||◌, List, [], ◌∷◌, map, leb, ltb, eqb, length, get_or, take}
use Rattle.base.specs.Lists.{all, any, member, distinct, same, times, up_to}
use Rattle.book.specs.Formula.{Formula, variable_of, literal_within}
use Rattle.run.specs.Trail.{Entry, opposite, is_true, is_false, decisions, level, lowered}
use Rattle.run.specs.Scan.{Cell}
use Rattle.run.specs.Run.{Run, clause_of, size, cell_of, list_of, max_count}
use Rattle.run.specs.Calls.{max_backtracks}
use Rattle.run.specs.Valid.{first_watch, second_watch, standing}
use Rattle.layout.specs.Layout.{required_length, encode, held}
use Rattle.book.specs.Numbers.{well_formed, formula_of}

-- an implied literal has a clause whose other literals are all false on the trail before it
unfoldable pub has_reason : Formula → List Entry → ℕ → Bool
has_reason formula trail l =
    any (λ (clause : List ℕ). member l clause && all (λ (m : ℕ). eqb m l || is_false trail m) clause) formula.clauses

unfoldable pub is_justified : Formula → List Entry → Bool
is_justified formula [] = true
is_justified formula (e ∷ trail) =
    (e.decided || has_reason formula trail e.literal) && is_justified formula trail

-- two different watches, and the pointer is one of them; a clause of one literal or of none has 0 in each
unfoldable pub is_watching : ℕ → Cell → Bool
is_watching n cell =
    cond (leb 2 n)
    (ltb cell.first n && ltb cell.second n && not (eqb cell.first cell.second)
    && (eqb cell.pointer cell.first || eqb cell.pointer cell.second))
    (eqb cell.first 0 && eqb cell.second 0 && eqb cell.pointer 0)

-- no false watch, or one false and one true whose level is not above it
unfoldable pub is_guarded : List Entry → ℕ → ℕ → Bool
is_guarded trail a b = is_false trail a && is_true trail b && leb (level trail b) (level trail (opposite a))

unfoldable pub watches_hold : List Entry → ℕ → ℕ → Bool
watches_hold trail a b = (not (is_false trail a) && not (is_false trail b)) || (is_guarded trail a b || is_guarded trail b a)

-- one-literal clauses are true at level 0, and the watches of longer ones hold
unfoldable pub is_fixpoint : Formula → Run → List Entry → Bool
is_fixpoint formula run trail =
    up_to (length formula.clauses)
    (λ (c : ℕ).
    cond (eqb (size formula c) 1)
    (is_true trail (get_or (clause_of formula c) 0 0) && eqb (level trail (get_or (clause_of formula c) 0 0)) 0)
    (cond (leb 2 (size formula c)) (watches_hold trail (first_watch formula run c) (second_watch formula run c)) true))

-- in conflict the conflict clause has a literal and is all false, and the rest holds for the trail without its top level, if it has one
unfoldable pub is_conflict : Formula → Run → ℕ → Bool
is_conflict formula run zero = is_fixpoint formula run run.trail
is_conflict formula run (suc c) =
    leb 1 (size formula c)
    && all (is_false run.trail) (clause_of formula c)
    && (eqb (length (decisions run.trail)) 0 || is_fixpoint formula run (lowered run.trail))

-- each clause stands once in each of its watches' lists and in no other
unfoldable pub is_listed : Formula → Run → Bool
is_listed formula run =
    up_to (2 * formula.variables + 2)
    (λ (l : ℕ).
    all (λ (c : ℕ). ltb c (length formula.clauses)) (list_of run.lists l)
    && up_to (length formula.clauses) (λ (c : ℕ). eqb (times c (list_of run.lists l)) (standing formula run l c)))

unfoldable pub is_valid : Formula → Run → Bool
is_valid formula run =
    all (λ (e : Entry). literal_within formula.variables e.literal) run.trail
    && eqb (length run.cells) (length formula.clauses)
    && eqb (length run.lists) (2 * formula.variables + 2)
    && eqb (length run.checks) (length formula.clauses)
    && all (λ (n : ℕ). leb n max_count) run.checks
    && leb run.backtracks max_backtracks
    && leb run.fixed (length (decisions run.trail))
    && distinct (map (λ (e : Entry). variable_of e.literal) run.trail)
    && is_justified formula run.trail
    && up_to (length formula.clauses) (λ (c : ℕ). is_watching (size formula c) (cell_of run c))
    && is_listed formula run
    && is_conflict formula run run.conflict

-- A lent session passes exactly if it is long enough, its numbers are those of the run that they hold, and that run is valid.
unfoldable pub passes : Formula → List ℕ → Bool
passes formula numbers =
    leb (required_length formula.variables (length formula.clauses)) (length numbers)
    && same (take (required_length formula.variables (length formula.clauses)) numbers) (encode formula (held formula numbers))
    && is_valid formula (held formula numbers)

-- Session calls: 11, then 12, then what the call itself refuses in the run that the session holds.
unfoldable pub call_refusal : List ℕ → List ℕ → (Run → ℕ) → ℕ
call_refusal book session own =
    cond (well_formed book) (cond (passes (formula_of book) session) (own (held (formula_of book) session)) 12) 11

-- What only reads refuses by 11 and 12 alone.
unfoldable pub read_refusal : List ℕ → List ℕ → ℕ
read_refusal book session = call_refusal book session (λ (run : Run). 0)

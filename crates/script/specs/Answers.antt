-- The lines that the script program prints, as bytes, each with its byte 10.
use Rattle.std.specs.Prelude.{ℕ, ◌%◌, cond, List, [], ◌∷◌, ◌++◌, eqb, length}
use Prim.Native.Char.{code}
use Prim.Native.String.{String, [] as ends, ◌∷◌ as ◌then◌}
use Rattle.book.specs.Formula.{variable_of}
use Rattle.book.specs.Printer.{digits}
use Rattle.script.specs.declared.Cause.{Cause}
use Rattle.script.specs.declared.Cause.TheVariants.{Opening, Decision}

-- a quoted text as bytes
unfoldable pub bytes : String → List ℕ
bytes ends = []
bytes (c then s) = code c ∷ bytes s

-- a number of at most 64 bits in decimal
abbrev pub numeral : ℕ → List ℕ
numeral n = digits 20 n

-- a literal as a signed variable: `-` before it if it is negative
unfoldable pub signed : ℕ → List ℕ
signed literal = cond (eqb (literal % 2) 1) (45 ∷ numeral (variable_of literal)) (numeral (variable_of literal))

-- the literals, each behind one blank, then the end of the line
unfoldable pub listed : List ℕ → List ℕ
listed [] = 10 ∷ []
listed (literal ∷ literals) = 32 ∷ (signed literal ++ listed literals)

-- what begins the line of a call that propagated
unfoldable pub call_words : Cause → List ℕ
call_words Opening = bytes "open"
call_words (Decision literal) = bytes "choose " ++ signed literal

-- a call that propagated without a conflict: how many literals it implied, and each of them
unfoldable pub implied_line : Cause → List ℕ → List ℕ
implied_line cause literals = call_words cause ++ (bytes " forced " ++ (numeral (length literals) ++ (58 ∷ listed literals)))

-- a call that ended in a conflict: the conflict clause's name
unfoldable pub clause_line : Cause → ℕ → List ℕ
clause_line cause clause = call_words cause ++ (bytes " rule " ++ (numeral clause ++ (10 ∷ [])))

-- an accepted backtrack
unfoldable pub back_line : ℕ → List ℕ
back_line k = bytes "back " ++ (numeral k ++ (10 ∷ []))

unfoldable pub refused_line : ℕ → List ℕ
refused_line refusal = bytes "refused " ++ (numeral refusal ++ (10 ∷ []))

-- the last line: decisions in force, accepted backtracks, total checks
unfoldable pub end_line : ℕ → ℕ → ℕ → List ℕ
end_line decisions backtracks checks =
    bytes "end choices " ++ (numeral decisions
    ++ (bytes " backs " ++ (numeral backtracks ++ (bytes " checks " ++ (numeral checks ++ (10 ∷ []))))))

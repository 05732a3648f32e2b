-- Request K11, tell us beforehand: the calls of a script, its lines of the form `b k`, what is quoted for it on a book, and what that covers.
use Rattle.std.specs.Prelude.{ℕ, ◌+◌, ◌*◌, ◌≤◌, ◌≡◌, Bool, true, false, cond, Option, Some, None, Result, List, [], ◌∷◌, ◌++◌, map, ltb, length}
use Rattle.base.specs.Lists.{keep, flat, sum}
use Rattle.book.specs.Formula.{Formula}
use Rattle.book.specs.Numbers.{variables_of, clauses_of, well_formed, formula_of}
use Rattle.refusals.specs.declared.Refusal.{Refusal}
use Rattle.refusals.specs.Refusals.{outcome}
use Rattle.run.specs.Calls.{Call, decision, backtrack_by, reference}
use Rattle.run.specs.Ceiling.{worst}
use Rattle.layout.specs.Layout.{required_length}
use Rattle.script.specs.declared.Line.{Line}
use Rattle.script.specs.declared.Line.TheVariants.{Choose, Back}
use Rattle.script.specs.Script.{script_lines, line_of}
use Rattle.script.specs.Desk.{end_line_of}
use Rattle.quote.specs.declared.Quote.{Quote}

-- The calls that a script asks for, line by line; a malformed line asks for none.
unfoldable pub line_calls : Option Line → List Call
line_calls (Some (Choose l)) = decision l ∷ []
line_calls (Some (Back k)) = backtrack_by k ∷ []
line_calls None = []

unfoldable pub script_calls : List ℕ → List Call
script_calls script = flat (map (λ (line : List ℕ). line_calls (line_of line)) (script_lines script))

-- a line of the form `b k`, as the script program reads lines, whatever k is
unfoldable pub is_back : Option Line → Bool
is_back (Some (Choose l)) = false
is_back (Some (Back k)) = true
is_back None = false

-- b: how many lines of a script are of that form, accepted or not.
unfoldable pub back_lines : List ℕ → ℕ
back_lines script = length (keep (λ (line : List ℕ). is_back (line_of line)) (script_lines script))

-- the most of them that are quoted for
abbrev pub max_back_lines : ℕ
max_back_lines = 1000000

-- The quoted ceiling: W × (b + 1).
abbrev pub quoted_ceiling : List ℕ → List ℕ → ℕ
quoted_ceiling book script = worst (formula_of book) * (back_lines script + 1)

-- A quote: the session's length in numbers, W, b and the quoted ceiling.
abbrev pub quote_of : List ℕ → List ℕ → Quote
quote_of book script =
    record {
      length = required_length (variables_of book) (clauses_of book);
      worst = worst (formula_of book);
      back_lines = back_lines script;
      ceiling = quoted_ceiling book script;
    }

-- The answer: 11 for book numbers at fault, 17 for more lines than that; else the quote.
unfoldable pub quote_answer : List ℕ → List ℕ → Result Quote Refusal
quote_answer book script = outcome (cond (well_formed book) (cond (ltb max_back_lines (back_lines script)) 17 0) 11) (quote_of book script)

-- What the program prints for a script ends with the last line of the reference run of its calls, and that shows at most so many checks.
pub record EndsWithin (most : ℕ) (formula : Formula) (script output : List ℕ) : Type 0 where
  pub before : List ℕ
  pub ends : output ≡ before ++ end_line_of (reference formula (script_calls script))
  pub within : sum (reference formula (script_calls script)).checks ≤ most

-- Request K6, checks by chapter: the total of each chapter, what the call answers, and the lent totals afterwards.
use Rattle.std.specs.Prelude.{ℕ, ◌+◌, Bool, true, false, cond, ◌&&◌, Result, Ok, Err, List, [], ◌∷◌, ◌++◌, leb, eqb, length, take, drop}
use Rattle.base.specs.Lists.{all, table}
use Rattle.book.specs.Numbers.{clauses_of, formula_of}
use Rattle.layout.specs.Layout.{held}
use Rattle.validation.specs.Validation.{read_refusal}
use Rattle.refusals.specs.declared.Refusal.{Refusal}
use Rattle.refusals.specs.Refusals.{outcome}

-- Clauses (the paper's rules) are filed in chapters, 0 to 31.
abbrev pub max_chapter : ℕ
max_chapter = 31

abbrev pub chapter_count : ℕ
chapter_count = 32

-- The total of chapter k, of a count and a chapter for each clause: the sum of the counts of the clauses in chapter k.
unfoldable pub chapter_total : ℕ → List ℕ → List ℕ → ℕ
chapter_total k [] chapters = 0
chapter_total k (count ∷ counts) [] = 0
chapter_total k (count ∷ counts) (chapter ∷ chapters) = cond (eqb chapter k) count 0 + chapter_total k counts chapters

-- The 32 totals, chapter 0 first.
unfoldable pub chapter_totals : List ℕ → List ℕ → List ℕ
chapter_totals counts chapters = table chapter_count (λ (k : ℕ). chapter_total k counts chapters)

-- There is a chapter for each clause, none of these is over 31, and the 32 totals have room. Chapters behind those of the clauses are not looked at.
unfoldable pub chapters_fit : ℕ → List ℕ → ℕ → Bool
chapters_fit clauses chapters room =
    leb clauses (length chapters) && all (λ (chapter : ℕ). leb chapter max_chapter) (take clauses chapters) && leb chapter_count room

-- The lent totals afterwards: those written where the answer is true, followed by what is lent behind them; else nothing is written.
abbrev pub totals_after : List ℕ → List ℕ → Result Bool Refusal → List ℕ
totals_after written buffer (Err refusal) = buffer
totals_after written buffer (Ok false) = buffer
totals_after written buffer (Ok true) = written ++ drop chapter_count buffer

-- On a book, of a session and of chapters, all as lent numbers. What only reads refuses by 11 and 12 alone.
-- The answer: the refusal, or whether the chapters fit.
module _ (book session chapters : List ℕ) where
  unfoldable pub chapter_answer : ℕ → Result Bool Refusal
  chapter_answer room = outcome (read_refusal book session) (chapters_fit (clauses_of book) chapters room)

  unfoldable pub chapter_numbers : List ℕ → List ℕ
  chapter_numbers totals = totals_after (chapter_totals (held (formula_of book) session).checks chapters) totals (chapter_answer (length totals))

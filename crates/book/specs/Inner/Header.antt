-- What the contracts of src/header.rt cite: the words of the header line.
use Rattle.std.specs.Prelude.{ℕ, ◌≤◌, ◌≡◌, Bool, true, false, Option, Some, None, List, ◌∷◌, length, drop}
use Rattle.base.specs.Lists.{same}
use Rattle.book.specs.Text.{header, unsigned, decimal}
use Rattle.book.specs.Reading.{refused}
use Rattle.book.specs.Inner.Words.{words_behind}
use Rattle.book.specs.Inner.Walk.{walk_under, walk_start}
use Rattle.book.specs.declared.cursor.Cursor.{Cursor}
use Rattle.book.specs.declared.header.Header.{Header}
use Rattle.book.specs.Inner.Cursor.{line_words, tokens_here, NextInLine, LineEnds}

-- the line's next word passes a test, and the line goes on at `next`
pub record WordPasses (test : List ℕ → Bool) (text : List ℕ) (at next : ℕ) : Type 0 where
  pub word : List ℕ
  pub passes : test word ≡ true
  pub words : line_words text at ≡ word ∷ line_words text next
  pub within : next ≤ length text
  pub same_behind : words_behind at (drop at text) ≡ words_behind next (drop next text)

-- the line ends with no next word, or goes on behind one that fails the test
pub data WordFails (test : List ℕ → Bool) (text : List ℕ) (at : ℕ) : Type 0 where
  none : (next : ℕ) → LineEnds text at next → WordFails test text at
  other : (word : List ℕ) (next : ℕ) → NextInLine text at word next → test word ≡ false → WordFails test text at

abbrev pub KeywordSays : List ℕ → ℕ → List ℕ → Option Cursor → Type 0
KeywordSays text at keyword (Some next) = WordPasses (λ (w : List ℕ). same w keyword) text at next.at
KeywordSays text at keyword None = WordFails (λ (w : List ℕ). same w keyword) text at

abbrev pub FieldSays : List ℕ → ℕ → Option (ℕ × Cursor) → Type 0
FieldSays text at (Some field) = (p : WordPasses unsigned text at field.1.at) × (decimal 0 p.word ≡ field.0)
FieldSays text at None = WordFails unsigned text at

-- the answer to a text whose lines before `at` are skipped: malformed, or what the words behind the header say
abbrev pub HeaderSays : List ℕ → ℕ → Option Header → Type 0
HeaderSays text at (Some h) =
    (h.next.at ≤ length text) × (walk_start at (drop at text) ≡ walk_under (header h.variables h.clauses) (tokens_here text h.next.at))
HeaderSays text at None = walk_start at (drop at text) ≡ refused 2

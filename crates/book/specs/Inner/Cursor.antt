-- What the contracts of src/cursor.rt cite: lines, gaps and steps from word to word.
use Rattle.std.specs.Prelude.{ℕ, ◌-◌, ◌≤◌, ◌<◌, ◌≡◌, true, false, Option, Some, None, List, [], ◌∷◌, map, length, get_or, take, drop}
use Rattle.base.specs.Lists.{begins}
use Rattle.book.specs.Text.{Piece, Token, token_of, blank}
use Rattle.book.specs.Inner.Words.{words_here, words_start, words_line, words_behind}
use Rattle.book.specs.Inner.Walk.{tokens_of, walk_start}

-- From the start of a line at `at`, the lines up to r are skipped, and the one at r is not.
pub record LineStart (text : List ℕ) (at r : ℕ) : Type 0 where
  pub ahead : at ≤ r
  pub within : r ≤ length text
  pub unskipped : begins 99 (drop r text) ≡ false
  pub same_words : words_start at (drop at text) ≡ words_start r (drop r text)
  pub same_walk : walk_start at (drop at text) ≡ walk_start r (drop r text)

-- From `at` inside a line, there is no word before r, and a word begins at r if the text does not end there.
pub record GapEnd (text : List ℕ) (at r : ℕ) : Type 0 where
  pub ahead : at ≤ r
  pub within : r ≤ length text
  pub same_words : words_here at (drop at text) ≡ words_here r (drop r text)
  pub at_word : r < length text → blank (get_or text r 0) ≡ false

-- the tokens from `at` on, which stands inside a line that is not skipped
abbrev pub tokens_here : List ℕ → ℕ → List Token
tokens_here text at = tokens_of (words_here at (drop at text))

-- the word that begins at `from` and ends at `next`, or no word: then nothing stands between the two
abbrev pub WordAt : List ℕ → ℕ → Option (List ℕ) → ℕ → Type 0
WordAt text from (Some word) next = (from < next) × (word ≡ take (next - from) (drop from text))
WordAt text from None next = next ≡ from

-- the first token from `at` on, and the place behind its word
pub record NextWord (text : List ℕ) (at : ℕ) (token : Token) (next : ℕ) : Type 0 where
  pub ahead : at < next
  pub within : next ≤ length text
  pub tokens : tokens_here text at ≡ token ∷ tokens_here text next

-- no token from `at` on, and `next` is the end of the text
pub record NoWord (text : List ℕ) (at next : ℕ) : Type 0 where
  pub at_end : next ≡ length text
  pub tokens : tokens_here text at ≡ []

-- What a step of the cursor says. The cursor handed back stands behind the word; without a word, at the end of the text.
abbrev pub Stepped : List ℕ → ℕ → Option (List ℕ) → ℕ → Type 0
Stepped text at (Some word) next = NextWord text at (token_of word) next
Stepped text at None next = NoWord text at next

-- From `at` inside a line, there is no word of the line before r, where one begins if the line does not end there.
pub record SpaceEnd (text : List ℕ) (at r : ℕ) : Type 0 where
  pub ahead : at ≤ r
  pub within : r ≤ length text
  pub same_line : words_line at (drop at text) ≡ words_line r (drop r text)
  pub same_behind : words_behind at (drop at text) ≡ words_behind r (drop r text)
  pub at_end : r < length text → blank (get_or text r 0) ≡ true → get_or text r 0 ≡ 10

-- the words of the line that `at` stands in, from there on
abbrev pub line_words : List ℕ → ℕ → List (List ℕ)
line_words text at = map (λ (p : Piece). p.bytes) (words_line at (drop at text))

-- the first word of the line from `at` on, which begins at `from`, and the place behind it
pub record NextInLine (text : List ℕ) (at : ℕ) (word : List ℕ) (next : ℕ) : Type 0 where
  pub from : ℕ
  pub place : WordAt text from (Some word) next
  pub within : next ≤ length text
  pub words : line_words text at ≡ word ∷ line_words text next
  pub same_behind : words_behind at (drop at text) ≡ words_behind next (drop next text)

-- the line has no word from `at` on, and ends at `next`
pub record LineEnds (text : List ℕ) (at next : ℕ) : Type 0 where
  pub within : next ≤ length text
  pub words : line_words text at ≡ []
  pub tokens : tokens_here text next ≡ tokens_of (words_behind at (drop at text))

abbrev pub SteppedInLine : List ℕ → ℕ → Option (List ℕ) → ℕ → Type 0
SteppedInLine text at (Some word) next = NextInLine text at word next
SteppedInLine text at None next = LineEnds text at next

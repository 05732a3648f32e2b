-- The header line, word by word, as the code meets it.
use Prim.Native.Nat.{ℕ, suc}
use mathlib.Core.Path.{◌≡◌, refl, ap, sym, ◌∙◌}
use mathlib.Core.Bool.{Bool, true, false, ◌&&◌, and-false}
use mathlib.Core.List.{List, [], ◌∷◌}
use native.Mathlib.Omega.{arith}
use borrow.Author.Tests.{ne_eqb}
use lib.ListN.{length, drop}
use Rattle.base.specs.Lists.{same, begins}
use Rattle.book.specs.Text.{unsigned, decimal, header, headed, header_in}
use Rattle.book.specs.Reading.{refused}
use Rattle.book.specs.Inner.Words.{words_behind}
use Rattle.book.specs.Inner.Walk.{tokens_of, walk_under, walk_start}
use Rattle.book.specs.Inner.Cursor.{line_words, tokens_here, NextInLine, LineEnds}
use Rattle.book.specs.Inner.Header.{WordPasses, WordFails, none, other, KeywordSays, FieldSays}
use Rattle.book.specs.Answer.{digits_of}
use Rattle.book.specs.declared.cursor.Cursor.{Cursor}
use Rattle.std.specs.Prelude.{Option, Some, None, nat_eq}
use Rattle.std.specs.Option.{option_map}
use Rattle.std.specs.Bool.{then_some}
use lib.Pointwise.{pointwise}
use Rattle.book.proofs.DecimalLaws.{word_unsigned, word_not_unsigned}
use Rattle.book.proofs.WordLaws.{walk_behind, header_line}

-- two lists of numbers are equal where they are the same
same_pointwise : (xs ys : List ℕ) → pointwise nat_eq xs ys ≡ same xs ys
unfolding same
same_pointwise [] [] = refl
same_pointwise [] (y ∷ ys) = refl
same_pointwise (x ∷ xs) [] = refl
same_pointwise (x ∷ xs) (y ∷ ys) = ap (λ (t : Bool). nat_eq x y && t) (same_pointwise xs ys)

module _ {text : List ℕ} {at : ℕ} {word : List ℕ} (next : Cursor) (n : NextInLine text at word next.at) where
  word_passes : (test : List ℕ → Bool) → test word ≡ true → WordPasses test text at next.at
  word_passes test e = record { word = word; passes = e; words = n.words; within = n.within; same_behind = n.same_behind }

  -- the line's next word is the keyword, or another word
  pub keyword_says : (keyword : List ℕ) (equal : Bool) → equal ≡ pointwise nat_eq word keyword → KeywordSays text at keyword (then_some equal next)
  keyword_says keyword true e = word_passes (λ (w : List ℕ). same w keyword) (sym (e ∙ same_pointwise word keyword))
  keyword_says keyword false e = other word next.at n (sym (e ∙ same_pointwise word keyword))

  -- the line's next word is a number, or another word
  pub field_says : (value : Option ℕ) → value ≡ digits_of word → FieldSays text at (option_map (λ (v : ℕ). (v, next)) value)
  unfolding word_passes
  field_says (Some value) e =
      let digits = word_unsigned word value e in
      (word_passes unsigned digits.0, digits.1)
  field_says None e = other word next.at n (word_not_unsigned word e)

-- the tests of the first two words
abbrev pub is_p : List ℕ → Bool
is_p word = same word (112 ∷ [])

abbrev pub is_cnf : List ℕ → Bool
is_cnf word = same word (99 ∷ 110 ∷ 102 ∷ [])

-- the header is malformed as soon as a word of it fails, or a fifth word follows
module _ {text : List ℕ} {at : ℕ} where
  pub first_fails : WordFails is_p text at → headed (line_words text at) ≡ false
  unfolding headed
  first_fails (none next l) = rw l.words
  first_fails (other word next n f) = rw (n.words, f, and-false)

  module _ {a : ℕ} (p : WordPasses is_p text at a) where
    pub second_fails : WordFails is_cnf text a → headed (line_words text at) ≡ false
    unfolding headed
    second_fails (none next l) = rw (p.words, l.words)
    second_fails (other word next n f) = rw (p.words, n.words, f, and-false)

    module _ {b : ℕ} (q : WordPasses is_cnf text a b) where
      pub third_fails : WordFails unsigned text b → headed (line_words text at) ≡ false
      unfolding headed
      third_fails (none next l) = rw (p.words, q.words, l.words)
      third_fails (other word next n f) = rw (p.words, q.words, n.words, f, and-false)

      module _ {c : ℕ} (r : WordPasses unsigned text b c) where
        pub fourth_fails : WordFails unsigned text c → headed (line_words text at) ≡ false
        unfolding headed
        fourth_fails (none next l) = rw (p.words, q.words, r.words, l.words)
        fourth_fails (other word next n f) = rw (p.words, q.words, r.words, n.words, f, and-false)

        module _ {d : ℕ} (s : WordPasses unsigned text c d) where
          pub fifth_word : {word : List ℕ} {next : ℕ} → NextInLine text d word next → headed (line_words text at) ≡ false
          unfolding headed
          fifth_word {word} {next} n =
              rw (p.words, q.words, r.words, s.words, n.words, ne_eqb (suc (suc (suc (suc (suc (length (line_words text next))))))) 4 (λ e. omega arith))

          pub well_headed : {next : ℕ} → LineEnds text d next → header_in (line_words text at) ≡ header (decimal 0 r.word) (decimal 0 s.word)
          unfolding headed header_in
          well_headed l = rw (p.words, q.words, r.words, s.words, l.words, p.passes, q.passes, r.passes, s.passes)

          pub tokens_behind : {next : ℕ} → LineEnds text d next → tokens_of (words_behind at (drop at text)) ≡ tokens_here text next
          tokens_behind l =
              ap tokens_of (p.same_behind ∙ q.same_behind ∙ r.same_behind ∙ s.same_behind) ∙ sym l.tokens

module _ (text : List ℕ) (at : ℕ) (unskipped : begins 99 (drop at text) ≡ false) where
  pub malformed_first : begins 112 (drop at text) ≡ false → walk_start at (drop at text) ≡ refused 2
  unfolding walk_under
  malformed_first e = walk_behind at (drop at text) unskipped ∙ rw (header_line at (drop at text), e)

  pub malformed_words : headed (line_words text at) ≡ false → walk_start at (drop at text) ≡ refused 2
  unfolding walk_under header_in
  malformed_words e = go (begins 112 (drop at text)) refl
    where
      go : (b : Bool) → begins 112 (drop at text) ≡ b → walk_start at (drop at text) ≡ refused 2
      go true q = walk_behind at (drop at text) unskipped ∙ rw (header_line at (drop at text), q, e)
      go false q = malformed_first q

  pub well_formed_header : (variables clauses next : ℕ) → begins 112 (drop at text) ≡ true → header_in (line_words text at) ≡ header variables clauses
      → tokens_of (words_behind at (drop at text)) ≡ tokens_here text next
      → walk_start at (drop at text) ≡ walk_under (header variables clauses) (tokens_here text next)
  well_formed_header variables clauses next b e t = walk_behind at (drop at text) unskipped ∙ rw (header_line at (drop at text), b, e, t)

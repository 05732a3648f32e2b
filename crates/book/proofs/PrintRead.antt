-- A printed formula is read back as it was, so every formula that can be spelled within the limits has a text that is accepted.
use Prim.Native.Nat.{ℕ, suc, ◌+◌, ◌/◌, ◌%◌, ◌≤◌, ◌<◌}
use native.Mathlib.Omega.{arith}
use mathlib.Core.Path.{◌≡◌, refl, ap, ◌∙◌}
use mathlib.Core.Bool.{Bool, true, false, cond, not}
use mathlib.Core.List.{List, [], ◌∷◌, ◌++◌, map, map-map, map-append, append_assoc}
use lib.Dec.{eqb}
use lib.ListN.{length, length-map}
use lib.Seq.{drop-append_seam}
use borrow.Author.Tests.{le-ltb, ne_eqb, eqb-true, eqb-false, not-true}
use Rattle.base.specs.Lists.{all, flat, same, begins, until}
use Rattle.base.proofs.Bools.{and_parts}
use Rattle.base.proofs.Lists.{all_imply}
use Rattle.base.proofs.Until.{until_more, until_stop}
use Rattle.book.specs.Formula.{Formula, literals, max_variables, max_literals, max_book, literal_within, sound}
use Rattle.book.specs.Text.{Piece, Token, literal, blank, line_end, decimal, unsigned, is_digit, unsigned_token, negative_token, token_of, header, headed, header_in, header_of}
use Rattle.book.specs.Reading.{max_text, read_formula, accepted, read_text}
use Rattle.book.specs.Answer.{read_answer}
use Rattle.std.specs.Prelude.{Ok}
use Rattle.book.specs.Printer.{print_number, print_literal, print_clause, spelled, print_text}
use Rattle.book.specs.Inner.Walk.{tokens_of, walk_under, walk_start, read_judged}
use Rattle.book.specs.Inner.Words.{words_line, words_behind, words_here, words_start}
use Rattle.book.proofs.WordLaws.{line_word, line_blank, line_end_lem, word_not_end, behind_byte, behind_end, start_plain, start_none, walk_behind, walk_lines_lem, header_line}
use Rattle.book.proofs.ReadIsWalk.{read_is_walk}
use Rattle.book.proofs.Accepted.{accepted_answered}
use Rattle.book.proofs.SoundLaws.{literal_parts, FormulaParts, formula_parts}
use Rattle.book.proofs.WrittenLaws.{written_clause, written_parts, clauses_read_back}
use Rattle.book.proofs.WalkAccepts.{clause_tokens, tokens_for, clauses_walk}
use Rattle.book.proofs.parse.Laws.{within_limits}
use Rattle.book.proofs.DecimalLaws.{token_plain}
use Rattle.book.proofs.PrintedText.{spelled_clauses, printed_within}
use Rattle.book.proofs.DigitLaws.{number_printed, printed_unsigned, digit_not_blank, digits_begin}

-- a word: bytes that are no blanks, and at least one
record PlainWord (w : List ℕ) : Type 0 where
  some_byte : 1 ≤ length w
  no_blank : all (λ (b : ℕ). not (blank b)) w ≡ true

until_word : (w : List ℕ) (b : ℕ) (t : List ℕ) → all (λ (x : ℕ). not (blank x)) w ≡ true → blank b ≡ true → until blank (w ++ (b ∷ t)) ≡ w
unfolding all
until_word [] b t h e = until_stop blank b t e
until_word (x ∷ w) b t h e =
    let parts = and_parts (not (blank x)) (all (λ (y : ℕ). not (blank y)) w) h in
    rw (until_more blank x (w ++ (b ∷ t)) (not-true (blank x) parts.0), until_word w b t parts.1 e)

-- What t says where it begins inside a line, and where it begins a line, wherever it stands in the text: the words of the line, and the
-- tokens of the lines behind it; the tokens of all lines.
record Lined (t : List ℕ) (words : List (List ℕ)) (tokens : List Token) : Type 0 where
  line_words : (at : ℕ) → map (λ (p : Piece). p.bytes) (words_line at t) ≡ words
  tokens_behind : (at : ℕ) → tokens_of (words_behind at t) ≡ tokens

abbrev Starts : List ℕ → List Token → Type 0
Starts t tokens = (at : ℕ) → tokens_of (words_start at t) ≡ tokens

behind_word_byte : (w t : List ℕ) (tokens : List Token) → all (λ (b : ℕ). not (blank b)) w ≡ true
    → ((at : ℕ) → tokens_of (words_behind at t) ≡ tokens)
    → (at : ℕ) → tokens_of (words_behind at (w ++ t)) ≡ tokens
unfolding all
behind_word_byte [] t tokens h behind at = behind at
behind_word_byte (x ∷ w) t tokens h behind at =
    let parts = and_parts (not (blank x)) (all (λ (y : ℕ). not (blank y)) w) h in
    rw (behind_byte at x (w ++ t) (word_not_end x (not-true (blank x) parts.0)))
    (behind_word_byte w t tokens parts.1 behind (suc at))

lined_word : (w : List ℕ) (b : ℕ) (t : List ℕ) (words : List (List ℕ)) (tokens : List Token) → PlainWord w → blank b ≡ true
    → Lined (b ∷ t) words tokens
    → Lined (w ++ (b ∷ t)) (w ∷ words) tokens
unfolding all
lined_word [] b t words tokens word e lined = absurd (omega arith)
lined_word (x ∷ w) b t words tokens word e lined =
    let parts = and_parts (not (blank x)) (all (λ (y : ℕ). not (blank y)) w) word.no_blank in
    record {
      line_words = λ at. rw (line_word at x (w ++ (b ∷ t)) (not-true (blank x) parts.0), until_word w b t parts.1 e, drop-append_seam)
          (ap (λ (ws : List (List ℕ)). (x ∷ w) ∷ ws) (lined.line_words (at + 1 + length w)));
      tokens_behind = behind_word_byte (x ∷ w) (b ∷ t) tokens word.no_blank lined.tokens_behind;
    }

lined_blank : (t : List ℕ) (words : List (List ℕ)) (tokens : List Token) → Lined t words tokens → Lined (32 ∷ t) words tokens
unfolding blank line_end
lined_blank t words tokens lined = record {
  line_words = λ at. rw (line_blank at 32 t refl refl) (lined.line_words (suc at));
  tokens_behind = λ at. rw (behind_byte at 32 t refl) (lined.tokens_behind (suc at));
}

lined_end : (t : List ℕ) (tokens : List Token) → Starts t tokens → Lined (10 ∷ t) [] tokens
unfolding line_end
lined_end t tokens starts = record {
  line_words = λ at. rw (line_end_lem at 10 t refl);
  tokens_behind = λ at. rw (behind_end at 10 t refl) (starts (suc at));
}

starts_plain : (t : List ℕ) (words : List (List ℕ)) (tokens : List Token) → begins 99 t ≡ false → Lined t words tokens
    → Starts t (map token_of words ++ tokens)
unfolding words_here tokens_of
starts_plain t words tokens h lined at =
    rw (start_plain at t h, map-append, lined.tokens_behind at, ← lined.line_words at, map-map)

-- printed numbers and literals
number_word : (n : ℕ) → n < 1000000000 → PlainWord (print_number n)
number_word n h =
    let p = number_printed n h in
    record {
      some_byte = p.some_digit;
      no_blank = all_imply is_digit (λ b. not (blank b)) digit_not_blank (print_number n) p.all_digits;
    }

signed_word : (w : List ℕ) → PlainWord w → PlainWord (45 ∷ w)
unfolding all blank
signed_word w word = record { some_byte = omega arith; no_blank = word.no_blank }

literal_word : (l : ℕ) → l / 2 < 1000000000 → PlainWord (print_literal l)
unfolding print_literal
literal_word l h = go (eqb (l % 2) 1) (number_word (l / 2) h)
  where
    go : (b : Bool) → PlainWord (print_number (l / 2)) → PlainWord (cond b (45 ∷ print_number (l / 2)) (print_number (l / 2)))
    go true word = signed_word (print_number (l / 2)) word
    go false word = word

begins-append : (b : ℕ) (w t : List ℕ) → 1 ≤ length w → begins b (w ++ t) ≡ begins b w
unfolding begins
begins-append b [] t h = absurd (omega arith)
begins-append b (x ∷ w) t h = refl

number_begins : (b n : ℕ) → n < 1000000000 → is_digit b ≡ false → begins b (print_number n) ≡ false
number_begins b n h other = digits_begin b (print_number n) other (number_printed n h).all_digits

module _ (l : ℕ) (low : 2 ≤ l) (high : l / 2 < 1000000000) where
  positive-token : l % 2 ≡ 0 → unsigned_token (print_number (l / 2)) ≡ literal l
  unfolding unsigned_token
  positive-token e =
      rw (printed_unsigned (l / 2) high, (number_printed (l / 2) high).number_back, ne_eqb (l / 2) 0 (λ z. omega arith))
      (ap literal (omega arith))

  negative_token_lem : l % 2 ≡ 1 → negative_token (print_number (l / 2)) ≡ literal l
  unfolding negative_token
  negative_token_lem e =
      rw (printed_unsigned (l / 2) high, (number_printed (l / 2) high).number_back, ne_eqb (l / 2) 0 (λ z. omega arith))
      (ap literal (omega arith))

  even : (l % 2 ≡ 1 → ⊥) → l % 2 ≡ 0
  even h = omega arith

  literal_token : token_of (print_literal l) ≡ literal l
  unfolding print_literal token_of is_digit
  literal_token = go (eqb (l % 2) 1) refl
    where
      go : (b : Bool) → eqb (l % 2) 1 ≡ b → token_of (cond b (45 ∷ print_number (l / 2)) (print_number (l / 2))) ≡ literal l
      go true e = negative_token_lem (eqb-true (l % 2) 1 e)
      go false e =
          let other = eqb-false (l % 2) 1 e in
          token_plain (print_number (l / 2)) (number_begins 45 (l / 2) high refl) ∙ positive-token (even other)

literal_begins : (l : ℕ) (t : List ℕ) → l / 2 < 1000000000 → begins 99 (print_literal l ++ t) ≡ false
unfolding print_literal is_digit begins
literal_begins l t h = go (eqb (l % 2) 1)
  where
    go : (b : Bool) → begins 99 (cond b (45 ∷ print_number (l / 2)) (print_number (l / 2)) ++ t) ≡ false
    go true = refl
    go false = begins-append 99 (print_number (l / 2)) t (number_printed (l / 2) h).some_digit ∙ number_begins 99 (l / 2) h refl

literal_limits : (variables l : ℕ) → variables ≤ max_variables → literal_within variables l ≡ true → (2 ≤ l) × (l / 2 < 1000000000)
literal_limits variables l v h = let limits = literal_parts variables l h in omega arith

-- a clause: its words, and their tokens
clause_words : List ℕ → List (List ℕ)
clause_words [] = (48 ∷ []) ∷ []
clause_words (l ∷ ls) = print_literal l ∷ clause_words ls

zero_word : PlainWord (48 ∷ [])
unfolding all blank
zero_word = record { some_byte = omega arith; no_blank = refl }

module _ (variables : ℕ) (v : variables ≤ max_variables) where
  clause-lined : (clause : List ℕ) → all (literal_within variables) clause ≡ true
      → (t : List ℕ) (tokens : List Token) → Starts t tokens → Lined (print_clause clause ++ t) (clause_words clause) tokens
  unfolding print_clause clause_words all blank
  clause-lined [] h t tokens starts = lined_word (48 ∷ []) 10 t [] tokens zero_word refl (lined_end t tokens starts)
  clause-lined (l ∷ ls) h t tokens starts =
      let parts = and_parts (literal_within variables l) (all (literal_within variables) ls) h in
      rw append_assoc
      (lined_word (print_literal l) 32 (print_clause ls ++ t) (clause_words ls) tokens
      (literal_word l (literal_limits variables l v parts.0).1) refl
      (lined_blank (print_clause ls ++ t) (clause_words ls) tokens (clause-lined ls parts.1 t tokens starts)))

  clause_tokens_lem : (clause : List ℕ) → all (literal_within variables) clause ≡ true → (tokens : List Token)
      → map token_of (clause_words clause) ++ tokens ≡ clause_tokens clause tokens
  unfolding clause_words clause_tokens all token_of unsigned_token unsigned is_digit decimal
  clause_tokens_lem [] h tokens = refl
  clause_tokens_lem (l ∷ ls) h tokens =
      let parts = and_parts (literal_within variables l) (all (literal_within variables) ls) h in
      let limits = literal_limits variables l v parts.0 in
      rw (literal_token l limits.0 limits.1, clause_tokens_lem ls parts.1 tokens)

  clause_begins : (clause t : List ℕ) → all (literal_within variables) clause ≡ true → begins 99 (print_clause clause ++ t) ≡ false
  unfolding print_clause all begins
  clause_begins [] t h = refl
  clause_begins (l ∷ ls) t h =
      let parts = and_parts (literal_within variables l) (all (literal_within variables) ls) h in
      rw append_assoc (literal_begins l (32 ∷ (print_clause ls ++ t)) (literal_limits variables l v parts.0).1)

  clauses_start : (clauses : List (List ℕ)) → all (written_clause variables) clauses ≡ true
      → Starts (flat (map print_clause clauses)) (tokens_for clauses)
  unfolding flat tokens_for tokens_of all
  clauses_start [] h at = rw start_none
  clauses_start (clause ∷ clauses) h at =
      let parts = and_parts (written_clause variables clause) (all (written_clause variables) clauses) h in
      let within = (written_parts variables clause parts.0).within in
      starts_plain (print_clause clause ++ flat (map print_clause clauses)) (clause_words clause) (tokens_for clauses)
      (clause_begins clause (flat (map print_clause clauses)) within)
      (clause-lined clause within (flat (map print_clause clauses)) (tokens_for clauses) (clauses_start clauses parts.1)) at
      ∙ clause_tokens_lem clause within (tokens_for clauses)

-- the header line
header_words : ℕ → ℕ → List (List ℕ)
header_words variables clauses = (112 ∷ []) ∷ (99 ∷ 110 ∷ 102 ∷ []) ∷ print_number variables ∷ print_number clauses ∷ []

cnf_word : PlainWord (99 ∷ 110 ∷ 102 ∷ [])
unfolding all blank
cnf_word = record { some_byte = omega arith; no_blank = refl }

p_word : PlainWord (112 ∷ [])
unfolding all blank
p_word = record { some_byte = omega arith; no_blank = refl }

module _ (variables clauses : ℕ) (v : variables < 1000000000) (c : clauses < 1000000000) where
  header-lined : (t : List ℕ) (tokens : List Token) → Starts t tokens
      → Lined (112 ∷ 32 ∷ 99 ∷ 110 ∷ 102 ∷ 32 ∷ (print_number variables ++ (32 ∷ (print_number clauses ++ (10 ∷ t)))))
      (header_words variables clauses) tokens
  unfolding blank header_words
  header-lined t tokens starts =
      lined_word (112 ∷ []) 32 _ _ tokens p_word refl
      (lined_blank _ _ tokens
      (lined_word (99 ∷ 110 ∷ 102 ∷ []) 32 _ _ tokens cnf_word refl
      (lined_blank _ _ tokens
      (lined_word (print_number variables) 32 _ _ tokens (number_word variables v) refl
      (lined_blank _ _ tokens
      (lined_word (print_number clauses) 10 _ _ tokens (number_word clauses c) refl (lined_end t tokens starts)))))))

  header_read : header_in (header_words variables clauses) ≡ header variables clauses
  unfolding header_in headed header_words same
  header_read =
      rw (
        printed_unsigned variables v,
        printed_unsigned clauses c,
        (number_printed variables v).number_back,
        (number_printed clauses c).number_back,
      )

text_begins : (formula : Formula) → begins 112 (print_text formula) ≡ true
unfolding print_text begins
text_begins formula = refl

text_plain : (formula : Formula) → begins 99 (print_text formula) ≡ false
unfolding print_text begins
text_plain formula = refl

module _ (formula : Formula) (p : FormulaParts formula) where
  text-lined : Lined (print_text formula) (header_words formula.variables (length formula.clauses)) (tokens_for (map spelled formula.clauses))
  unfolding print_text
  text-lined =
      header-lined formula.variables (length formula.clauses) (omega arith) (omega arith)
      (flat (map print_clause (map spelled formula.clauses))) (tokens_for (map spelled formula.clauses))
      (clauses_start formula.variables p.few_variables (map spelled formula.clauses) (spelled_clauses formula p))

  text_header : header_of (record { place = 0; bytes = until line_end (print_text formula) })
      ≡ header formula.variables (length formula.clauses)
  text_header =
      header_line 0 (print_text formula)
      ∙ rw (text_begins formula, text-lined.line_words 0) (header_read formula.variables (length formula.clauses) (omega arith)
      (omega arith))

  walk_printed : length (flat (map spelled formula.clauses)) ≤ max_literals
      → walk_start 0 (print_text formula) ≡ accepted (record { variables = formula.variables; clauses = map spelled formula.clauses })
  unfolding walk_under flat
  walk_printed few =
      walk_behind 0 (print_text formula) (text_plain formula)
      ∙ rw (
        text_header,
        text-lined.tokens_behind 0,
        within_limits formula.variables (length formula.clauses) (λ z. omega arith) p.few_variables p.few_clauses,
      )
      (clauses_walk formula.variables (length formula.clauses) [] (map spelled formula.clauses) (rw length-map (omega arith))
      (spelled_clauses formula p) (omega arith))

  -- and is read as it was
  printed_back : read_judged (accepted (record { variables = formula.variables; clauses = map spelled formula.clauses })) ≡ accepted formula
  unfolding read_judged read_formula
  printed_back =
      ap (λ (clauses : List (List ℕ)). accepted (record { variables = formula.variables; clauses = clauses }))
      (clauses_read_back formula.variables formula.clauses p.sound_clauses)

-- Every formula within the limits has a text that is accepted as that formula, if its clauses as spelled have at most 6,000 literals.
pub print_read : (formula : Formula) → sound formula ≡ true → length (flat (map spelled formula.clauses)) ≤ max_literals
    → read_text (print_text formula) ≡ accepted formula
print_read formula h few =
    let p = formula_parts formula h in
    let short : length (print_text formula) ≤ max_text = omega (arith, printed_within formula h few) in
    read_is_walk (print_text formula) (le-ltb max_text (length (print_text formula)) short)
    ∙ ap read_judged (walk_lines_lem (print_text formula) ∙ walk_printed formula p few)
    ∙ printed_back formula p

-- So a reader that refuses every book breaks its promise: where 7,504 numbers are lent, every such formula has a text that is answered as a
-- book.
pub printed_answered : (formula : Formula) (buffer : List ℕ) → sound formula ≡ true → length (flat (map spelled formula.clauses)) ≤ max_literals
    → max_book ≤ length buffer
    → read_answer (read_text (print_text formula)) (length buffer)
    ≡ Ok (record { variables = formula.variables; clauses = length formula.clauses; literals = length (literals formula) })
printed_answered formula buffer h few room = accepted_answered (print_text formula) formula buffer (print_read formula h few) room

-- Steps of the cursor along the text, as its loops over an index meet them.
use Prim.Native.Nat.{ℕ, zero, suc, min, ◌+◌, ◌-◌, ◌≤◌, ◌<◌}
use mathlib.Core.Path.{◌≡◌, refl, ap, sym, ◌∙◌}
use mathlib.Core.Bool.{Bool, true, false, cond, not, ◌&&◌, false≢true}
use mathlib.Core.List.{List, [], ◌∷◌, ◌++◌, map}
use native.Mathlib.Nat.{add-zero}
use native.Mathlib.Numerals.{add-one}
use native.Mathlib.Omega.{arith}
use borrow.Author.Tests.{eq-eqb, ne_eqb, eqb-true, eqb-false, ltb-true, ltb-false}
use lib.Dec.{ltb, eqb}
use lib.ListN.{length, get_or, take, drop, length-drop, drop_of_length-le}
use lib.Seq.{drop-cons, drop-drop}
use Rattle.std.specs.Prelude.{Option, Some, None}
use Rattle.std.specs.List.{prefix_len}
use Rattle.std.proofs.lemmas.Bool.{not-true}
use Rattle.std.proofs.lemmas.List.{get_or-drop}
use Rattle.std.proofs.lemmas.List.Sums.{prefix_len_passes, prefix_len_stops, prefix_len-le-length}
use Rattle.base.specs.Lists.{until, begins}
use Rattle.base.proofs.Lists.{begins_at, begins_end}
use Rattle.base.proofs.Bools.{and_parts}
use Rattle.base.proofs.Until.{until_stop, until_more, take-until, until_within}
use Rattle.book.specs.Text.{Piece, Token, blank, line_end, token_of}
use Rattle.book.specs.Inner.Walk.{tokens_of, walk_start}
use Rattle.book.specs.Inner.Words.{words_here, words_start, words_line, words_behind, line_length}
use Rattle.book.specs.Inner.Cursor.{LineStart, GapEnd, SpaceEnd, WordAt, Stepped, SteppedInLine, tokens_here}
use Rattle.book.proofs.WordLaws.{here_none, here_end, here_blank, here_word, line_none, line_end_lem, line_blank, line_word, behind_byte, behind_word, start_plain, start_skipped, walk_skipped}

-- the line with its byte 10 is the line and one byte more, where the text goes on behind the line
line_reach : (t : List ℕ) → line_length t ≡ min (length t) (length (until line_end t) + 1)
unfolding line_length until
line_reach [] = refl
line_reach (b ∷ t) = go (line_end b) (line_reach t)
  where
    go : (e : Bool) → line_length t ≡ min (length t) (length (until line_end t) + 1)
        → cond e 1 (suc (line_length t)) ≡ min (suc (length t)) (length (cond e [] (b ∷ until line_end t)) + 1)
    go true rest = omega arith
    go false rest = omega arith

pub line_behind : (text : List ℕ) (at : ℕ) → at ≤ length text
    → at + line_length (drop at text) ≡ min (length text) (at + length (until line_end (drop at text)) + 1)
line_behind text at h = omega (arith, line_reach (drop at text), length-drop at text)

line_within_lem : (t : List ℕ) → line_length t ≤ length t
unfolding line_length
line_within_lem [] = omega arith
line_within_lem (b ∷ t) = go (line_end b) (line_within_lem t)
  where
    go : (e : Bool) → line_length t ≤ length t → cond e 1 (suc (line_length t)) ≤ suc (length t)
    go true rest = omega arith
    go false rest = omega arith

line_some : (t : List ℕ) → 0 < length t → 0 < line_length t
unfolding line_length
line_some [] h = h
line_some (b ∷ t) h = go (line_end b)
  where
    go : (e : Bool) → 0 < cond e 1 (suc (line_length t))
    go true = omega arith
    go false = omega arith

-- From the start of a line at `at`, the lines up to i are skipped.
pub record Skipped (text : List ℕ) (at i : ℕ) : Type 0 where
  pub ahead : at ≤ i
  pub within : i ≤ length text
  pub same_words : words_start at (drop at text) ≡ words_start i (drop i text)
  pub same_walk : walk_start at (drop at text) ≡ walk_start i (drop i text)

-- From `at` inside a line, there is no word before i.
pub record Gap (text : List ℕ) (at i : ℕ) : Type 0 where
  pub ahead : at ≤ i
  pub within : i ≤ length text
  pub same_words : words_here at (drop at text) ≡ words_here i (drop i text)

module _ (text : List ℕ) (at i : ℕ) where
  -- a line that begins with `c` is skipped whole
  pub skipped_line : Skipped text at i → i < length text → get_or text i 0 ≡ 99 → Skipped text at (i + line_length (drop i text))
  skipped_line s h e =
      let comment : begins 99 (drop i text) ≡ true = begins_at 99 text i h ∙ eq-eqb (get_or text i 0) 99 e in
      let fits : line_length (drop i text) ≤ length text - i = rw (length-drop i text) at (line_within_lem (drop i text)) in
      record {
        ahead = omega (arith, s.ahead);
        within = omega arith;
        same_words = s.same_words ∙ start_skipped i (drop i text) comment ∙ ap (words_start (i + line_length (drop i text))) (drop-drop (line_length (drop i text)) i text);
        same_walk = s.same_walk ∙ walk_skipped i (drop i text) comment ∙ ap (walk_start (i + line_length (drop i text))) (drop-drop (line_length (drop i text)) i text);
      }

  pub line_falls : i < length text → length text - (i + line_length (drop i text)) < length text - i
  line_falls h = omega (arith, line_some (drop i text) (rw (length-drop i text) (omega arith)))

  line_start : begins 99 (drop i text) ≡ false → Skipped text at i → LineStart text at i
  line_start e s =
      record { ahead = s.ahead; within = s.within; unskipped = e; same_words = s.same_words; same_walk = s.same_walk }

  pub line_starts : Skipped text at i → i < length text → (get_or text i 0 ≡ 99 → ⊥) → LineStart text at i
  line_starts s h e = line_start (begins_at 99 text i h ∙ ne_eqb (get_or text i 0) 99 e) s

  pub line_starts_last : Skipped text at i → length text ≤ i → LineStart text at i
  line_starts_last s h = line_start (begins_end 99 text i h) s

  pub gap_blank : Gap text at i → i < length text → (get_or text i 0 ≡ 10 → ⊥) → blank (get_or text i 0) ≡ true → Gap text at (i + 1)
  unfolding line_end
  gap_blank g h n e =
      record {
        ahead = omega (arith, g.ahead);
        within = omega arith;
        same_words =
            g.same_words
            ∙ ap (words_here i) (drop-cons text i 0 h)
            ∙ here_blank i (get_or text i 0) (drop (suc i) text) e (ne_eqb (get_or text i 0) 10 n)
            ∙ rw (add-one i);
      }

  pub gap_line : (r : ℕ) → Gap text at i → i < length text → get_or text i 0 ≡ 10 → LineStart text (i + 1) r → Gap text at r
  unfolding line_end
  gap_line r g h e l =
      record {
        ahead = omega (arith, g.ahead, l.ahead);
        within = l.within;
        same_words =
            g.same_words
            ∙ ap (words_here i) (drop-cons text i 0 h)
            ∙ here_end i (get_or text i 0) (drop (suc i) text) (eq-eqb (get_or text i 0) 10 e)
            ∙ (rw (add-one i) at l.same_words)
            ∙ start_plain r (drop r text) l.unskipped;
      }

-- The word that begins at `start`, up to its end.
module _ (text : List ℕ) (start end : ℕ) (h : start < length text) (w : blank (get_or text start 0) ≡ false)
    (e : end ≡ start + length (until blank (drop start text))) where
  cons : drop start text ≡ get_or text start 0 ∷ drop (suc start) text
  cons = drop-cons text start 0 h

  word : until blank (drop start text) ≡ get_or text start 0 ∷ until blank (drop (suc start) text)
  word = ap (until blank) cons ∙ until_more blank (get_or text start 0) (drop (suc start) text) w

  behind : start + 1 + length (until blank (drop (suc start) text)) ≡ end
  behind = omega (arith, ap length word)

  rest : drop (length (until blank (drop (suc start) text))) (drop (suc start) text) ≡ drop end text
  rest =
      let at_end : suc start + length (until blank (drop (suc start) text)) ≡ end = omega (arith, behind) in
      drop-drop (length (until blank (drop (suc start) text))) (suc start) text ∙ ap (λ (n : ℕ). drop n text) at_end

  bytes : get_or text start 0 ∷ until blank (drop (suc start) text) ≡ take (end - start) (drop start text)
  bytes =
      let width : end - start ≡ length (until blank (drop start text)) = omega arith in
      sym (ap (λ (n : ℕ). take n (drop start text)) width ∙ take-until blank (drop start text) ∙ word)

  pub word_ahead : start < end
  word_ahead = omega (arith, behind)

  pub here_at : words_here start (drop start text) ≡ record { place = start; bytes = take (end - start) (drop start text) } ∷ words_here end (drop end text)
  here_at =
      ap (words_here start) cons ∙ here_word start (get_or text start 0) (drop (suc start) text) w ∙ rw (behind, rest)
      (ap (λ (bs : List ℕ). record { place = start; bytes = bs } ∷ words_here end (drop end text)) bytes)

  pub line_at : words_line start (drop start text) ≡ record { place = start; bytes = take (end - start) (drop start text) } ∷ words_line end (drop end text)
  line_at =
      ap (words_line start) cons ∙ line_word start (get_or text start 0) (drop (suc start) text) w ∙ rw (behind, rest)
      (ap (λ (bs : List ℕ). record { place = start; bytes = bs } ∷ words_line end (drop end text)) bytes)

  pub behind_at : words_behind start (drop start text) ≡ words_behind end (drop end text)
  behind_at =
      behind_word start (drop start text) ∙ rw (← e, drop-drop (length (until blank (drop start text))) start text, ← e)

-- where a word begins there is a byte that is no blank, and where none begins there is none
begins_word : (text : List ℕ) (from next : ℕ) → next ≡ from + length (until blank (drop from text)) → from < next
    → (from < length text) × (blank (get_or text from 0) ≡ false)
unfolding until
begins_word text from next e n = go (ltb from (length text)) refl
  where
    inside : from < length text → (b : Bool) → blank (get_or text from 0) ≡ b → blank (get_or text from 0) ≡ false
    inside w true q =
        let none : until blank (drop from text) ≡ [] = ap (until blank) (drop-cons text from 0 w) ∙ until_stop blank (get_or text from 0) (drop (suc from) text) q in
        absurd (omega (arith, ap length none))
    inside w false q = q

    go : (b : Bool) → ltb from (length text) ≡ b → (from < length text) × (blank (get_or text from 0) ≡ false)
    go true q = (ltb-true from (length text) q, inside (ltb-true from (length text) q) (blank (get_or text from 0)) refl)
    go false q =
        let none : until blank (drop from text) ≡ [] = ap (until blank) (drop_of_length-le text (ltb-false from (length text) q)) in
        absurd (omega (arith, ap length none))

begins_none : (text : List ℕ) (from next : ℕ) → next ≡ from + length (until blank (drop from text)) → next ≡ from
    → from < length text → blank (get_or text from 0) ≡ true
begins_none text from next e h w = go (blank (get_or text from 0)) refl
  where
    go : (b : Bool) → blank (get_or text from 0) ≡ b → blank (get_or text from 0) ≡ true
    go true q = q
    go false q = absurd (omega (arith, word_ahead text from next w q e))

-- a step from `at`: over a gap, and over the word that ends it
pub stepped : {text : List ℕ} {at start : ℕ} → GapEnd text at start → (word : Option (List ℕ)) (next : ℕ)
    → next ≡ start + length (until blank (drop start text)) → WordAt text start word next → Stepped text at word next
unfolding tokens_of
stepped {text} {at} {start} g (Some word) next e w =
    let begins = begins_word text start next e w.0 in
    record {
      ahead = omega (arith, g.ahead, w.0);
      within = rw e (until_within blank text start g.within);
      tokens = ap tokens_of (g.same_words ∙ here_at text start next begins.0 begins.1 e) ∙ ap (λ (k : Token). k ∷ tokens_here text next) (ap token_of (sym w.1));
    }
stepped {text} {at} {start} g None next e w =
    let last : length text ≤ start = end (ltb start (length text)) refl in
    rw w
    (record {
      at_end = omega (arith, g.within);
      tokens = ap tokens_of (g.same_words ∙ ap (words_here start) (drop_of_length-le text last) ∙ here_none start);
    })
  where
    end : (b : Bool) → ltb start (length text) ≡ b → length text ≤ start
    end true q =
        let inside : start < length text = ltb-true start (length text) q in
        absurd (false≢true (sym (g.at_word inside) ∙ begins_none text start next e w inside))
    end false q = ltb-false start (length text) q

-- From `at` inside a line, there is no word of the line before i.
pub record Space (text : List ℕ) (at i : ℕ) : Type 0 where
  pub ahead : at ≤ i
  pub within : i ≤ length text
  pub same_line : words_line at (drop at text) ≡ words_line i (drop i text)
  pub same_behind : words_behind at (drop at text) ≡ words_behind i (drop i text)

-- a blank of a line
abbrev pub is_space : ℕ → Bool
is_space byte = not (eqb byte 10) && blank byte

pub space_none : (text : List ℕ) (at : ℕ) → at ≤ length text → Space text at at
space_none text at h = record { ahead = omega arith; within = h; same_line = refl; same_behind = refl }

module _ {text : List ℕ} {at i : ℕ} (s : Space text at i) where
  pub space_blank : i < length text → (get_or text i 0 ≡ 10 → ⊥) → blank (get_or text i 0) ≡ true → Space text at (i + 1)
  unfolding line_end
  space_blank h n e =
      let cons : drop i text ≡ get_or text i 0 ∷ drop (suc i) text = drop-cons text i 0 h in
      record {
        ahead = omega (arith, s.ahead);
        within = omega arith;
        same_line = s.same_line ∙ ap (words_line i) cons ∙ line_blank i (get_or text i 0) (drop (suc i) text) e (ne_eqb (get_or text i 0) 10 n) ∙ rw (add-one i);
        same_behind = s.same_behind ∙ ap (words_behind i) cons ∙ behind_byte i (get_or text i 0) (drop (suc i) text) (ne_eqb (get_or text i 0) 10 n) ∙ rw (add-one i);
      }

  pub space_ends : (i < length text → blank (get_or text i 0) ≡ true → get_or text i 0 ≡ 10) → SpaceEnd text at i
  space_ends e = record { ahead = s.ahead; within = s.within; same_line = s.same_line; same_behind = s.same_behind; at_end = e }

space_parts : (b : ℕ) → is_space b ≡ true → (b ≡ 10 → ⊥) × (blank b ≡ true)
space_parts b e =
    let parts = and_parts (not (eqb b 10)) (blank b) e in
    (eqb-false b 10 (not-true (eqb b 10) parts.0), parts.1)

space_stops : (b : ℕ) → is_space b ≡ false → blank b ≡ true → b ≡ 10
space_stops b e is = go (eqb b 10) refl
  where
    go : (t : Bool) → eqb b 10 ≡ t → b ≡ 10
    go true q = eqb-true b 10 q
    go false q = absurd (false≢true (sym (rw (q, is) at e)))

-- n bytes more that are blanks of the line
space_blanks : {text : List ℕ} {at : ℕ} (n i : ℕ) → Space text at i → i + n ≤ length text
    → ((k : ℕ) → k < n → is_space (get_or text (i + k) 0) ≡ true) → Space text at (i + n)
space_blanks zero i s h passes = rw add-zero s
space_blanks {text = text} {at = at} (suc n) i s h passes =
    let first = space_parts (get_or text i 0) (rw add-zero at (passes 0 (omega arith))) in
    let more : Space text at (i + 1) = space_blank s (omega arith) first.0 first.1 in
    let place : (k : ℕ) → i + suc k ≡ i + 1 + k = λ k. omega arith in
    rw (place n)
    (space_blanks {text = text} {at = at} n (i + 1) more (omega arith) (λ (k : ℕ) (h : k < n). rw (place k) at (passes (suc k) (omega arith))))

-- the blanks of the line from `at` on, as the iterator takes them
pub spaces_end : (text : List ℕ) (at : ℕ) → at ≤ length text → SpaceEnd text at (at + prefix_len is_space (drop at text))
spaces_end text at h =
    let n = prefix_len is_space (drop at text) in
    let within : n ≤ length text - at = rw (length-drop at text) at (prefix_len-le-length is_space (drop at text)) in
    let spaces : Space text at (at + n)
    = space_blanks n at (space_none text at h) (omega arith) (λ (k : ℕ) (h : k < n). rw (get_or-drop at text k 0) at (prefix_len_passes is_space (drop at text) k 0 h)) in
    space_ends spaces
    (λ (inside : at + n < length text).
    space_stops (get_or text (at + n) 0)
    (rw (get_or-drop at text n 0) at (prefix_len_stops is_space (drop at text) 0 (rw (length-drop at text) (omega arith)))))

module _ {text : List ℕ} {at from : ℕ} (s : SpaceEnd text at from) where
  -- no word begins at `from`: the line ends there
  ends_here : (next : ℕ) → next ≡ from + length (until blank (drop from text)) → next ≡ from → words_line from (drop from text) ≡ []
  unfolding line_end
  ends_here next e h = go (ltb from (length text)) refl
    where
      go : (b : Bool) → ltb from (length text) ≡ b → words_line from (drop from text) ≡ []
      go true q =
          let w : from < length text = ltb-true from (length text) q in
          ap (words_line from) (drop-cons text from 0 w)
          ∙ line_end_lem from (get_or text from 0) (drop (suc from) text) (eq-eqb (get_or text from 0) 10 (s.at_end w (begins_none text from next e h w)))
      go false q = ap (words_line from) (drop_of_length-le text (ltb-false from (length text) q)) ∙ line_none from

  -- a step in the line from `at`: over its blanks, and over the word that ends them
  pub stepped_in_line : (word : Option (List ℕ)) (next : ℕ) → next ≡ from + length (until blank (drop from text)) → WordAt text from word next
      → SteppedInLine text at word next
  unfolding words_here
  stepped_in_line (Some word) next e w =
      let begins = begins_word text from next e w.0 in
      record {
        from = from;
        place = w;
        within = rw e (until_within blank text from s.within);
        words = ap (map (λ (p : Piece). p.bytes)) (s.same_line ∙ line_at text from next begins.0 begins.1 e) ∙ ap (λ (w : List ℕ). w ∷ map (λ (p : Piece). p.bytes) (words_line next (drop next text))) (sym w.1);
        same_behind = s.same_behind ∙ behind_at text from next begins.0 begins.1 e;
      }
  stepped_in_line None next e w =
      let none : words_line from (drop from text) ≡ [] = ends_here next e w in
      rw w
      (record {
        within = s.within;
        words = ap (map (λ (p : Piece). p.bytes)) (s.same_line ∙ none);
        tokens = ap tokens_of (ap (λ (ws : List Piece). ws ++ words_behind from (drop from text)) none ∙ sym s.same_behind);
      })

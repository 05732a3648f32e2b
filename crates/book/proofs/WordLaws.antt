-- The words of a text as its cursor meets them: equations along the rest of the text.
use Prim.Native.Nat.{ℕ, suc, ◌+◌}
use native.Mathlib.Nat.{add-zero}
use native.Mathlib.Omega.{arith}
use mathlib.Core.Path.{◌≡◌, refl, sym, ap, ◌∙◌}
use mathlib.Core.Bool.{Bool, true, false, cond}
use mathlib.Core.List.{List, [], ◌∷◌, map}
use lib.Dec.{eqb}
use lib.ListN.{length, drop}
use borrow.Author.Tests.{eqb-true, ne_eqb}
use Rattle.base.specs.Lists.{keep, flat, empty, begins, until}
use Rattle.base.proofs.Until.{until_more}
use Rattle.book.specs.Text.{Piece, blank, line_end, extend, split, not_skipped, filled, words_of, lines_of, header_of, header_in, malformed}
use Rattle.book.specs.Faults.{body_of}
use Rattle.book.specs.Reading.{refused}
use Rattle.book.specs.Inner.Walk.{tokens_of, walk_under, walk_lines, walk_start}
use Rattle.book.specs.Inner.Words.{others, words_line, words_behind, words_here, words_start, line_length}

pub split_first : (separator : ℕ → Bool) (at : ℕ) (t : List ℕ)
    → split separator at t ≡ record { place = at; bytes = until separator t } ∷ others separator at t
unfolding split until others extend
split_first separator at [] = refl
split_first separator at (b ∷ t) = go (separator b) (split_first separator (suc at) t)
  where
    go : (c : Bool) → split separator (suc at) t ≡ record { place = suc at; bytes = until separator t } ∷ others separator (suc at) t
        → cond c (record { place = at; bytes = [] } ∷ split separator (suc at) t) (extend at b (split separator (suc at) t))
        ≡ record { place = at; bytes = cond c [] (b ∷ until separator t) }
        ∷ cond c (split separator (suc at) t) (others separator (suc at) t)
    go true ih = refl
    go false ih = rw ih

-- the test for the end of a line is one of the four for a blank
pub line_end_blank : (b : ℕ) → line_end b ≡ true → blank b ≡ true
unfolding blank line_end
line_end_blank b h = rw (eqb-true b 10 h)

pub word_not_end : (b : ℕ) → blank b ≡ false → line_end b ≡ false
word_not_end b h = go (line_end b) refl
  where
    go : (c : Bool) → line_end b ≡ c → line_end b ≡ false
    go true e = let z : true ≡ false = cc (line_end_blank b e) in cc
    go false e = e

-- up to the end of the line a word is the same
run_run : (t : List ℕ) → until blank (until line_end t) ≡ until blank t
unfolding until
run_run [] = refl
run_run (b ∷ t) = go (line_end b) refl (blank b) refl (run_run t)
  where
    go : (c : Bool) → line_end b ≡ c → (d : Bool) → blank b ≡ d → until blank (until line_end t) ≡ until blank t
        → until blank (cond (line_end b) [] (b ∷ until line_end t)) ≡ cond (blank b) [] (b ∷ until blank t)
    go true e d f ih = rw (e, line_end_blank b e)
    go false e true f ih = rw (e, f)
    go false e false f ih = rw (e, f, ih)

-- the line that t begins inside of
pub line_none : (at : ℕ) → words_line at [] ≡ []
unfolding words_line words_of until split keep filled empty
line_none at = refl

pub line_end_lem : (at b : ℕ) (t : List ℕ) → line_end b ≡ true → words_line at (b ∷ t) ≡ []
unfolding words_line words_of until split keep filled empty
line_end_lem at b t h = rw h

pub line_blank : (at b : ℕ) (t : List ℕ) → blank b ≡ true → line_end b ≡ false → words_line at (b ∷ t) ≡ words_line (suc at) t
unfolding words_line words_of until split keep filled empty
line_blank at b t h e = rw (e, h)

line_split : (at : ℕ) (t : List ℕ) → words_line at t ≡ keep filled (split blank at (until line_end t))
unfolding words_line words_of
line_split at t = refl

word_tail : (at : ℕ) (t : List ℕ)
    → keep filled (others blank at (until line_end t)) ≡ words_line (at + length (until blank t)) (drop (length (until blank t)) t)
unfolding until others keep
word_tail at [] = sym (line_none (at + 0))
word_tail at (b ∷ t) = go (line_end b) refl (blank b) refl (word_tail (suc at) t)
  where
    go : (c : Bool) → line_end b ≡ c → (d : Bool) → blank b ≡ d
        → keep filled (others blank (suc at) (until line_end t)) ≡ words_line (suc at + length (until blank t)) (drop (length (until blank t)) t)
        → keep filled (others blank at (until line_end (b ∷ t)))
        ≡ words_line (at + length (until blank (b ∷ t))) (drop (length (until blank (b ∷ t))) (b ∷ t))
    go true e d f ih = rw (e, line_end_blank b e) (sym (line_end_lem (at + 0) b t e))
    go false e true f ih = rw (e, f, add-zero) (sym (line_blank at b t f e ∙ line_split (suc at) t))
    go false e false f ih = rw (e, f) (ih ∙ ap (λ m. words_line m (drop (length (until blank t)) t)) (omega arith))

others_in : (separator : ℕ → Bool) (at b : ℕ) (t : List ℕ) → separator b ≡ false
    → others separator at (b ∷ t) ≡ others separator (suc at) t
unfolding others
others_in separator at b t h = rw h

keep_word : (at b : ℕ) (t : List ℕ) (ps : List Piece)
    → keep filled (record { place = at; bytes = b ∷ t } ∷ ps) ≡ record { place = at; bytes = b ∷ t } ∷ keep filled ps
unfolding keep filled empty
keep_word at b t ps = refl

pub line_word : (at b : ℕ) (t : List ℕ) → blank b ≡ false
    → words_line at (b ∷ t)
    ≡ record { place = at; bytes = b ∷ until blank t } ∷ words_line (at + 1 + length (until blank t)) (drop (length (until blank t)) t)
line_word at b t h =
    let e : line_end b ≡ false = word_not_end b h in
    rw (
      line_split at (b ∷ t),
      until_more line_end b t,
      split_first blank at (b ∷ until line_end t),
      until_more blank b,
      others_in blank at b,
      keep_word,
      run_run,
      word_tail,
    )
    (ap (λ m. record { place = at; bytes = b ∷ until blank t } ∷ words_line m (drop (length (until blank t)) t)) (omega arith))

-- the lines behind it
pub behind_none : (at : ℕ) → words_behind at [] ≡ []
unfolding words_behind body_of keep others flat
behind_none at = refl

pub behind_end : (at b : ℕ) (t : List ℕ) → line_end b ≡ true → words_behind at (b ∷ t) ≡ words_start (suc at) t
unfolding words_behind words_start others
behind_end at b t h = rw h

pub behind_byte : (at b : ℕ) (t : List ℕ) → line_end b ≡ false → words_behind at (b ∷ t) ≡ words_behind (suc at) t
unfolding words_behind others
behind_byte at b t h = rw h

pub behind_word : (at : ℕ) (t : List ℕ) → words_behind at t ≡ words_behind (at + length (until blank t)) (drop (length (until blank t)) t)
unfolding until
behind_word at [] = rw add-zero
behind_word at (b ∷ t) = go (blank b) refl (behind_word (suc at) t)
  where
    go : (d : Bool) → blank b ≡ d → words_behind (suc at) t ≡ words_behind (suc at + length (until blank t)) (drop (length (until blank t)) t)
        → words_behind at (b ∷ t) ≡ words_behind (at + length (until blank (b ∷ t))) (drop (length (until blank (b ∷ t))) (b ∷ t))
    go true f ih = rw (f, add-zero)
    go false f ih = rw f (behind_byte at b t (word_not_end b f) ∙ ih
        ∙ ap (λ m. words_behind m (drop (length (until blank t)) t)) (omega arith))

pub start_none : (at : ℕ) → words_start at [] ≡ []
unfolding words_start body_of split keep not_skipped begins words_of filled empty flat
start_none at = refl

-- what the lines behind say is what the lines from the next one on say, if nothing is said by an empty last line
next_line : {A : Type 0} (f : List Piece → A) → ((at : ℕ) → f [] ≡ f (record { place = at; bytes = [] } ∷ [])) → (at : ℕ) (t : List ℕ)
    → f (others line_end at t) ≡ f (split line_end (at + line_length t) (drop (line_length t) t))
unfolding line_length others split
next_line f last at [] = last (at + 0)
next_line f last at (b ∷ t) = go (line_end b) (next_line f last (suc at) t)
  where
    go : (c : Bool) → f (others line_end (suc at) t) ≡ f (split line_end (suc at + line_length t) (drop (line_length t) t))
        → f (cond c (split line_end (suc at) t) (others line_end (suc at) t))
        ≡ f (split line_end (at + cond c 1 (suc (line_length t))) (drop (cond c 1 (suc (line_length t))) (b ∷ t)))
    go true ih = ap (λ m. f (split line_end m t)) (omega arith)
    go false ih = ih ∙ ap (λ m. f (split line_end m (drop (line_length t) t))) (omega arith)

pub behind_next : (at : ℕ) (t : List ℕ) → words_behind at t ≡ words_start (at + line_length t) (drop (line_length t) t)
unfolding words_behind words_start body_of split flat keep
behind_next = next_line (λ l. body_of (keep not_skipped l)) (λ p. sym (start_none p))

-- both
pub here_none : (at : ℕ) → words_here at [] ≡ []
unfolding words_here
here_none at = rw (line_none, behind_none)

pub here_end : (at b : ℕ) (t : List ℕ) → line_end b ≡ true → words_here at (b ∷ t) ≡ words_start (suc at) t
unfolding words_here
here_end at b t h = rw (line_end_lem at b t h, behind_end at b t h)

pub here_blank : (at b : ℕ) (t : List ℕ) → blank b ≡ true → line_end b ≡ false → words_here at (b ∷ t) ≡ words_here (suc at) t
unfolding words_here
here_blank at b t h e = rw (line_blank at b t h e, behind_byte at b t e)

pub here_word : (at b : ℕ) (t : List ℕ) → blank b ≡ false
    → words_here at (b ∷ t)
    ≡ record { place = at; bytes = b ∷ until blank t } ∷ words_here (at + 1 + length (until blank t)) (drop (length (until blank t)) t)
unfolding words_here
here_word at b t h =
    let n : ℕ = length (until blank t) in
    let places : suc at + n ≡ at + 1 + n = omega arith in
    rw (line_word at b t h, behind_byte at b t (word_not_end b h), behind_word (suc at) t, places)

-- all lines: a line that begins with `c`, byte 99, is skipped
end_byte : (b : ℕ) → line_end b ≡ true → b ≡ 10
unfolding line_end
end_byte b h = eqb-true b 10 h

line_begins : (n : ℕ) (t : List ℕ) → (n ≡ 10 → ⊥) → begins n (until line_end t) ≡ begins n t
unfolding begins until
line_begins n [] h = refl
line_begins n (b ∷ t) h = go (line_end b) refl
  where
    go : (c : Bool) → line_end b ≡ c → begins n (cond (line_end b) [] (b ∷ until line_end t)) ≡ eqb b n
    go true e = rw e (sym (ne_eqb b n (λ z. h (sym z ∙ end_byte b e))))
    go false e = rw e

not_comment : ◌≡◌ {A = ℕ} 99 10 → ⊥
not_comment h = omega arith

pub start_plain : (at : ℕ) (t : List ℕ) → begins 99 t ≡ false → words_start at t ≡ words_here at t
unfolding words_start words_here words_line words_behind keep not_skipped body_of flat
start_plain at t h = rw (split_first, line_begins 99 t not_comment, h)

pub start_behind : (at : ℕ) (t : List ℕ) → begins 99 t ≡ true → words_start at t ≡ words_behind at t
unfolding words_start words_behind keep not_skipped
start_behind at t h = rw (split_first, line_begins 99 t not_comment, h)

pub start_skipped : (at : ℕ) (t : List ℕ) → begins 99 t ≡ true → words_start at t ≡ words_start (at + line_length t) (drop (line_length t) t)
start_skipped at t h = start_behind at t h ∙ behind_next at t

pub walk_none : (at : ℕ) → walk_start at [] ≡ refused 2
unfolding walk_start walk_lines walk_under header_of keep not_skipped split begins
walk_none at = refl

-- the first line is the header; behind the place where its words end are the words of the clauses
pub walk_behind : (at : ℕ) (t : List ℕ) → begins 99 t ≡ false
    → walk_start at t ≡ walk_under (header_of (record { place = at; bytes = until line_end t })) (tokens_of (words_behind at t))
unfolding walk_start walk_lines keep not_skipped words_behind
walk_behind at t h = rw (split_first, line_begins 99 t not_comment, h)

pub walk_skipped : (at : ℕ) (t : List ℕ) → begins 99 t ≡ true → walk_start at t ≡ walk_start (at + line_length t) (drop (line_length t) t)
unfolding walk_start keep not_skipped split walk_lines
walk_skipped at t h =
    rw (split_first line_end at t, line_begins 99 t not_comment, h)
    (next_line (λ l. walk_lines (keep not_skipped l)) (λ p. sym (walk_none p)) at t)

pub walk_lines_lem : (text : List ℕ) → walk_lines (lines_of text) ≡ walk_start 0 text
unfolding walk_start lines_of
walk_lines_lem text = refl

-- what the header line says, by its words
pub header_line : (at : ℕ) (t : List ℕ)
    → header_of (record { place = at; bytes = until line_end t })
    ≡ cond (begins 112 t) (header_in (map (λ (p : Piece). p.bytes) (words_line at t))) malformed
unfolding header_of words_line
header_line at t = rw (line_begins 112 t (λ z. omega arith))

-- The places of the words of a text rise, and lie before its end.
use Prim.Native.Nat.{ℕ, suc, ◌+◌}
use native.Mathlib.Nat.{add-zero}
use native.Mathlib.Omega.{arith}
use mathlib.Core.Path.{◌≡◌, refl, ap, ◌∙◌}
use mathlib.Core.Bool.{Bool, true, false, ◌&&◌}
use mathlib.Core.List.{List, [], ◌∷◌}
use lib.Dec.{leb}
use lib.ListN.{length, drop}
use borrow.Author.Tests.{leb-true, le-leb}
use Rattle.base.specs.Lists.{begins, until}
use Rattle.book.specs.Text.{Piece, blank, line_end}
use Rattle.base.proofs.Until.{until_more, until_none, until_stop}
use Rattle.book.specs.Inner.Words.{words_behind, words_here, words_start}
use Rattle.book.proofs.WordLaws.{behind_none, behind_end, behind_byte, start_none, here_none, here_end, here_blank, here_word, start_plain, start_behind}

-- each place is at least the first number, above the one before, and below the end
unfoldable pub places_rise : ℕ → ℕ → List Piece → Bool
places_rise from end [] = leb from end
places_rise from end (word ∷ words) = leb from word.place && places_rise (suc word.place) end words

places_down : (from end : ℕ) (words : List Piece) → places_rise (suc from) end words ≡ true → places_rise from end words ≡ true
unfolding places_rise
places_down from end [] h = le-leb from end (omega (arith, leb-true (suc from) end h))
places_down from end (word ∷ words) h = go (leb (suc from) word.place) refl h
  where
    go : (c : Bool) → leb (suc from) word.place ≡ c → (c && places_rise (suc word.place) end words) ≡ true
        → (leb from word.place && places_rise (suc word.place) end words) ≡ true
    go true e h = rw (le-leb from word.place (omega (arith, leb-true (suc from) word.place e))) h
    go false e h = cc

-- the words where t begins inside a word
abbrev words_inside : ℕ → List ℕ → List Piece
words_inside at t = words_here (at + length (until blank t)) (drop (length (until blank t)) t)

inside_stop : (at b : ℕ) (t : List ℕ) → blank b ≡ true → words_inside at (b ∷ t) ≡ words_here at (b ∷ t)
inside_stop at b t h = rw (until_stop blank b t h, add-zero)

inside_byte : (at b : ℕ) (t : List ℕ) → blank b ≡ false → words_inside at (b ∷ t) ≡ words_inside (suc at) t
inside_byte at b t h = rw (until_more blank b t h) (ap (λ m. words_here m (drop (length (until blank t)) t)) (omega arith))

inside_word : (at b : ℕ) (t : List ℕ) → blank b ≡ false
    → words_here at (b ∷ t) ≡ record { place = at; bytes = b ∷ until blank t } ∷ words_inside (suc at) t
inside_word at b t h = here_word at b t h
    ∙ ap (λ m. record { place = at; bytes = b ∷ until blank t } ∷ words_here m (drop (length (until blank t)) t)) (omega arith)

pub record Rises (end at : ℕ) (t : List ℕ) : Type 0 where
  pub behind : places_rise at end (words_behind at t) ≡ true
  pub here : places_rise at end (words_here at t) ≡ true
  pub inside : places_rise at end (words_inside at t) ≡ true
  pub start : places_rise at end (words_start at t) ≡ true

-- one byte more
module _ (end at b : ℕ) (t : List ℕ) (next : Rises end (suc at) t) where
  behind_more : (c : Bool) → line_end b ≡ c → places_rise at end (words_behind at (b ∷ t)) ≡ true
  behind_more true e = rw (behind_end at b t e) (places_down at end (words_start (suc at) t) next.start)
  behind_more false e = rw (behind_byte at b t e) (places_down at end (words_behind (suc at) t) next.behind)

  here_more : (c d : Bool) → line_end b ≡ c → blank b ≡ d → places_rise at end (words_here at (b ∷ t)) ≡ true
  unfolding places_rise
  here_more true d e f = rw (here_end at b t e) (places_down at end (words_start (suc at) t) next.start)
  here_more false true e f = rw (here_blank at b t f e) (places_down at end (words_here (suc at) t) next.here)
  here_more false false e f = rw (inside_word at b t f, le-leb at at (omega arith)) next.inside

  inside_more : (d : Bool) → blank b ≡ d → places_rise at end (words_inside at (b ∷ t)) ≡ true
  inside_more true f = rw (inside_stop at b t f) (here_more (line_end b) true refl f)
  inside_more false f = rw (inside_byte at b t f) (places_down at end (words_inside (suc at) t) next.inside)

  start_more : (c : Bool) → begins 99 (b ∷ t) ≡ c → places_rise at end (words_start at (b ∷ t)) ≡ true
  start_more true e = rw (start_behind at (b ∷ t) e) (behind_more (line_end b) refl)
  start_more false e = rw (start_plain at (b ∷ t) e) (here_more (line_end b) (blank b) refl refl)

pub rises : (end at : ℕ) (t : List ℕ) → at + length t ≡ end → Rises end at t
unfolding places_rise
rises end at [] h =
    let e : leb at end ≡ true = le-leb at end (omega arith) in
    record { behind = rw behind_none e; here = rw here_none e; inside = rw (until_none, here_none) e; start = rw start_none e }
rises end at (b ∷ t) h =
    let next : Rises end (suc at) t = rises end (suc at) t (omega arith) in
    record {
      behind = behind_more end at b t next (line_end b) refl;
      here = here_more end at b t next (line_end b) (blank b) refl refl;
      inside = inside_more end at b t next (blank b) refl;
      start = start_more end at b t next (begins 99 (b ∷ t)) refl;
    }

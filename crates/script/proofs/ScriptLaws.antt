-- The lines of a script: the byte that ends one, what a part of the script adds to a line that has begun before, the first line and the rest.
use Prim.Native.Nat.{ℕ, suc, ◌≤◌, ◌<◌}
use native.Mathlib.Omega.{arith}
use mathlib.Core.Path.{◌≡◌, refl, sym, ap, ◌∙◌}
use mathlib.Core.Bool.{Bool, true, false, cond}
use mathlib.Core.List.{List, [], ◌∷◌, ◌++◌, append_assoc, append-nil}
use borrow.Author.Tests.{eq-eqb, ne_eqb, ltb-true, ltb-false}
use lib.Dec.{ltb}
use lib.ListN.{length, drop, length-append, drop_of_length-le}
use lib.Seq.{take_all}
use Rattle.std.specs.List.{AllWithin, HoldsAt}
use Rattle.std.specs.Option.{MatchOption, unwrap_or}
use Rattle.std.proofs.lemmas.Iterator.{index_from_first}
use Rattle.std.proofs.Common.{Option}
use Rattle.base.specs.Lists.{until}
use Rattle.base.proofs.Until.{take-until}
use Rattle.book.specs.Text.{line_end}
use Rattle.book.specs.Reading.{onto}
use Rattle.script.specs.Script.{script_lines, line_bytes}

-- the first byte 10 ends the first line
pub first_end : (bytes : List ℕ) (at : Option ℕ)
    → MatchOption at (AllWithin (λ (byte : ℕ). byte ≡ 10 → ⊥) bytes 0 (length bytes)) (λ (i : ℕ). (i < length bytes) × HoldsAt (λ (byte : ℕ). byte ≡ 10) bytes i × AllWithin (λ (byte : ℕ). byte ≡ 10 → ⊥) bytes 0 i)
    → unwrap_or at (length bytes) ≡ length (line_bytes bytes)
unfolding line_end until
first_end bytes at first =
    sym
    (index_from_first (λ (bytes : List ℕ). length (line_bytes bytes)) (λ (byte : ℕ). byte ≡ 10) (λ (byte : ℕ). byte ≡ 10 → ⊥) refl
    (λ byte rest e. rw (eq-eqb byte 10 e)) (λ byte rest n. rw (ne_eqb byte 10 n) (omega arith)) bytes at first)

-- the lines, with the bytes that have begun in front
unfoldable pub joined : List ℕ → List (List ℕ) → List (List ℕ)
joined [] [] = []
joined (b ∷ begun) [] = (b ∷ begun) ∷ []
joined begun (line ∷ lines) = (begun ++ line) ∷ lines

pub joined_none : (lines : List (List ℕ)) → joined [] lines ≡ lines
unfolding joined
joined_none [] = refl
joined_none (line ∷ lines) = refl

joined_alone : (begun : List ℕ) → 0 < length begun → joined begun [] ≡ begun ∷ []
unfolding joined
joined_alone [] h = absurd (omega arith)
joined_alone (b ∷ begun) h = refl

joined_onto : (begun : List ℕ) (byte : ℕ) (lines : List (List ℕ)) → joined (begun ++ (byte ∷ [])) lines ≡ joined begun (onto byte lines)
unfolding onto joined
joined_onto [] byte [] = refl
joined_onto (b ∷ begun) byte [] = refl
joined_onto [] byte (line ∷ lines) = refl
joined_onto (b ∷ begun) byte (line ∷ lines) = ap (λ (l : List ℕ). l ∷ lines) (append_assoc (b ∷ begun) (byte ∷ []) line)

module _ (rest : List ℕ) where
  -- bytes without the end of a line
  pub lines_kept : (begun bytes : List ℕ) → length bytes ≤ length (until line_end bytes)
      → joined begun (script_lines (bytes ++ rest)) ≡ joined (begun ++ bytes) (script_lines rest)
  unfolding until script_lines
  lines_kept begun [] h = ap (λ (l : List ℕ). joined l (script_lines rest)) (sym (append-nil begun))
  lines_kept begun (byte ∷ bytes) h = go (line_end byte) h (lines_kept (begun ++ (byte ∷ [])) bytes)
    where
      go : (e : Bool) → length (byte ∷ bytes) ≤ length (cond e [] (byte ∷ until line_end bytes))
          → (length bytes ≤ length (until line_end bytes) → joined (begun ++ (byte ∷ [])) (script_lines (bytes ++ rest)) ≡ joined ((begun ++ (byte ∷ [])) ++ bytes) (script_lines rest))
          → joined begun (cond e ([] ∷ script_lines (bytes ++ rest)) (onto byte (script_lines (bytes ++ rest)))) ≡ joined (begun ++ (byte ∷ bytes)) (script_lines rest)
      go true q ih = absurd (omega arith)
      go false q ih =
          sym (joined_onto begun byte (script_lines (bytes ++ rest)))
          ∙ ih (omega arith)
          ∙ ap (λ (l : List ℕ). joined l (script_lines rest)) (append_assoc begun (byte ∷ []) bytes)

  -- bytes with the end of a line
  pub lines_ended : (begun bytes : List ℕ) → length (until line_end bytes) < length bytes
      → joined begun (script_lines (bytes ++ rest)) ≡ (begun ++ until line_end bytes) ∷ script_lines (drop (suc (length (until line_end bytes))) bytes ++ rest)
  unfolding until script_lines joined
  lines_ended begun [] h = absurd (omega arith)
  lines_ended begun (byte ∷ bytes) h = go (line_end byte) h (lines_ended (begun ++ (byte ∷ [])) bytes)
    where
      go : (e : Bool) → length (cond e [] (byte ∷ until line_end bytes)) < length (byte ∷ bytes)
          → (length (until line_end bytes) < length bytes
          → joined (begun ++ (byte ∷ [])) (script_lines (bytes ++ rest)) ≡ ((begun ++ (byte ∷ [])) ++ until line_end bytes) ∷ script_lines (drop (suc (length (until line_end bytes))) bytes ++ rest))
          → joined begun (cond e ([] ∷ script_lines (bytes ++ rest)) (onto byte (script_lines (bytes ++ rest))))
          ≡ (begun ++ cond e [] (byte ∷ until line_end bytes)) ∷ script_lines (drop (suc (length (cond e [] (byte ∷ until line_end bytes)))) (byte ∷ bytes) ++ rest)
      go true q ih = joined-ended begun (script_lines (bytes ++ rest))
        where
          joined-ended : (begun : List ℕ) (lines : List (List ℕ)) → joined begun ([] ∷ lines) ≡ (begun ++ []) ∷ lines
          joined-ended [] lines = refl
          joined-ended (b ∷ begun) lines = refl
      go false q ih =
          sym (joined_onto begun byte (script_lines (bytes ++ rest)))
          ∙ ih (omega arith)
          ∙ ap (λ (l : List ℕ). l ∷ script_lines (drop (suc (length (until line_end bytes))) bytes ++ rest)) (append_assoc begun (byte ∷ []) (until line_end bytes))

-- A script that is not empty: its first line, and the lines behind the byte 10 of it.
pub lines_first : (script : List ℕ) → 0 < length script
    → script_lines script ≡ line_bytes script ∷ script_lines (drop (suc (length (line_bytes script))) script)
unfolding script_lines
lines_first script some = go (ltb (length (line_bytes script)) (length script)) refl
  where
    whole : joined [] (script_lines (script ++ [])) ≡ script_lines script
    whole = joined_none (script_lines (script ++ [])) ∙ ap script_lines (append-nil script)

    go : (b : Bool) → ltb (length (line_bytes script)) (length script) ≡ b
        → script_lines script ≡ line_bytes script ∷ script_lines (drop (suc (length (line_bytes script))) script)
    go true e =
        sym whole
        ∙ lines_ended [] [] script (ltb-true (length (line_bytes script)) (length script) e)
        ∙ ap (λ (rest : List ℕ). line_bytes script ∷ script_lines rest) (append-nil (drop (suc (length (line_bytes script))) script))
    go false e =
        let all : length script ≤ length (line_bytes script) = ltb-false (length (line_bytes script)) (length script) e in
        let none : drop (suc (length (line_bytes script))) script ≡ [] = drop_of_length-le script {i = suc (length (line_bytes script))} (omega arith) in
        let same : line_bytes script ≡ script = sym (take-until line_end script) ∙ take_all (length (line_bytes script)) script all in
        sym whole ∙ lines_kept [] [] script all ∙ rw (none, same) (joined_alone script some)

onto_append : (byte : ℕ) (lines others : List (List ℕ)) → 0 < length lines → onto byte (lines ++ others) ≡ onto byte lines ++ others
unfolding onto
onto_append byte [] others h = absurd (omega arith)
onto_append byte (line ∷ lines) others h = refl

-- A script that goes on behind a byte 10: the lines up to there, and the others.
pub lines_parted : (first rest : List ℕ) → script_lines (first ++ (10 ∷ rest)) ≡ script_lines (first ++ (10 ∷ [])) ++ script_lines rest
unfolding script_lines line_end
lines_parted [] rest = refl
lines_parted (byte ∷ first) rest = go (line_end byte) (lines_parted first rest)
  where
    front : List (List ℕ)
    front = script_lines (first ++ (10 ∷ []))

    some : 0 < length front
    some = omega (arith, ap length (lines_first (first ++ (10 ∷ [])) (omega (arith, length-append first (10 ∷ [])))))

    go : (e : Bool) → script_lines (first ++ (10 ∷ rest)) ≡ front ++ script_lines rest
        → cond e ([] ∷ script_lines (first ++ (10 ∷ rest))) (onto byte (script_lines (first ++ (10 ∷ rest)))) ≡ cond e ([] ∷ front) (onto byte front) ++ script_lines rest
    go true ih = ap (λ (lines : List (List ℕ)). [] ∷ lines) ih
    go false ih = ap (onto byte) ih ∙ onto_append byte front (script_lines rest) some

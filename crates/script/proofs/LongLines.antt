-- A line of more than 11 bytes is malformed, so a reader may keep 12 bytes of a line, or more, and drop the rest.
use Prim.Native.Nat.{ℕ, ◌≤◌, ◌<◌}
use mathlib.Core.Path.{◌≡◌, refl, sym, ap, ◌∙◌}
use mathlib.Core.Bool.{Bool, true, false, cond}
use mathlib.Core.List.{List, [], ◌∷◌}
use Rattle.std.specs.Prelude.{None}
use native.Mathlib.Omega.{arith}
use borrow.Author.Tests.{leb-true, leb-false}
use lib.Dec.{eqb, leb}
use lib.ListN.{length, take}
use lib.Seq.{take_all, length-take-le}
use Rattle.book.specs.Formula.{positive, negative}
use Rattle.script.specs.declared.Line.TheVariants.{Choose, Back}
use Rattle.script.specs.Script.{numbered, back_of, line_of}
use Rattle.script.proofs.LineLaws.{numbered_long}

long_back : (bytes : List ℕ) → 10 < length bytes → back_of bytes ≡ None
unfolding back_of
long_back [] h = refl
long_back (b ∷ bytes) h = go (eqb b 32)
  where
    go : (t : Bool) → cond t (numbered (λ (k : ℕ). Back k) bytes) None ≡ None
    go true = numbered_long (λ (k : ℕ). Back k) bytes (omega arith)
    go false = refl

pub long_line : (line : List ℕ) → 11 < length line → line_of line ≡ None
unfolding line_of
long_line [] h = refl
long_line (b ∷ bytes) h = go (eqb b 45) (eqb b 98)
  where
    go : (s t : Bool) → cond s (numbered (λ (v : ℕ). Choose (negative v)) bytes) (cond t (back_of bytes) (numbered (λ (v : ℕ). Choose (positive v)) (b ∷ bytes))) ≡ None
    go true t = numbered_long (λ (v : ℕ). Choose (negative v)) bytes (omega arith)
    go false true = long_back bytes (omega arith)
    go false false = numbered_long (λ (v : ℕ). Choose (positive v)) (b ∷ bytes) (omega arith)

pub kept_line : (n : ℕ) (line : List ℕ) → 12 ≤ n → line_of (take n line) ≡ line_of line
kept_line n line room = go (leb (length line) n) refl
  where
    go : (t : Bool) → leb (length line) n ≡ t → line_of (take n line) ≡ line_of line
    go true e = ap line_of (take_all n line (leb-true (length line) n e))
    go false e =
        let over : n < length line = leb-false (length line) n e in
        long_line (take n line) (rw (length-take-le n line (omega arith)) (omega arith)) ∙ sym (long_line line (omega arith))

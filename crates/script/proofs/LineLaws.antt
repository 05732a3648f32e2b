-- What a line asks for, by the bytes that it begins with and the number behind them.
use Prim.Native.Nat.{ℕ, ◌+◌, ◌*◌, ◌<◌}
use mathlib.Core.Path.{◌≡◌, refl, sym, ap, ◌∙◌}
use mathlib.Core.Bool.{Bool, true, false, cond, ◌&&◌}
use mathlib.Core.List.{List, [], ◌∷◌}
use native.Mathlib.Omega.{arith}
use borrow.Author.Tests.{eqb-true, ne_eqb}
use lib.Dec.{eqb}
use lib.ListN.{length, take, drop}
use lib.Pointwise.{pointwise}
use Rattle.std.specs.Prelude.{Option, Some, None}
use Rattle.std.specs.Option.{option_map}
use Rattle.base.specs.Lists.{all}
use Rattle.std.specs.List.{starts_with}
use Rattle.base.proofs.Bools.{and_parts, eqb_sym}
use Rattle.book.specs.Text.{unsigned, decimal}
use Rattle.book.specs.Answer.{digits_of}
use Rattle.book.proofs.DecimalLaws.{digit_false, unsigned_false, word_too_short, word_too_long}
use Rattle.script.specs.declared.Line.{Line}
use Rattle.script.specs.declared.Line.TheVariants.{Choose, Back}
use Rattle.script.specs.Script.{numbered, back_of, line_of}

-- a line asks for what its number says
numbered_as : (asks : ℕ → Line) (digits : List ℕ) → option_map asks (digits_of digits) ≡ numbered asks digits
unfolding numbered
numbered_as asks digits = go (unsigned digits)
  where
    go : (u : Bool) → option_map asks (cond u (Some (decimal 0 digits)) None) ≡ cond u (Some (asks (decimal 0 digits))) None
    go true = refl
    go false = refl

pub numbered_value : (asks : ℕ → Line) (digits : List ℕ) (v : ℕ) → Some v ≡ digits_of digits → numbered asks digits ≡ Some (asks v)
numbered_value asks digits v e = sym (numbered_as asks digits) ∙ ap (option_map asks) (sym e)

pub numbered_long : (asks : ℕ → Line) (digits : List ℕ) → 9 < length digits → numbered asks digits ≡ None
numbered_long asks digits h = sym (ap (option_map asks) (word_too_long digits h) ∙ numbered_as asks digits)

-- The line begins with `-`; with `b` and a blank; with neither.
module _ (digits : List ℕ) (n : Option ℕ) (read : n ≡ digits_of digits) where
  asked : (asks : ℕ → Line) → option_map asks n ≡ numbered asks digits
  asked asks = ap (option_map asks) read ∙ numbered_as asks digits

  pub line_negative : (line : List ℕ) → pointwise eqb (take 1 line) (45 ∷ []) ≡ true → digits ≡ drop 1 line
      → option_map (λ (v : ℕ). Choose (2 * v + 1)) n ≡ line_of line
  unfolding line_of
  line_negative [] begins behind = absurd (cc)
  line_negative (b ∷ bytes) begins behind = rw ((and_parts (eqb b 45) true begins).0, ← behind) (asked (λ (v : ℕ). Choose (2 * v + 1)))

  pub line_back : (line : List ℕ) → pointwise eqb (take 2 line) (98 ∷ 32 ∷ []) ≡ true → digits ≡ drop 2 line
      → option_map (λ (k : ℕ). Back k) n ≡ line_of line
  unfolding line_of back_of
  line_back [] begins behind = absurd (cc)
  line_back (b ∷ []) begins behind = let none = (and_parts (eqb b 98) false begins).1 in absurd (cc)
  line_back (b ∷ c ∷ bytes) begins behind =
      let first = and_parts (eqb b 98) (eqb c 32 && true) begins in
      let second = and_parts (eqb c 32) true first.1 in
      let other : eqb b 45 ≡ false = ne_eqb b 45 (λ q. omega (arith, eqb-true b 98 first.0)) in
      rw (other, first.0, second.0, ← behind) (asked (λ (k : ℕ). Back k))

-- the first two bytes, as `starts_with` compares them
pub starts_back : (line : List ℕ) → starts_with eqb line (98 ∷ 32 ∷ []) ≡ pointwise eqb (take 2 line) (98 ∷ 32 ∷ [])
starts_back [] = refl
starts_back (b ∷ []) = ap (λ (t : Bool). t && false) (eqb_sym 98 b)
starts_back (b ∷ c ∷ bytes) = rw (eqb_sym 98 b, eqb_sym 32 c) refl

-- a word that begins with `b` is no number, and without a blank behind it the line is malformed
b_no_number : (b : ℕ) (bytes : List ℕ) → b ≡ 98 → digits_of (b ∷ bytes) ≡ None
unfolding all
b_no_number b bytes e = rw (unsigned_false (b ∷ bytes) (rw (digit_false b (λ h. omega arith))))

alone : (t : Bool) → (t && true) ≡ false → t ≡ false
alone true e = e
alone false e = refl

no_blank : (b : ℕ) (bytes : List ℕ) → eqb b 98 ≡ true → pointwise eqb (take 2 (b ∷ bytes)) (98 ∷ 32 ∷ []) ≡ false → back_of bytes ≡ None
unfolding back_of
no_blank b [] first back = refl
no_blank b (c ∷ bytes) first back = rw (alone (eqb c 32) (rw first at back))

pub line_positive : (line : List ℕ) (n : Option ℕ) → n ≡ digits_of line → pointwise eqb (take 1 line) (45 ∷ []) ≡ false
    → pointwise eqb (take 2 line) (98 ∷ 32 ∷ []) ≡ false → option_map (λ (v : ℕ). Choose (2 * v)) n ≡ line_of line
unfolding line_of
line_positive [] n read minus back = ap (option_map _) (read ∙ sym (word_too_short [] refl))
line_positive (b ∷ bytes) n read minus back = rw (alone (eqb b 45) minus) (go (eqb b 98) refl)
  where
    go : (t : Bool) → eqb b 98 ≡ t → option_map (λ (v : ℕ). Choose (2 * v)) n ≡ cond t (back_of bytes) (numbered (λ (v : ℕ). Choose (2 * v)) (b ∷ bytes))
    go true first = ap (option_map _) (read ∙ b_no_number b bytes (eqb-true b 98 first)) ∙ sym (no_blank b bytes first back)
    go false first = asked (b ∷ bytes) n read (λ (v : ℕ). Choose (2 * v))

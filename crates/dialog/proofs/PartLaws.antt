-- A part of the script of which a rest is left: the calls on the rest go on with it.
use Prim.Native.Nat.{ℕ, ◌-◌, ◌≤◌, ◌<◌}
use mathlib.Core.Path.{◌≡◌, sym, subst}
use mathlib.Core.List.{List, [], ◌∷◌, ◌++◌}
use native.Mathlib.Omega.{arith}
use lib.ListN.{length, take, drop, length-drop}
use lib.Seq.{take_all}
use Rattle.dialog.specs.Taking.{TakeLeft, take_left, taking}
use Rattle.dialog.specs.Program.{Holds, holding, takes, handed, holds_then, PartTaken, used_up, goes_on}
use Rattle.dialog.specs.declared.Taken.{Taken}

-- what the calls on the rest of a part lead to, the calls on the whole part lead to
abbrev pub GoesOn : List ℕ → Holds → List ℕ → Holds → List ℕ → Type 0
GoesOn book start part holds rest =
    (after : Holds) (printed : List ℕ) → PartTaken book holds rest after printed → (all : List ℕ) × PartTaken book start part after all

-- by one more call
pub one_more_lem : (book : List ℕ) (start : Holds) (part session line : List ℕ) (held : ℕ) (out rest : List ℕ) → 0 < length rest
    → (told : Taken) (session' line' out' : List ℕ)
    → take_left told session' line' out' ≡ taking book session line held rest out
    → GoesOn book start part (holding session line held out) rest
    → GoesOn book start part (holding session' line' told.kept out') (take (length rest - told.used) (drop told.used rest))
one_more_lem book start part session line held out rest some told session' line' out' e on after printed taken =
    on after (handed (takes book (holding session line held out) rest) ++ printed)
    (goes_on some
    (subst (λ (o : TakeLeft). PartTaken book (holds_then o) (drop o.answer.used rest) after printed) e
    (subst (λ (left : List ℕ). PartTaken book (holding session' line' told.kept out') left after printed) whole taken)))
  where
    whole : take (length rest - told.used) (drop told.used rest) ≡ drop told.used rest
    whole = take_all (length rest - told.used) (drop told.used rest) (rw (length-drop told.used rest) (omega arith))

-- where nothing is left, the whole part is taken
pub all_taken : (book : List ℕ) (start : Holds) (part session line : List ℕ) (held : ℕ) (out rest : List ℕ) → length rest ≤ 0
    → GoesOn book start part (holding session line held out) rest
    → (kept : ℕ) → held ≡ kept → (printed : List ℕ) × PartTaken book start part (holding session line kept out) printed
all_taken book start part session line held out [] h on kept e =
    on (holding session line kept out) []
    (subst (λ (n : ℕ). PartTaken book (holding session line n out) [] (holding session line kept out) []) (sym e) used_up)
all_taken book start part session line held out (x ∷ rest) h on kept e = absurd (omega arith)

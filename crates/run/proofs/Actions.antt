-- Which action a visit takes, and what that says of the other watch and the scan.
use Prim.Native.Nat.{ℕ}
use mathlib.Core.Bool.{Bool, true, false, cond}
use mathlib.Core.List.{List}
use mathlib.Core.Option.{Option, none, some}
use mathlib.Core.Path.{◌≡◌, refl}
use Rattle.run.specs.Trail.{Entry, is_true, is_false}
use Rattle.run.specs.Scan.{Cell, scan}
use Rattle.run.specs.Run.{other_watch, Action, stays, moves, implies, conflicts, scanned_action, action}

pub data Case (trail : List Entry) (clause : List ℕ) (cell : Cell) (q : ℕ) : Action → Type 0 where
  staying : is_true trail (other_watch clause cell q) ≡ true → Case trail clause cell q stays
  moving : (position : ℕ) → is_true trail (other_watch clause cell q) ≡ false → (scan trail clause cell).found ≡ some position
      → Case trail clause cell q (moves position (scan trail clause cell).checks)
  implying : is_true trail (other_watch clause cell q) ≡ false → (scan trail clause cell).found ≡ none
      → is_false trail (other_watch clause cell q) ≡ false
      → Case trail clause cell q (implies (scan trail clause cell).checks)
  conflicting : is_true trail (other_watch clause cell q) ≡ false → (scan trail clause cell).found ≡ none
      → is_false trail (other_watch clause cell q) ≡ true
      → Case trail clause cell q (conflicts (scan trail clause cell).checks)

pub action_case : (trail : List Entry) (clause : List ℕ) (cell : Cell) (q : ℕ) → Case trail clause cell q (action trail clause cell q)
unfolding action scanned_action
action_case trail clause cell q = go (is_true trail (other_watch clause cell q)) refl
  where
    unfound : (b : Bool) → is_false trail (other_watch clause cell q) ≡ b → is_true trail (other_watch clause cell q) ≡ false
        → (scan trail clause cell).found ≡ none
        → Case trail clause cell q (cond b (conflicts (scan trail clause cell).checks) (implies (scan trail clause cell).checks))
    unfound true e t n = conflicting t n e
    unfound false e t n = implying t n e

    scanned : (found : Option ℕ) → (scan trail clause cell).found ≡ found → is_true trail (other_watch clause cell q) ≡ false
        → Case trail clause cell q
        (scanned_action (record { found = found; checks = (scan trail clause cell).checks }) (is_false trail (other_watch clause cell q)))
    scanned (some position) e t = moving position t e
    scanned none e t = unfound (is_false trail (other_watch clause cell q)) refl t e

    go : (b : Bool) → is_true trail (other_watch clause cell q) ≡ b
        → Case trail clause cell q (cond b stays (scanned_action (scan trail clause cell) (is_false trail (other_watch clause cell q))))
    go true e = staying e
    go false e = scanned (scan trail clause cell).found refl e

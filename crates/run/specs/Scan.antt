-- The scan of one clause: document 01, "Scan".
use Rattle.std.specs.Prelude.{ℕ, zero, suc, Bool, cond, ◌||◌, List, ltb, eqb, length, get_or}
use Rattle.std.proofs.Math.Option.{Option, none, some}
use Rattle.run.specs.Trail.{Entry, is_false}

-- What a clause of n ≥ 2 has: the positions of its two watches, and its pointer. A clause of one literal or of none has 0 in each.
pub record Cell : Type 0 where
  pub first : ℕ
  pub second : ℕ
  pub pointer : ℕ

unfoldable pub watched : Cell → ℕ → Bool
watched cell position = eqb position cell.first || eqb position cell.second

-- the position after x, wrapping after n − 1
unfoldable pub next : ℕ → ℕ → ℕ
next n x = cond (ltb (suc x) n) (suc x) 0

-- What a scan finds, a position or none, and the checks that it makes.
pub record Scanned : Type 0 where
  pub found : Option ℕ
  pub checks : ℕ

unfoldable pub one_more : Scanned → Scanned
one_more s = record { found = s.found; checks = suc s.checks }

-- `left` positions from `position` on: a watched one is passed without a check, every other one is one check, and the first that is not
-- false ends the scan
unfoldable pub scan_from : List Entry → List ℕ → Cell → ℕ → ℕ → Scanned
scan_from trail clause cell zero position = record { found = none; checks = 0 }
scan_from trail clause cell (suc left) position =
    let rest = scan_from trail clause cell left (next (length clause) position) in
    let checked = cond (is_false trail (get_or clause position 0)) (one_more rest) (record { found = some position; checks = 1 }) in
    cond (watched cell position) rest checked

-- from pointer + 1, for n positions
unfoldable pub scan : List Entry → List ℕ → Cell → Scanned
scan trail clause cell = scan_from trail clause cell (length clause) (next (length clause) cell.pointer)

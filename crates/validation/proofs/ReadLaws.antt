-- What is read at an offset that a call gave is what stands at the offset of the layout.
use Prim.Native.Nat.{ℕ, ◌+◌, ◌-◌}
use mathlib.Core.List.{List}
use mathlib.Core.Path.{◌≡◌}
use lib.ListN.{get_or}

module _ (numbers : List ℕ) {given offset : ℕ} (is : given ≡ offset) where
  pub read_at : (i : ℕ) → get_or numbers (given + i) 0 ≡ get_or numbers (offset + i) 0
  read_at i = rw is

  -- at a place that is counted from 1
  pub read_before : {i j : ℕ} → i ≡ j → get_or numbers (given + (i - 1)) 0 ≡ get_or numbers (offset + (j - 1)) 0
  read_before same = rw (is, same)

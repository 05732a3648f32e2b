-- The order of the watch lists: a clause goes to the front of a list, and where one leaves a list the others keep their order.
use Prim.Native.Nat.{ℕ, ◌<◌}
use mathlib.Core.List.{List, [], ◌∷◌}
use mathlib.Core.Path.{◌≡◌}
use lib.ListN.{length, length-set}
use lib.Seq.{get_or-set_same, get_or-set_other}
use Rattle.base.specs.Lists.{without}
use Rattle.run.specs.Run.{list_of, push_front, take_out}

module _ (lists : List (List ℕ)) (l c : ℕ) where
  pub pushed_first : l < length lists → list_of (push_front lists l c) l ≡ c ∷ list_of lists l
  unfolding push_front
  pushed_first h = get_or-set_same lists l (c ∷ list_of lists l) [] h

  pub pushed_elsewhere : (k : ℕ) → (k ≡ l → ⊥) → list_of (push_front lists l c) k ≡ list_of lists k
  unfolding push_front
  pushed_elsewhere k n = get_or-set_other lists l k _ [] n

  pub pushed_length : length (push_front lists l c) ≡ length lists
  unfolding push_front
  pushed_length = length-set lists l _

  pub taken_out : l < length lists → list_of (take_out lists l c) l ≡ without c (list_of lists l)
  unfolding take_out
  taken_out h = get_or-set_same lists l (without c (list_of lists l)) [] h

  pub taken_elsewhere : (k : ℕ) → (k ≡ l → ⊥) → list_of (take_out lists l c) k ≡ list_of lists k
  unfolding take_out
  taken_elsewhere k n = get_or-set_other lists l k _ [] n

  pub taken_length : length (take_out lists l c) ≡ length lists
  unfolding take_out
  taken_length = length-set lists l _

-- When a field's length is within its limits, and how the refusals of writing come one after the other.
use Prim.Native.Nat.{ℕ, ◌≤◌, ◌<◌}
use mathlib.Core.Bool.{Bool, true, false}
use mathlib.Core.Path.{◌≡◌, refl, ap}
use mathlib.Core.List.{List}
use native.Mathlib.Omega.{arith}
use borrow.Author.Tests.{le-leb, lt-leb, leb-true}
use lib.Dec.{leb}
use lib.IntN.{ℤ}
use lib.ListN.{length}
use Rattle.base.specs.Lists.{copied}
use Rattle.base.proofs.Bools.{and_parts}
use Rattle.packed.specs.Packed.{max_bytes, length_within, value_within, field_refusal, map_within, values_within, record_length, record_refusal, write_refusal, written_by, left_by}
use Rattle.std.specs.Prelude.{Result, Ok, Err}
use Rattle.refusals.specs.declared.Refusal.{Refusal}

pub length_in : (bytes : ℕ) → 1 ≤ bytes → bytes ≤ max_bytes → length_within bytes ≡ true
unfolding length_within
length_in bytes h k = rw (le-leb 1 bytes h, le-leb bytes max_bytes k)

pub length_parts : (bytes : ℕ) → length_within bytes ≡ true → (1 ≤ bytes) × (bytes ≤ max_bytes)
unfolding length_within
length_parts bytes e =
    let parts = and_parts (leb 1 bytes) (leb bytes max_bytes) e in
    (leb-true 1 bytes parts.0, leb-true bytes max_bytes parts.1)

pub length_over : (bytes : ℕ) → max_bytes < bytes → length_within bytes ≡ false
unfolding length_within
length_over bytes h = rw (le-leb 1 bytes (omega arith), lt-leb bytes max_bytes h)

-- what is refused by no test passes all of them
pub none_by : (form values room : Bool) → write_refusal form values room ≡ Ok tt → (form ≡ true) × (values ≡ true) × (room ≡ true)
none_by true true true e = (refl, refl, refl)
none_by true true false e = cc
none_by true false room e = cc
none_by false values room e = cc

-- what is not refused has a good length, and the room
pub field_unrefused : (value : ℤ) (bytes room : ℕ) → field_refusal value bytes room ≡ Ok tt → (1 ≤ bytes) × (bytes ≤ max_bytes) × (bytes ≤ room)
unfolding field_refusal
field_unrefused value bytes room e =
    let all = none_by (length_within bytes) (value_within bytes value) (leb bytes room) e in
    ((length_parts bytes all.0).0, (length_parts bytes all.0).1, leb-true bytes room all.2)

pub record_unrefused : (map : ℕ) (base premium open_lines : ℤ) (room : ℕ) → record_refusal map base premium open_lines room ≡ Ok tt → record_length map ≤ room
unfolding record_refusal
record_unrefused map base premium open_lines room e =
    leb-true (record_length map) room (none_by (map_within map) (values_within map base premium open_lines) (leb (record_length map) room) e).2

-- what is answered and left, where it is refused and where it is not
module _ (bytes out : List ℕ) where
  pub refused_so : (refusal : Refusal) (r : Result (Unit {0}) Refusal) → r ≡ Err refusal → (Err refusal ≡ written_by r bytes) × (out ≡ left_by r bytes out)
  refused_so refusal r e = rw e (refl, refl)

  pub written_so : (count : ℕ) (r : Result (Unit {0}) Refusal) (after : List ℕ) → r ≡ Ok tt → count ≡ length bytes → after ≡ copied bytes out
      → (Ok count ≡ written_by r bytes) × (after ≡ left_by r bytes out)
  written_so count r after e c a = rw e (ap Ok c, a)

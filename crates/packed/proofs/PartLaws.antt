-- The parts of a quote record: how long they are, where they stand, and the record written part by part and read part by part.
use Prim.Native.Nat.{ℕ, ◌+◌, ◌*◌, ◌≤◌, ◌<◌}
use mathlib.Core.Bool.{Bool, true, false, cond, ◌&&◌}
use mathlib.Core.Path.{◌≡◌, refl, sym, ap, ap₂, ◌∙◌}
use mathlib.Core.List.{List, [], ◌∷◌, ◌++◌, append_assoc}
use native.Mathlib.Nat.{add-zero}
use native.Mathlib.Omega.{arith}
use borrow.Author.Tests.{eq-eqb}
use lib.IntN.{ℤ}
use lib.ListN.{length, take, drop, set, length-append, length-drop, take-append-drop}
use lib.Seq.{length-take-le, drop-drop}
use Rattle.base.specs.Lists.{copied}
use Rattle.base.proofs.Copies.{Copied, copied_none, copied_more, length-copied, copied_all, copied_behind}
use Rattle.packed.specs.Packed.{max_bytes, stands, standing, place_of, record_length, field_of, part, map_of, map_within, part_at, part_of, field_good, field_value, field_answer, part_good, part_value, good_at, value_at, record_of, record_good, quote_of, record_answer, record_refusal, record_written, record_after}
use Rattle.packed.specs.Inner.Reading.{part_answer}
use Rattle.packed.specs.declared.QuoteRecord.{QuoteRecord}
use Rattle.std.specs.Prelude.{Result, Ok, Err}
use Rattle.refusals.specs.declared.Refusal.{Refusal}
use Rattle.refusals.specs.declared.Refusal.TheVariants.{PackedForm}
use Rattle.packed.proofs.FormLaws.{record_unrefused, written_so}
use Rattle.packed.proofs.FieldLaws.{length_field, field_told}

-- how many bytes a part has
abbrev pub span : Bool → ℕ
span present = max_bytes * cond present 1 0

pub span_most : (present : Bool) → span present ≤ max_bytes
span_most true = omega arith
span_most false = omega arith

pub length_part : (present : Bool) (value : ℤ) → length (part present value) ≡ span present
unfolding part
length_part true value = length_field max_bytes value (omega arith)
length_part false value = refl

-- the places of the parts, and the end
module _ (map : ℕ) where
  pub place_first : place_of map 0 ≡ 1
  unfolding standing
  place_first = omega arith

  pub place_second : place_of map 1 ≡ 1 + span (stands map 0)
  unfolding standing
  place_second = omega arith

  pub place_third : place_of map 2 ≡ place_of map 1 + span (stands map 1)
  unfolding standing
  place_third = omega arith

  pub place_end : record_length map ≡ place_of map 2 + span (stands map 2)
  unfolding standing
  place_end = omega arith

pub length_record : (map : ℕ) (base premium open_lines : ℤ) → length (record_of map base premium open_lines) ≡ record_length map
unfolding record_of
length_record map base premium open_lines =
    let first = part (stands map 0) base in
    let second = part (stands map 1) premium in
    let third = part (stands map 2) open_lines in
    omega (arith, length-append first (second ++ third), length-append second third, length_part (stands map 0) base, length_part (stands map 1) premium, length_part (stands map 2) open_lines, place_second map, place_third map, place_end map)

-- a part put at a place, in its own bytes, and what stands before it and behind it
module _ (present : Bool) (value : ℤ) (at : ℕ) (out : List ℕ) where
  abbrev own : List ℕ
  own = part present value

  pub absent_put : present ≡ false → (at ≡ at + length own) × (out ≡ take at out ++ (own ++ drop (at + length own) out))
  unfolding part
  absent_put e = rw e (omega arith, rw (add-zero at) (sym (take-append-drop at out)))

  pub present_put : (k : ℕ) (v : ℤ) (field : List ℕ) → present ≡ true → k ≡ max_bytes → v ≡ value → at + max_bytes ≤ length out
      → field ≡ field_of (length (take k (drop at out))) v
      → (at + max_bytes ≡ at + length own) × (take at out ++ (field ++ drop k (drop at out)) ≡ take at out ++ (own ++ drop (at + length own) out))
  unfolding part
  present_put k v field e ek ev h is =
      let seven : length own ≡ max_bytes = length_part present value ∙ ap span e in
      let room : length (take k (drop at out)) ≡ max_bytes = rw ek (length-take-le max_bytes (drop at out) (rw (length-drop at out) (omega arith))) in
      let field_is : field ≡ own = is ∙ ap₂ field_of room ev ∙ ap (λ (b : Bool). part b value) (sym e) in
      let behind : drop k (drop at out) ≡ drop (at + length own) out = rw (ek, seven) (drop-drop max_bytes at out) in
      (omega arith, ap₂ (λ (x y : List ℕ). take at out ++ (x ++ y)) field_is behind)

-- The record so far, at the front of the lent bytes, and the place behind it.
pub record PutSo (source out now : List ℕ) (at : ℕ) : Type 0 where
  pub front : Copied source out now (length source)
  pub behind : at ≡ length source

pub put_map : (map : ℕ) (out : List ℕ) → 1 ≤ length out → PutSo (map ∷ []) out (set out 0 map) 1
put_map map out h = record { front = copied_more (map ∷ []) out out 0 (copied_none (map ∷ []) out) (omega arith) h; behind = refl }

module _ (source out now : List ℕ) (at : ℕ) (p : PutSo source out now at) where
  pub length_so : length now ≡ length out
  length_so = length-copied source out now (length source) p.front

  -- the part of a bit, as the code comes to it: by its own flag and the machine's number
  module _ {present there : Bool} (flag : present ≡ there) {v value : ℤ} (number : v ≡ value) where
    same-part : part present v ≡ part there value
    same-part = ap₂ part flag number

    pub room_so : at + span there ≤ length out → at + length (part present v) ≤ length now
    room_so h = omega (arith, ap length same-part, length_part there value, length_so)

    pub put_so : (after : List ℕ) (next : ℕ) → at + span there ≤ length out → next ≡ at + length (part present v)
        → after ≡ take at now ++ (part present v ++ drop (at + length (part present v)) now) → PutSo (source ++ part there value) out after next
    put_so after next h n is =
        let long : length (part there value) ≡ span there = length_part there value in
        record {
          front = copied_behind source out now (part there value) after at p.front p.behind (omega arith)
              (is ∙ ap (λ (l : List ℕ). take at now ++ (l ++ drop (at + length l) now)) same-part);
          behind = n ∙ rw (length-append source (part there value)) (omega (arith, p.behind, ap length same-part));
        }

pub record_so : (map : ℕ) (base premium open_lines : ℤ) (out now : List ℕ) (at : ℕ)
    → PutSo ((((map ∷ []) ++ part (stands map 0) base) ++ part (stands map 1) premium) ++ part (stands map 2) open_lines) out now at
    → (at ≡ length (record_of map base premium open_lines)) × (now ≡ copied (record_of map base premium open_lines) out)
unfolding record_of
record_so map base premium open_lines out now at p =
    let whole = append_assoc ((map ∷ []) ++ part (stands map 0) base) (part (stands map 1) premium) (part (stands map 2) open_lines)
    ∙ append_assoc (map ∷ []) (part (stands map 0) base) (part (stands map 1) premium ++ part (stands map 2) open_lines) in
    (p.behind ∙ ap length whole, copied_all _ out now _ p.front (omega arith) ∙ ap (λ (l : List ℕ). copied l out) whole)

-- what is read of a part
module _ (bytes : List ℕ) where
  pub part_value_lem : (present : Bool) (v : ℤ) → part_answer present bytes ≡ Ok v → (part_good present bytes ≡ true) × (v ≡ part_value present bytes)
  unfolding part_answer part_good part_value
  part_value_lem false v e = (refl, cc)
  part_value_lem true v e = let told = field_told bytes v e in (told.0, sym told.1)

  pub part_refused : (present : Bool) (refusal : Refusal) → part_answer present bytes ≡ Err refusal → (refusal ≡ PackedForm) × (part_good present bytes ≡ false)
  unfolding part_answer part_good field_answer
  part_refused false refusal e = cc
  part_refused true refusal e = go (field_good bytes) e
    where
      go : (good : Bool) → cond good (Ok (field_value bytes)) (Err PackedForm) ≡ Err refusal → (refusal ≡ PackedForm) × (good ≡ false)
      go true e = cc
      go false e = (cc, refl)

-- the same at the place of a bit, as the code comes to it: by its own flag and its own place
module _ (bytes : List ℕ) (bit : ℕ) {present : Bool} (flag : present ≡ stands (map_of bytes) bit) {at : ℕ} (place : at ≡ place_of (map_of bytes) bit)
    (r : Result ℤ Refusal) (is : r ≡ part_answer present (part_at at bytes)) where
  at-bit : r ≡ part_answer (stands (map_of bytes) bit) (part_of bit bytes)
  at-bit = is ∙ ap₂ (λ (b : Bool) (n : ℕ). part_answer b (part_at n bytes)) flag place

  pub read_value : (v : ℤ) → r ≡ Ok v → (good_at bit bytes ≡ true) × (v ≡ value_at bit bytes)
  read_value v e = part_value_lem (part_of bit bytes) (stands (map_of bytes) bit) v (sym at-bit ∙ e)

  pub read_refused : (refusal : Refusal) → r ≡ Err refusal → (refusal ≡ PackedForm) × (good_at bit bytes ≡ false)
  read_refused refusal e = part_refused (part_of bit bytes) (stands (map_of bytes) bit) refusal (sym at-bit ∙ e)

-- what is read of a record whose map and length are right, part by part
module _ (bytes : List ℕ) (within : map_within (map_of bytes) ≡ true) (long : length bytes ≡ record_length (map_of bytes)) where
  abbrev values : Result QuoteRecord Refusal
  values = Ok (quote_of (map_of bytes) (value_at 0 bytes) (value_at 1 bytes) (value_at 2 bytes))

  by_parts : record_answer bytes ≡ cond (good_at 0 bytes && good_at 1 bytes && good_at 2 bytes) values (Err PackedForm)
  unfolding record_answer record_good
  by_parts = rw (within, eq-eqb (length bytes) (record_length (map_of bytes)) long)

  pub first_bad : good_at 0 bytes ≡ false → Err PackedForm ≡ record_answer bytes
  first_bad e = sym (by_parts ∙ rw e)

  pub second_bad : good_at 0 bytes ≡ true → good_at 1 bytes ≡ false → Err PackedForm ≡ record_answer bytes
  second_bad e f = sym (by_parts ∙ rw (e, f))

  pub third_bad : good_at 0 bytes ≡ true → good_at 1 bytes ≡ true → good_at 2 bytes ≡ false → Err PackedForm ≡ record_answer bytes
  third_bad e f g = sym (by_parts ∙ rw (e, f, g))

  pub none_bad : {map : ℕ} {base premium open_lines : ℤ} → good_at 0 bytes ≡ true → good_at 1 bytes ≡ true → good_at 2 bytes ≡ true
      → map ≡ map_of bytes → base ≡ value_at 0 bytes → premium ≡ value_at 1 bytes → open_lines ≡ value_at 2 bytes → Ok (quote_of map base premium open_lines) ≡ record_answer bytes
  none_bad {map} {base} {premium} {open_lines} e f g m b p l =
      let same : Ok (quote_of map base premium open_lines) ≡ values = cc in
      same ∙ sym (by_parts ∙ rw (e, f, g))

-- A record whose map and length are right, read part by part, each as the code comes to it: by its flag, its place and what it answered.
module _ (bytes : List ℕ) (map : ℕ) (is : map ≡ map_of bytes) (within : map_within map ≡ true) (long : length bytes ≡ record_length map) where
  abbrev within-it : map_within (map_of bytes) ≡ true
  within-it = ap map_within (sym is) ∙ within

  abbrev long-it : length bytes ≡ record_length (map_of bytes)
  long-it = long ∙ ap record_length is

  of-it : {flag : Bool} (bit : ℕ) → flag ≡ stands map bit → flag ≡ stands (map_of bytes) bit
  of-it bit e = e ∙ ap (λ (m : ℕ). stands m bit) is

  refused-as : (refusal : Refusal) → refusal ≡ PackedForm → Err PackedForm ≡ record_answer bytes → Err refusal ≡ record_answer bytes
  refused-as refusal e bad = rw e bad

  module _ {first : Bool} (flag : first ≡ stands map 0) (r : Result ℤ Refusal) (read : r ≡ part_answer first (part_at 1 bytes)) where
    abbrev first-at : 1 ≡ place_of (map_of bytes) 0
    first-at = sym (place_first (map_of bytes))

    pub base_refused : (refusal : Refusal) → r ≡ Err refusal → Err refusal ≡ record_answer bytes
    base_refused refusal e =
        let told = read_refused bytes 0 (of-it 0 flag) first-at r read refusal e in
        refused-as refusal told.0 (first_bad bytes within-it long-it told.1)

    module _ (base : ℤ) (base-is : r ≡ Ok base) {s : ℕ} (behind : s ≡ span first) {second : Bool} (flag-too : second ≡ stands map 1) (r' : Result ℤ Refusal) (read-too : r' ≡ part_answer second (part_at (1 + s) bytes)) where
      abbrev base-good : (good_at 0 bytes ≡ true) × (base ≡ value_at 0 bytes)
      base-good = read_value bytes 0 (of-it 0 flag) first-at r read base base-is

      second-at : 1 + s ≡ place_of (map_of bytes) 1
      second-at = omega (arith, behind, ap span (of-it 0 flag), place_second (map_of bytes))

      pub premium_refused : (refusal : Refusal) → r' ≡ Err refusal → Err refusal ≡ record_answer bytes
      premium_refused refusal e =
          let told = read_refused bytes 1 (of-it 1 flag-too) second-at r' read-too refusal e in
          refused-as refusal told.0 (second_bad bytes within-it long-it base-good.0 told.1)

      module _ (premium : ℤ) (premium-is : r' ≡ Ok premium) {t : ℕ} (behind-too : t ≡ span second) {third : Bool} (flag-three : third ≡ stands map 2) (r'' : Result ℤ Refusal) (read-three : r'' ≡ part_answer third (part_at (1 + s + t) bytes)) where
        abbrev premium-good : (good_at 1 bytes ≡ true) × (premium ≡ value_at 1 bytes)
        premium-good = read_value bytes 1 (of-it 1 flag-too) second-at r' read-too premium premium-is

        third-at : 1 + s + t ≡ place_of (map_of bytes) 2
        third-at = omega (arith, second-at, behind-too, ap span (of-it 1 flag-too), place_third (map_of bytes))

        pub lines_refused : (refusal : Refusal) → r'' ≡ Err refusal → Err refusal ≡ record_answer bytes
        lines_refused refusal e =
            let told = read_refused bytes 2 (of-it 2 flag-three) third-at r'' read-three refusal e in
            refused-as refusal told.0 (third_bad bytes within-it long-it base-good.0 premium-good.0 told.1)

        pub record_read : (open_lines : ℤ) → r'' ≡ Ok open_lines → Ok (quote_of map base premium open_lines) ≡ record_answer bytes
        record_read open_lines e =
            let lines-good = read_value bytes 2 (of-it 2 flag-three) third-at r'' read-three open_lines e in
            none_bad bytes within-it long-it base-good.0 premium-good.0 lines-good.0 is base-good.1 premium-good.1 lines-good.1

-- A record that is not refused, written part by part, each as the code comes to it: by its flag, the machine's number, and the place and the bytes before it.
module _ (map : ℕ) (base premium open_lines : ℤ) (out : List ℕ) (r : Result (Unit {0}) Refusal) (told : r ≡ record_refusal map base premium open_lines (length out)) (accepted : r ≡ Ok tt) where
  abbrev bytes-of : List ℕ
  bytes-of = record_of map base premium open_lines

  room : record_length map ≤ length out
  room = record_unrefused map base premium open_lines (length out) (sym told ∙ accepted)

  pub map_fits : 1 ≤ length out
  map_fits = omega (arith, room, place_second map, place_third map, place_end map)

  abbrev before-first : PutSo (map ∷ []) out (set out 0 map) 1
  before-first = put_map map out map_fits

  module _ {first : Bool} (flag : first ≡ stands map 0) {b : ℤ} (number : b ≡ base) where
    first-room : 1 + span (stands map 0) ≤ length out
    first-room = omega (arith, room, place_second map, place_third map, place_end map)

    pub base_fits : 1 + length (part first b) ≤ length (set out 0 map)
    base_fits = room_so _ _ _ _ before-first flag number first-room

    module _ (out₁ : List ℕ) (second : ℕ) (next : second ≡ 1 + length (part first b)) (put : out₁ ≡ take 1 (set out 0 map) ++ (part first b ++ drop (1 + length (part first b)) (set out 0 map)))
        {present : Bool} (flag-too : present ≡ stands map 1) {p : ℤ} (number-too : p ≡ premium) where
      before-second : PutSo ((map ∷ []) ++ part (stands map 0) base) out out₁ second
      before-second = put_so _ _ _ _ before-first flag number out₁ second first-room next put

      second-room : second + span (stands map 1) ≤ length out
      second-room =
          omega (arith, room, before-second.behind, length-append (map ∷ []) (part (stands map 0) base), length_part (stands map 0) base, place_second map, place_third map, place_end map)

      pub premium_fits : second + length (part present p) ≤ length out₁
      premium_fits = room_so _ _ _ _ before-second flag-too number-too second-room

      module _ (out₂ : List ℕ) (third : ℕ) (next-too : third ≡ second + length (part present p)) (put-too : out₂ ≡ take second out₁ ++ (part present p ++ drop (second + length (part present p)) out₁))
          {present' : Bool} (flag-three : present' ≡ stands map 2) {o : ℤ} (number-three : o ≡ open_lines) where
        before-third : PutSo (((map ∷ []) ++ part (stands map 0) base) ++ part (stands map 1) premium) out out₂ third
        before-third = put_so _ _ _ _ before-second flag-too number-too out₂ third second-room next-too put-too

        third-room : third + span (stands map 2) ≤ length out
        third-room =
            let so = part (stands map 0) base in
            let next = part (stands map 1) premium in
            omega (arith, room, before-third.behind, length-append (map ∷ []) so, length-append ((map ∷ []) ++ so) next, length_part (stands map 0) base, length_part (stands map 1) premium, place_second map, place_third map, place_end map)

        pub lines_fit : third + length (part present' o) ≤ length out₂
        lines_fit = room_so _ _ _ _ before-third flag-three number-three third-room

        module _ (out₃ : List ℕ) (end : ℕ) (next-three : end ≡ third + length (part present' o)) (put-three : out₃ ≡ take third out₂ ++ (part present' o ++ drop (third + length (part present' o)) out₂)) where
          whole : (end ≡ length bytes-of) × (out₃ ≡ copied bytes-of out)
          whole = record_so map base premium open_lines out out₃ end (put_so _ _ _ _ before-third flag-three number-three out₃ end third-room next-three put-three)

          pub end_small : end < 4294967296
          end_small =
              omega (arith, whole.0, length_record map base premium open_lines, place_second map, place_third map, place_end map, span_most (stands map 0), span_most (stands map 1), span_most (stands map 2))

          pub record_done : (Ok end ≡ record_written map base premium open_lines (length out)) × (out₃ ≡ record_after map base premium open_lines out)
          unfolding record_written record_after
          record_done = written_so bytes-of out end (record_refusal map base premium open_lines (length out)) out₃ (sym told ∙ accepted) whole.0 whole.1

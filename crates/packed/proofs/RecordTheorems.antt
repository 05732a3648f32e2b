-- Quote records, as request K8 states them: how they are laid out, what is refused, what survives, what is not looked at, what is read, and what is written again.
use Prim.Native.Nat.{ℕ, zero, suc, ◌+◌, ◌*◌, ◌/◌, ◌%◌, ◌^◌, ◌≤◌, ◌<◌}
use mathlib.Core.Bool.{Bool, true, false, cond, ◌&&◌, false≢true}
use mathlib.Core.List.{List, [], ◌∷◌, ◌++◌, append_assoc, append-nil}
use mathlib.Core.Logic.{◌↔◌}
use mathlib.Core.Path.{◌≡◌, refl, sym, ap, ◌∙◌}
use native.Mathlib.Omega.{arith}
use borrow.Author.Tests.{leb-true, le-leb, ltb-true, lt-ltb, eqb-true, eq-eqb, ne_eqb}
use lib.Dec.{leb, eqb}
use lib.IntN.{ℤ, pos, nat_abs}
use lib.ListN.{length, take, drop, length-append, length-drop}
use lib.Seq.{take_at, drop_at, length-take-le}
use Rattle.base.proofs.Bools.{both, and_parts, and_five}
use Rattle.packed.specs.Packed.{length_within, field_of, value_within, field_good, field_answer, stands, map_within, standing, place_of, record_length, part, record_of, part_within, values_within, record_refusal, record_written, record_after, map_of, part_at, part_good, part_value, part_of, good_at, value_at, record_good, quote_of, record_answer}
use Rattle.packed.specs.Statement.{GoodField, RefusedWhere, WrittenAgain, base_bit, premium_bit, lines_bit, bytes_under, base_field, premium_field, lines_field, RecordLaid, GoodRecord, RecordRead, Within13, kept, RecordAgain}
use Rattle.packed.specs.declared.QuoteRecord.{QuoteRecord}
use Rattle.std.specs.Prelude.{Result, Ok, Err}
use Rattle.refusals.specs.declared.Refusal.{Refusal}
use Rattle.refusals.specs.declared.Refusal.TheVariants.{PackedForm}
use Rattle.packed.proofs.FieldLaws.{length_field, field_told}
use Rattle.packed.proofs.PartLaws.{length_part, length_record}
use Rattle.packed.proofs.FieldTheorems.{refused_where, refused_stays, written_whole, value_is, field_read_back, good_is, again_is}

-- A bit by its test and by its number: the same, and what depends on it.
module _ (n : ℕ) where
  abbrev test : Bool
  test = eqb (n % 2) 1

  bit_is : (test ≡ true) ↔ (n % 2 ≡ 1)
  bit_is = (eqb-true (n % 2) 1, eq-eqb (n % 2) 1)

  bit_not : n % 2 ≡ 0 → test ≡ false
  bit_not e = ne_eqb (n % 2) 1 (λ one. omega arith)

  bit_count : cond test 1 0 ≡ n % 2
  bit_count = go test refl
    where
      go : (t : Bool) → test ≡ t → cond t 1 0 ≡ n % 2
      go true e = sym (bit_is.0 e)
      go false e = other (n % 2) (omega arith) e
        where
          other : (m : ℕ) → m < 2 → eqb m 1 ≡ false → 0 ≡ m
          other zero h e = refl
          other (suc zero) h e = absurd (false≢true (sym e))
          other (suc (suc m)) h e = absurd (omega arith)

  bit_kept : (v : ℤ) → cond test v (pos 0) ≡ kept (n % 2) v
  bit_kept v = go (n % 2) (omega arith)
    where
      go : (m : ℕ) → m < 2 → cond (eqb m 1) v (pos 0) ≡ kept m v
      go zero h = refl
      go (suc zero) h = refl
      go (suc (suc m)) h = absurd (omega arith)

-- the bits of a map, and how many stand below each
module _ (map : ℕ) where
  by_one : map / 1 ≡ map
  by_one = omega arith

  base_is : (stands map 0 ≡ true) ↔ (base_bit map ≡ 1)
  unfolding stands
  base_is = rw by_one (bit_is map)

  premium_is : (stands map 1 ≡ true) ↔ (premium_bit map ≡ 1)
  unfolding stands
  premium_is = bit_is (map / 2)

  lines_is : (stands map 2 ≡ true) ↔ (lines_bit map ≡ 1)
  unfolding stands
  lines_is = bit_is (map / 4)

  one_below : standing map 1 ≡ base_bit map
  unfolding standing stands
  one_below = rw by_one (omega (arith, bit_count map))

  two_below : standing map 2 ≡ base_bit map + premium_bit map
  unfolding standing stands
  two_below = rw by_one (omega (arith, bit_count map, bit_count (map / 2)))

  long_is : record_length map ≡ bytes_under map
  unfolding standing stands
  long_is = rw by_one (omega (arith, bit_count map, bit_count (map / 2), bit_count (map / 4)))

  base_kept : (v : ℤ) → cond (stands map 0) v (pos 0) ≡ kept (base_bit map) v
  unfolding stands
  base_kept v = rw by_one (bit_kept map v)

  premium_kept : (v : ℤ) → cond (stands map 1) v (pos 0) ≡ kept (premium_bit map) v
  unfolding stands
  premium_kept v = bit_kept (map / 2) v

  lines_kept : (v : ℤ) → cond (stands map 2) v (pos 0) ≡ kept (lines_bit map) v
  unfolding stands
  lines_kept v = bit_kept (map / 4) v

-- the fields of a record by their places
module _ (bytes : List ℕ) where
  base-at : part_of 0 bytes ≡ base_field bytes
  unfolding standing
  base-at = refl

  premium_at : part_of 1 bytes ≡ premium_field bytes
  premium_at = ap (λ (n : ℕ). part_at (1 + 7 * n) bytes) (one_below (map_of bytes))

  lines_at : part_of 2 bytes ≡ lines_field bytes
  lines_at = ap (λ (n : ℕ). part_at (1 + 7 * n) bytes) (two_below (map_of bytes))

-- a test that is made only of what is given
only_given : (t u : Bool) {B X : Type 0} → (t ≡ true) ↔ B → (u ≡ true) ↔ X → (cond t u true ≡ true) ↔ (B → X)
only_given true u b f = (λ e k. f.0 e, λ h. f.1 (h (b.0 refl)))
only_given false u b f = (λ e k. absurd (false≢true (b.1 k)), λ h. refl)

-- A record as it is written: where its fields stand.
placed : (t : Bool) (v : ℤ) (front back : List ℕ) (place : ℕ) → t ≡ true → length front ≡ place → part_at place (front ++ (part t v ++ back)) ≡ field_of 7 v
unfolding part
placed true v front back place e long = rw (drop_at front (field_of 7 v ++ back) place long) (take_at (field_of 7 v) back 7 (length_field 7 v (omega arith)))
placed false v front back place e long = absurd (false≢true e)

part_back : (t : Bool) (v : ℤ) (bytes : List ℕ) → (t ≡ true → bytes ≡ field_of 7 v) → part_within t v ≡ true → (part_good t bytes ≡ true) × (part_value t bytes ≡ cond t v (pos 0))
unfolding part_good part_value part_within length_within
part_back true v bytes is e = let told = field_told (field_of 7 v) v (field_read_back v 7 refl e) in rw (is refl) told
part_back false v bytes is e = (refl, refl)

module _ (map : ℕ) (base premium open_lines : ℤ) where
  abbrev whole : List ℕ
  whole = record_of map base premium open_lines

  abbrev first : List ℕ
  first = part (stands map 0) base

  abbrev second : List ℕ
  second = part (stands map 1) premium

  abbrev third : List ℕ
  third = part (stands map 2) open_lines

  long : length whole ≡ record_length map
  long = length_record map base premium open_lines

  base_placed : stands map 0 ≡ true → part_of 0 whole ≡ field_of 7 base
  unfolding record_of standing
  base_placed e = placed (stands map 0) base (map ∷ []) (second ++ third) 1 e refl

  premium_placed : stands map 1 ≡ true → part_of 1 whole ≡ field_of 7 premium
  unfolding record_of standing
  premium_placed e = placed (stands map 1) premium (map ∷ first) third (place_of map 1) e (omega (arith, length_part (stands map 0) base))

  lines_placed : stands map 2 ≡ true → part_of 2 whole ≡ field_of 7 open_lines
  unfolding record_of standing
  lines_placed e =
      rw (append-nil third, append_assoc first second third) at
      (placed (stands map 2) open_lines (map ∷ (first ++ second)) [] (place_of map 2) e
      (omega (arith, length-append first second, length_part (stands map 0) base, length_part (stands map 1) premium)))

  -- One byte of map, then only the fields whose bit stands: base, premium, open lines, each 7 bytes, in that order.
  pub record_laid : RecordLaid map base premium open_lines whole
  unfolding record_of
  record_laid =
      record {
        map_first = refl;
        so_many = long ∙ long_is map;
        base_laid = λ e. sym (base-at whole) ∙ base_placed ((base_is map).1 e);
        premium_laid = λ e. sym (premium_at whole) ∙ premium_placed ((premium_is map).1 e);
        lines_laid = λ e. sym (lines_at whole) ∙ lines_placed ((lines_is map).1 e);
      }

  values_parts : values_within map base premium open_lines ≡ true
      → (part_within (stands map 0) base ≡ true) × (part_within (stands map 1) premium ≡ true) × (part_within (stands map 2) open_lines ≡ true)
  unfolding values_within
  values_parts e =
      let outer = and_parts (part_within (stands map 0) base && part_within (stands map 1) premium) (part_within (stands map 2) open_lines) e in
      let inner = and_parts (part_within (stands map 0) base) (part_within (stands map 1) premium) outer.0 in
      (inner.0, inner.1, outer.1)

  values_fit : (values_within map base premium open_lines ≡ true) ↔ Within13 map base premium open_lines
  unfolding values_within part_within
  values_fit =
      let b = only_given (stands map 0) (value_within 7 base) (base_is map) (value_is base 7) in
      let p = only_given (stands map 1) (value_within 7 premium) (premium_is map) (value_is premium 7) in
      let o = only_given (stands map 2) (value_within 7 open_lines) (lines_is map) (value_is open_lines 7) in
      (λ e. let parts = values_parts e in (b.0 parts.0, p.0 parts.1, o.0 parts.2), λ h. both (both (b.1 h.0) (p.1 h.1)) (o.1 h.2))

  -- 23 for a set higher bit, then 24 for a value over its field's digits whose bit stands, then 10 for too few lent bytes.
  pub record_numbers : (room : ℕ) → RefusedWhere (record_written map base premium open_lines room) (bytes_under map) (map < 8) (Within13 map base premium open_lines) (bytes_under map ≤ room)
  unfolding record_written record_refusal map_within
  record_numbers room =
      let enough : (leb (record_length map) room ≡ true) ↔ (bytes_under map ≤ room) = rw (long_is map) (leb-true (bytes_under map) room, le-leb (bytes_under map) room) in
      refused_where (map_within map) (values_within map base premium open_lines) (leb (record_length map) room)
      (ltb-true map 8, lt-ltb map 8) values_fit enough whole (bytes_under map) (λ h. long ∙ long_is map)

  read_back : map_within map ≡ true → values_within map base premium open_lines ≡ true
      → record_answer whole ≡ Ok (quote_of map (kept (base_bit map) base) (kept (premium_bit map) premium) (kept (lines_bit map) open_lines))
  unfolding record_answer record_good record_of
  read_back form values =
      let parts = values_parts values in
      let b = part_back (stands map 0) base (part_of 0 whole) base_placed parts.0 in
      let p = part_back (stands map 1) premium (part_of 1 whole) premium_placed parts.1 in
      let o = part_back (stands map 2) open_lines (part_of 2 whole) lines_placed parts.2 in
      let good : record_good whole ≡ true = both (both (both (both form (eq-eqb (length whole) (record_length map) long)) b.0) p.0) o.0 in
      rw (good, b.1, p.1, o.1, base_kept map base, premium_kept map premium, lines_kept map open_lines)

  module _ (out : List ℕ) where
    stored : (n : ℕ) → record_written map base premium open_lines (length out) ≡ Ok n
        → (map_within map ≡ true) × (values_within map base premium open_lines ≡ true)
        × (take n (record_after map base premium open_lines out) ≡ whole)
        × (drop n (record_after map base premium open_lines out) ≡ drop n out)
    unfolding record_written record_after record_refusal
    stored n e =
        written_whole (map_within map) (values_within map base premium open_lines) (leb (record_length map) (length out)) whole out n
        (λ form room. omega (arith, long, leb-true (record_length map) (length out) room)) e

    -- What is written stands in front, and what is lent behind it stays.
    pub record_behind : (n : ℕ) → record_written map base premium open_lines (length out) ≡ Ok n
        → (take n (record_after map base premium open_lines out) ≡ whole) × (drop n (record_after map base premium open_lines out) ≡ drop n out)
    record_behind n e = ((stored n e).2, (stored n e).3)

    -- A refusal writes nothing.
    pub record_stays : (refusal : Refusal) → record_written map base premium open_lines (length out) ≡ Err refusal → record_after map base premium open_lines out ≡ out
    unfolding record_written record_after
    record_stays refusal e = refused_stays (record_refusal map base premium open_lines (length out)) whole out refusal e

    -- Every value within its field's digits whose bit stands survives writing and reading, and so does the map; the others are read as 0.
    pub record_survives : map < 8 → Within13 map base premium open_lines → bytes_under map ≤ length out
        → (record_written map base premium open_lines (length out) ≡ Ok (bytes_under map))
        × (record_answer (take (bytes_under map) (record_after map base premium open_lines out))
        ≡ Ok (quote_of map (kept (base_bit map) base) (kept (premium_bit map) premium) (kept (lines_bit map) open_lines)))
    record_survives low within room =
        let wrote = (record_numbers (length out)).accepted.1 (low, within, room) in
        let left = stored (bytes_under map) wrote in
        (wrote, rw left.2 (read_back left.0 left.1))

unseen : {X : Type 0} (t : Bool) {B : Type 0} → (t ≡ true) ↔ B → (f : ℤ → X) (d : X) (v w : ℤ) → (B → v ≡ w) → cond t (f v) d ≡ cond t (f w) d
unseen true b f d v w e = ap f (e (b.0 refl))
unseen false b f d v w e = refl

-- A value whose bit does not stand is neither looked at nor written.
pub not_looked_at : (map : ℕ) (b p o b' p' o' : ℤ) → (base_bit map ≡ 1 → b ≡ b') → (premium_bit map ≡ 1 → p ≡ p') → (lines_bit map ≡ 1 → o ≡ o')
    → (out : List ℕ)
    → (record_written map b p o (length out) ≡ record_written map b' p' o' (length out)) × (record_after map b p o out ≡ record_after map b' p' o' out)
unfolding record_written record_after record_refusal values_within part_within record_of part
not_looked_at map b p o b' p' o' same_base same-premium same_lines out = rw (tests, bytes) (refl, refl)
  where
    tests : values_within map b p o ≡ values_within map b' p' o'
    tests =
        rw (unseen (stands map 0) (base_is map) (value_within 7) true b b' same_base, unseen (stands map 1) (premium_is map) (value_within 7) true p p' same-premium, unseen (stands map 2) (lines_is map) (value_within 7) true o o' same_lines)

    bytes : record_of map b p o ≡ record_of map b' p' o'
    bytes =
        rw (unseen (stands map 0) (base_is map) (field_of 7) [] b b' same_base, unseen (stands map 1) (premium_is map) (field_of 7) [] p p' same-premium, unseen (stands map 2) (lines_is map) (field_of 7) [] o o' same_lines)

-- Reading.
module _ (bytes : List ℕ) where
  -- what an answer tells
  abbrev Told : ℕ → ℤ → ℤ → ℤ → Type 0
  Told map b p o = (record_good bytes ≡ true) × (map_of bytes ≡ map) × (value_at 0 bytes ≡ b) × (value_at 1 bytes ≡ p) × (value_at 2 bytes ≡ o)

  abbrev answered : Result QuoteRecord Refusal
  answered = Ok (quote_of (map_of bytes) (value_at 0 bytes) (value_at 1 bytes) (value_at 2 bytes))

  record_told : (map : ℕ) (b p o : ℤ) → record_answer bytes ≡ Ok (quote_of map b p o) → Told map b p o
  unfolding record_answer
  record_told map b p o e = go (record_good bytes) refl e
    where
      go : (t : Bool) → record_good bytes ≡ t → cond t answered (Err PackedForm) ≡ Ok (quote_of map b p o) → Told map b p o
      go true good q =
          let same : quote_of (map_of bytes) (value_at 0 bytes) (value_at 1 bytes) (value_at 2 bytes) ≡ quote_of map b p o = cc in
          (good, ap (λ (q : QuoteRecord). q.map) same, ap (λ (q : QuoteRecord). q.base) same, ap (λ (q : QuoteRecord). q.premium) same, ap (λ (q : QuoteRecord). q.open_lines) same)
      go false bad q = cc

  record_good_parts : record_good bytes ≡ true
      → (map_within (map_of bytes) ≡ true) × (eqb (length bytes) (record_length (map_of bytes)) ≡ true) × (good_at 0 bytes ≡ true) × (good_at 1 bytes ≡ true) × (good_at 2 bytes ≡ true)
  unfolding record_good
  record_good_parts e = and_five (map_within (map_of bytes)) (eqb (length bytes) (record_length (map_of bytes))) (good_at 0 bytes) (good_at 1 bytes) (good_at 2 bytes) e

  -- a part is good exactly if its field is, where its bit stands
  field-good : (bit : ℕ) {B : Type 0} {own : List ℕ} → (stands (map_of bytes) bit ≡ true) ↔ B → part_of bit bytes ≡ own → (good_at bit bytes ≡ true) ↔ (B → GoodField own)
  unfolding part_good
  field-good bit b at = rw (← at) (only_given (stands (map_of bytes) bit) (field_good (part_of bit bytes)) b (good_is (part_of bit bytes)))

  base_good : (good_at 0 bytes ≡ true) ↔ (base_bit (map_of bytes) ≡ 1 → GoodField (base_field bytes))
  base_good = field-good 0 (base_is (map_of bytes)) (base-at bytes)

  premium_good : (good_at 1 bytes ≡ true) ↔ (premium_bit (map_of bytes) ≡ 1 → GoodField (premium_field bytes))
  premium_good = field-good 1 (premium_is (map_of bytes)) (premium_at bytes)

  lines_good : (good_at 2 bytes ≡ true) ↔ (lines_bit (map_of bytes) ≡ 1 → GoodField (lines_field bytes))
  lines_good = field-good 2 (lines_is (map_of bytes)) (lines_at bytes)

  record_good_is : (record_good bytes ≡ true) ↔ GoodRecord bytes
  unfolding record_good map_within
  record_good_is = (told, tested)
    where
      told : record_good bytes ≡ true → GoodRecord bytes
      told e =
          let parts = record_good_parts e in
          record {
            no_higher_bit = ltb-true (map_of bytes) 8 parts.0;
            right_length = eqb-true (length bytes) (record_length (map_of bytes)) parts.1 ∙ long_is (map_of bytes);
            good_base = base_good.0 parts.2;
            good_premium = premium_good.0 parts.3;
            good_lines = lines_good.0 parts.4;
          }

      tested : GoodRecord bytes → record_good bytes ≡ true
      tested good =
          both (both (both (both (lt-ltb (map_of bytes) 8 good.no_higher_bit) (eq-eqb (length bytes) (record_length (map_of bytes)) (good.right_length ∙ sym (long_is (map_of bytes)))))
          (base_good.1 good.good_base)) (premium_good.1 good.good_premium)) (lines_good.1 good.good_lines)

  -- Read exactly if no higher bit is set, the length is that of the bits that stand, and their fields are good.
  pub record_exactly : ((map : ℕ) × (b : ℤ) × (p : ℤ) × (o : ℤ) × (record_answer bytes ≡ Ok (quote_of map b p o))) ↔ GoodRecord bytes
  unfolding record_answer
  record_exactly = (
    λ r. record_good_is.0 (record_told r.0 r.1 r.2 r.3 r.4).0,
    λ good. (map_of bytes, value_at 0 bytes, value_at 1 bytes, value_at 2 bytes, rw (record_good_is.1 good)),
  )

  -- 23 is the only refusal in reading.
  pub record_only_23 : (refusal : Refusal) → record_answer bytes ≡ Err refusal → refusal ≡ PackedForm
  unfolding record_answer
  record_only_23 refusal e = go (record_good bytes) e
    where
      go : (t : Bool) → cond t answered (Err PackedForm) ≡ Err refusal → refusal ≡ PackedForm
      go true q = cc
      go false q = cc

  -- a value whose bit stands is that of its field, and another one is 0
  value_read_lem : (bit : ℕ) {B : Type 0} {own : List ℕ} → (stands (map_of bytes) bit ≡ true) ↔ B → part_of bit bytes ≡ own → good_at bit bytes ≡ true → B → field_answer own ≡ Ok (value_at bit bytes)
  unfolding part_good part_value field_answer
  value_read_lem bit b at good given = rw (← at) (go (stands (map_of bytes) bit) (b.1 given) good)
    where
      go : (t : Bool) → t ≡ true → part_good t (part_of bit bytes) ≡ true → field_answer (part_of bit bytes) ≡ Ok (part_value t (part_of bit bytes))
      go true e g = rw g
      go false e g = absurd (false≢true e)

  value_absent : (bit : ℕ) → stands (map_of bytes) bit ≡ false → value_at bit bytes ≡ pos 0
  unfolding part_value
  value_absent bit e = rw e

  read_so : record_good bytes ≡ true → RecordRead bytes (map_of bytes) (value_at 0 bytes) (value_at 1 bytes) (value_at 2 bytes)
  unfolding stands
  read_so e =
      let map = map_of bytes in
      let parts = record_good_parts e in
      record {
        map_read = refl;
        base_read = value_read_lem 0 (base_is map) (base-at bytes) parts.2;
        base_absent = λ none. value_absent 0 (rw (by_one map) (bit_not map none));
        premium_read = value_read_lem 1 (premium_is map) (premium_at bytes) parts.3;
        premium_absent = λ none. value_absent 1 (bit_not (map / 2) none);
        lines_read = value_read_lem 2 (lines_is map) (lines_at bytes) parts.4;
        lines_absent = λ none. value_absent 2 (bit_not (map / 4) none);
      }

  -- Reading returns the map, and the values from their own fields; a value whose bit does not stand is read as 0.
  pub record_values : (map : ℕ) (b p o : ℤ) → record_answer bytes ≡ Ok (quote_of map b p o) → RecordRead bytes map b p o
  record_values map b p o e =
      let told = record_told map b p o e in
      rw (← told.1, ← told.2, ← told.3, ← told.4) (read_so told.0)

-- a field of a record that was read: 7 bytes, and written again
seven : (bytes : List ℕ) (place rest : ℕ) → length bytes ≡ place + 7 + rest → length (part_at place bytes) ≡ 7
seven bytes place rest e = length-take-le 7 (drop place bytes) (rw (length-drop place bytes) (omega arith))

own_again : (own : List ℕ) (v : ℤ) → length own ≡ 7 → field_answer own ≡ Ok v → (nat_abs v < 10 ^ 13) × WrittenAgain own (field_of 7 v) v
own_again own v long answer = let again = rw long at (again_is own v answer) in (again.0, again.2)

-- A record that was read and is written again: as long, the same map, and its fields the same but for the sign F and that of a minus zero.
pub record_again : (bytes : List ℕ) (map : ℕ) (b p o : ℤ) → record_answer bytes ≡ Ok (quote_of map b p o) → (out : List ℕ) → length bytes ≤ length out
    → (record_written map b p o (length out) ≡ Ok (length bytes)) × RecordAgain bytes (take (length bytes) (record_after map b p o out)) b p o
record_again bytes map b p o e out room = (wrote, rw (record_behind map b p o out (length bytes) wrote).0 again)
  where
    good : GoodRecord bytes
    good = (record_exactly bytes).0 (map, b, p, o, e)

    read : RecordRead bytes map b p o
    read = record_values bytes map b p o e

    laid : RecordLaid map b p o (record_of map b p o)
    laid = record_laid map b p o

    size : length bytes ≡ bytes_under map
    size = good.right_length ∙ ap bytes_under (sym read.map_read)

    base : base_bit map ≡ 1 → (nat_abs b < 10 ^ 13) × WrittenAgain (base_field bytes) (field_of 7 b) b
    base given = own_again (base_field bytes) b (seven bytes 1 (7 * (premium_bit map + lines_bit map)) (omega (arith, size))) (read.base_read given)

    premium : premium_bit map ≡ 1 → (nat_abs p < 10 ^ 13) × WrittenAgain (premium_field bytes) (field_of 7 p) p
    premium given =
        let same = read.map_read in
        own_again (premium_field bytes) p (seven bytes (1 + 7 * base_bit (map_of bytes)) (7 * lines_bit map) (omega (arith, size, ap base_bit same))) (read.premium_read given)

    lines : lines_bit map ≡ 1 → (nat_abs o < 10 ^ 13) × WrittenAgain (lines_field bytes) (field_of 7 o) o
    lines given =
        let same = read.map_read in
        own_again (lines_field bytes) o (seven bytes (1 + 7 * (base_bit (map_of bytes) + premium_bit (map_of bytes))) 0 (omega (arith, size, ap base_bit same, ap premium_bit same))) (read.lines_read given)

    wrote : record_written map b p o (length out) ≡ Ok (length bytes)
    wrote =
        (record_numbers map b p o (length out)).accepted.1
        (rw read.map_read good.no_higher_bit, (λ given. (base given).0, λ given. (premium given).0, λ given. (lines given).0), omega (arith, size, room))
        ∙ ap Ok (sym size)

    again : RecordAgain bytes (record_of map b p o) b p o
    again =
        record {
          as_long = laid.so_many ∙ sym size;
          same_map = laid.map_first ∙ read.map_read;
          base_again = λ given. let own = ap base_bit read.map_read ∙ given in rw (laid.base_laid own) (base own).1;
          premium_again = λ given. let own = ap premium_bit read.map_read ∙ given in rw (laid.premium_laid own) (premium own).1;
          lines_again = λ given. let own = ap lines_bit read.map_read ∙ given in rw (laid.lines_laid own) (lines own).1;
        }

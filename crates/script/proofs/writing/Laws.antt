-- Bytes written one behind the other to a lent buffer.
use Prim.Native.Nat.{ℕ, suc, ◌+◌, ◌≤◌, ◌<◌, min}
use mathlib.Core.Path.{◌≡◌, refl, sym, ap, ap₂, ◌∙◌}
use mathlib.Core.List.{List, [], ◌∷◌, ◌++◌, append-nil, append_assoc}
use native.Mathlib.Numerals.{add-one}
use native.Mathlib.Omega.{arith}
use lib.ListN.{length, get_or, take, drop, set, length-take, length-drop, length-append, length-set, drop_of_length-le}
use lib.Seq.{take_all, take-append-le, drop-cons, set_at, take-suc, append_snoc}
use Rattle.base.specs.Lists.{copied}
use Rattle.script.specs.Buffer.{fitting}
use Rattle.script.specs.Answers.{signed, listed}
use Rattle.script.specs.declared.writing.Writer.{Writer}
use Rattle.script.specs.Inner.Writing.{Holds, Puts}
use Rattle.std.specs.List.{flat_map}
use Rattle.std.proofs.lemmas.List.{flat_map_more}

module _ (writer : Writer) (buffer bytes : List ℕ) (w : Holds writer buffer bytes) where
  length_held : length writer.out.now ≡ length buffer
  unfolding copied
  length_held =
      ap length w.holds ∙ length-append (take (length buffer) bytes) (drop (length bytes) buffer)
      ∙ rw (length-take (length buffer) bytes, length-drop (length bytes) buffer) (omega arith)

  at_end : writer.at ≡ min (length buffer) (length bytes)
  at_end = w.end ∙ length-take (length buffer) bytes

  -- a full buffer stays
  held_full : (more : List ℕ) → length writer.out.now ≤ writer.at → Holds writer buffer (bytes ++ more)
  unfolding copied
  held_full more h =
      let over : length buffer ≤ length bytes = omega (arith, length_held, at_end) in
      let same : take (length buffer) (bytes ++ more) ≡ take (length buffer) bytes = take-append-le (length buffer) bytes more over in
      let none : drop (length bytes) buffer ≡ [] = drop_of_length-le buffer over in
      let none_more : drop (length (bytes ++ more)) buffer ≡ []
      = drop_of_length-le buffer {i = length (bytes ++ more)} (rw (length-append bytes more) (omega arith)) in
      record { holds = rw (same, none_more) (w.holds ∙ rw none); end = rw same w.end }

  -- one byte more
  held_more : (byte : ℕ) (next : Writer) → next.out.now ≡ set writer.out.now writer.at byte → next.at ≡ writer.at + 1
      → writer.at < length writer.out.now → Holds next buffer (bytes ++ (byte ∷ []))
  unfolding copied
  held_more byte next is end h =
      let room : length bytes < length buffer = omega (arith, length_held, at_end) in
      let here : length bytes ≡ writer.at = omega (arith, at_end) in
      let longer : length (bytes ++ (byte ∷ [])) ≡ suc (length bytes) = length-append bytes (byte ∷ []) ∙ omega arith in
      let whole : take (length buffer) (bytes ++ (byte ∷ [])) ≡ bytes ++ (byte ∷ [])
      = take_all (length buffer) (bytes ++ (byte ∷ [])) (rw longer (omega arith)) in
      let was : writer.out.now ≡ bytes ++ (get_or buffer (length bytes) 0 ∷ drop (suc (length bytes)) buffer)
      = w.holds ∙ ap₂ (λ (x y : List ℕ). x ++ y) (take_all (length buffer) bytes (omega arith)) (drop-cons buffer (length bytes) 0 room) in
      record {
        holds =
            rw (whole, longer, is, was)
            (set_at bytes (get_or buffer (length bytes) 0) (drop (suc (length bytes)) buffer) byte writer.at here
            ∙ sym (append_snoc bytes byte (drop (suc (length bytes)) buffer)));
        end = rw (whole, longer) (omega arith);
      }

-- what a writer puts: nothing, one byte or none of it, some bytes and then others, the same bytes by another name
pub puts_none : (w : Writer) → Puts w w []
puts_none w = record { same_buffer = refl; same_length = refl; more = λ buffer so_far h. rw append-nil h }

pub puts_full : (w : Writer) (byte : ℕ) → length w.out.now ≤ w.at → Puts w w (byte ∷ [])
puts_full w byte full =
    record { same_buffer = refl; same_length = refl; more = λ buffer so_far h. held_full w buffer so_far h (byte ∷ []) full }

pub puts_one : {w v : Writer} (byte : ℕ) → v.out.ghost_name ≡ w.out.ghost_name → v.out.now ≡ set w.out.now w.at byte → v.at ≡ w.at + 1
    → w.at < length w.out.now → Puts w v (byte ∷ [])
puts_one {w} {v} byte same is end room =
    record {
      same_buffer = same;
      same_length = ap length is ∙ length-set w.out.now w.at byte;
      more = λ buffer so_far h. held_more w buffer so_far h byte v is end room;
    }

pub puts_both : {w v u : Writer} {xs ys : List ℕ} → Puts w v xs → Puts v u ys → Puts w u (xs ++ ys)
puts_both {xs = xs} {ys = ys} p q =
    record {
      same_buffer = q.same_buffer ∙ p.same_buffer;
      same_length = q.same_length ∙ p.same_length;
      more = λ buffer so_far h. rw (append_assoc so_far xs ys) at (q.more buffer (so_far ++ xs) (p.more buffer so_far h));
    }

pub puts_as : {w v : Writer} {xs ys : List ℕ} → xs ≡ ys → Puts w v xs → Puts w v ys
puts_as e p = rw e at p

-- one byte more of a source
pub puts_more : {w v u : Writer} (source : List ℕ) (i : ℕ) → i < length source → Puts w v (take i source) → Puts v u (get_or source i 0 ∷ [])
    → Puts w u (take (i + 1) source)
puts_more source i h p q = rw (add-one i, take-suc source i 0 h) (puts_both p q)

pub puts_whole : {w v : Writer} (source : List ℕ) (i : ℕ) → length source ≤ i → Puts w v (take i source) → Puts w v source
puts_whole source i h p = rw (take_all i source h) at p

-- a line that a writer puts from the start of a lent buffer
pub line_written : {begun ended : Writer} {buffer line : List ℕ} → begun.out.now ≡ buffer → begun.at ≡ 0 → Puts begun ended line
    → (ended.at ≡ fitting line buffer) × (ended.out.now ≡ copied line buffer)
unfolding fitting copied
line_written {begun} {ended} {buffer} {line} whole none p =
    let empty : take {A = ℕ} (length buffer) [] ≡ [] = take_all (length buffer) [] (omega arith) in
    let w : Holds ended buffer line = p.more buffer [] (record { holds = whole ∙ rw empty; end = none ∙ rw empty }) in
    (w.end, w.holds)

-- a literal in a list
abbrev pub listed_one : ℕ → List ℕ
listed_one literal = 32 ∷ signed literal

listed_flat : (literals : List ℕ) → flat_map listed_one literals ++ (10 ∷ []) ≡ listed literals
unfolding listed
listed_flat [] = refl
listed_flat (l ∷ literals) = append_assoc (listed_one l) (flat_map listed_one literals) (10 ∷ []) ∙ ap (λ (ls : List ℕ). listed_one l ++ ls) (listed_flat literals)

pub puts_one_listed : {w v u : Writer} (literals : List ℕ) (i : ℕ) → i < length literals → Puts w v (flat_map listed_one (take i literals))
    → Puts v u (listed_one (get_or literals i 0)) → Puts w u (flat_map listed_one (take (i + 1) literals))
puts_one_listed literals i h p q =
    rw (add-one i, take-suc literals i 0 h)
    (puts_as (flat_map_more listed_one [] (take i literals) (get_or literals i 0)) (puts_both p q))

pub puts_listed : {w v u : Writer} (literals : List ℕ) (i : ℕ) → length literals ≤ i → Puts w v (flat_map listed_one (take i literals))
    → Puts v u (10 ∷ []) → Puts w u (listed literals)
puts_listed literals i h p q = puts_as (listed_flat literals) (puts_both (rw (take_all i literals h) at p) q)

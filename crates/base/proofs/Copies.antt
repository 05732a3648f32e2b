-- A list whose front part is copied from another list: as a loop that copies meets it, and the laws of `copied`.
use Prim.Native.Nat.{ℕ, suc, ◌+◌, ◌-◌, ◌≤◌, ◌<◌, min}
use mathlib.Core.Path.{◌≡◌, refl, ap, ap₂, sym, ◌∙◌}
use mathlib.Core.Bool.{Bool, true, false}
use mathlib.Core.List.{List, [], ◌∷◌, ◌++◌, append_assoc}
use native.Mathlib.Numerals.{add-one}
use native.Mathlib.Omega.{arith}
use lib.Dec.{ltb}
use borrow.Author.Tests.{ltb-true, ltb-false}
use lib.ListN.{length, get_or, take, drop, set, length-take, length-drop, length-append, drop_of_length-le}
use Rattle.std.proofs.lemmas.List.{take_more_set, take_more, drop-set-lt, take-append-drop}
use Rattle.std.proofs.lemmas.Grind.{drop_more_same}
use Rattle.std.specs.Ordering.{nat_cmp, ord_min}
use lib.Seq.{drop-cons, set_at, append_snoc, take-suc, length-take-le, take_all, take_at, drop_at, drop-drop, drop-append-add, take-nil}
use Rattle.base.specs.Lists.{copied}
use Rattle.base.proofs.Lists.{take_both}

-- the first i numbers are the source's, the rest is as it was
pub record Copied (source before now : List ℕ) (i : ℕ) : Type 0 where
  pub in_source : i ≤ length source
  pub in_target : i ≤ length before
  pub is : now ≡ take i source ++ drop i before

pub copied_none : (source before : List ℕ) → Copied source before before 0
copied_none source before = record { in_source = omega arith; in_target = omega arith; is = refl }

module _ (source before now : List ℕ) (i : ℕ) (c : Copied source before now i) where
  pub length-copied : length now ≡ length before
  length-copied =
      ap length c.is ∙ length-append (take i source) (drop i before)
      ∙ rw (length-take-le i source c.in_source, length-drop i before) (omega (arith, c.in_target))

  pub copied_more : i < length source → i < length before → Copied source before (set now i (get_or source i 0)) (i + 1)
  copied_more h k =
      record {
        in_source = omega arith;
        in_target = omega arith;
        is =
            rw (c.is, add-one i, drop-cons before i 0 k, set_at (take i source) (get_or before i 0) (drop (suc i) before) (get_or source i 0) i (length-take-le i source c.in_source), take-suc source i 0 h)
            (sym (append_snoc (take i source) (get_or source i 0) (drop (suc i) before)));
      }

  -- a loop that ends with the source, and one that ends with the room
  pub copied_all : length source ≤ i → now ≡ copied source before
  unfolding copied
  copied_all h =
      let is_all : i ≡ length source = omega (arith, c.in_source) in
      c.is
      ∙ ap₂ (λ (x y : List ℕ). x ++ y)
      (take_all i source h ∙ sym (take_all (length before) source (omega (arith, c.in_target))))
      (ap (λ (k : ℕ). drop k before) is_all)

-- all of the source is copied, and more is put behind it
pub copied_behind : (source before now more after : List ℕ) (at : ℕ) → Copied source before now (length source) → at ≡ length source → at + length more ≤ length before
    → after ≡ take at now ++ (more ++ drop (at + length more) now) → Copied (source ++ more) before after (length (source ++ more))
copied_behind source before now more after at c e h is =
    let front : now ≡ source ++ drop (length source) before = c.is ∙ ap (λ (l : List ℕ). l ++ drop (length source) before) (take_all (length source) source (omega arith)) in
    let kept : take at now ≡ source = rw (front, e) (take_at source (drop (length source) before) (length source) refl) in
    let rest : drop (at + length more) now ≡ drop (length (source ++ more)) before
    = rw (front, e, drop-append-add source (drop (length source) before) (length more), drop-drop (length more) (length source) before, length-append source more) in
    record {
      in_source = omega arith;
      in_target = omega (arith, length-append source more);
      is =
          is
          ∙ ap₂ (λ (x y : List ℕ). x ++ (more ++ y)) kept rest
          ∙ sym (append_assoc source more (drop (length (source ++ more)) before))
          ∙ ap (λ (l : List ℕ). l ++ drop (length (source ++ more)) before) (sym (take_all (length (source ++ more)) (source ++ more) (omega arith)));
    }

-- what is copied, and what lies behind it
module _ (source buffer : List ℕ) where
  pub length_copy : length (copied source buffer) ≡ length buffer
  unfolding copied
  length_copy =
      length-append (take (length buffer) source) (drop (length source) buffer)
      ∙ rw (length-take (length buffer) source, length-drop (length source) buffer) (omega arith)

  pub take_copy : take (length (take (length buffer) source)) (copied source buffer) ≡ take (length buffer) source
  unfolding copied
  take_copy = take_at (take (length buffer) source) (drop (length source) buffer) (length (take (length buffer) source)) refl

  pub drop_copy : drop (length (take (length buffer) source)) (copied source buffer) ≡ drop (length source) buffer
  unfolding copied
  drop_copy = drop_at (take (length buffer) source) (drop (length source) buffer) (length (take (length buffer) source)) refl

  -- more is copied behind it
  module _ (more : List ℕ) where
    abbrev end : ℕ
    end = length (take (length buffer) source)

    pub copy_behind : take end (copied source buffer) ++ copied more (drop end (copied source buffer)) ≡ copied (source ++ more) buffer
    unfolding copied
    copy_behind =
        ap₂ (λ (x y : List ℕ). x ++ copied more y) take_copy drop_copy
        ∙ rw (length-drop (length source) buffer, drop-drop (length more) (length source) buffer, take_both (length buffer) source more, length-append source more)
        (sym (append_assoc (take (length buffer) source) (take (length buffer - length source) more) (drop (length source + length more) buffer)))

    pub count_behind : end + length (take (length (drop end (copied source buffer))) more) ≡ length (take (length buffer) (source ++ more))
    count_behind =
        rw (drop_copy, length-drop (length source) buffer, take_both (length buffer) source more)
        (sym (length-append (take (length buffer) source) _))

-- numbers stored one by one: of those that fit each goes behind the others
copy_store : (source buffer : List ℕ) (x : ℕ) → set (copied source buffer) (length source) x ≡ copied (source ++ (x ∷ [])) buffer
unfolding copied
copy_store [] [] x = refl
copy_store [] (y ∷ buffer) x = rw (take-nil {A = ℕ} (length buffer))
copy_store (s ∷ source) [] x = refl
copy_store (s ∷ source) (y ∷ buffer) x = ap (λ (l : List ℕ). s ∷ l) (copy_store source buffer x)

pub stored_none : (buffer : List ℕ) → buffer ≡ copied [] buffer
unfolding copied
stored_none buffer = rw (take-nil {A = ℕ} (length buffer))

pub stored_more : (buffer source : List ℕ) (x : ℕ) {now after : List ℕ} → now ≡ copied source buffer → after ≡ set now (length source) x
    → after ≡ copied (source ++ (x ∷ [])) buffer
stored_more buffer source x is stored = stored ∙ rw is (copy_store source buffer x)

-- the lesser of two numbers, as `min` of std::cmp has it
pub lesser : (x y : ℕ) → ord_min nat_cmp x y ≡ min y x
lesser x y = grind arith

-- elements stored one by one: the first i are the source's, the rest is as it was
module _ {A : Type 0} (source before : List A) where
  abbrev pub Stored : List A → ℕ → Type 0
  Stored now i = (take i now ≡ take i source) × (drop i now ≡ drop i before)

  pub element_stored : (now : List A) (i : ℕ) (x : A) → i < length source → i < length now → x ≡ get_or source i x → Stored now i → Stored (set now i x) (i + 1)
  element_stored now i x h k is s = (
    take_more_set now i x k ∙ ap₂ (λ (l : List A) (y : A). l ++ (y ∷ [])) s.0 is ∙ sym (take_more source i x h),
    drop-set-lt (i + 1) now i x (omega arith) ∙ drop_more_same now before i s.1,
  )

  pub elements_stored : (now : List A) (i : ℕ) → i ≡ min (length before) (length source) → Stored now i → now ≡ copied source before
  unfolding copied
  elements_stored now i e s =
      let parts : now ≡ take i source ++ drop i before = sym (take-append-drop i now) ∙ ap₂ (λ (l r : List A). l ++ r) s.0 s.1 in
      parts ∙ go (ltb (length before) (length source)) refl
    where
      go : (b : Bool) → ltb (length before) (length source) ≡ b → take i source ++ drop i before ≡ take (length before) source ++ drop (length source) before
      go true q =
          let over : length before < length source = ltb-true (length before) (length source) q in
          let full : i ≡ length before = omega (arith, over) in
          rw (full, drop_of_length-le before {i = length before} (omega arith), drop_of_length-le before {i = length source} (omega (arith, over))) refl
      go false q =
          let within : length source ≤ length before = ltb-false (length before) (length source) q in
          let whole : i ≡ length source = omega (arith, within) in
          rw (whole, take_all (length source) source (omega arith), take_all (length before) source within) refl

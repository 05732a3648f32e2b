-- Older parts of a trail and its levels: places and levels on an older part, and the trail without its top level or its last k levels.
use Prim.Native.Nat.{ℕ, zero, suc, ◌+◌, ◌-◌, ◌≤◌, ◌<◌}
use native.Mathlib.Omega.{arith}
use mathlib.Core.Bool.{Bool, true, false, cond}
use mathlib.Core.List.{List, [], ◌∷◌, ◌++◌}
use mathlib.Core.Logic.{◌⊎◌, inl, inr, ⊎_elim}
use mathlib.Core.Path.{◌≡◌, refl, sym, ap, ◌∙◌}
use borrow.Author.Tests.{eq-eqb, ne_eqb}
use lib.ListN.{length, drop, length-drop}
use lib.Seq.{drop-drop}
use Rattle.base.specs.Lists.{distinct}
use Rattle.base.proofs.Bools.{alike, below, never}
use Rattle.book.specs.Formula.{variable_of}
use Rattle.run.specs.Trail.{Entry, place, is_true, variables_on, decisions, level, lowered, cut}
use Rattle.run.proofs.Trails.{PlaceCase, true_place, place_true, place_cases, place_old, place_within, true_grows, rest_distinct, newest_apart}

-- a trail that is the end of another: its older part
pub data Suffix (old : List Entry) : List Entry → Type 0 where
  whole : Suffix old old
  newer : (e : Entry) {trail : List Entry} → Suffix old trail → Suffix old (e ∷ trail)

pub suffix_length : {old trail : List Entry} → Suffix old trail → length old ≤ length trail
suffix_length whole = omega arith
suffix_length (newer e s) = let rest = suffix_length s in omega arith

-- places and levels of the older part are those on the whole trail
pub suffix_place : {old trail : List Entry} → Suffix old trail → (l : ℕ) → place trail l ≤ length old → place old l ≡ place trail l
suffix_place whole l h = refl
suffix_place (newer e {trail} s) l h =
    let shorter = suffix_length s in
    ⊎_elim (λ p. absurd (omega arith)) (λ p. suffix_place s l (omega arith) ∙ sym p.1) (place_cases e trail l)

pub suffix_on : {old trail : List Entry} → Suffix old trail → (l : ℕ) → distinct (variables_on trail) ≡ true → 0 < place old l
    → place trail l ≡ place old l
suffix_on whole l d h = refl
suffix_on {old} (newer e {trail} s) l d h =
    let rest : place trail l ≡ place old l
    = suffix_on s l (rest_distinct e trail d) h in
    place_old e trail l (λ q. newest_apart e trail l d (omega arith) (ap variable_of (sym q))) ∙ rest

pub suffix_distinct : {old trail : List Entry} → Suffix old trail → distinct (variables_on trail) ≡ true → distinct (variables_on old) ≡ true
suffix_distinct whole d = d
suffix_distinct (newer e {trail} s) d = suffix_distinct s (rest_distinct e trail d)

pub suffix_compose : {older old trail : List Entry} → Suffix older old → Suffix old trail → Suffix older trail
suffix_compose s whole = s
suffix_compose s (newer e t) = newer e (suffix_compose s t)

pub suffix_true : {old trail : List Entry} → Suffix old trail → (l : ℕ) → is_true old l ≡ true → is_true trail l ≡ true
suffix_true whole l h = h
suffix_true (newer e {trail} s) l h = true_grows e trail l (suffix_true s l h)

pub suffix_append : {old trail : List Entry} → Suffix old trail → (new : List Entry) × (trail ≡ new ++ old)
suffix_append whole = ([], refl)
suffix_append (newer e s) = let r = suffix_append s in (e ∷ r.0, ap (λ (t : List Entry). e ∷ t) r.1)

-- levels
abbrev pub CountCase : Entry → List Entry → Type 0
CountCase e trail =
    ((e.decided ≡ true) × (length (decisions (e ∷ trail)) ≡ suc (length (decisions trail))))
    ⊎ ((e.decided ≡ false) × (length (decisions (e ∷ trail)) ≡ length (decisions trail)))

pub decided_count : (e : Entry) (trail : List Entry)
    → CountCase e trail
unfolding decisions
decided_count e trail = go e.decided refl
  where
    go : (b : Bool) → e.decided ≡ b
        → ((e.decided ≡ true) × (length (cond b (e.literal ∷ decisions trail) (decisions trail)) ≡ suc (length (decisions trail))))
        ⊎ ((e.decided ≡ false) × (length (cond b (e.literal ∷ decisions trail) (decisions trail)) ≡ length (decisions trail)))
    go true q = inl (q, refl)
    go false q = inr (q, refl)

abbrev pub LevelCase : Entry → List Entry → ℕ → Type 0
LevelCase e trail l =
    ((e.literal ≡ l) × (level (e ∷ trail) l ≡ length (decisions (e ∷ trail)))) ⊎
    ((e.literal ≡ l → ⊥) × (level (e ∷ trail) l ≡ level trail l))

pub level_cases : (e : Entry) (trail : List Entry) (l : ℕ)
    → LevelCase e trail l
unfolding level
level_cases e trail l =
    ⊎_elim (λ q. inl (q, rw (eq-eqb e.literal l q))) (λ n. inr (n, rw (ne_eqb e.literal l n))) (alike e.literal l)

pub level_within : (trail : List Entry) (l : ℕ) → level trail l ≤ length (decisions trail)
unfolding level
level_within [] l = omega arith
level_within (e ∷ trail) l = go (decided_count e trail) (level_cases e trail l) (level_within trail l)
  where
    go : CountCase e trail
        → LevelCase e trail l
        → level trail l ≤ length (decisions trail)
        → level (e ∷ trail) l ≤ length (decisions (e ∷ trail))
    go p (inl q) rest = omega arith
    go (inl p) (inr q) rest = omega arith
    go (inr p) (inr q) rest = omega arith

pub suffix_level : {old trail : List Entry} → Suffix old trail → (l : ℕ) → place trail l ≤ length old → level old l ≡ level trail l
suffix_level whole l h = refl
suffix_level {old} (newer e {trail} s) l h = go (place_cases e trail l) (level_cases e trail l) (suffix_length s) (suffix_level s l)
  where
    go : PlaceCase e trail l
        → LevelCase e trail l
        → length old ≤ length trail
        → (place trail l ≤ length old → level old l ≡ level trail l)
        → level old l ≡ level (e ∷ trail) l
    go (inl p) q shorter rest = absurd (omega arith)
    go (inr p) (inl q) shorter rest = absurd (p.0 q.0)
    go (inr p) (inr q) shorter rest = rest (omega arith) ∙ sym q.1

-- what is true on the older part is at the same level on the whole trail
pub suffix_level_on : {old trail : List Entry} → Suffix old trail → (l : ℕ) → distinct (variables_on trail) ≡ true → is_true old l ≡ true
    → level trail l ≡ level old l
suffix_level_on {old} s l once t =
    let here = suffix_on s l once (true_place old l t) in
    sym (suffix_level s l (omega (arith, place_within old l)))

-- the trail without its top level
abbrev pub LoweredCase : Entry → List Entry → Type 0
LoweredCase e trail = ((e.decided ≡ true) × (lowered (e ∷ trail) ≡ trail)) ⊎ ((e.decided ≡ false) × (lowered (e ∷ trail) ≡ lowered trail))

pub lowered_cases : (e : Entry) (trail : List Entry)
    → LoweredCase e trail
unfolding lowered
lowered_cases e trail = go e.decided refl
  where
    go : (b : Bool) → e.decided ≡ b
        → ((e.decided ≡ true) × (cond b trail (lowered trail) ≡ trail)) ⊎ ((e.decided ≡ false) × (cond b trail (lowered trail) ≡ lowered trail))
    go true q = inl (q, refl)
    go false q = inr (q, refl)

pub lowered_suffix : (trail : List Entry) → Suffix (lowered trail) trail
unfolding lowered
lowered_suffix [] = whole
lowered_suffix (e ∷ trail) =
    go e.decided (lowered_suffix trail)
  where
    go : (b : Bool) → Suffix (lowered trail) trail → Suffix (cond b trail (lowered trail)) (e ∷ trail)
    go true rest = newer e whole
    go false rest = newer e rest

pub lowered_decisions : (trail : List Entry) → decisions (lowered trail) ≡ drop 1 (decisions trail)
unfolding lowered decisions
lowered_decisions [] = refl
lowered_decisions (e ∷ trail) = go e.decided (lowered_decisions trail)
  where
    go : (b : Bool) → decisions (lowered trail) ≡ drop 1 (decisions trail)
        → decisions (cond b trail (lowered trail)) ≡ drop 1 (cond b (e.literal ∷ decisions trail) (decisions trail))
    go true rest = refl
    go false rest = rest

pub lowered_count : (trail : List Entry) → length (decisions (lowered trail)) ≡ length (decisions trail) - 1
lowered_count trail = rw (lowered_decisions trail, length-drop)

-- what lies above the lowered trail is at the top level, what lies on it is below
pub top_level : (trail : List Entry) (l : ℕ) → length (lowered trail) < place trail l → level trail l ≡ length (decisions trail)
unfolding place level lowered decisions
top_level [] l h = absurd (omega arith)
top_level (e ∷ trail) l h =
    go (place_cases e trail l) (level_cases e trail l) (decided_count e trail) (lowered_cases e trail) (place_within trail l)
    (top_level trail l)
  where
    go : PlaceCase e trail l
        → LevelCase e trail l
        → CountCase e trail
        → LoweredCase e trail
        → place trail l ≤ length trail
        → (length (lowered trail) < place trail l → level trail l ≡ length (decisions trail))
        → level (e ∷ trail) l ≡ length (decisions (e ∷ trail))
    go p (inl q) d w within rest = q.1
    go (inl p) (inr q) d w within rest = absurd (q.0 p.0)
    go (inr p) (inr q) d (inl w) within rest =
        absurd (let z : length (lowered (e ∷ trail)) ≡ length trail = ap length w.1 in omega arith)
    go (inr p) (inr q) (inl d) (inr w) within rest = absurd (never d.0 w.0)
    go (inr p) (inr q) (inr d) (inr w) within rest =
        let z : length (lowered (e ∷ trail)) ≡ length (lowered trail) = ap length w.1 in
        q.1 ∙ rest (omega arith) ∙ sym d.1

pub lower_level : (trail : List Entry) (l : ℕ) → 0 < length (decisions trail) → place trail l ≤ length (lowered trail)
    → level trail l < length (decisions trail)
lower_level trail l h p =
    let same : level (lowered trail) l ≡ level trail l = suffix_level (lowered_suffix trail) l p in
    omega (arith, level_within (lowered trail) l, lowered_count trail)

pub below_top : (trail : List Entry) (l : ℕ) → level trail l < length (decisions trail) → place trail l ≤ length (lowered trail)
below_top trail l h = go (below (length (lowered trail)) (place trail l))
  where
    go : (length (lowered trail) < place trail l) ⊎ (place trail l ≤ length (lowered trail)) → place trail l ≤ length (lowered trail)
    go (inl e) = absurd (let z = top_level trail l e in omega arith)
    go (inr e) = e

-- no decision: nothing is left
pub undecided_lowered : (trail : List Entry) → length (decisions trail) ≡ 0 → length (lowered trail) ≡ 0
unfolding lowered
undecided_lowered [] h = refl
undecided_lowered (e ∷ trail) h = go (decided_count e trail) (lowered_cases e trail) (undecided_lowered trail)
  where
    go : CountCase e trail
        → LoweredCase e trail
        → (length (decisions trail) ≡ 0 → length (lowered trail) ≡ 0)
        → length (lowered (e ∷ trail)) ≡ 0
    go (inl d) w rest = absurd (omega arith)
    go (inr d) (inl w) rest = absurd (never w.0 d.0)
    go (inr d) (inr w) rest = ap length w.1 ∙ rest (omega arith)

-- the trail without its last k levels
pub cut_suffix : (k : ℕ) (trail : List Entry) → Suffix (cut k trail) trail
unfolding cut
cut_suffix zero trail = whole
cut_suffix (suc k) trail = suffix_compose (cut_suffix k (lowered trail)) (lowered_suffix trail)

pub cut_decisions : (k : ℕ) (trail : List Entry) → decisions (cut k trail) ≡ drop k (decisions trail)
unfolding cut
cut_decisions zero trail = refl
cut_decisions (suc k) trail =
    let one_more_lem : 1 + k ≡ suc k = omega arith in
    cut_decisions k (lowered trail)
    ∙ ap (drop k) (lowered_decisions trail)
    ∙ drop-drop k 1 (decisions trail)
    ∙ ap (λ (n : ℕ). drop n (decisions trail)) one_more_lem

-- what is at no higher level than those that are left lies on what is left
cut_place : (k : ℕ) (trail : List Entry) (l : ℕ) → k ≤ length (decisions trail) → level trail l ≤ length (decisions trail) - k
    → place trail l ≤ length (cut k trail)
unfolding cut
cut_place zero trail l few low = place_within trail l
cut_place (suc k) trail l few low =
    let under = below_top trail l (omega arith) in
    let here = suffix_place (lowered_suffix trail) l under in
    let same = suffix_level (lowered_suffix trail) l under in
    let rest = cut_place k (lowered trail) l (omega (arith, lowered_count trail)) (omega (arith, lowered_count trail)) in
    omega arith

-- so it stays true there, at its level; and what is true there is at no higher level
pub true_below_cut : (k : ℕ) (trail : List Entry) (l : ℕ) → k ≤ length (decisions trail) → level trail l ≤ length (decisions trail) - k
    → is_true trail l ≡ true → (is_true (cut k trail) l ≡ true) × (level (cut k trail) l ≡ level trail l)
true_below_cut k trail l few low t =
    let under = cut_place k trail l few low in
    let here = suffix_place (cut_suffix k trail) l under in
    (place_true (cut k trail) l (omega (arith, true_place trail l t)), suffix_level (cut_suffix k trail) l under)

pub level_on_cut : (k : ℕ) (trail : List Entry) (l : ℕ) → distinct (variables_on trail) ≡ true → is_true (cut k trail) l ≡ true
    → level trail l ≤ length (decisions trail) - k
level_on_cut k trail l once t =
    let same = suffix_level_on (cut_suffix k trail) l once t in
    let left : length (decisions (cut k trail)) ≡ length (decisions trail) - k = ap length (cut_decisions k trail) ∙ length-drop k (decisions trail) in
    omega (arith, level_within (cut k trail) l)

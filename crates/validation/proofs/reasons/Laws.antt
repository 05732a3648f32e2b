-- Reasons: a clause that implies the literal at a place of the trail, and marks at the places that clauses imply.
use Prim.Native.Nat.{ℕ, zero, suc, ◌+◌, ◌≤◌, ◌<◌}
use native.Mathlib.Omega.{arith}
use mathlib.Core.Bool.{Bool, true, false}
use mathlib.Core.List.{List}
use mathlib.Core.Logic.{⊎_elim}
use mathlib.Core.Path.{◌≡◌, refl, sym, ap, ◌∙◌}
use borrow.Author.Count.{below_more}
use borrow.Author.Tests.{eqb-true, eqb-false, eq-eqb, not-false}
use Rattle.std.specs.Prelude.{Option, Some, None, MatchOption, is_some}
use Rattle.std.specs.Option.{option_eq}
use Rattle.std.specs.Bool.{then_some}
use lib.Dec.{eqb, ltb}
use lib.ListN.{length, get_or, set, replicate, length-set, length-replicate}
use lib.Seq.{get_or-set_same, get_or-set_other}
use Rattle.base.specs.Lists.{member, distinct}
use Rattle.base.proofs.Bools.{alike, below, never}
use Rattle.base.proofs.Members.{member_at, position}
use Rattle.base.proofs.Lists.{get_or_alike}
use Rattle.book.specs.Formula.{Formula}
use Rattle.book.specs.Numbers.{variables_of, clauses_of, clause_at, formula_of}
use Rattle.book.proofs.PartLaws.{clauses_counted, clause_of_formula}
use Rattle.run.specs.Trail.{Entry, opposite, place, is_false, variables_on}
use Rattle.run.specs.Run.{clause_of}
use Rattle.run.specs.Valid.{Reason, Justified}
use Rattle.run.proofs.Trails.{place_new, place_within, place_injective, consistent, true_place, place_true}
use Rattle.run.proofs.Levels.{Suffix, whole, newer, suffix_place, suffix_on}
use Rattle.run.proofs.Clauses.{clause_exists}
use Rattle.layout.specs.Layout.{length_at, trail_at, levels_at, level_before, held_trail, held}
use Rattle.validation.specs.Inner.Says.{Says}
use Rattle.validation.specs.Inner.Conflict.{AllFalse}
use Rattle.validation.specs.Inner.Places.{TrailPassed, PlaceOf, trail_of}
use Rattle.validation.specs.Inner.Reasons.{Before, Implies, TrueAt, ImpliesOnly, ImpliesNone, ImpliedPlace, place_marks, ImpliedAt, ImpliedMarked}
use Rattle.base.proofs.Occurrences.{at_members}
use Rattle.validation.proofs.SaysLaws.{says_false, says_below, says_alike}
use Rattle.validation.proofs.trail.Laws.{held_length}

module _ (trail : List Entry) (clause : List ℕ) where
  pub true_found : (i h : ℕ) → i < length clause → PlaceOf trail (get_or clause i 0) (Some h) → TrueAt trail clause h
  true_found i h less p =
      record { literal = get_or clause i 0; holds = member_at clause i less; on = p.0; there = p.1 }

  -- a clause with a literal that is neither true nor false implies nothing, and no more does one without a true literal
  pub true_open : (i : ℕ) → i < length clause → place trail (get_or clause i 0) ≡ 0 → place trail (opposite (get_or clause i 0)) ≡ 0
      → ImpliesNone trail clause
  true_open i less off unset h x =
      let on = x.on in
      let before = x.others (get_or clause i 0) (member_at clause i less) (λ e. absurd (omega arith)) in
      omega arith

  pub true_none : ((i : ℕ) → i < length clause → place trail (get_or clause i 0) ≡ 0) → ImpliesNone trail clause
  true_none none h x =
      let off = at_members clause (λ m. place trail m ≡ 0) none x.literal x.holds in
      let there = x.there in
      let on = x.on in
      omega arith

  module _ (once : distinct (variables_on trail) ≡ true) (r : ℕ) (found : TrueAt trail clause r) where
    -- the only place that a clause can imply is that of a true literal
    implied-only : (h : ℕ) → Implies trail clause h → h ≡ r
    implied-only h p = ⊎_elim (λ e. sym e ∙ found.there) (λ n. absurd (other n)) (alike (place trail found.literal) h)
      where
        other : (place trail found.literal ≡ h → ⊥) → ⊥
        other n =
            let before = p.others found.literal found.holds n in
            let at = found.there in
            let on = found.on in
            let none = consistent trail found.literal once (omega arith) in
            omega arith

    pub implied_answered : (all : Bool) → Says all ((m : ℕ) → member m clause ≡ true → Before trail r m)
        → ImpliedPlace trail clause (then_some all r)
    implied_answered true s =
        record {
          implied = record {
            literal = found.literal;
            holds = found.holds;
            on = found.on;
            there = found.there;
            others = s.yes refl;
          };
          only = implied-only;
        }
    implied_answered false s = λ h p. s.no refl (λ m on. rw (implied-only h p) at (p.others m on))

-- a literal stands at a place or is false before it, by the places of it and of its opposite
module _ (trail : List Entry) (m h : ℕ) where
  pub before_at : (p : Option ℕ) → PlaceOf trail m p → option_eq eqb p (Some h) ≡ true → Before trail h m
  before_at None there e n = absurd (never e refl)
  before_at (Some k) there e n = absurd (n (there.1 ∙ eqb-true k h e))

  other_place : 0 < h → (p : Option ℕ) → PlaceOf trail m p → option_eq eqb p (Some h) ≡ false → place trail m ≡ h → ⊥
  other_place on None there e at = omega arith
  other_place on (Some k) there e at = eqb-false k h e (sym there.1 ∙ at)

  pub before_answered : 0 < h → (p q : Option ℕ) → PlaceOf trail m p → option_eq eqb p (Some h) ≡ false → PlaceOf trail (opposite m) q
      → (r : Bool) → MatchOption q (r ≡ false) (λ f. r ≡ ltb f h) → Says r (Before trail h m)
  before_answered on p None here e there r is = rw is (says_false (λ b. omega (arith, b (other_place on p here e))))
  before_answered on p (Some f) here e there r is =
      rw is (says_below f h (λ less n. (omega arith, omega arith)) (λ most b. omega (arith, b (other_place on p here e))))

-- a literal is false exactly where its opposite has a place
module _ (trail : List Entry) (m : ℕ) where
  pub false_there : (q : Option ℕ) → PlaceOf trail (opposite m) q → is_some q ≡ true → is_false trail m ≡ true
  false_there None there e = absurd (never e refl)
  false_there (Some q) there e = place_true trail (opposite m) (omega arith)

  pub false_not : (q : Option ℕ) → PlaceOf trail (opposite m) q → is_some q ≡ false → is_false trail m ≡ true → ⊥
  false_not None there e f = omega (arith, true_place trail (opposite m) f)
  false_not (Some q) there e f = never refl e

-- just the places that the first n clauses imply are marked
pub record Marking (trail : List Entry) (book : List ℕ) (marks : List Bool) (n : ℕ) : Type 0 where
  pub long : length marks ≡ place_marks
  pub sound : (h : ℕ) → get_or marks h false ≡ true → (c : ℕ) × (c < n) × Implies trail (clause_at book c) h
  pub complete : (h c : ℕ) → c < n → Implies trail (clause_at book c) h → get_or marks h false ≡ true

pub marking_none : (trail : List Entry) (book : List ℕ) → Marking trail book (replicate place_marks false) 0
marking_none trail book =
    record {
      long = length-replicate {A = Bool} place_marks false;
      sound = λ h e. absurd (never e (get_or_alike {A = Bool} place_marks h false));
      complete = λ h c less. absurd (omega arith);
    }

module _ (trail : List Entry) (book : List ℕ) (marks : List Bool) (n : ℕ) (m : Marking trail book marks n) where
  earlier : (h : ℕ) → get_or marks h false ≡ true → (c : ℕ) × (c < n + 1) × Implies trail (clause_at book c) h
  earlier h e = let k = m.sound h e in (k.0, omega arith, k.2)

  pub marking_same : ImpliesNone trail (clause_at book n) → Marking trail book marks (n + 1)
  marking_same none =
      record {
        long = m.long;
        sound = earlier;
        complete = λ h.
            below_more (λ (c : ℕ). Implies trail (clause_at book c) h → get_or marks h false ≡ true) n (λ c less i. m.complete h c less i)
            (λ i. absurd (none h i));
      }

  pub marking_more : (r : ℕ) → r < place_marks → ImpliesOnly trail (clause_at book n) r → Marking trail book (set marks r true) (n + 1)
  marking_more r small p =
      record {
        long = length-set marks r true ∙ m.long;
        sound = λ h e. ⊎_elim (λ s. new h s) (λ d. earlier h (sym (get_or-set_other marks r h true false d) ∙ e)) (alike h r);
        complete = λ h c less i. ⊎_elim (λ s. here h s) (λ d. get_or-set_other marks r h true false d ∙ before h d c less i) (alike h r);
      }
    where
      inside : r < length marks
      inside = omega (arith, m.long)

      new : (h : ℕ) → h ≡ r → (c : ℕ) × (c < n + 1) × Implies trail (clause_at book c) h
      new h s = (n, omega arith, rw s p.implied)

      here : (h : ℕ) → h ≡ r → get_or (set marks r true) h false ≡ true
      here h s = rw s (get_or-set_same marks r true false inside)

      before : (h : ℕ) → (h ≡ r → ⊥) → (c : ℕ) → c < n + 1 → Implies trail (clause_at book c) h → get_or marks h false ≡ true
      before h d =
          below_more (λ (c : ℕ). Implies trail (clause_at book c) h → get_or marks h false ≡ true) n (λ c less i. m.complete h c less i)
          (λ i. absurd (d (p.only h i)))

-- the trail that numbers hold, place by place
held_suffix : (v : ℕ) (numbers : List ℕ) (i n : ℕ) → i ≤ n → Suffix (held_trail v numbers i) (held_trail v numbers n)
unfolding held_trail
held_suffix v numbers i zero h = let e : i ≡ 0 = omega arith in rw e whole
held_suffix v numbers i (suc n) h =
    ⊎_elim (λ less. newer _ (held_suffix v numbers i n (omega arith))) (λ all. let e : i ≡ suc n = omega arith in rw e whole) (below i (suc n))

justified_from : (formula : Formula) (v : ℕ) (numbers : List ℕ) (n : ℕ)
    → ((i : ℕ) → i < n → ImpliedAt v numbers i → Reason formula (held_trail v numbers i) (get_or numbers (trail_at + i) 0))
    → Justified formula (held_trail v numbers n)
unfolding held_trail
justified_from formula v numbers zero h = tt
justified_from formula v numbers (suc n) h = (
  λ e. h n (omega arith) (eqb-true _ _ (not-false _ e)),
  justified_from formula v numbers n (λ i less. h i (omega arith)),
)

justified_at : (formula : Formula) (v : ℕ) (numbers : List ℕ) (n : ℕ) → Justified formula (held_trail v numbers n)
    → (i : ℕ) → i < n → ImpliedAt v numbers i → Reason formula (held_trail v numbers i) (get_or numbers (trail_at + i) 0)
unfolding held_trail
justified_at formula v numbers zero j i less e = absurd (omega arith)
justified_at formula v numbers (suc n) j i less e =
    ⊎_elim
    (λ low. justified_at formula v numbers n j.1 i low e)
    (λ high.
    let same : n ≡ i = omega arith in
    rw same at (j.0 (rw (eq-eqb (get_or numbers (levels_at v + n) 0) (level_before v numbers n) (rw (← same) at e)))))
    (below i n)

-- a reason at place i of the held trail is a clause that implies the place
module _ (book numbers : List ℕ) (x : TrailPassed book numbers) (i : ℕ) (less : i < get_or numbers length_at 0) where
  abbrev v : ℕ
  v = variables_of book

  abbrev trail : List Entry
  trail = trail_of v numbers

  abbrev old : List Entry
  old = held_trail v numbers i

  abbrev l : ℕ
  l = get_or numbers (trail_at + i) 0

  suffix : Suffix old trail
  suffix = held_suffix v numbers i (get_or numbers length_at 0) (omega arith)

  place_l : place trail l ≡ suc i
  unfolding held_trail
  place_l =
      let at : place (held_trail v numbers (suc i)) l ≡ suc (length old) = place_new _ old in
      let len = held_length v numbers i in
      suffix_on (held_suffix v numbers (suc i) (get_or numbers length_at 0) less) l x.good.once (omega arith) ∙ (at ∙ ap suc len)

  reason_implies : Reason (formula_of book) old l → (c : ℕ) × (c < clauses_of book) × Implies trail (clause_at book c) (suc i)
  reason_implies r =
      let where-l = position l (clause_of (formula_of book) r.clause) r.holds in
      let exists : r.clause < clauses_of book =
      rw (clauses_counted book) at (clause_exists (formula_of book) r.clause (omega arith)) in
      let same : clause_of (formula_of book) r.clause ≡ clause_at book r.clause = clause_of_formula book r.clause exists in (
        r.clause,
        exists,
        record {
          literal = l;
          holds = rw same at r.holds;
          on = omega arith;
          there = place_l;
          others = λ m on n. others m (r.others m (rw same on) (λ e. n (ap (place trail) e ∙ place_l)));
        },
      )
    where
      others : (m : ℕ) → is_false old m ≡ true → (0 < place trail (opposite m)) × (place trail (opposite m) < suc i)
      others m f =
          let on = true_place old (opposite m) f in
          let same : place trail (opposite m) ≡ place old (opposite m) = suffix_on suffix (opposite m) x.good.once on in
          let within = place_within old (opposite m) in
          let len = held_length v numbers i in
          (omega arith, omega arith)

  implies_reason : (c : ℕ) → c < clauses_of book → Implies trail (clause_at book c) (suc i) → Reason (formula_of book) old l
  implies_reason c exists p =
      record { clause = c; holds = rw same (rw is-l at p.holds); others = λ m on n. others m (rw same at on) n }
    where
      same : clause_of (formula_of book) c ≡ clause_at book c
      same = clause_of_formula book c exists

      is-l : p.literal ≡ l
      is-l = place_injective trail p.literal l (omega (arith, p.there)) (p.there ∙ sym place_l)

      others : (m : ℕ) → member m (clause_at book c) ≡ true → (m ≡ l → ⊥) → is_false old m ≡ true
      others m on n =
          let k = p.others m on (λ e. n (place_injective trail m l (omega arith) (e ∙ sym place_l))) in
          let len = held_length v numbers i in
          let there : place old (opposite m) ≡ place trail (opposite m) = suffix_place suffix (opposite m) (omega arith) in
          place_true old (opposite m) (omega arith)

-- with the places of all clauses marked, the trail is justified exactly if its implied literals are marked
module _ (book numbers : List ℕ) (marks : List Bool) (x : TrailPassed book numbers)
    (m : Marking (trail_of (variables_of book) numbers) book marks (clauses_of book))
  where
    marked-justified : ImpliedMarked (variables_of book) numbers marks
        → Justified (formula_of book) (held (formula_of book) numbers).trail
    unfolding held
    marked-justified all =
        justified_from (formula_of book) (variables_of book) numbers (get_or numbers length_at 0)
        (λ i less e.
        let k = m.sound (suc i) (all i less e) in
        implies_reason book numbers x i less k.0 k.1 k.2)

    justified-marked : Justified (formula_of book) (held (formula_of book) numbers).trail
        → ImpliedMarked (variables_of book) numbers marks
    unfolding held
    justified-marked j i less e =
        let k = reason_implies book numbers x i less (justified_at (formula_of book) (variables_of book) numbers (get_or numbers length_at 0) j i less e) in
        m.complete (suc i) k.0 k.1 k.2

    pub justified_answered : (r : Bool) → Says r (ImpliedMarked (variables_of book) numbers marks)
        → Says r (Justified (formula_of book) (held (formula_of book) numbers).trail)
    justified_answered r said = says_alike marked-justified justified-marked said

-- whether clause c of the book has a literal, and all are false
module _ (book numbers : List ℕ) (c : ℕ) (less : c < clauses_of book) where
  same : clause_of (formula_of book) c ≡ clause_at book c
  same = clause_of_formula book c less

  pub none_at : length (clause_at book c) ≡ 0 → Says false (AllFalse (formula_of book) numbers c)
  none_at none = says_false (λ all. omega (arith, all.0, ap length same))

  pub false_at : 0 < length (clause_at book c) → (answer : Bool)
      → Says answer ((m : ℕ) → member m (clause_at book c) ≡ true → is_false (trail_of (variables_of book) numbers) m ≡ true)
      → Says answer (AllFalse (formula_of book) numbers c)
  unfolding held
  false_at some answer said =
      says_alike
      (λ all. (omega (arith, ap length same), λ m on. all m (rw same at on)))
      (λ all m on. all.1 m (rw same on))
      said

-- Numbers whose trail passed: the trail may be read, the places of its literals, and the clauses of their book are sound.
use Prim.Native.Nat.{ℕ, ◌+◌, ◌*◌, ◌/◌, ◌%◌, ◌≤◌, ◌<◌}
use native.Mathlib.Omega.{arith}
use mathlib.Core.Bool.{Bool, true, false, not}
use mathlib.Core.List.{List}
use mathlib.Core.Logic.{inl, inr, ⊎_elim}
use mathlib.Core.Path.{◌≡◌, refl, sym, ◌∙◌}
use borrow.Author.Tests.{le-leb, eqb-true, eqb-false, eq-eqb}
use lib.Dec.{eqb}
use lib.ListN.{length, get_or}
use denote.Param.Members.{Mut}
use Rattle.std.specs.Prelude.{Option, HoldsAt}
use Rattle.std.specs.Bool.{MatchBool, then_some}
use Rattle.std.specs.Fn.{Called}
use Rattle.std.specs.Iterator.{ChecksAll}
use Rattle.std.specs.List.{AllWithin}
use Rattle.std.proofs.lemmas.Iterator.{YieldsList, cases_from_all}
use Rattle.base.specs.Lists.{member}
use Rattle.base.proofs.Members.{member_at}
use Rattle.base.proofs.Occurrences.{at_members}
use Rattle.base.proofs.Bools.{alike, both, true_or_false}
use Rattle.base.proofs.Lists.{all_at}
use Rattle.book.specs.Formula.{literal_within, sound_clause}
use Rattle.book.specs.Numbers.{variables_of, clauses_of, clause_at}
use Rattle.book.proofs.SoundLaws.{clause_parts, literal_parts}
use Rattle.book.proofs.WellFormedLaws.{well_formed_clause}
use Rattle.run.specs.Trail.{opposite, place}
use Rattle.run.proofs.Opposites.{opposite_cases, OppositeCase}
use Rattle.run.proofs.Trails.{place_within}
use Rattle.layout.specs.Layout.{Fits, value_slot}
use Rattle.layout.proofs.FitsLaws.{session_trail_fits}
use Rattle.layout.proofs.TrailLaws.{place_read, place_read_none}
use Rattle.validation.specs.Inner.Says.{Says}
use Rattle.validation.specs.Inner.Places.{Readable, TrailPassed, PlaceOf, trail_of}
use Rattle.validation.proofs.SaysLaws.{says_true, says_false}

-- the opposite of a literal of the V variables is one too
pub opposite_within : (v l : ℕ) → literal_within v l ≡ true → literal_within v (opposite l) ≡ true
unfolding literal_within
opposite_within v l w = go (opposite_cases l)
  where
    bounds : (2 ≤ l) × (l ≤ 2 * v + 1)
    bounds = literal_parts v l w

    go : OppositeCase l → literal_within v (opposite l) ≡ true
    go (inl p) = both (le-leb 2 (opposite l) (omega (arith, bounds))) (le-leb (opposite l) (2 * v + 1) (omega (arith, bounds)))
    go (inr p) = both (le-leb 2 (opposite l) (omega (arith, bounds))) (le-leb (opposite l) (2 * v + 1) (omega (arith, bounds)))

-- each literal of a sound clause is one of the V variables
pub sound_within : (v : ℕ) (clause : List ℕ) → sound_clause v clause ≡ true → (i : ℕ) → i < length clause
    → literal_within v (get_or clause i 0) ≡ true
sound_within v clause s = all_at (literal_within v) clause 0 (clause_parts v clause s).within

pub literal_within_at : (v : ℕ) (clause : List ℕ) → sound_clause v clause ≡ true → (m d i : ℕ) → i < length clause → m ≡ get_or clause i d
    → literal_within v m ≡ true
literal_within_at v clause s m d i less e = rw e (all_at (literal_within v) clause d (clause_parts v clause s).within i less)

-- what `all` answers of the numbers of a list
pub says_each : {S A F : Type 0} {steps : S → Option A → S → Type 0} {view : A → ℕ} {g : Mut F (A × Unit {0}) Bool} {s : S} {list : List ℕ}
    (u : S) (f : F) (P : ℕ → Type 0) (r : Bool) → ChecksAll steps g s f r u → YieldsList steps view s list
    → ((x : A) (q : F) → Called g f (x, tt) true q → (q ≡ f) × P (view x))
    → ((x : A) (q : F) → Called g f (x, tt) false q → P (view x) → ⊥) → Says r ((m : ℕ) → member m list ≡ true → P m)
says_each {list = list} u f P r ran items holds fails = go r (cases_from_all u f r P (λ m. P m → ⊥) ran items holds fails)
  where
    go : (b : Bool) → MatchBool b (AllWithin P list 0 (length list)) ((i : ℕ) × (i < length list) × HoldsAt (λ m. P m → ⊥) list i)
        → Says b ((m : ℕ) → member m list ≡ true → P m)
    go true all = says_true (at_members list P (λ i less. all i 0 (omega arith) less))
    go false some = says_false (λ all. some.2 0 (all (get_or list some.0 0) (member_at list some.0 some.1)))

-- the place of a literal, by the entry of its variable
module _ (v : ℕ) (numbers : List ℕ) (r : Readable v numbers) (l : ℕ) (w : literal_within v l ≡ true) where
  abbrev entry : ℕ
  entry = get_or numbers (value_slot v l) 0

  same_sign : entry % 2 ≡ l % 2 → entry / 2 ≡ place (trail_of v numbers) l
  same_sign = place_read v numbers (trail_of v numbers) r.good.is_held r.good.once l (l / 2) refl w

  other_sign : (entry % 2 ≡ l % 2 → ⊥) → 0 ≡ place (trail_of v numbers) l
  other_sign = place_read_none v numbers (trail_of v numbers) r.good.is_held r.good.once l (l / 2) refl w

  pub place_none : entry / 2 ≡ 0 → PlaceOf (trail_of v numbers) l (then_some (not (eqb (entry / 2) 0)) (entry / 2))
  place_none none =
      let e : eqb (entry / 2) 0 ≡ true = eq-eqb _ _ none in
      rw e (⊎_elim (λ same. sym (same_sign same) ∙ none) (λ n. sym (other_sign n)) (alike (entry % 2) (l % 2)))

  pub place_tested : (entry / 2 ≡ 0 → ⊥) → PlaceOf (trail_of v numbers) l (then_some (eqb (entry % 2) (l % 2)) (entry / 2))
  place_tested on =
      ⊎_elim (λ e. rw e (omega arith, sym (same_sign (eqb-true _ _ e)))) (λ e. rw e (sym (other_sign (eqb-false _ _ e))))
      (true_or_false (eqb (entry % 2) (l % 2)))

pub place_small : (v : ℕ) (numbers : List ℕ) (l : ℕ) → Readable v numbers → place (trail_of v numbers) l ≤ v
place_small v numbers l r =
    let within = place_within (trail_of v numbers) l in
    let count = r.good.is_held.count in
    let most = r.good.count_within in
    omega arith

-- numbers of a well-formed book's length may be read, and the book's clauses are sound
module _ (book numbers : List ℕ) (x : TrailPassed book numbers) (v : ℕ) (is : v ≡ variables_of book) where
  pub passed_readable : Readable v numbers
  passed_readable = record { fits = session_trail_fits v is x.enough; good = rw is x.good }

  pub passed_clause : (c : ℕ) → c < clauses_of book → sound_clause v (clause_at book c) ≡ true
  passed_clause c less = rw is (well_formed_clause book x.enough.well c less)

-- what is read of the book, and its room in the session
pub record Room (book numbers : List ℕ) (variables clauses : ℕ) : Type 0 where
  pub variables_are : variables ≡ variables_of book
  pub clauses_are : clauses ≡ clauses_of book
  pub fits : Fits (variables_of book) (clauses_of book) numbers

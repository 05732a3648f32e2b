-- The steps in which a clause is put as read: its literals with marks, each at its first place.
use Prim.Native.Nat.{ℕ, suc, ◌+◌, ◌≤◌, ◌<◌}
use mathlib.Core.Bool.{Bool, true, false, cond}
use mathlib.Core.List.{List, [], ◌∷◌, ◌++◌, map, map-append, append-nil, append_assoc}
use mathlib.Core.Path.{◌≡◌, refl, sym, ap, ◌∙◌}
use native.Mathlib.Omega.{arith}
use native.Mathlib.Numerals.{add-one}
use borrow.Author.Tests.{leb-true}
use lib.Dec.{leb, eqb}
use lib.ListN.{length, get_or, set, take, drop, length-set}
use lib.Seq.{take-suc, take-suc-set, take_all, take-take, take_at, drop_at, length-take-le}
use Rattle.base.specs.Lists.{all, member, distinct, firsts}
use Rattle.base.proofs.Bools.{never, refuted, eqb_sym}
use Rattle.std.specs.List.{list_any}
use Rattle.base.proofs.Lists.{part, part_taken, all_at, length_more}
use Rattle.base.proofs.Members.{member_at, member_front, distinct_more}
use Rattle.base.proofs.Occurrences.{member-map, map-member}
use Rattle.base.proofs.Firsts.{member-firsts, firsts_short, firsts_more}
use Rattle.book.specs.Formula.{variable_of, max_variables, max_book}
use Rattle.book.specs.Reading.{as_read}
use Rattle.book.specs.Inner.Marks.{Bounded, Marked}
use Rattle.book.proofs.AsReadLaws.{both_ways_met, firsts_once, as_read_none, as_read_firsts}
use Rattle.book.proofs.marks.Laws.{marked_test, marked_more, seen_more}

-- what `contains` says of numbers
pub member_any : (x : ℕ) (xs : List ℕ) → list_any (λ (y : ℕ). eqb y x) xs ≡ member x xs
unfolding member
member_any x [] = refl
member_any x (y ∷ ys) = rw (eqb_sym y x, member_any x ys)

-- the clause's literals are within the variables, and there is room for all of them
pub record Room (clause before : List ℕ) (at : ℕ) : Type 0 where
  pub within : all (λ (l : ℕ). leb (variable_of l) max_variables) clause ≡ true
  pub long : length before ≡ max_book
  pub fits : at + length clause ≤ max_book

-- The first i literals are put from `at` up to `end`, each at its first place: no variable stands twice there, and the marks bear the variables seen.
pub record Put (clause before : List ℕ) (at tag : ℕ) (marks out : List ℕ) (end i : ℕ) : Type 0 where
  pub room : Room clause before at
  pub bound : i ≤ length clause
  pub long : length out ≡ max_book
  pub ends : end ≡ at + length (firsts (take i clause))
  pub kept : take end out ≡ take at before ++ firsts (take i clause)
  pub once : distinct (map variable_of (firsts (take i clause))) ≡ true
  pub marked : Marked marks tag (map variable_of (take i clause))

-- what a clause that is put says of the place behind it, of the numbers and of the marks
abbrev pub PutAll : List ℕ → List ℕ → ℕ → ℕ → List ℕ → List ℕ → ℕ → Type 0
PutAll clause before at tag marks out r =
    (r ≡ at + length (as_read clause)) × ((take r out ≡ take at before ++ as_read clause) × ((length out ≡ max_book) × Bounded marks tag))

pub put_none : {clause before : List ℕ} {at tag : ℕ} {marks : List ℕ} → Room clause before at → Marked marks tag []
    → Put clause before at tag marks before at 0
unfolding firsts distinct
put_none {clause} {before} {at} room m =
    record {
      room = room;
      bound = omega arith;
      long = room.long;
      ends = omega arith;
      kept = sym (append-nil (take at before));
      once = refl;
      marked = m;
    }

module _ {clause before : List ℕ} {at tag : ℕ} {marks out : List ℕ} {end i : ℕ} (p : Put clause before at tag marks out end i) where
  put_short : (at ≤ end) × (end ≤ at + i)
  put_short = (omega (arith, p.ends), omega (arith, p.ends, firsts_short (take i clause), length-take-le i clause p.bound))

  -- while literals are left there is room for one more
  pub put_inside : i < length clause → end < max_book
  put_inside h = omega (arith, put_short, p.room.fits)

  front_long : length (take at before) ≡ at
  front_long = length-take-le at before (omega (arith, p.room.long, p.room.fits))

  -- the literals put are those that stand first
  put_part : part at end out ≡ firsts (take i clause)
  put_part = part_taken at end out put_short.0 ∙ ap (drop at) p.kept ∙ drop_at (take at before) (firsts (take i clause)) at front_long

  pub put_all : length clause ≤ i → PutAll clause before at tag marks out end
  put_all h =
      let whole : take i clause ≡ clause = take_all i clause h in
      let read : as_read clause ≡ firsts (take i clause)
      = as_read_firsts clause (firsts_once clause (rw whole at p.once)) ∙ ap firsts (sym whole) in
      (rw read p.ends, (rw read p.kept, (p.long, p.marked.bounded)))

  -- the next literal and its variable
  module _ (variable : ℕ) (h : i < length clause) (of : variable ≡ variable_of (get_or clause i 0)) where
    abbrev l : ℕ
    l = get_or clause i 0

    pub variable_small : variable ≤ max_variables
    variable_small =
        rw of (leb-true _ _ (all_at (λ (x : ℕ). leb (variable_of x) max_variables) clause 0 p.room.within i h))

    seen : eqb (get_or marks variable 0) tag ≡ member variable (map variable_of (take i clause))
    seen = marked_test marks tag (map variable_of (take i clause)) variable (omega (arith, variable_small)) p.marked

    marked_next : Marked (set marks variable tag) tag (map variable_of (take (suc i) clause))
    marked_next =
        rw (seen_more clause i l h refl, ← of)
        (marked_more marks tag (map variable_of (take i clause)) variable (omega (arith, variable_small)) p.marked)

    more : firsts (take (suc i) clause) ≡ firsts (take i clause) ++ cond (member l (take i clause)) [] (l ∷ [])
    more = rw (take-suc clause i 0 h) (firsts_more (take i clause) l)

    stands : (b : Bool) → member l (part at end out) ≡ b → member l (take i clause) ≡ b
    stands b m = sym (member-firsts l (take i clause)) ∙ ap (member l) (sym put_part) ∙ m

    -- a literal that is put already is not put again
    pub put_repeated : member l (part at end out) ≡ true → Put clause before at tag (set marks variable tag) out end (i + 1)
    put_repeated m =
        let same : firsts (take (suc i) clause) ≡ firsts (take i clause)
        = more ∙ rw (stands true m) (append-nil (firsts (take i clause))) in
        rw add-one
        (record {
          room = p.room;
          bound = h;
          long = p.long;
          ends = rw same p.ends;
          kept = rw same p.kept;
          once = rw same p.once;
          marked = marked_next;
        })

    -- another literal of its variable is put: the variable stands both ways
    pub put_both_ways : eqb (get_or marks variable 0) tag ≡ true → member l (part at end out) ≡ false
        → PutAll clause before at tag (set marks variable tag) out at
    put_both_ways bears m =
        let other = map-member variable_of variable (take i clause) (sym seen ∙ bears) in
        let here : member l clause ≡ true = member_at clause i h in
        let there : member other.0 clause ≡ true = member_front other.0 clause i other.1 in
        let apart : l ≡ other.0 → ⊥ = λ e. never other.1 (rw e at (stands false m)) in
        let none : as_read clause ≡ []
        = as_read_none clause (both_ways_met clause l other.0 here there (sym (other.2 ∙ of)) apart) in
        let front : take at out ≡ take at before
        = sym (take-take at end out put_short.0) ∙ ap (take at) p.kept ∙ take_at (take at before) (firsts (take i clause)) at front_long in
        (rw none (omega arith), (rw none (front ∙ sym (append-nil (take at before))), (p.long, marked_next.bounded)))

    -- a literal whose variable does not bear the tag is put
    pub put_new : eqb (get_or marks variable 0) tag ≡ false
        → Put clause before at tag (set marks variable tag) (set out end l) (end + 1) (i + 1)
    put_new fresh =
        let no_variable : member variable (map variable_of (take i clause)) ≡ false = sym seen ∙ fresh in
        let no_literal : member l (take i clause) ≡ false
        = refuted (member l (take i clause)) (λ m. never (rw (← of) at (member-map variable_of l (take i clause) m)) no_variable) in
        let no-first : member variable (map variable_of (firsts (take i clause))) ≡ false
        = refuted (member variable (map variable_of (firsts (take i clause)))) (λ m. never (first-seen m) no_variable) in
        let grown : firsts (take (suc i) clause) ≡ firsts (take i clause) ++ (l ∷ []) = more ∙ rw no_literal in
        let inside : end < length out = omega (arith, put_short, p.long, p.room.fits) in
        rw (add-one end, add-one i)
        (record {
          room = p.room;
          bound = h;
          long = length-set out end l ∙ p.long;
          ends = rw (grown, length_more (firsts (take i clause)) l) (omega (arith, p.ends));
          kept = rw (grown, take-suc-set out end l inside, p.kept) (append_assoc (take at before) (firsts (take i clause)) (l ∷ []));
          once = rw (grown, map-append, distinct_more, p.once, ← of, no-first);
          marked = marked_next;
        })
      where
        first-seen : member variable (map variable_of (firsts (take i clause))) ≡ true → member variable (map variable_of (take i clause)) ≡ true
        first-seen m =
            let k = map-member variable_of variable (firsts (take i clause)) m in
            rw (← k.2) (member-map variable_of k.0 (take i clause) (sym (member-firsts k.0 (take i clause)) ∙ k.1))

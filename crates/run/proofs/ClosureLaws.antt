-- The closure: it is the least set that holds the decisions and is closed under the unit rule, and a valid run holds just it.
use Prim.Native.Nat.{ℕ, zero, suc, ◌≤◌, ◌<◌}
use native.Mathlib.Omega.{arith}
use mathlib.Core.Bool.{Bool, true, false, cond, or-true}
use mathlib.Core.List.{List, [], ◌∷◌}
use mathlib.Core.Logic.{◌⊎◌, inl, inr, ⊎_elim, ◌↔◌}
use mathlib.Core.Path.{◌≡◌, refl, sym, ap, subst, ◌∙◌}
use borrow.Author.Tests.{eqb-true, eq-eqb, leb-true, leb-false}
use lib.Dec.{leb, eqb}
use lib.ListN.{get_or}
use Rattle.base.specs.Lists.{member}
use Rattle.base.proofs.Bools.{alike, true_or_false, never, either}
use Rattle.base.proofs.Members.{position, member_at}
use Rattle.book.specs.Formula.{Formula, sound}
use Rattle.run.specs.Trail.{Entry, opposite, place, is_true, is_false, decisions}
use Rattle.run.specs.Run.{Run, clause_of, size, cell_of, in_conflict}
use Rattle.run.specs.Valid.{Justified, WatchesHold, first_watch, second_watch, Watching, Valid}
use Rattle.run.specs.Closure.{Closure, Closure.decided as in-force, Closure.implied as by-clause, UnitClosed, Contains, BothWays}
use Rattle.run.proofs.Trails.{PlaceCase, true_place, place_true, place_new, place_cases, true_grows, true_unfalse}
use Rattle.run.proofs.Conflicts.{quiet_out, out_quiet}
use Rattle.run.proofs.WatchLists.{literals_differ}

-- the closure is contained in every set that holds the decisions and is closed under the unit rule
pub closure_within : {formula : Formula} {ds : List ℕ} (S : ℕ → Type 0) → Contains ds S → UnitClosed formula S → {l : ℕ}
    → Closure formula ds l → S l
closure_within S holds closed (in-force h) = holds _ h
closure_within S holds closed (by-clause c h others) = closed c _ h (λ m k n. closure_within S holds closed (others m k n))

pub closure_holds : (formula : Formula) (ds : List ℕ) → Contains ds (Closure formula ds)
closure_holds formula ds l h = in-force h

pub closure_closed : (formula : Formula) (ds : List ℕ) → UnitClosed formula (Closure formula ds)
closure_closed formula ds c l h others = by-clause c h others

-- more decisions, more closure
closure_grows : {formula : Formula} {ds : List ℕ} (more : List ℕ) → ((l : ℕ) → member l ds ≡ true → member l more ≡ true) → {l : ℕ}
    → Closure formula ds l → Closure formula more l
closure_grows {formula} {ds} more contained =
    closure_within (Closure formula more) (λ l h. in-force (contained l h)) (closure_closed formula more)

-- a justified trail lies in the closure of its decisions
decisions_grow : (e : Entry) (trail : List Entry) (l : ℕ) → member l (decisions trail) ≡ true → member l (decisions (e ∷ trail)) ≡ true
unfolding decisions member
decisions_grow e trail l h = go e.decided
  where
    go : (b : Bool) → member l (cond b (e.literal ∷ decisions trail) (decisions trail)) ≡ true
    go true = rw (h, or-true)
    go false = h

newest_decision : (e : Entry) (trail : List Entry) → e.decided ≡ true → member e.literal (decisions (e ∷ trail)) ≡ true
unfolding decisions member
newest_decision e trail d = rw (d, eq-eqb e.literal e.literal refl)

nothing_true : (l : ℕ) → is_true [] l ≡ true → ⊥
unfolding is_true place
nothing_true l t = never t refl

pub trail_closure : (formula : Formula) (trail : List Entry) → Justified formula trail → (l : ℕ) → is_true trail l ≡ true
    → Closure formula (decisions trail) l
trail_closure formula [] j l t = absurd (nothing_true l t)
trail_closure formula (e ∷ trail) j l t =
    go (place_cases e trail l)
    (λ m k. closure_grows (decisions (e ∷ trail)) (decisions_grow e trail) (trail_closure formula trail j.1 m k))
  where
    newest : (b : Bool) → e.decided ≡ b → ((m : ℕ) → is_true trail m ≡ true → Closure formula (decisions (e ∷ trail)) m)
        → Closure formula (decisions (e ∷ trail)) e.literal
    newest true d older = in-force (newest_decision e trail d)
    newest false d older = let r = j.0 d in by-clause r.clause r.holds (λ m k n. older (opposite m) (r.others m k n))

    go : PlaceCase e trail l
        → ((m : ℕ) → is_true trail m ≡ true → Closure formula (decisions (e ∷ trail)) m) → Closure formula (decisions (e ∷ trail)) l
    go (inl p) older = subst (Closure formula (decisions (e ∷ trail))) p.0 (newest e.decided refl older)
    go (inr p) older = older l (place_true trail l (rw p.1 at (true_place (e ∷ trail) l t)))

-- the decisions in force are true
pub decisions_true : (trail : List Entry) → Contains (decisions trail) (λ (l : ℕ). is_true trail l ≡ true)
unfolding decisions member
decisions_true [] l h = absurd (never h refl)
decisions_true (e ∷ trail) l h = go e.decided h (λ k. true_grows e trail l (decisions_true trail l k))
  where
    go : (b : Bool) → member l (cond b (e.literal ∷ decisions trail) (decisions trail)) ≡ true
        → (member l (decisions trail) ≡ true → is_true (e ∷ trail) l ≡ true)
        → is_true (e ∷ trail) l ≡ true
    go true k rest =
        ⊎_elim (λ q. rw (eqb-true l e.literal q) (place_true (e ∷ trail) e.literal (omega (arith, place_new e trail)))) rest
        (either (eqb l e.literal) (member l (decisions trail)) k)
    go false k rest = rest k

-- Of a valid run: no literal is true and false,
module _ (formula : Formula) (s : sound formula ≡ true) (run : Run) (v : Valid formula run) where
  not_both : (l : ℕ) → is_true run.trail l ≡ true → is_false run.trail l ≡ true → ⊥
  not_both l t f = never f (true_unfalse run.trail v.trail_distinct l t)

  -- of two watches, one of them false, the other one is true
  other_true : (a b : ℕ) → WatchesHold run.trail a b → is_false run.trail b ≡ true → is_true run.trail a ≡ true
  other_true a b (inl n) f = absurd (never f n.1)
  other_true a b (inr (inl g)) f = absurd (not_both b g.1 f)
  other_true a b (inr (inr g)) f = g.1

  swap_holds : (a b : ℕ) → WatchesHold run.trail a b → WatchesHold run.trail b a
  swap_holds a b (inl n) = inl (n.1, n.0)
  swap_holds a b (inr (inl g)) = inr (inr g)
  swap_holds a b (inr (inr g)) = inr (inl g)

  -- and out of conflict the trail is closed under the unit rule.
  trail_closed : run.conflict ≡ 0 → UnitClosed formula (λ (l : ℕ). is_true run.trail l ≡ true)
  trail_closed quiet c l h others = go (true_or_false (leb 2 (size formula c)))
    where
      one_literal : size formula c < 2 → is_true run.trail l ≡ true
      one_literal small =
          let at = position l (clause_of formula c) h in
          let zeroth : at.0 ≡ 0 = omega arith in
          let single : size formula c ≡ 1 = omega arith in
          rw (sym at.2 ∙ ap (λ (i : ℕ). get_or (clause_of formula c) i 0) zeroth) ((v.fixpoint quiet).units_true c single)

      go : (leb 2 (size formula c) ≡ true) ⊎ (leb 2 (size formula c) ≡ false) → is_true run.trail l ≡ true
      go (inr small) = one_literal (leb-false 2 (size formula c) small)
      go (inl big) = watches (alike a l) (alike b l)
        where
          two : 2 ≤ size formula c
          two = leb-true 2 (size formula c) big

          w : Watching (size formula c) (cell_of run c)
          w = v.watching c two

          a : ℕ
          a = first_watch formula run c

          b : ℕ
          b = second_watch formula run c

          a_in : member a (clause_of formula c) ≡ true
          a_in = member_at (clause_of formula c) _ w.first_within

          b-in : member b (clause_of formula c) ≡ true
          b-in = member_at (clause_of formula c) _ w.second_within

          hold : WatchesHold run.trail a b
          hold = (v.fixpoint quiet).watches c two

          watches : (a ≡ l) ⊎ (a ≡ l → ⊥) → (b ≡ l) ⊎ (b ≡ l → ⊥) → is_true run.trail l ≡ true
          watches p (inl e) =
              let apart : a ≡ l → ⊥
              =
              λ z. literals_differ formula s c (cell_of run c).first (cell_of run c).second w.first_within w.second_within
              w.different (z ∙ sym e) in
              rw e at (other_true b a (swap_holds a b hold) (others a a_in apart))
          watches (inl p) (inr q) = rw p at (other_true a b hold (others b b-in q))
          watches (inr p) (inr q) = absurd (not_both a (other_true a b hold (others b b-in q)) (others a a_in p))

  -- decisions that are all true have their closure true, out of conflict; so where it holds a literal both ways, the run is in conflict
  module _ (ds : List ℕ) (all_true : Contains ds (λ (l : ℕ). is_true run.trail l ≡ true)) where
    pub closure_true : run.conflict ≡ 0 → (l : ℕ) → Closure formula ds l → is_true run.trail l ≡ true
    closure_true quiet l = closure_within (λ (m : ℕ). is_true run.trail m ≡ true) all_true (trail_closed quiet)

    pub both_ways_conflict : BothWays (Closure formula ds) → in_conflict run ≡ true
    both_ways_conflict b = go (true_or_false (in_conflict run))
      where
        go : (in_conflict run ≡ true) ⊎ (in_conflict run ≡ false) → in_conflict run ≡ true
        go (inl e) = e
        go (inr e) =
            let holds = closure_true (out_quiet run e) in
            absurd (not_both b.0 (holds b.0 b.1) (holds (opposite b.0) b.2))

  -- a literal of the closure is on the trail, out of conflict, and the trail is in the closure
  pub assigned_closure : run.conflict ≡ 0 → (l : ℕ) → (is_true run.trail l ≡ true) ↔ Closure formula (decisions run.trail) l
  assigned_closure quiet l = (
    trail_closure formula run.trail v.justified l,
    closure_true (decisions run.trail) (decisions_true run.trail) quiet l,
  )

  pub conflict_both_ways : (in_conflict run ≡ true) ↔ BothWays (Closure formula (decisions run.trail))
  conflict_both_ways = (λ e. forth run.conflict refl e, both_ways_conflict ds (decisions_true run.trail))
    where
      ds : List ℕ
      ds = decisions run.trail

      forth : (name : ℕ) → run.conflict ≡ name → in_conflict run ≡ true → BothWays (Closure formula ds)
      forth zero q e = absurd (never e (quiet_out run q))
      forth (suc c) q e =
          let r = v.conflict_false c q in
          let l : ℕ = get_or (clause_of formula c) 0 0 in
          let holds : member l (clause_of formula c) ≡ true = member_at (clause_of formula c) 0 r.0 in
          let all-false : (m : ℕ) → member m (clause_of formula c) ≡ true → Closure formula ds (opposite m)
          = λ m k. trail_closure formula run.trail v.justified (opposite m) (r.1 m k) in
          (l, by-clause c holds (λ m k n. all-false m k), all-false l holds)

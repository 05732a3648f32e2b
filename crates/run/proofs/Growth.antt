-- What the opening's one-literal clauses and propagation add to the trail: implied literals only, behind those that were there.
use Prim.Native.Nat.{ℕ, ◌<◌}
use native.Mathlib.Omega.{arith}
use mathlib.Core.Bool.{true, false, not}
use mathlib.Core.List.{List, [], ◌∷◌, ◌++◌}
use mathlib.Core.Logic.{⊎_elim, ◌↔◌}
use mathlib.Core.Path.{◌≡◌, refl, ap}
use lib.ListN.{length}
use Rattle.base.specs.Lists.{all, distinct}
use Rattle.base.proofs.Bools.{below}
use Rattle.book.specs.Formula.{Formula}
use Rattle.run.specs.Trail.{Entry, place, is_true, decisions, variables_on, lowered}
use Rattle.run.specs.Run.{Run, clause_of, cell_of, Action, stays, moves, implies, conflicts, other_watch, action, on_trail, with_watches, with_conflict, counted, perform_action, visit, propagate_from, assign_units}
use Rattle.run.proofs.Trails.{place_within, place_true, true_place}
use Rattle.run.proofs.Levels.{Suffix, whole, newer, suffix_place, suffix_on}
use Rattle.run.proofs.Inductions.{propagating_keeps, units_keep}

-- the trail `old` with some implied literals more
pub data Grown (old : List Entry) : List Entry → Type 0 where
  same : Grown old old
  more : (l : ℕ) {trail : List Entry} → Grown old trail → Grown old (record { literal = l; decided = false } ∷ trail)

pub grown_by : {old trail : List Entry} → Grown old trail
    → (new : List Entry) × (all (λ (e : Entry). not e.decided) new ≡ true) × (trail ≡ new ++ old)
unfolding all
grown_by same = ([], refl, refl)
grown_by (more l g) =
    let r = grown_by g in
    (record { literal = l; decided = false } ∷ r.0, r.1, ap (λ (t : List Entry). record { literal = l; decided = false } ∷ t) r.2)

-- implied literals are no decisions, and the trail before them is the older part
pub grown_decisions : {old trail : List Entry} → Grown old trail → decisions trail ≡ decisions old
unfolding decisions
grown_decisions same = refl
grown_decisions (more l g) = grown_decisions g

pub grown_suffix : {old trail : List Entry} → Grown old trail → Suffix old trail
grown_suffix same = whole
grown_suffix (more l g) = newer (record { literal = l; decided = false }) (grown_suffix g)

-- above a decision they are all of its level
pub grown_lowered : {l : ℕ} {old trail : List Entry} → Grown (record { literal = l; decided = true } ∷ old) trail → lowered trail ≡ old
unfolding lowered
grown_lowered same = refl
grown_lowered (more m g) = grown_lowered g

-- the literals behind the places of the trail before are those that were not true there
pub grown_gains : {old trail : List Entry} → Grown old trail → distinct (variables_on trail) ≡ true → (m : ℕ)
    → (length old < place trail m) ↔ ((is_true trail m ≡ true) × (is_true old m ≡ true → ⊥))
grown_gains {old} {trail} g d m = (
  λ h. (
    place_true trail m (omega arith),
    λ t. let p = suffix_on (grown_suffix g) m d (true_place old m t) in absurd (omega (arith, place_within old m)),
  ),
  λ k. ⊎_elim (λ h. h)
      (λ h. absurd (k.1 (place_true old m (let p = suffix_place (grown_suffix g) m h in omega (arith, true_place trail m k.0)))))
      (below (length old) (place trail m)),
)

visit_grows : (formula : Formula) (q c : ℕ) (old : List Entry) (run : Run) → Grown old run.trail
    → Grown old (visit formula q c run).trail
unfolding visit perform_action counted with_watches with_conflict on_trail
visit_grows formula q c old run g = go (action run.trail (clause_of formula c) (cell_of run c) q)
  where
    go : (a : Action) → Grown old (perform_action formula q c a run).trail
    go stays = g
    go (moves position made) = g
    go (implies made) = more (other_watch (clause_of formula c) (cell_of run c) q) g
    go (conflicts made) = g

pub propagating_grows : (fuel : ℕ) (formula : Formula) (handled : ℕ) (old : List Entry) (run : Run) → Grown old run.trail
    → Grown old (propagate_from fuel formula handled run).trail
propagating_grows fuel formula handled old = propagating_keeps formula (λ r. Grown old r.trail) (λ q c r k. visit_grows formula q c old r k) fuel handled

-- the opening's one-literal clauses imply their literals
pub units_grow : (c : ℕ) (clauses : List (List ℕ)) (old : List Entry) (run : Run) → Grown old run.trail
    → Grown old (assign_units c clauses run).trail
unfolding with_conflict on_trail
units_grow c clauses old = units_keep (λ r. Grown old r.trail) (λ l r k. more l k) (λ d r k. k) c clauses

-- The induction principles of reading a list and of propagating, over any pair of predicates: one while it goes on, one where it has ended; and
-- that reading, propagating and the opening's one-literal clauses keep what each of their steps keeps.
use Prim.Native.Nat.{ℕ, zero, suc, ◌+◌, ◌≤◌, ◌<◌}
use native.Mathlib.Omega.{arith}
use mathlib.Core.Bool.{Bool, true, false, cond}
use mathlib.Core.List.{List, [], ◌∷◌}
use mathlib.Core.Logic.{◌⊎◌, inl, inr, ⊎_elim}
use mathlib.Core.Path.{◌≡◌, refl, sym, ◌∙◌}
use borrow.Author.Tests.{ltb-true, ltb-false, le-ltb}
use lib.Dec.{ltb, eqb}
use lib.ListN.{length, get_or}
use Rattle.book.specs.Formula.{Formula}
use Rattle.run.specs.Trail.{opposite, literal_at, is_true, is_false}
use Rattle.run.specs.Run.{Run, on_trail, with_conflict, in_conflict, visit, read_list, propagate_from, assign_unit, assign_units, list_of}

-- Reading the list of q. While it goes on, `goes unread run` holds; a visit that ends in a conflict gives `ends run`.
pub read_induction : (formula : Formula) (q : ℕ) (goes : List ℕ → Run → Type 0) (ends : Run → Type 0)
    → ((c : ℕ) (unread : List ℕ) (run : Run) → goes (c ∷ unread) run → in_conflict (visit formula q c run) ≡ false
    → goes unread (visit formula q c run))
    → ((c : ℕ) (unread : List ℕ) (run : Run) → goes (c ∷ unread) run → in_conflict (visit formula q c run) ≡ true → ends (visit formula q c run))
    → (unread : List ℕ) (run : Run) → goes unread run → goes [] (read_list formula q unread run) ⊎ ends (read_list formula q unread run)
unfolding read_list
read_induction formula q goes ends on off [] run g = inl g
read_induction formula q goes ends on off (c ∷ unread) run g =
    go (in_conflict (visit formula q c run)) refl (λ k. read_induction formula q goes ends on off unread (visit formula q c run) k)
  where
    rest : Run
    rest = read_list formula q unread (visit formula q c run)

    go : (b : Bool) → in_conflict (visit formula q c run) ≡ b
        → (goes unread (visit formula q c run) → goes [] rest ⊎ ends rest)
        → goes [] (cond b (visit formula q c run) rest) ⊎ ends (cond b (visit formula q c run) rest)
    go true e later = inr (off c unread run g e)
    go false e later = later (on c unread run g e)

-- the literal whose list is read when `handled` trail literals are handled
abbrev pub next_read : ℕ → Run → ℕ
next_read handled run = opposite (literal_at run.trail (suc handled))

abbrev pub read_next : Formula → ℕ → Run → Run
read_next formula handled run = read_list formula (next_read handled run) (list_of run.lists (next_read handled run)) run

-- where propagation ends at once: in conflict, and where all is handled
module _ (formula : Formula) where
  pub propagate_stops : (fuel handled : ℕ) (run : Run) → in_conflict run ≡ true → propagate_from fuel formula handled run ≡ run
  unfolding propagate_from
  propagate_stops zero handled run e = refl
  propagate_stops (suc fuel) handled run e = rw e

  pub propagate_done : (fuel handled : ℕ) (run : Run) → in_conflict run ≡ false → length run.trail ≤ handled
      → propagate_from fuel formula handled run ≡ run
  unfolding propagate_from
  propagate_done zero handled run e h = refl
  propagate_done (suc fuel) handled run e h = rw (e, le-ltb handled (length run.trail) h)

-- Propagating. While it goes on, `goes handled run` holds, and no trail is longer than `limit`; a reading gives the next, or ends it. With
-- fuel for the limit it ends with all literals handled, or in a conflict; and any two such fuels give the same.
module _ (formula : Formula) (goes : ℕ → Run → Type 0) (ends : Run → Type 0) (limit : ℕ)
    (quiet : (handled : ℕ) (run : Run) → goes handled run → in_conflict run ≡ false)
    (loud : (run : Run) → ends run → in_conflict run ≡ true)
    (short : (handled : ℕ) (run : Run) → goes handled run → length run.trail ≤ limit)
    (reads : (handled : ℕ) (run : Run) → goes handled run → handled < length run.trail
    → goes (suc handled) (read_next formula handled run) ⊎ ends (read_next formula handled run)) where
  propagate-reads : (fuel handled : ℕ) (run : Run) → in_conflict run ≡ false → ltb handled (length run.trail) ≡ true
      → propagate_from (suc fuel) formula handled run ≡ propagate_from fuel formula (suc handled) (read_next formula handled run)
  unfolding propagate_from
  propagate-reads fuel handled run e h = rw (e, h)

  -- without fuel for more, all is handled
  spent : (fuel more handled : ℕ) (run : Run) → limit < zero + handled → goes handled run ⊎ ends run
      → propagate_from fuel formula handled run ≡ propagate_from more formula handled run
  spent fuel more handled run h (inl g) =
      let s = short handled run g in
      let d : length run.trail ≤ handled = omega arith in
      propagate_done formula fuel handled run (quiet handled run g) d ∙ sym (propagate_done formula more handled run (quiet handled run g) d)
  spent fuel more handled run h (inr e) =
      propagate_stops formula fuel handled run (loud run e) ∙ sym (propagate_stops formula more handled run (loud run e))

  -- what propagating gives
  abbrev pub Finished : Run → Type 0
  Finished run = ((all : ℕ) × goes all run × (length run.trail ≤ all)) ⊎ ends run

  pub propagate_induction : (fuel handled : ℕ) (run : Run) → limit < fuel + handled → goes handled run ⊎ ends run
      → Finished (propagate_from fuel formula handled run)
  propagate_induction zero handled run h state = go state
    where
      go : goes handled run ⊎ ends run → Finished (propagate_from zero formula handled run)
      go (inl g) =
          let k = short handled run g in
          rw (propagate_done formula zero handled run (quiet handled run g) (omega arith)) (inl (handled, g, omega arith))
      go (inr e) = rw (propagate_stops formula zero handled run (loud run e)) (inr e)
  propagate_induction (suc fuel) handled run h state =
      go state (ltb handled (length run.trail)) refl
      (λ k. propagate_induction fuel (suc handled) (read_next formula handled run) (omega arith) k)
    where
      go : goes handled run ⊎ ends run → (b : Bool) → ltb handled (length run.trail) ≡ b
          → (goes (suc handled) (read_next formula handled run) ⊎ ends (read_next formula handled run)
          → Finished (propagate_from fuel formula (suc handled) (read_next formula handled run)))
          → Finished (propagate_from (suc fuel) formula handled run)
      go (inl g) true e later =
          rw (propagate-reads fuel handled run (quiet handled run g) e)
          (later (reads handled run g (ltb-true handled (length run.trail) e)))
      go (inl g) false e later =
          let k : length run.trail ≤ handled = ltb-false handled (length run.trail) e in
          rw (propagate_done formula (suc fuel) handled run (quiet handled run g) k) (inl (handled, g, k))
      go (inr end) b e later = rw (propagate_stops formula (suc fuel) handled run (loud run end)) (inr end)

  pub enough_fuel : (fuel more handled : ℕ) (run : Run) → limit < fuel + handled → limit < more + handled → goes handled run ⊎ ends run
      → propagate_from fuel formula handled run ≡ propagate_from more formula handled run
  enough_fuel zero more handled run h k state = spent zero more handled run h state
  enough_fuel (suc fuel) zero handled run h k state = sym (spent zero (suc fuel) handled run k state)
  enough_fuel (suc fuel) (suc more) handled run h k state =
      go state (ltb handled (length run.trail)) refl
      (λ later. enough_fuel fuel more (suc handled) (read_next formula handled run) (omega arith) (omega arith) later)
    where
      go : goes handled run ⊎ ends run → (b : Bool) → ltb handled (length run.trail) ≡ b
          → (goes (suc handled) (read_next formula handled run) ⊎ ends (read_next formula handled run)
          → propagate_from fuel formula (suc handled) (read_next formula handled run)
          ≡ propagate_from more formula (suc handled) (read_next formula handled run))
          → propagate_from (suc fuel) formula handled run ≡ propagate_from (suc more) formula handled run
      go (inl g) true e later =
          propagate-reads fuel handled run (quiet handled run g) e
          ∙ later (reads handled run g (ltb-true handled (length run.trail) e))
          ∙ sym (propagate-reads more handled run (quiet handled run g) e)
      go (inl g) false e later =
          let d : length run.trail ≤ handled = ltb-false handled (length run.trail) e in
          propagate_done formula (suc fuel) handled run (quiet handled run g) d ∙ sym
          (propagate_done formula (suc more) handled run (quiet handled run g) d)
      go (inr end) b e later =
          propagate_stops formula (suc fuel) handled run (loud run end) ∙ sym (propagate_stops formula (suc more) handled run (loud run end))

-- What every visit of a clause keeps, reading and propagating keep.
module _ (formula : Formula) (K : Run → Type 0) (visits : (q c : ℕ) (run : Run) → K run → K (visit formula q c run)) where
  reading-keeps : (q : ℕ) (unread : List ℕ) (run : Run) → K run → K (read_list formula q unread run)
  reading-keeps q unread run k =
      ⊎_elim (λ kept. kept) (λ kept. kept)
      (read_induction formula q (λ rest r. K r) K (λ c rest r kept e. visits q c r kept) (λ c rest r kept e. visits q c r kept) unread run k)

  pub propagating_keeps : (fuel handled : ℕ) (run : Run) → K run → K (propagate_from fuel formula handled run)
  unfolding propagate_from
  propagating_keeps zero handled run k = k
  propagating_keeps (suc fuel) handled run k =
      go (in_conflict run) (ltb handled (length run.trail))
      (propagating_keeps fuel (suc handled) (read_next formula handled run) (reading-keeps (next_read handled run) _ run k))
    where
      rest : Run
      rest = propagate_from fuel formula (suc handled) (read_next formula handled run)

      go : (b t : Bool) → K rest → K (cond b run (cond t rest run))
      go true t later = k
      go false true later = later
      go false false later = k

-- What an implied literal keeps and a conflict keeps, the opening's one-literal clauses keep.
module _ (K : Run → Type 0) (at_literal : (l : ℕ) (run : Run) → K run → K (on_trail l false run))
    (at-conflict : (c : ℕ) (run : Run) → K run → K (with_conflict (suc c) run)) where
  unit-keeps : (c : ℕ) (clause : List ℕ) (run : Run) → K run → K (assign_unit c clause run)
  unfolding assign_unit
  unit-keeps c clause run k = go (eqb (length clause) 1) (is_true run.trail l) (is_false run.trail l)
    where
      l : ℕ
      l = get_or clause 0 0

      go : (one on off : Bool) → K (cond one (cond on run (cond off (with_conflict (suc c) run) (on_trail l false run))) run)
      go false on off = k
      go true true off = k
      go true false true = at-conflict c run k
      go true false false = at_literal l run k

  pub units_keep : (c : ℕ) (clauses : List (List ℕ)) (run : Run) → K run → K (assign_units c clauses run)
  unfolding assign_units
  units_keep c [] run k = k
  units_keep c (clause ∷ clauses) run k =
      go (in_conflict (assign_unit c clause run)) (units_keep (suc c) clauses (assign_unit c clause run) (unit-keeps c clause run k))
    where
      go : (t : Bool) → K (assign_units (suc c) clauses (assign_unit c clause run))
          → K (cond t (assign_unit c clause run) (assign_units (suc c) clauses (assign_unit c clause run)))
      go true later = unit-keeps c clause run k
      go false later = later

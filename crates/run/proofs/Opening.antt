-- The opening: the first watches and lists, the clauses of one literal, and that propagation begins from there.
use Prim.Native.Nat.{ℕ, zero, suc, ◌+◌, ◌*◌, ◌≤◌, ◌<◌}
use native.Mathlib.Nat.{add-zero, zero-add}
use native.Mathlib.Omega.{arith}
use mathlib.Core.Bool.{Bool, true, false, cond}
use mathlib.Core.List.{List, [], ◌∷◌, map}
use mathlib.Core.Logic.{◌⊎◌, inl, inr, ⊎_elim}
use mathlib.Core.Path.{◌≡◌, refl, sym, ap, ap₂, ◌∙◌}
use borrow.Author.Tests.{eqb-true, eqb-false, eq-eqb, ne_eqb, le-leb, lt-leb, leb-true}
use lib.Dec.{leb, eqb}
use lib.ListN.{length, get_or, replicate, length-map, length-replicate, get_or-map}
use Rattle.base.specs.Lists.{member, distinct, times}
use Rattle.base.proofs.Lists.{get_or_alike}
use Rattle.base.proofs.Bools.{alike, never}
use Rattle.base.proofs.Members.{position, member_at, times-same, times_other}
use Rattle.book.specs.Formula.{Formula, sound}
use Rattle.run.specs.Trail.{Entry, opposite, place, is_true, is_false, decisions}
use Rattle.run.specs.Scan.{Cell}
use Rattle.run.specs.Run.{Run, clause_of, size, no_cell, list_of, push_front, on_trail, with_conflict, in_conflict, first_cell, watch_all, fresh, assign_unit, assign_units, cell_at}
use Rattle.run.specs.Valid.{one, Reason}
use Rattle.run.specs.Progress.{Opened, second_literal, first_literal, Watched, among, Going, Ended}
use Rattle.run.proofs.Trails.{true_place, untrue_place, place_new}
use Rattle.run.proofs.Order.{pushed_first, pushed_elsewhere, pushed_length}
use Rattle.run.proofs.Clauses.{clause_exists, literal_within_lem, literal_listed}
use Rattle.run.proofs.Conflicts.{quiet_out}
use Rattle.run.proofs.Propagation.{old_stays, structure_valid, trailed_push}
use Rattle.run.proofs.Levels.{level_within, undecided_lowered, decided_count}

-- how often clause d stands in the list of l after clause c was put at the front of the list of a
push_times : (lists : List (List ℕ)) (a c l d : ℕ) → a < length lists
    → times d (list_of (push_front lists a c) l) ≡ times d (list_of lists l) + cond (eqb d c) (one (eqb l a)) 0
push_times lists a c l d h = go (eqb l a) refl (eqb d c) refl
  where
    go : (x : Bool) → eqb l a ≡ x → (y : Bool) → eqb d c ≡ y
        → times d (list_of (push_front lists a c) l) ≡ times d (list_of lists l) + cond y (one x) 0
    go true e true f = rw (eqb-true l a e, pushed_first lists a c h, eqb-true d c f, times-same c (list_of lists a)) (omega arith)
    go true e false f = rw (eqb-true l a e, pushed_first lists a c h, times_other d c (list_of lists a) (eqb-false d c f)) (omega arith)
    go false e true f = rw (pushed_elsewhere lists a c l (eqb-false l a e)) (omega arith)
    go false e false f = rw (pushed_elsewhere lists a c l (eqb-false l a e)) (omega arith)

-- how often a clause stands by its first watches
abbrev first_stands : ℕ → List ℕ → ℕ
first_stands l clause = cond (leb 2 (length clause)) (among l (get_or clause 0 0) (get_or clause 1 0)) 0

-- how often clause d stands in the list of l by clauses that are numbered from c
standing_from : ℕ → List (List ℕ) → ℕ → ℕ → ℕ
standing_from c [] l d = 0
standing_from c (clause ∷ clauses) l d = cond (eqb d c) (first_stands l clause) 0 + standing_from (suc c) clauses l d

standing_before : (c : ℕ) (clauses : List (List ℕ)) (l d : ℕ) → d < c → standing_from c clauses l d ≡ 0
unfolding standing_from
standing_before c [] l d h = refl
standing_before c (clause ∷ clauses) l d h = rw (ne_eqb d c (λ e. omega arith), standing_before (suc c) clauses l d (omega arith))

standing_at : (c : ℕ) (clauses : List (List ℕ)) (l i : ℕ) → standing_from c clauses l (c + i) ≡ first_stands l (get_or clauses i [])
unfolding standing_from
standing_at c [] l i = refl
standing_at c (clause ∷ clauses) l zero =
    rw (eq-eqb (c + zero) c (add-zero c), standing_before (suc c) clauses l (c + zero) (omega arith)) (omega arith)
standing_at c (clause ∷ clauses) l (suc i) =
    let later : c + suc i ≡ suc c + i = omega arith in
    rw (ne_eqb (c + suc i) c (λ e. omega arith), later, standing_at (suc c) clauses l i) (omega arith)

-- the literals of the first two positions have lists
abbrev Reaching : ℕ → List (List ℕ) → Type 0
Reaching n clauses = (i : ℕ) → 2 ≤ length (get_or clauses i []) → (get_or (get_or clauses i []) 0 0 < n) × (get_or (get_or clauses i []) 1 0 < n)

watch_one : List (List ℕ) → List ℕ → ℕ → List (List ℕ)
watch_one lists clause c = cond (leb 2 (length clause)) (push_front (push_front lists (get_or clause 0 0) c) (get_or clause 1 0) c) lists

watch_one_length : (lists : List (List ℕ)) (clause : List ℕ) (c : ℕ) → length (watch_one lists clause c) ≡ length lists
unfolding watch_one
watch_one_length lists clause c = go (leb 2 (length clause))
  where
    go : (b : Bool) → length (cond b (push_front (push_front lists (get_or clause 0 0) c) (get_or clause 1 0) c) lists) ≡ length lists
    go true = pushed_length (push_front lists (get_or clause 0 0) c) (get_or clause 1 0) c ∙ pushed_length lists (get_or clause 0 0) c
    go false = refl

watch_one_times : (lists : List (List ℕ)) (clause : List ℕ) (c l d : ℕ)
    → (2 ≤ length clause → (get_or clause 0 0 < length lists) × (get_or clause 1 0 < length lists))
    → times d (list_of (watch_one lists clause c) l) ≡ times d (list_of lists l) + cond (eqb d c) (first_stands l clause) 0
unfolding watch_one
watch_one_times lists clause c l d reach = go (leb 2 (length clause)) refl (eqb d c) refl
  where
    a : ℕ
    a = get_or clause 0 0

    b : ℕ
    b = get_or clause 1 0

    go : (x : Bool) → leb 2 (length clause) ≡ x → (y : Bool) → eqb d c ≡ y
        → times d (list_of (cond x (push_front (push_front lists a c) b c) lists) l) ≡ times d (list_of lists l) + cond y (cond x (among l a b) 0) 0
    go false e true f = omega arith
    go false e false f = omega arith
    go true e y f =
        let r = reach (leb-true 2 (length clause) e) in
        let long : length (push_front lists a c) ≡ length lists = pushed_length lists a c in
        let first : times d (list_of (push_front lists a c) l) ≡ times d (list_of lists l) + cond y (one (eqb l a)) 0
        = rw f at (push_times lists a c l d r.0) in
        let second : times d (list_of (push_front (push_front lists a c) b c) l) ≡ times d (list_of (push_front lists a c) l) + cond y
        (one (eqb l b)) 0
        = rw f at (push_times (push_front lists a c) b c l d (omega arith)) in
        second ∙ sum y (times d (list_of lists l)) (times d (list_of (push_front lists a c) l)) first
      where
        sum : (y : Bool) (n k : ℕ) → k ≡ n + cond y (one (eqb l a)) 0 → k + cond y (one (eqb l b)) 0 ≡ n + cond y (among l a b) 0
        sum true n k e = omega arith
        sum false n k e = omega arith

watch_all-length : (c : ℕ) (clauses lists : List (List ℕ)) → length (watch_all c clauses lists) ≡ length lists
unfolding watch_all watch_one
watch_all-length c [] lists = refl
watch_all-length c (clause ∷ clauses) lists = watch_all-length (suc c) clauses (watch_one lists clause c) ∙ watch_one_length lists clause c

watch_all-times : (c : ℕ) (clauses lists : List (List ℕ)) (l d : ℕ) → Reaching (length lists) clauses
    → times d (list_of (watch_all c clauses lists) l) ≡ times d (list_of lists l) + standing_from c clauses l d
unfolding watch_all watch_one standing_from
watch_all-times c [] lists l d reach = omega arith
watch_all-times c (clause ∷ clauses) lists l d reach =
    let rest : times d (list_of (watch_all (suc c) clauses (watch_one lists clause c)) l) ≡ times d
    (list_of (watch_one lists clause c) l) + standing_from (suc c) clauses l d
    = watch_all-times (suc c) clauses (watch_one lists clause c) l d (λ i h. rw (watch_one_length lists clause c) (reach (suc i) h)) in
    let first = watch_one_times lists clause c l d (reach 0) in
    rest ∙ (omega arith)

-- the watches of a clause, by its length
pub first_big : (clause : List ℕ) → 2 ≤ length clause → first_cell clause ≡ record { first = 0; second = 1; pointer = 1 }
unfolding first_cell
first_big clause h = rw (le-leb 2 (length clause) h)

pub first_small : (clause : List ℕ) → length clause < 2 → first_cell clause ≡ no_cell
unfolding first_cell
first_small clause h = rw (lt-leb 2 (length clause) h)

-- the opening's watches and lists
module _ (formula : Formula) (s : sound formula ≡ true) where
  abbrev cells : List Cell
  cells = map first_cell formula.clauses

  abbrev lists : List (List ℕ)
  lists = watch_all 0 formula.clauses (replicate (2 * formula.variables + 2) [])

  cell_first : (c : ℕ) → cell_at cells c ≡ first_cell (clause_of formula c)
  unfolding first_cell
  cell_first c = get_or-map first_cell formula.clauses c []

  lists_count : (l c : ℕ) → times c (list_of lists l) ≡ first_stands l (clause_of formula c)
  unfolding times
  lists_count l c =
      watch_all-times 0 formula.clauses (replicate (2 * formula.variables + 2) []) l c
      (λ i h. rw (length-replicate {A = List ℕ} (2 * formula.variables + 2) [])
      (literal_listed formula s i 0 (omega arith), literal_listed formula s i 1 (omega arith)))
      ∙ ap₂ ◌+◌ (ap (times c) (get_or_alike (2 * formula.variables + 2) l []))
      (ap (standing_from 0 formula.clauses l) (sym (zero-add c)) ∙ standing_at 0 formula.clauses l c)
      ∙ zero-add (first_stands l (clause_of formula c))

  pub fresh_watched : Watched formula cells lists
  fresh_watched =
      record {
        cells_length = length-map formula.clauses first_cell;
        lists_length =
            watch_all-length 0 formula.clauses (replicate (2 * formula.variables + 2) []) ∙ length-replicate
            (2 * formula.variables + 2) [];
        watching =
            λ c h. rw (cell_first c, first_big (clause_of formula c) h)
            (record { first_within = omega arith; second_within = omega arith; different = λ e. omega arith; pointer_watched = inr refl });
        unwatched = λ c h. cell_first c ∙ first_small (clause_of formula c) h;
        listed = λ l c. lists_count l c ∙ same_count l c (leb 2 (size formula c)) refl;
      }
    where
      same_count : (l c : ℕ) (b : Bool) → leb 2 (size formula c) ≡ b
          → cond b (among l (get_or (clause_of formula c) 0 0) (get_or (clause_of formula c) 1 0)) 0
          ≡ cond b (among l (first_literal formula cells c) (second_literal formula cells c)) 0
      same_count l c true e = rw (cell_first c, first_big (clause_of formula c) (leb-true 2 (size formula c) e))
      same_count l c false e = refl

pub fresh_opened : (formula : Formula) → sound formula ≡ true → Opened formula 0 (fresh formula)
unfolding fresh is_true place decisions distinct
fresh_opened formula s =
    record {
      structure =
          record {
            watched = fresh_watched formula s;
            trailed = record { within = λ l h. absurd (never h refl); once = refl; justified = tt };
            counted =
                record {
                  checks_length = length-replicate (length formula.clauses) 0;
                  checks_within_lem = λ c. rw (get_or_alike {A = ℕ} (length formula.clauses) c 0) (omega arith);
                  backtracks_within_lem = omega arith;
                };
            fixed_within_lem = omega arith;
          };
      quiet = refl;
      undecided = refl;
      units_on = λ d h u. absurd (omega arith);
    }

-- the only literal of a clause of one
only : (clause : List ℕ) → length clause ≡ 1 → (x : ℕ) → member x clause ≡ true → x ≡ get_or clause 0 0
only clause one x m =
    let at = position x clause m in
    let zeroth : at.0 ≡ 0 = omega arith in
    sym at.2 ∙ ap (λ (i : ℕ). get_or clause i 0) zeroth

-- one clause more
module _ (formula : Formula) (s : sound formula ≡ true) (c : ℕ) (run : Run) (o : Opened formula c run) where
  abbrev clause : List ℕ
  clause = clause_of formula c

  abbrev l : ℕ
  l = get_or clause 0 0

  -- the clauses before c and c itself
  also : (trail : List Entry) → ((d : ℕ) → d < c → size formula d ≡ 1 → 0 < place trail (get_or (clause_of formula d) 0 0))
      → (size formula c ≡ 1 → 0 < place trail l) → (d : ℕ) → d < suc c → size formula d ≡ 1
      → 0 < place trail (get_or (clause_of formula d) 0 0)
  also trail before now d h u = ⊎_elim (λ e. rw e (now (rw e at u))) (λ n. before d (omega arith) u) (alike d c)

  same_opened : (size formula c ≡ 1 → 0 < place run.trail l) → Opened formula (suc c) run
  same_opened now =
      record {
        structure = o.structure;
        quiet = o.quiet;
        undecided = o.undecided;
        units_on = also run.trail o.units_on now;
      }

  conflict_ended : size formula c ≡ 1 → is_false run.trail l ≡ true → Ended formula (with_conflict (suc c) run)
  unfolding with_conflict
  conflict_ended one f =
      record {
        valid =
            structure_valid (record { watched = o.structure.watched; trailed = o.structure.trailed; counted = o.structure.counted; fixed_within_lem = o.structure.fixed_within_lem })
            (λ z. absurd (omega arith))
            (λ d z. rw (same d z) (omega arith, λ m k. rw (only clause one m k) f))
            (λ d z some. absurd (omega (arith, o.undecided)));
        loud = rw (ne_eqb (suc c) 0 (λ z. omega arith));
      }
    where
      same : (d : ℕ) → suc c ≡ suc d → d ≡ c
      same d z = omega arith

  unit_opened : size formula c ≡ 1 → is_true run.trail l ≡ false → is_false run.trail l ≡ false
      → Opened formula (suc c) (on_trail l false run)
  unfolding on_trail
  unit_opened one t f =
      record {
        structure =
            record {
              watched = o.structure.watched;
              trailed =
                  trailed_push e o.structure.trailed (literal_within_lem formula s c 0 (omega arith)) off
                  (untrue_place run.trail (opposite l) f) (λ z. reason);
              counted = o.structure.counted;
              fixed_within_lem = omega (arith, o.structure.fixed_within_lem, o.undecided);
            };
        quiet = o.quiet;
        undecided = ⊎_elim (λ p. absurd (never p.0 refl)) (λ p. p.1 ∙ o.undecided) (decided_count e run.trail);
        units_on =
            also (e ∷ run.trail)
            (λ d h u. rw (old_stays e run.trail off (get_or (clause_of formula d) 0 0) (o.units_on d h u)).0 (o.units_on d h u))
            (λ u. omega (arith, place_new e run.trail));
      }
    where
      e : Entry
      e = record { literal = l; decided = false }

      off : place run.trail l ≡ 0
      off = untrue_place run.trail l t

      reason : Reason formula run.trail l
      reason =
          record {
            clause = c;
            holds = member_at clause 0 (omega arith);
            others = λ m k n. absurd (n (only clause one m k));
          }

  pub unit_outcome : Opened formula (suc c) (assign_unit c clause run) ⊎ Ended formula (assign_unit c clause run)
  unfolding assign_unit
  unit_outcome = go (eqb (length clause) 1) refl (is_true run.trail l) refl (is_false run.trail l) refl
    where
      go : (x : Bool) → eqb (length clause) 1 ≡ x → (t : Bool) → is_true run.trail l ≡ t → (f : Bool) → is_false run.trail l ≡ f
          → Opened formula (suc c) (cond x (cond t run (cond f (with_conflict (suc c) run) (on_trail l false run))) run)
          ⊎ Ended formula (cond x (cond t run (cond f (with_conflict (suc c) run) (on_trail l false run))) run)
      go false e t p f q = inl (same_opened (λ u. absurd (eqb-false (length clause) 1 e u)))
      go true e true p f q = inl (same_opened (λ u. true_place run.trail l p))
      go true e false p true q = inr (conflict_ended (eqb-true (length clause) 1 e) q)
      go true e false p false q = inl (unit_opened (eqb-true (length clause) 1 e) p q)

-- all clauses from c on
units_outcome : (formula : Formula) → sound formula ≡ true → (c : ℕ) (clauses : List (List ℕ)) (run : Run)
    → ((i : ℕ) → get_or clauses i [] ≡ clause_of formula (c + i)) → c + length clauses ≡ length formula.clauses
    → Opened formula c run
    → Opened formula (length formula.clauses) (assign_units c clauses run) ⊎ Ended formula (assign_units c clauses run)
unfolding assign_units
units_outcome formula s c [] run at long o =
    let all : c ≡ length formula.clauses = omega arith in
    inl (rw all at o)
units_outcome formula s c (clause ∷ clauses) run at long o =
    go (in_conflict after) refl here (λ k. units_outcome formula s (suc c) clauses after later (omega arith) k)
  where
    after : Run
    after = assign_unit c clause run

    All : Run → Type 0
    All r = Opened formula (length formula.clauses) r ⊎ Ended formula r

    now : clause ≡ clause_of formula c
    now = at 0 ∙ ap (clause_of formula) (add-zero c)

    later : (i : ℕ) → get_or clauses i [] ≡ clause_of formula (suc c + i)
    later i = at (suc i) ∙ ap (clause_of formula) (let e : c + suc i ≡ suc c + i = omega arith in e)

    here : Opened formula (suc c) after ⊎ Ended formula after
    here = rw now (unit_outcome formula s c run o)

    go : (b : Bool) → in_conflict after ≡ b → Opened formula (suc c) after ⊎ Ended formula after
        → (Opened formula (suc c) after → All (assign_units (suc c) clauses after))
        → All (cond b after (assign_units (suc c) clauses after))
    go true e (inl k) rest = absurd (never e (quiet_out after k.quiet))
    go true e (inr k) rest = inr k
    go false e (inl k) rest = rest k
    go false e (inr k) rest = absurd (never k.loud e)

opened_going : {formula : Formula} {run : Run} → Opened formula (length formula.clauses) run → Going formula 0 run
opened_going {formula} {run} o =
    record {
      structure = o.structure;
      quiet = o.quiet;
      pending =
          record {
            units_on = λ c u. o.units_on c (clause_exists formula c (omega arith)) u;
            units_level = λ c u. omega (arith, o.undecided, level_within run.trail (get_or (clause_of formula c) 0 0));
            guarded = λ c two. record { forth = λ p h. absurd (omega arith); back = λ p h. absurd (omega arith) };
            low = omega (arith, undecided_lowered run.trail o.undecided);
          };
    }

-- after its one-literal clauses the opening propagates from the first trail literal on, or has ended in a conflict
pub opening_state : (formula : Formula) → sound formula ≡ true
    → Going formula 0 (assign_units 0 formula.clauses (fresh formula)) ⊎ Ended formula (assign_units 0 formula.clauses (fresh formula))
opening_state formula s =
    ⊎_elim (λ o. inl (opened_going o)) inr
    (units_outcome formula s 0 formula.clauses (fresh formula) (λ i. ap (clause_of formula) (sym (zero-add i)))
    (zero-add (length formula.clauses)) (fresh_opened formula s))

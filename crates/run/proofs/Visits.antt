-- A visit of one clause of the list that is read, case by case: it keeps the invariant of reading, or ends in a conflict and is valid.
use Prim.Native.Nat.{ℕ, suc, ◌≤◌, ◌<◌}
use native.Mathlib.Omega.{arith}
use mathlib.Core.Bool.{Bool, true, false, cond}
use mathlib.Core.List.{List, ◌∷◌}
use mathlib.Core.Logic.{◌⊎◌, inl, inr, ⊎_elim}
use mathlib.Core.Option.{none}
use mathlib.Core.Path.{◌≡◌, refl, sym, ap, subst₂, ◌∙◌}
use borrow.Author.Tests.{ne_eqb}
use lib.Dec.{eqb}
use lib.ListN.{length, get_or, set}
use Rattle.base.specs.Lists.{member, distinct, times}
use Rattle.base.proofs.Bools.{alike, never}
use Rattle.base.proofs.Members.{position, member_at, times-same, times_other}
use Rattle.book.specs.Formula.{Formula, literal_within, sound}
use Rattle.run.specs.Trail.{Entry, opposite, place, is_true, is_false, decisions, level, lowered, variables_on}
use Rattle.run.specs.Scan.{Cell, watched, scan}
use Rattle.run.specs.Run.{Run, clause_of, size, cell_of, list_of, push_front, take_out, other_watch, moved, Action, moves, implies, conflicts, on_trail, with_watches, with_conflict, counted, perform_action, visit}
use Rattle.run.specs.Valid.{Reason, Watching}
use Rattle.run.specs.Progress.{Watched, BothGuardedAt, BothGuarded, Ended, ReadingList}
use Rattle.run.proofs.ScanLaws.{pointer_within, scan_found, scan_none}
use Rattle.run.proofs.Trails.{true_place, place_true, untrue_place, place_new, place_old, place_within, place_injective, consistent, true_unfalse}
use Rattle.run.proofs.Clauses.{literal_within_lem}
use Rattle.run.proofs.Actions.{Case, staying, moving, implying, conflicting, action_case}
use Rattle.run.proofs.WatchLists.{Sides, Order, forth, back, apart_unwatched, listed_size, listed_sides, listed_once, sides_differ, moved_times, moved_watched, cell_after, cell_others}
use Rattle.run.proofs.Propagation.{guarded_swap, old_stays, guarded_push, pending_push, propagation, pending_lowered, structure_valid, checks_added, trailed_push}
use Rattle.run.proofs.Opposites.{opposite_opposite, opposite_other, opposite_injective}
use Rattle.run.proofs.Levels.{decided_count, lowered_cases, level_within, top_level}

-- what is known of the clauses not in the rest of the list, once the first is done
one_done : (done : ℕ → Type 0) (c : ℕ) (unread : List ℕ) → ((d : ℕ) → times d (c ∷ unread) ≡ 0 → done d) → done c → (d : ℕ)
    → times d unread ≡ 0 → done d
one_done done c unread before now d z = ⊎_elim (λ e. rw e now) (λ e. before d (times_other d c unread e ∙ z)) (alike d c)

times_tail : (d c : ℕ) (unread : List ℕ) → times d unread ≤ times d (c ∷ unread)
unfolding times
times_tail d c unread = go (eqb d c)
  where
    go : (b : Bool) → times d unread ≤ cond b (suc (times d unread)) (times d unread)
    go true = omega arith
    go false = omega arith

-- What a visit finds: the clause stands in the list of q, q is false, and the two sides of the clause.
pub record Seen (formula : Formula) (q c : ℕ) (run : Run) : Type 0 where
  pub in_list : 0 < times c (list_of run.lists q)
  pub two : 2 ≤ size formula c
  pub watching : Watching (size formula c) (cell_of run c)
  pub sides : Sides (clause_of formula c) (cell_of run c) q
  pub q_false : is_false run.trail q ≡ true
  pub q_untrue : is_true run.trail q ≡ false

pub seen : {formula : Formula} {handled q c : ℕ} {unread : List ℕ} {run : Run} → ReadingList formula handled q (c ∷ unread) run
    → Seen formula q c run
seen {formula} {handled} {q} {c} {unread} {run} r =
    record {
      in_list = there;
      two = listed_size w q c there;
      watching = w.watching c (listed_size w q c there);
      sides = listed_sides w q c there;
      q_false = place_true run.trail (opposite q) on;
      q_untrue =
          rw (opposite_opposite q) at (true_unfalse run.trail r.going.structure.trailed.once (opposite q) (place_true run.trail (opposite q) on));
    }
  where
    w : Watched formula run.cells run.lists
    w = r.going.structure.watched

    there : 0 < times c (list_of run.lists q)
    there = omega (arith, times-same c unread, r.left c)

    on : 0 < place run.trail (opposite q)
    on = omega (arith, r.next)

-- the watch condition of a clause, said of q and its other watch
module _ {clause : List ℕ} {cell : Cell} {q : ℕ} (s : Sides clause cell q) (trail : List Entry) (h : ℕ) where
  literal-at : {p r : ℕ} → p ≡ r → get_or clause p 0 ≡ get_or clause r 0
  literal-at e = ap (λ (p : ℕ). get_or clause p 0) e

  guarded_from : BothGuarded trail h (get_or clause cell.first 0) (get_or clause cell.second 0) → BothGuarded trail h q (other_watch clause cell q)
  guarded_from k = go s.order
    where
      go : Order clause cell q s.here s.there → BothGuarded trail h q (other_watch clause cell q)
      go (forth f g m) = subst₂ (BothGuarded trail h) (literal-at f ∙ s.here_literal) (literal-at g ∙ s.there_literal) k
      go (back f g m) = guarded_swap (subst₂ (BothGuarded trail h) (literal-at f ∙ s.there_literal) (literal-at g ∙ s.here_literal) k)

  guarded_to : BothGuarded trail h q (other_watch clause cell q) → BothGuarded trail h (get_or clause cell.first 0) (get_or clause cell.second 0)
  guarded_to k = go s.order
    where
      go : Order clause cell q s.here s.there → BothGuarded trail h (get_or clause cell.first 0) (get_or clause cell.second 0)
      go (forth f g m) = subst₂ (BothGuarded trail h) (sym (literal-at f ∙ s.here_literal)) (sym (literal-at g ∙ s.there_literal)) k
      go (back f g m) = subst₂ (BothGuarded trail h) (sym (literal-at f ∙ s.there_literal)) (sym (literal-at g ∙ s.here_literal)) (guarded_swap k)

  guarded_moved : (p : ℕ) → BothGuarded trail h (get_or clause p 0) (other_watch clause cell q)
      → BothGuarded trail h (get_or clause (moved clause cell q p).first 0) (get_or clause (moved clause cell q p).second 0)
  guarded_moved p k = go s.order
    where
      go : Order clause cell q s.here s.there
          → BothGuarded trail h (get_or clause (moved clause cell q p).first 0) (get_or clause (moved clause cell q p).second 0)
      go (forth f g m) = rw (m p, s.there_literal) k
      go (back f g m) = rw (m p, s.there_literal) (guarded_swap k)

-- The four cases of a visit of clause c, from the list of q.
module _ (formula : Formula) (s : sound formula ≡ true) (handled q c : ℕ) (unread : List ℕ) (run : Run)
    (r : ReadingList formula handled q (c ∷ unread) run) where
  abbrev trail : List Entry
  trail = run.trail

  abbrev clause : List ℕ
  clause = clause_of formula c

  abbrev other : ℕ
  other = other_watch clause (cell_of run c) q

  abbrev Good : ℕ → ℕ → Type 0
  Good h d = BothGuardedAt formula run.cells trail h d

  here : Seen formula q c run
  here = seen r

  once : distinct (variables_on trail) ≡ true
  once = r.going.structure.trailed.once

  handled_within : suc handled ≤ length trail
  handled_within = omega (arith, r.next, place_within trail (opposite q))

  -- the literal that is read is at the top level
  q_level : level trail (opposite q) ≡ length (decisions trail)
  q_level = top_level trail (opposite q) (omega (arith, r.next, r.going.pending.low))

  before : BothGuarded trail handled q other
  before = guarded_from here.sides trail handled (r.going.pending.guarded c here.two)

  q_other : q ≡ other → ⊥
  q_other = sides_differ formula s c here.sides

  left_after : (d : ℕ) → times d unread ≤ times d (list_of run.lists q)
  left_after d = omega (arith, times_tail d c unread, r.left d)

  -- q is true: not so
  q_off : place trail q ≡ 0
  q_off = untrue_place trail q here.q_untrue

  stays_reading : is_true trail other ≡ true → ReadingList formula handled q unread run
  stays_reading t =
      record {
        going = r.going;
        next = r.next;
        read =
            λ d two z. one_done (λ (x : ℕ). 2 ≤ size formula x → Good (suc handled) x) c unread (λ x y k. r.read x k y) (λ k. now) d z two;
        left = left_after;
      }
    where
      on : 0 < place trail other
      on = true_place trail other t

      now : Good (suc handled) c
      now =
          guarded_to here.sides trail (suc handled)
          (record {
            forth = λ p h. (on, omega (arith, q_level, level_within trail other));
            back = λ p h. absurd (omega (arith, consistent trail other once on));
          })

  moves_reading : (position made : ℕ) → position < size formula c → watched (cell_of run c) position ≡ false
      → is_false trail (get_or clause position 0) ≡ false → ReadingList formula handled q unread (perform_action formula q c (moves position made) run)
  unfolding perform_action counted with_watches
  moves_reading position made within free unfalse =
      record {
        going =
            record {
              structure =
                  record {
                    watched =
                        moved_watched formula s run.cells run.lists r.going.structure.watched q c
                        here.in_list position within free;
                    trailed = r.going.structure.trailed;
                    counted = checks_added c made r.going.structure.counted;
                    fixed_within_lem = r.going.structure.fixed_within_lem;
                  };
              quiet = r.going.quiet;
              pending =
                  record {
                    units_on = r.going.pending.units_on;
                    units_level = r.going.pending.units_level;
                    guarded =
                        λ d two. ⊎_elim (λ e. rw e (now handled (omega arith))) (λ e. others handled d e (r.going.pending.guarded d two))
                        (alike d c);
                    low = r.going.pending.low;
                  };
            };
        next = r.next;
        read =
            λ d two z. ⊎_elim (λ e. rw e (now (suc handled) (omega arith)))
            (λ e. others (suc handled) d e (r.read d two (times_other d c unread e ∙ z))) (alike d c);
        left = λ d. ⊎_elim (λ e. rw e (omega (arith, no_more))) (λ e. rw (still d e) (left_after d)) (alike d c);
      }
    where
      m : ℕ
      m = get_or clause position 0

      after : Cell
      after = moved clause (cell_of run c) q position

      -- the other watch is not false and handled: else q would be true
      other-open : 0 < place trail (opposite other) → place trail (opposite other) ≤ suc handled → ⊥
      other-open p h = go (alike (place trail (opposite other)) (suc handled))
        where
          go : (place trail (opposite other) ≡ suc handled) ⊎ (place trail (opposite other) ≡ suc handled → ⊥) → ⊥
          go (inl e) =
              q_other (opposite_injective q other
              (place_injective trail (opposite q) (opposite other) (omega (arith, r.next)) (r.next ∙ sym e)))
          go (inr e) =
              omega (arith, q_off, (before.back p (omega arith)).0)

      now : (h : ℕ) → h ≤ suc handled
          → BothGuardedAt formula (set run.cells c after) trail h c
      now h k =
          rw (cell_after formula s run.cells run.lists r.going.structure.watched q c here.in_list position within free)
          (guarded_moved here.sides trail h position
          (record {
            forth = λ x y. absurd (omega (arith, untrue_place trail (opposite m) unfalse));
            back = λ x y. absurd (other-open x (omega arith));
          }))

      others : (h d : ℕ) → (d ≡ c → ⊥) → Good h d
          → BothGuardedAt formula (set run.cells c after) trail h d
      others h d e k =
          rw (cell_others formula s run.cells run.lists r.going.structure.watched q c here.in_list position within free d e) k

      no_more : times c unread ≡ 0
      no_more = omega (arith, times-same c unread, r.left c, listed_once formula s r.going.structure.watched q c here.in_list)

      still : (d : ℕ) → (d ≡ c → ⊥) → times d (list_of (push_front (take_out run.lists q c) m c) q) ≡ times d (list_of run.lists q)
      still d e =
          moved_times formula s run.cells run.lists r.going.structure.watched q c here.in_list position within free q d e

  -- where the scan finds nothing, every literal but the other watch is false
  all-false : (scan trail clause (cell_of run c)).found ≡ none → (i : ℕ) → i < size formula c → (i ≡ here.sides.there → ⊥)
      → is_false trail (get_or clause i 0) ≡ true
  all-false unfound i h n = go (alike i here.sides.here)
    where
      go : (i ≡ here.sides.here) ⊎ (i ≡ here.sides.here → ⊥) → is_false trail (get_or clause i 0) ≡ true
      go (inl e) = rw (e, here.sides.here_literal) here.q_false
      go (inr e) =
          scan_none trail clause (cell_of run c) (pointer_within (size formula c) (cell_of run c) here.watching) unfound i h
          (apart_unwatched here.sides i e n)

  others_false : (scan trail clause (cell_of run c)).found ≡ none → (x : ℕ) → member x clause ≡ true → (x ≡ other → ⊥)
      → is_false trail x ≡ true
  others_false unfound x k n =
      let at = position x clause k in
      rw at.2 at
      (all-false unfound at.0 at.1 (λ e. n (sym at.2 ∙ ap (λ (i : ℕ). get_or clause i 0) e ∙ here.sides.there_literal)))

  implies_reading : (made : ℕ) → is_true trail other ≡ false → is_false trail other ≡ false → (scan trail clause (cell_of run c)).found ≡ none
      → ReadingList formula handled q unread (perform_action formula q c (implies made) run)
  unfolding perform_action counted on_trail
  implies_reading made untrue unfalse unfound =
      record {
        going =
            record {
              structure =
                  record {
                    watched = r.going.structure.watched;
                    trailed = trailed_push e r.going.structure.trailed other_within off off' (λ z. reason);
                    counted = checks_added c made r.going.structure.counted;
                    fixed_within_lem = omega (arith, r.going.structure.fixed_within_lem, count_same);
                  };
              quiet = r.going.quiet;
              pending = pending_push e off (omega (arith, handled_within)) (rw lowered-same r.going.pending.low) r.going.pending;
            };
        next = q-stays.0 ∙ r.next;
        read =
            λ d two z. one_done (λ (x : ℕ). 2 ≤ size formula x → Good' x) c unread (λ x y k. guarded_push e off handled_within (r.read x k y))
            (λ k. now) d z two;
        left = left_after;
      }
    where
      e : Entry
      e = record { literal = other; decided = false }

      off : place trail other ≡ 0
      off = untrue_place trail other untrue

      off' : place trail (opposite other) ≡ 0
      off' = untrue_place trail (opposite other) unfalse

      other_within : literal_within formula.variables other ≡ true
      other_within = rw (← here.sides.there_literal) (literal_within_lem formula s c here.sides.there here.sides.there_within)

      reason : Reason formula trail other
      reason =
          record {
            clause = c;
            holds = rw here.sides.there_literal at (member_at clause here.sides.there here.sides.there_within);
            others = others_false unfound;
          }

      lowered-same : lowered (e ∷ trail) ≡ lowered trail
      lowered-same = ⊎_elim (λ p. absurd (never p.0 refl)) (λ p. p.1) (lowered_cases e trail)

      count_same : length (decisions (e ∷ trail)) ≡ length (decisions trail)
      count_same = ⊎_elim (λ p. absurd (never p.0 refl)) (λ p. p.1) (decided_count e trail)

      q-stays : (place (e ∷ trail) (opposite q) ≡ place trail (opposite q)) × (level (e ∷ trail) (opposite q) ≡ level trail (opposite q))
      q-stays = old_stays e trail off (opposite q) (omega (arith, r.next))

      Good' : ℕ → Type 0
      Good' d = BothGuardedAt formula run.cells (e ∷ trail) (suc handled) d

      now : Good' c
      now =
          guarded_to here.sides (e ∷ trail) (suc handled)
          (record {
            forth =
                λ x y. (omega (arith, place_new e trail), omega (arith, level_within (e ∷ trail) other, count_same, q_level, q-stays.1));
            back = λ x y. absurd (omega (arith, place_old e trail (opposite other) (λ z. opposite_other other (sym z)), off'));
          })

  conflicts_ended : (made : ℕ) → is_false trail other ≡ true → (scan trail clause (cell_of run c)).found ≡ none
      → Ended formula (perform_action formula q c (conflicts made) run)
  unfolding perform_action counted with_conflict
  conflicts_ended made false-other unfound =
      record {
        valid =
            structure_valid
            (record {
              watched = r.going.structure.watched;
              trailed = r.going.structure.trailed;
              counted = checks_added c made r.going.structure.counted;
              fixed_within_lem = r.going.structure.fixed_within_lem;
            })
            (λ z. absurd (omega arith))
            (λ d z. rw (same d z) (omega (arith, here.two), clause-false))
            (λ d z some. propagation (perform_action formula q c (conflicts made) run) (pending_lowered once some r.going.pending) (omega arith));
        loud = rw (ne_eqb (suc c) 0 (λ z. omega arith));
      }
    where
      same : (d : ℕ) → suc c ≡ suc d → d ≡ c
      same d z = omega arith

      clause-false : (x : ℕ) → member x clause ≡ true → is_false trail x ≡ true
      clause-false x k = ⊎_elim (λ z. rw z false-other) (others_false unfound x k) (alike x other)

  -- a visit goes on reading, or ends in a conflict
  pub visit_outcome : ReadingList formula handled q unread (visit formula q c run) ⊎ Ended formula (visit formula q c run)
  unfolding visit perform_action
  visit_outcome = go (action_case trail clause (cell_of run c) q)
    where
      go : {a : Action} → Case trail clause (cell_of run c) q a
          → ReadingList formula handled q unread (perform_action formula q c a run) ⊎ Ended formula (perform_action formula q c a run)
      go (staying t) = inl (stays_reading t)
      go (moving position u f) =
          let found = scan_found trail clause (cell_of run c) position (pointer_within (size formula c) (cell_of run c) here.watching) f in
          inl (moves_reading position (scan trail clause (cell_of run c)).checks found.0 found.1 found.2)
      go (implying u f n) = inl (implies_reading (scan trail clause (cell_of run c)).checks u n f)
      go (conflicting u f n) = inr (conflicts_ended (scan trail clause (cell_of run c)).checks n f)

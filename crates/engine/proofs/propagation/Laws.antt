-- Propagation over the session's numbers: the next literal's list is read clause by clause, as the run reads it.
use Rattle.std.specs.Prelude.{Option, Some, None}
use Prim.Native.Nat.{ℕ, suc, ◌+◌, ◌*◌, ◌≤◌, ◌<◌}
use native.Mathlib.Numerals.{add-one}
use native.Mathlib.Omega.{arith}
use mathlib.Core.Bool.{true}
use mathlib.Core.List.{List, [], ◌∷◌}
use mathlib.Core.Logic.{inl, ⊎_elim}
use mathlib.Core.Path.{◌≡◌, refl, sym, ap, ◌∙◌, subst}
use borrow.Author.Tests.{ne_eqb, lt-ltb}
use lib.ListN.{length, get_or}
use Rattle.base.proofs.Bools.{never}
use Rattle.book.specs.Formula.{max_variables, Formula, sound}
use Rattle.book.specs.Numbers.{variables_of, clauses_of, formula_of, well_formed}
use Rattle.book.proofs.PartLaws.{clauses_counted}
use Rattle.book.proofs.SoundLaws.{literal_parts}
use Rattle.book.proofs.WellFormedLaws.{well_formed_limited, well_formed_sound}
use Rattle.run.specs.Trail.{opposite, place, literal_at}
use Rattle.run.specs.Run.{Run, list_of, visit, in_conflict, read_list, propagate_from, propagate}
use Rattle.run.proofs.Trails.{place_true, place_of_literal}
use Rattle.run.proofs.Opposites.{opposite_cases}
use Rattle.run.proofs.Inductions.{next_read, read_next, propagate_stops, propagate_done}
use Rattle.run.proofs.Conflicts.{quiet_out}
use Rattle.run.specs.Progress.{Going, ReadingList}
use Rattle.run.proofs.Visits.{visit_outcome}
use Rattle.run.proofs.Validity.{reading_begins, reading_ends, trail_short, fuel_enough}
use Rattle.layout.specs.Layout.{Fits, required_length, length_at, conflict_at, trail_at}
use Rattle.layout.proofs.FitsLaws.{held_fits, session_fits}
use Rattle.layout.specs.Encodes.{Encodes}
use Rattle.engine.specs.Engine.{Becomes}
use Rattle.engine.specs.Inner.Lists.{Lists, Walking, Begun, left_of, linked}
use Rattle.engine.specs.Inner.Visit.{Visiting, VisitSays, Visited}
use Rattle.engine.specs.Inner.Propagation.{Propagating}
use Rattle.engine.specs.declared.lists.Walk.{Walk}
use Rattle.engine.proofs.lists.FrameLaws.{lists_of}
use Rattle.engine.proofs.lists.WalkLaws.{walking_left, walking_more, walking_none}

-- Propagating, one step at a time.
propagate_next : (formula : Formula) → sound formula ≡ true → (handled : ℕ) (run : Run) → Going formula handled run
    → handled < length run.trail
    → propagate formula handled run ≡ propagate formula (suc handled) (read_next formula handled run)
unfolding propagate_from
propagate_next formula s handled run g h = sym (fuel_enough formula s 1 handled run (inl g)) ∙ more
  where
    more : propagate_from (suc formula.variables + 1) formula handled run ≡ propagate formula (suc handled) (read_next formula handled run)
    more =
        let fuel : suc formula.variables + 1 ≡ suc (suc formula.variables) = omega arith in
        rw (fuel, quiet_out run g.quiet, lt-ltb handled (length run.trail) h)

read_goes : (formula : Formula) (q c : ℕ) (unread : List ℕ) (run : Run) → (visit formula q c run).conflict ≡ 0
    → read_list formula q (c ∷ unread) run ≡ read_list formula q unread (visit formula q c run)
unfolding read_list
read_goes formula q c unread run e = rw (quiet_out (visit formula q c run) e)

read_stops : (formula : Formula) (q c : ℕ) (unread : List ℕ) (run : Run) → in_conflict (visit formula q c run) ≡ true
    → read_list formula q (c ∷ unread) run ≡ visit formula q c run
unfolding read_list
read_stops formula q c unread run e = rw e

-- The first i trail literals are handled, on the way from the numbers `before`, which held `first`.
pub record Propagation (book before numbers : List ℕ) (handled i : ℕ) (first : Run) : Type 0 where
  pub run : Run
  pub becomes : Becomes book before numbers run
  pub going : Going (formula_of book) i run
  pub rest : propagate (formula_of book) i run ≡ propagate (formula_of book) handled first

-- The first i trail literals are handled, and the list of the next one's opposite is to be read.
pub record Next (book numbers : List ℕ) (i : ℕ) : Type 0 where
  pub well : well_formed book ≡ true
  pub run : Run
  pub encodes : Encodes (formula_of book) numbers run
  pub going : Going (formula_of book) i run
  pub more : i < length run.trail

-- what follows for its place and for the literal there
pub record NextBounds (book numbers : List ℕ) (i : ℕ) : Type 0 where
  pub below : i < variables_of book
  pub few : variables_of book ≤ max_variables
  pub long : required_length (variables_of book) (clauses_of book) ≤ length numbers
  pub low : 2 ≤ get_or numbers (trail_at + i) 0
  pub high : get_or numbers (trail_at + i) 0 ≤ 2 * variables_of book + 1

-- The list of the next literal's opposite is read: a walk along it has `unread` left.
pub record ReadingOn (book before numbers : List ℕ) (i : ℕ) (walk : Walk) (first : Run) (unread : List ℕ) : Type 0 where
  pub run : Run
  pub q : ℕ
  pub passed : List ℕ
  pub becomes : Becomes book before numbers run
  pub reading : ReadingList (formula_of book) i q unread run
  pub walking : Walking linked (formula_of book) run.cells run.lists q passed unread walk
  pub rest : read_list (formula_of book) q unread run ≡ read_next (formula_of book) i first

pub becomes_then : {book before middle after : List ℕ} {run later : Run} → Becomes book before middle run → Becomes book middle after later
    → Becomes book before after later
becomes_then b k =
    record {
      encodes = k.encodes;
      same_length = k.same_length ∙ b.same_length;
      same_behind = k.same_behind ∙ b.same_behind;
    }

becomes_self : {book numbers : List ℕ} {run : Run} → Encodes (formula_of book) numbers run → Becomes book numbers numbers run
becomes_self e = record { encodes = e; same_length = refl; same_behind = refl }

module _ (book : List ℕ) where
  abbrev formula : Formula
  formula = formula_of book

  -- it begins, or a conflict is there already
  pub propagating_stands : {numbers : List ℕ} {handled : ℕ} → (get_or numbers conflict_at 0 ≡ 0 → ⊥) → (at : Propagating book numbers handled)
      → Becomes book numbers numbers (propagate formula handled at.run)
  propagating_stands {numbers} {handled} n at =
      rw (propagate_stops formula (suc formula.variables) handled at.run (rw (ne_eqb at.run.conflict 0 (λ z. n (at.encodes.conflict ∙ z)))))
      (becomes_self at.encodes)

  -- nothing is left
  pub propagating_ends : {before numbers : List ℕ} {handled i : ℕ} {first : Run} (s : Propagation book before numbers handled i first)
      → get_or numbers length_at 0 ≤ i → Becomes book before numbers (propagate formula handled first)
  propagating_ends {before} {numbers} {handled} {i} {first} s h =
      let all : length s.run.trail ≤ i = omega (arith, s.becomes.encodes.trail.count) in
      rw (sym s.rest, propagate_done formula (suc formula.variables) i s.run (quiet_out s.run s.going.quiet) all) s.becomes

  -- a literal is left
  abbrev pub propagating_next : {before numbers : List ℕ} {handled i : ℕ} {first : Run} → well_formed book ≡ true
      → Propagation book before numbers handled i first → i < get_or numbers length_at 0 → Next book numbers i
  propagating_next w s h =
      record { well = w; run = s.run; encodes = s.becomes.encodes; going = s.going; more = omega (arith, s.becomes.encodes.trail.count) }

  -- what the next literal is, and where it stands
  next_below : {numbers : List ℕ} {i : ℕ} → Next book numbers i → i < variables_of book
  next_below n = omega (arith, n.more, trail_short n.going.structure.trailed)

  next_literal : {numbers : List ℕ} {i : ℕ} (n : Next book numbers i)
      → (get_or numbers (trail_at + i) 0 ≡ literal_at n.run.trail (suc i)) × (2 ≤ get_or numbers (trail_at + i) 0)
      × (get_or numbers (trail_at + i) 0 ≤ 2 * variables_of book + 1)
  next_literal {numbers} {i} n =
      let here : get_or numbers (trail_at + i) 0 ≡ literal_at n.run.trail (suc i) = n.encodes.trail.literals i (next_below n) in
      let on : place n.run.trail (literal_at n.run.trail (suc i)) ≡ suc i
      = place_of_literal n.run.trail i n.going.structure.trailed.once n.more in
      let bounds = literal_parts (variables_of book) (literal_at n.run.trail (suc i))
      (n.going.structure.trailed.within (literal_at n.run.trail (suc i)) (place_true n.run.trail (literal_at n.run.trail (suc i)) (omega arith))) in
      (here, omega arith, omega arith)

  pub next_bounds : {numbers : List ℕ} {i : ℕ} → Next book numbers i → NextBounds book numbers i
  next_bounds n =
      let literal = next_literal n in
      record {
        below = next_below n;
        few = (well_formed_limited book n.well).variables;
        long = (held_fits n.well n.encodes).long;
        low = literal.1;
        high = literal.2;
      }

  pub next_fits : {numbers : List ℕ} {i : ℕ} → Next book numbers i → Fits (variables_of book) (clauses_of book) numbers
  next_fits n = session_fits (variables_of book) (clauses_of book) refl refl (held_fits n.well n.encodes)

  pub next_opposite : {numbers : List ℕ} {i : ℕ} (q : ℕ) → Next book numbers i → q ≡ opposite (get_or numbers (trail_at + i) 0)
      → (2 ≤ q) × (q ≤ 2 * variables_of book + 1)
  next_opposite {numbers} {i} q n e =
      let literal = next_literal n in
      ⊎_elim (λ o. (omega arith, omega arith)) (λ o. (omega arith, omega arith)) (opposite_cases (get_or numbers (trail_at + i) 0))

  lists_at_lem : {handled q : ℕ} {unread numbers : List ℕ} {run : Run} → well_formed book ≡ true
      → Encodes formula numbers run → ReadingList formula handled q unread run
      → Lists linked (variables_of book) (clauses_of book) numbers formula run.cells run.lists
  lists_at_lem w e r =
      lists_of (variables_of book) (clauses_of book) refl (clauses_counted book) (well_formed_sound book w) r.going.structure.watched e

  -- its list begins to be read
  pub reading_on_begins : {numbers : List ℕ} {i : ℕ} (q : ℕ) (walk : Walk) → q ≡ opposite (get_or numbers (trail_at + i) 0)
      → Begun linked (variables_of book) (clauses_of book) numbers q walk → (n : Next book numbers i)
      → (unread : List ℕ) × ReadingOn book numbers numbers i walk n.run unread
  reading_on_begins {numbers} {i} q walk q-is begun n = (list_of n.run.lists q, go (q-is ∙ ap opposite (next_literal n).0))
    where
      go : q ≡ next_read i n.run → ReadingOn book numbers numbers i walk n.run (list_of n.run.lists q)
      go e =
          let reading : ReadingList formula i q (list_of n.run.lists q) n.run = rw e (reading_begins n.going n.more) in
          record {
            run = n.run;
            q = q;
            passed = [];
            becomes = becomes_self n.encodes;
            reading = reading;
            walking = begun.walking (lists_at_lem n.well n.encodes reading);
            rest = rw e;
          }

  module _ {before numbers : List ℕ} {i : ℕ} {walk : Walk} {first : Run} where
    -- how many clauses are left
    reading_on_left : (unread : List ℕ) → well_formed book ≡ true → ReadingOn book before numbers i walk first unread
        → left_of (variables_of book) (clauses_of book) numbers walk ≡ length unread
    reading_on_left unread w p =
        walking_left (lists_at_lem w p.becomes.encodes p.reading) unread p.walking

    -- a walk that is not at the end stands at a clause
    pub reading_on_more : (unread : List ℕ) × ReadingOn book before numbers i walk first unread → (walk.node ≡ 0 → ⊥)
        → (c : ℕ) × (unread : List ℕ) × ReadingOn book before numbers i walk first (c ∷ unread)
    reading_on_more (unread, p) n =
        let more = walking_more unread p.walking n in
        (more.0, more.1, subst (ReadingOn book before numbers i walk first) more.2 p)

    pub reading_on_none : (unread : List ℕ) × ReadingOn book before numbers i walk first unread → walk.node ≡ 0
        → ReadingOn book before numbers i walk first []
    reading_on_none (unread, p) z = subst (ReadingOn book before numbers i walk first) (walking_none unread p.walking z) p

  -- the next clause is visited
  module _ {before numbers : List ℕ} {i : ℕ} {walk : Walk} {first : Run} (c : ℕ) (unread : List ℕ) (w : well_formed book ≡ true)
      (p : ReadingOn book before numbers i walk first (c ∷ unread)) where
    abbrev pub visiting : Visiting book numbers walk
    visiting =
        record {
          well = w;
          run = p.run;
          handled = i;
          q = p.q;
          clause = c;
          passed = p.passed;
          unread = unread;
          encodes = p.becomes.encodes;
          reading = p.reading;
          walking = p.walking;
        }

    module _ {after : List ℕ} (r : Option Walk) (d : Visited book numbers after visiting r) where
      abbrev later-run : Run
      later-run = visit formula p.q c p.run

      later : Becomes book before after later-run
      later = becomes_then p.becomes (record { encodes = d.encodes; same_length = d.same_length; same_behind = d.same_behind })

      says : (x : Option Walk) → r ≡ x → VisitSays formula p.q unread later-run x
      says x e = subst (VisitSays formula p.q unread later-run) e d.says

      goes_on : later-run.conflict ≡ 0 → ReadingList formula i p.q unread later-run
      goes_on z =
          ⊎_elim (λ k. k) (λ k. absurd (never k.loud (quiet_out later-run z)))
          (visit_outcome formula (well_formed_sound book w) i p.q c unread p.run p.reading)

      reading_on_next : (next : Walk) → r ≡ Some next → ReadingOn book before after i next first unread
      reading_on_next next e =
          let said = says (Some next) e in
          record {
            run = later-run;
            q = p.q;
            passed = said.1.0;
            becomes = later;
            reading = goes_on said.0;
            walking = said.1.1;
            rest = sym (read_goes formula p.q c unread p.run said.0) ∙ p.rest;
          }

      -- a conflict ends propagation, whatever is unread
      reading_on_conflict : r ≡ None
          → Becomes book before after (read_next formula i first) × (in_conflict (read_next formula i first) ≡ true)
      reading_on_conflict e =
          rw (sym p.rest, read_stops formula p.q c unread p.run (says None e)) (later, says None e)

  -- a walk that is not at the end: its clause is visited
  module _ {before numbers : List ℕ} {i : ℕ} {walk : Walk} {first : Run} (w : well_formed book ≡ true)
      (reads : (unread : List ℕ) × ReadingOn book before numbers i walk first unread) (more : walk.node ≡ 0 → ⊥) where
    abbrev at_clause : (c : ℕ) × (unread : List ℕ) × ReadingOn book before numbers i walk first (c ∷ unread)
    at_clause = reading_on_more reads more

    pub visiting_clause : Visiting book numbers walk
    visiting_clause = visiting at_clause.0 at_clause.1 w at_clause.2

    module _ {after : List ℕ} (r : Option Walk) (visited : (at : Visiting book numbers walk) → Visited book numbers after at r) where
      on : (next : Walk) → r ≡ Some next → ReadingOn book before after i next first at_clause.1
      unfolding visiting_clause
      on = reading_on_next at_clause.0 at_clause.1 w at_clause.2 r (visited visiting_clause)

      pub visited_on : (next : Walk) → r ≡ Some next → (unread : List ℕ) × ReadingOn book before after i next first unread
      visited_on next e = (at_clause.1, on next e)

      -- the walk that goes on has fewer clauses left
      pub visited_fewer : (next : Walk) → r ≡ Some next
          → left_of (variables_of book) (clauses_of book) after next < left_of (variables_of book) (clauses_of book) numbers walk
      visited_fewer next e =
          let now = reading_on_left (at_clause.0 ∷ at_clause.1) w at_clause.2 in
          let later = reading_on_left at_clause.1 w (on next e) in
          omega arith

      pub visited_ends : r ≡ None → Becomes book before after (read_next formula i first) × (in_conflict (read_next formula i first) ≡ true)
      unfolding visiting_clause
      visited_ends e = reading_on_conflict at_clause.0 at_clause.1 w at_clause.2 r (visited visiting_clause) e

  -- the list is read to its end
  pub propagating_again : {before middle numbers : List ℕ} {handled i : ℕ} {walk : Walk} {first : Run} → well_formed book ≡ true
      → (s : Propagation book before middle handled i first) → i < get_or middle length_at 0
      → ReadingOn book middle numbers i walk s.run [] → Propagation book before numbers handled (i + 1) first
  unfolding read_list
  propagating_again {before} {middle} {numbers} {handled} {i} {walk} {first} w s more p =
      rw add-one
      (record {
        run = p.run;
        becomes = becomes_then s.becomes p.becomes;
        going = reading_ends p.reading;
        rest =
            ap (propagate formula (suc i)) p.rest
            ∙ sym (propagate_next formula (well_formed_sound book w) i s.run s.going (omega (arith, s.becomes.encodes.trail.count)))
            ∙ s.rest;
      })

  -- its reading ended in a conflict
  pub propagating_conflict : {before middle numbers : List ℕ} {handled i : ℕ} {first : Run} → well_formed book ≡ true
      → (s : Propagation book before middle handled i first) → i < get_or middle length_at 0
      → Becomes book middle numbers (read_next formula i s.run) × (in_conflict (read_next formula i s.run) ≡ true)
      → Becomes book before numbers (propagate formula handled first)
  propagating_conflict {handled = handled} {i = i} {first = first} w s more (b, loud) =
      rw (
        sym s.rest,
        propagate_next formula (well_formed_sound book w) i s.run s.going (omega (arith, s.becomes.encodes.trail.count)),
        propagate_stops formula (suc formula.variables) (suc i) (read_next formula i s.run) loud,
      )
      (becomes_then s.becomes b)

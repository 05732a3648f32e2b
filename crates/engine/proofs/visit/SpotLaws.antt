-- What the code of a visit reads of the clause at which a walk stands: its node, its other watch and the value of that.
use Rattle.std.specs.Prelude.{Option, Some}
use Prim.Native.Nat.{ℕ, ◌+◌, ◌*◌, ◌-◌, ◌%◌, ◌≤◌, ◌<◌}
use native.Mathlib.Omega.{arith}
use mathlib.Core.Bool.{Bool, true, false, cond}
use mathlib.Core.List.{List, [], ◌∷◌, ◌++◌}
use mathlib.Core.Path.{◌≡◌, refl, sym, ap, ap₂, ◌∙◌}
use borrow.Author.Tests.{eqb-true, eqb-false, eq-eqb, ne_eqb}
use denote.Enum.Bare.{sameb}
use lib.Dec.{eqb}
use lib.ListN.{length, get_or, take, drop, length-take, length-drop}
use lib.Seq.{get_or-take, get_or-drop}
use Rattle.book.specs.Formula.{Formula, variable_of, literal_within, sound}
use Rattle.book.specs.Numbers.{variables_of, clauses_of, clause_at, formula_of}
use Rattle.book.proofs.PartLaws.{clause_of_formula, clauses_counted}
use Rattle.book.proofs.SoundLaws.{literal_parts}
use Rattle.book.proofs.WellFormedLaws.{well_formed_sound}
use Rattle.base.specs.Lists.{distinct}
use Rattle.run.specs.Trail.{Entry, variables_on, is_true}
use Rattle.run.specs.Run.{Run, clause_of, size, cell_of, other_watch, action, perform_action, visit}
use Rattle.run.proofs.Clauses.{clause_exists, literal_within_lem}
use Rattle.run.specs.Progress.{Watched, Trailed}
use Rattle.run.proofs.Visits.{Seen, seen}
use Rattle.layout.specs.Layout.{Fits, TrailFits, values_at, watches_at, node_of, value_slot, clause_of_node, watch_slot}
use Rattle.layout.proofs.FitsLaws.{held_fits, session_fits}
use Rattle.layout.specs.Encodes.{TrailHeld, Encodes}
use Rattle.layout.specs.Values.{value_read}
use Rattle.layout.specs.contracts.values.Value.{the_type}
use Rattle.layout.specs.declared.values.Value.{Value}
use Rattle.layout.specs.declared.values.Value.TheVariants.{True}
use Rattle.layout.proofs.ChainLaws.{node_between}
use Rattle.layout.proofs.ValueLaws.{held_reads}
use Rattle.engine.specs.Engine.{SameBehind}
use Rattle.engine.specs.Inner.Lists.{Lists, Standing, KeptOn, linked}
use Rattle.engine.specs.Inner.Visit.{Visiting, VisitSays, Visited, other_node, Seeking}
use Rattle.engine.specs.declared.lists.Walk.{Walk}
use Rattle.engine.proofs.lists.FrameLaws.{lists_of}
use Rattle.engine.proofs.lists.WalkLaws.{walking_node, walking_stands}
use Rattle.engine.specs.Inner.Scan.{ValueSays}
use Rattle.engine.proofs.scan.Laws.{reads_says, says_true}

-- the other node
other_odd : (c node : ℕ) → node ≡ 2 * c + 1 → other_node node - 1 ≡ 2 * c + 1
unfolding other_node
other_odd c node e = rw (eq-eqb (node % 2) 1 (omega arith)) (omega arith)

other_even : (c node : ℕ) → node ≡ 2 * c + 2 → other_node node - 1 ≡ 2 * c
unfolding other_node
other_even c node e = rw (ne_eqb (node % 2) 1 (λ z. omega arith)) (omega arith)

other_bounds : (node n : ℕ) → 1 ≤ node → node ≤ 2 * n → (1 ≤ other_node node) × (other_node node ≤ 2 * n)
unfolding other_node
other_bounds node n low high = go (eqb (node % 2) 1) refl
  where
    go : (b : Bool) → eqb (node % 2) 1 ≡ b → (1 ≤ cond b (node + 1) (node - 1)) × (cond b (node + 1) (node - 1) ≤ 2 * n)
    go true e = let z = eqb-true (node % 2) 1 e in (omega arith, omega arith)
    go false e = let z = eqb-false (node % 2) 1 e in (omega arith, omega arith)

-- what the value of a literal says, read in numbers that hold a trail
pub held_says : {v : ℕ} {numbers : List ℕ} {trail : List Entry} → TrailHeld v numbers trail → distinct (variables_on trail) ≡ true → watches_at v ≤ length numbers
    → (l : ℕ) → 2 ≤ l → variable_of l ≤ v → (r : Value) → r ≡ value_read (get_or numbers (value_slot v l) 0) l → ValueSays trail l r
held_says {v} {numbers} {trail} held once long l low within r e =
    let inside : variable_of l - 1 < v = omega arith in
    reads_says (take v (drop (values_at v) numbers)) trail l (held_reads v numbers trail held once long) low
    (simp (length-take, length-drop) (omega arith)) r
    (e ∙ ap (λ (x : ℕ). value_read x l)
    (sym (get_or-take v (drop (values_at v) numbers) (variable_of l - 1) 0 inside ∙ get_or-drop (values_at v) numbers (variable_of l - 1) 0)))

-- What the numbers of a visit hold of the clause: bounds of what the code reads and stores.
pub record Spot (book numbers : List ℕ) (walk : Walk) : Type 0 where
  pub fits : Fits (variables_of book) (clauses_of book) numbers
  pub standing : Standing (variables_of book) (clauses_of book) walk
  pub inside : clause_of_node walk.node < clauses_of book
  pub other_low : 1 ≤ other_node walk.node
  pub other_high : other_node walk.node ≤ 2 * clauses_of book

module _ {book numbers : List ℕ} {walk : Walk} (at : Visiting book numbers walk) where
  abbrev formula : Formula
  formula = formula_of book

  abbrev c : ℕ
  c = at.clause

  abbrev other : ℕ
  other = other_watch (clause_of (formula_of book) at.clause) (cell_of at.run at.clause) at.q

  pub well_sound : sound (formula_of book) ≡ true
  well_sound = well_formed_sound book at.well

  pub visited_watched : Watched (formula_of book) at.run.cells at.run.lists
  visited_watched = at.reading.going.structure.watched

  pub visited_trailed : Trailed (formula_of book) at.run.trail
  visited_trailed = at.reading.going.structure.trailed

  pub visited_checks : length at.run.checks ≡ length (formula_of book).clauses
  visited_checks = at.reading.going.structure.counted.checks_length

  pub visited_lists : Lists linked (variables_of book) (clauses_of book) numbers (formula_of book) at.run.cells at.run.lists
  visited_lists = lists_of (variables_of book) (clauses_of book) refl (clauses_counted book) well_sound visited_watched at.encodes

  pub visited_seen : Seen (formula_of book) at.q at.clause at.run
  visited_seen = seen at.reading

  pub clause_inside_formula : at.clause < length (formula_of book).clauses
  clause_inside_formula = clause_exists formula c (let z = visited_seen.two in omega arith)

  pub clause_is : clause_of_node walk.node ≡ at.clause
  clause_is = let b = node_between formula at.run.cells at.q c in let e = walking_node at.walking in omega arith

  pub spot : Spot book numbers walk
  spot =
      let stands = walking_stands visited_lists at.walking in
      let others = other_bounds walk.node (clauses_of book) stands.some stands.node_within in
      record {
        fits = session_fits (variables_of book) (clauses_of book) refl refl (held_fits at.well at.encodes);
        standing = stands;
        inside = omega (arith, clause_is, clause_inside_formula, clauses_counted book);
        other_low = others.0;
        other_high = others.1;
      }

  -- the literals of the clause, as the code reads them
  pub literals_read : (d : ℕ) (literals : List ℕ) → d ≡ clause_of_node walk.node → literals ≡ clause_at book d
      → literals ≡ clause_of (formula_of book) at.clause
  literals_read d literals d-is read =
      read ∙ ap (clause_at book) (d-is ∙ clause_is) ∙ sym (clause_of_formula book c (omega (arith, clause_inside_formula, clauses_counted book)))

  -- the literal of the other watch, as the code reads it
  other_watch_lem : (d slot : ℕ) (literals : List ℕ) → d ≡ clause_of_node walk.node → literals ≡ clause_at book d
      → slot ≡ watch_slot (variables_of book) (other_node walk.node)
      → (get_or numbers slot 0 < length literals)
      × (get_or literals (get_or numbers slot 0) 0 ≡ other_watch (clause_of (formula_of book) at.clause) (cell_of at.run at.clause) at.q)
  unfolding other_watch node_of
  other_watch_lem d slot literals d-is read slot-is =
      rw (literals_read d literals d-is read, slot-is)
      (go (eqb (get_or (clause_of formula c) (cell_of at.run c).first 0) at.q) (walking_node at.walking))
    where
      go : (b : Bool) → walk.node ≡ cond b (2 * c + 1) (2 * c + 2)
          → (get_or numbers (watch_slot (variables_of book) (other_node walk.node)) 0 < size formula c)
          × (get_or (clause_of formula c) (get_or numbers (watch_slot (variables_of book) (other_node walk.node)) 0) 0
          ≡ cond b (get_or (clause_of formula c) (cell_of at.run c).second 0) (get_or (clause_of formula c) (cell_of at.run c).first 0))
      go true e =
          let place : watch_slot (variables_of book) (other_node walk.node) ≡ watches_at (variables_of book) + 2 * c + 1 =
          omega (arith, other_odd c walk.node e) in
          rw (place, at.encodes.watches.seconds c clause_inside_formula) (visited_seen.watching.second_within, refl)
      go false e =
          let place : watch_slot (variables_of book) (other_node walk.node) ≡ watches_at (variables_of book) + 2 * c =
          omega (arith, other_even c walk.node e) in
          rw (place, at.encodes.watches.firsts c clause_inside_formula) (visited_seen.watching.first_within, refl)

  -- it is a literal of the formula
  pub other_within : literal_within (variables_of book) (other_watch (clause_of (formula_of book) at.clause) (cell_of at.run at.clause) at.q) ≡ true
  other_within =
      rw (← visited_seen.sides.there_literal)
      (literal_within_lem formula well_sound c visited_seen.sides.there visited_seen.sides.there_within)

  other_bounded : (l : ℕ) → l ≡ other_watch (clause_of (formula_of book) at.clause) (cell_of at.run at.clause) at.q
      → (2 ≤ l) × (variable_of l ≤ variables_of book)
  other_bounded l e =
      let b = literal_parts (variables_of book) other other_within in
      let low = b.0 in
      let high = b.1 in
      (omega arith, omega arith)

  -- what its value says
  other_says : (vars l : ℕ) (r : Value) → vars ≡ variables_of book → l ≡ other
      → r ≡ value_read (get_or numbers (value_slot vars l) 0) l → ValueSays at.run.trail l r
  other_says vars l r vars-is l-is r-is =
      held_says at.encodes.trail visited_trailed.once (let s = spot.fits.long in omega arith) l (other_bounded l l-is).0 (other_bounded l l-is).1 r
      (rw vars-is at r-is)

  -- the run after a visit, whichever it is
  pub visited_by : (after : List ℕ) (r : Option Walk) (run : Run) → visit (formula_of book) at.q at.clause at.run ≡ run
      → Encodes (formula_of book) after run
      → length after ≡ length numbers → SameBehind book numbers after
      → VisitSays (formula_of book) at.q at.unread run r → Visited book numbers after at r
  visited_by after r run e encodes long behind says =
      record { encodes = rw e encodes; same_length = long; same_behind = behind; says = rw e says }

  -- the other watch, as the code reads it: literal `get_or literals (get_or numbers slot 0) 0`
  module _ {d node slot vars : ℕ} {literals : List ℕ} (d-is : d ≡ clause_of_node walk.node) (read : literals ≡ clause_at book d)
      (vars-is : vars ≡ variables_of book) (node-is : node ≡ other_node walk.node) (slot-is : slot ≡ watch_slot vars node) where
    abbrev watch : ℕ
    watch = get_or literals (get_or numbers slot 0) 0

    reads : (get_or numbers slot 0 < length literals) × (watch ≡ other)
    reads = other_watch_lem d slot literals d-is read (slot-is ∙ ap₂ watch_slot vars-is node-is)

    pub watch_within : get_or numbers slot 0 < length literals
    watch_within = reads.0

    pub watch_valued : TrailFits vars numbers × (2 ≤ get_or literals (get_or numbers slot 0) 0) × (variable_of (get_or literals (get_or numbers slot 0) 0) ≤ vars)
    watch_valued =
        let b = other_bounded watch reads.1 in
        let s = spot in
        (record { few_variables = omega arith; long = omega arith }, b.0, omega arith)

    module _ {value : Value} (value-is : value ≡ value_read (get_or numbers (value_slot vars (get_or literals (get_or numbers slot 0) 0)) 0) (get_or literals (get_or numbers slot 0) 0)) where
      says : ValueSays at.run.trail watch value
      says = other_says vars watch value vars-is reads.1 value-is

      -- it is true: the clause stays
      pub visited_stays : sameb the_type value True ≡ true → {next : Walk} → KeptOn linked (variables_of book) (clauses_of book) numbers walk next
          → Visited book numbers numbers at (Some next)
      unfolding visit action perform_action
      visited_stays told {next} kept =
          visited_by numbers (Some next) at.run (rw t) at.encodes refl refl
          (at.reading.going.quiet, (at.passed ++ (c ∷ []), kept.walking visited_lists at.walking))
        where
          t : is_true at.run.trail other ≡ true
          t = ap (is_true at.run.trail) (sym reads.1) ∙ sym (says_true at.run.trail watch value says) ∙ told

      -- it is not: a new watch is sought
      module _ (told : sameb the_type value True ≡ false) where
        pub visited_seeks : Seeking book numbers walk (get_or literals (get_or numbers slot 0) 0) value
        visited_seeks = record { at = at; other_is = reads.1; untrue = sym (says_true at.run.trail watch value says) ∙ told; says = says }

        pub visited_sought : {after : List ℕ} {r : Option Walk}
            → ((seeking : Seeking book numbers walk (get_or literals (get_or numbers slot 0) 0) value) → Visited book numbers after seeking.at r)
            → Visited book numbers after at r
        unfolding visited_seeks
        visited_sought h = h visited_seeks

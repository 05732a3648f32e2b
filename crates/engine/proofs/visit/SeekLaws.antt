-- The search for a new watch: what follows from what the scan answers.
use Rattle.std.specs.Prelude.{Option, Some, None}
use Prim.Native.Nat.{ℕ, suc, ◌+◌, ◌*◌, ◌≤◌, ◌<◌, min}
use native.Mathlib.Omega.{arith}
use mathlib.Core.Bool.{Bool, true, false}
use mathlib.Core.List.{List, [], ◌∷◌, ◌++◌}
use mathlib.Core.Option.{none, some}
use mathlib.Core.Path.{◌≡◌, refl, sym, ap, ◌∙◌, subst}
use borrow.Author.Tests.{ne_eqb}
use lib.ListN.{length, get_or, set, drop, length-set}
use lib.Seq.{drop-set-lt}
use Rattle.book.specs.Formula.{max_clause, Formula, variable_of, literal_within}
use Rattle.book.specs.Numbers.{variables_of, clauses_of, clause_at, formula_of}
use Rattle.book.proofs.PartLaws.{clauses_counted}
use Rattle.book.proofs.SoundLaws.{literal_parts}
use Rattle.base.specs.Lists.{times}
use Rattle.run.specs.Trail.{Entry, is_true, is_false}
use Rattle.run.specs.Scan.{Cell, Scanned, watched, scan}
use Rattle.run.specs.Run.{Run, clause_of, size, cell_of, list_of, push_front, take_out, max_count, other_watch, moved, moves, implies, conflicts, scanned_action, action, on_trail, with_watches, with_conflict, counted, perform_action, visit, cell_at}
use Rattle.run.proofs.Clauses.{clause_short, literal_within_lem}
use Rattle.run.proofs.Order.{pushed_elsewhere}
use Rattle.run.proofs.ScanLaws.{pointer_within, scan_found}
use Rattle.run.proofs.WatchLists.{moved_apart, moved_watched}
use Rattle.run.specs.Progress.{Watched}
use Rattle.layout.specs.Layout.{decisions_at, conflict_at, length_at, checks_at, required_length, clause_of_node}
use Rattle.layout.specs.Encodes.{Encodes}
use Rattle.layout.specs.declared.values.Value.{Value}
use Rattle.layout.specs.declared.values.Value.TheVariants.{Open, False}
use Rattle.engine.specs.Engine.{SameBehind}
use Rattle.engine.specs.Inner.Lists.{Lists, Walking, Unlisted, KeptOn, TakenOut, PushedFront, linked}
use Rattle.engine.specs.Inner.Trail.{SameBeside, assign_nums}
use Rattle.engine.specs.Inner.Scan.{scanned_in, position_in, ValueSays}
use Rattle.engine.specs.Inner.Visit.{Visiting, Visited, count_nums, watch_nums, Scannable, Seeking}
use Rattle.engine.specs.declared.lists.Walk.{Walk}
use Rattle.engine.specs.declared.scan.Scan.{Scan}
use Rattle.engine.proofs.StepLaws.{beside_behind, encodes_conflict}
use Rattle.engine.proofs.trail.Laws.{assign_beside}
use Rattle.engine.proofs.lists.FrameLaws.{lists_of}
use Rattle.engine.proofs.lists.WalkLaws.{walking_kept, walking_listed, walking_node}
use Rattle.engine.proofs.visit.StoreLaws.{trail_room, encodes_counted, encodes_implied, encodes_lists, lists_behind, Turned, WatchSet, watch_set}
use Rattle.engine.proofs.visit.SpotLaws.{literals_read, well_sound, visited_watched, visited_trailed, visited_checks, visited_lists, visited_seen, clause_inside_formula, clause_is, spot, other_within, visited_by}
use Rattle.engine.proofs.visit.MoveLaws.{moved_others, moved_turned, node_moved, out_same, out_free}

-- A literal at a position that a scan found.
pub record FoundLiteral (book literals : List ℕ) (position : ℕ) : Type 0 where
  pub inside : position < length literals
  pub short : position < max_clause
  pub low : 2 ≤ get_or literals position 0
  pub high : get_or literals position 0 ≤ 2 * variables_of book + 1

module _ {book numbers : List ℕ} {walk : Walk} {other : ℕ} {value : Value} (seeking : Seeking book numbers walk other value) where
  abbrev at : Visiting book numbers walk
  at = seeking.at

  abbrev formula : Formula
  formula = formula_of book

  abbrev q : ℕ
  q = seeking.at.q

  abbrev c : ℕ
  c = seeking.at.clause

  abbrev clause : List ℕ
  clause = clause_of (formula_of book) seeking.at.clause

  abbrev cell : Cell
  cell = cell_of seeking.at.run seeking.at.clause

  abbrev trail : List Entry
  trail = seeking.at.run.trail

  inside : c < clauses_of book
  inside = omega (arith, clause_inside_formula at, clauses_counted book)

  pub seeking_scannable : (d : ℕ) → d ≡ clause_of_node walk.node → Scannable book numbers d
  seeking_scannable d e =
      record {
        well = at.well;
        run = at.run;
        encodes = at.encodes;
        once = (visited_trailed at).once;
        inside = rw e (spot at).inside;
        watching = rw (e ∙ clause_is at) (visited_seen at).watching;
      }

  untrue : is_true trail (other_watch clause cell q) ≡ false
  untrue = rw (← seeking.other_is) seeking.untrue

  -- the answer of a scan of the clause
  module _ (r : Scan) {d : ℕ} (d-is : d ≡ clause_of_node walk.node)
      (answer : (s : Scannable book numbers d) → scanned_in r ≡ scan s.run.trail (clause_of (formula_of book) d) (cell_of s.run d)) where
    abbrev made : ℕ
    made = r.checks

    scanned : (x : Option ℕ) → r.found ≡ x → record { found = position_in x; checks = made } ≡ scan trail clause cell
    unfolding seeking_scannable
    scanned x is =
        ap (λ (y : Option ℕ). record { found = position_in y; checks = made }) (sym is)
        ∙ answer (seeking_scannable d d-is) ∙ ap (λ (y : ℕ). scan trail (clause_of formula y) (cell_of at.run y)) (d-is ∙ clause_is at)

    -- a position is found
    module _ {position : ℕ} (found_is : r.found ≡ Some position) where
      found : record { found = some position; checks = made } ≡ scan trail clause cell
      found = scanned (Some position) found_is

      abbrev l : ℕ
      l = get_or clause position 0

      found_at : (position < size formula c) × (watched cell position ≡ false) × (is_false trail (get_or clause position 0) ≡ false)
      found_at =
          scan_found trail clause cell position (pointer_within (size formula c) cell (visited_seen at).watching)
          (ap (λ (x : Scanned). x.found) (sym found))

      -- the literal there, as the code reads it
      pub found_literal : {literals : List ℕ} → literals ≡ clause_at book d → FoundLiteral book literals position
      found_literal {literals} read =
          rw (literals_read at d literals d-is read)
          (let bounds = literal_parts (variables_of book) l (literal_within_lem formula (well_sound at) c position found_at.0) in
          record { inside = found_at.0; short = let a = found_at.0 in let b = clause_short formula (well_sound at) c in omega arith; low = bounds.0; high = bounds.1 })

      visit-moves : visit formula q c at.run ≡ perform_action formula q c (moves position made) at.run
      unfolding visit action scanned_action
      visit-moves = rw (untrue, ← found)

      abbrev cells' : List Cell
      cells' = set at.run.cells c (moved clause cell q position)

      abbrev out : List (List ℕ)
      out = take_out at.run.lists q c

      abbrev there : List (List ℕ)
      there = push_front (take_out at.run.lists q c) l c

      abbrev moved_run : Run
      moved_run = with_watches cells' there at.run

      here : 0 < times c (list_of at.run.lists q)
      here = walking_listed at.walking

      watched-after : Watched formula moved_run.cells moved_run.lists
      unfolding with_watches
      watched-after =
          moved_watched formula (well_sound at) at.run.cells at.run.lists (visited_watched at) q c here position found_at.0 found_at.1

      -- the stores in the order of the code, each with the run that is held then
      module _ {taken stored pushed : List ℕ} {next : Walk} (took : TakenOut linked (variables_of book) (clauses_of book) numbers taken walk next)
          (stored_is : stored ≡ watch_nums (variables_of book) (clauses_of book) taken walk.node position)
          (push : PushedFront linked (variables_of book) (clauses_of book) stored pushed l walk.node) where
        taken-lists : Lists linked (variables_of book) (clauses_of book) taken formula at.run.cells out
        taken-lists = took.lists_are (visited_lists at) at.walking

        taken-encodes : Encodes formula taken (with_watches at.run.cells out at.run)
        taken-encodes = encodes_lists out at.encodes took.only taken-lists

        turned : Turned c walk.node position cell (cell_at cells' c)
        turned =
            subst (λ (x : ℕ). Turned c x position cell (cell_at cells' c)) (sym (walking_node at.walking))
            (moved_turned formula (well_sound at) at.run.cells at.run.lists (visited_watched at) q c here position found_at.0 found_at.1)

        set_there : WatchSet (variables_of book) (clauses_of book) formula taken stored cells' (with_watches at.run.cells out at.run)
        unfolding with_watches
        set_there =
            watch_set cells' inside turned
            (moved_others formula (well_sound at) at.run.cells at.run.lists (visited_watched at) q c here position found_at.0 found_at.1)
            (out_same formula (well_sound at) at.run.cells at.run.lists (visited_watched at) q c here position found_at.0 found_at.1)
            taken-lists taken-encodes stored_is

        pushed-lists : Lists linked (variables_of book) (clauses_of book) pushed formula cells' there
        unfolding with_watches
        pushed-lists =
            push.lists_are c set_there.lists_are (visited_seen at).two
            (node_moved formula (well_sound at) at.run.cells at.run.lists (visited_watched at) q c here position found_at.0 found_at.1
            ∙ sym (walking_node at.walking))
            (subst (Unlisted formula cells' out) (sym (walking_node at.walking))
            (out_free formula (well_sound at) at.run.cells at.run.lists (visited_watched at) q c here position found_at.0 found_at.1))

        pushed-encodes : Encodes formula pushed moved_run
        unfolding with_watches
        pushed-encodes = encodes_lists there set_there.encodes push.only pushed-lists

        pushed_length : length pushed ≡ length numbers
        pushed_length = push.only.same_length ∙ set_there.same_length ∙ took.only.same_length

        pushed-behind : drop (required_length (variables_of book) (clauses_of book)) pushed ≡ drop (required_length (variables_of book) (clauses_of book)) numbers
        pushed-behind = lists_behind push.only ∙ set_there.same_behind ∙ lists_behind took.only

        goes_on : Walking linked formula cells' there q at.passed at.unread next
        goes_on =
            walking_kept cells' there
            (pushed_elsewhere out l c q
            (λ e. moved_apart formula (well_sound at) at.run.cells at.run.lists (visited_watched at) q c here position found_at.0 found_at.1 (sym e)))
            (λ d h. out_same formula (well_sound at) at.run.cells at.run.lists (visited_watched at) q c here position found_at.0 found_at.1 q d h)
            (took.goes_on (visited_lists at) at.walking)

        moved-visited : {after : List ℕ} → after ≡ count_nums pushed (checks_at (variables_of book) (length (formula_of book).clauses) + c) made
            → Visited book numbers after at (Some next)
        unfolding perform_action counted with_watches
        moved-visited {after} after_is =
            visited_by at after (Some next) (counted c made moved_run) visit-moves
            (rw after_is (encodes_counted formula pushed moved_run pushed-encodes watched-after (visited_checks at) c made (clause_inside_formula at)))
            (rw after_is (length-set pushed place filled ∙ pushed_length))
            (rw after_is
            (drop-set-lt (required_length (variables_of book) (clauses_of book)) pushed place filled (let i = clause_inside_formula at in omega (arith, clauses_counted book))
            ∙ pushed-behind))
            (at.reading.going.quiet, (at.passed, goes_on))
          where
            place : ℕ
            place = checks_at (variables_of book) (length formula.clauses) + c

            filled : ℕ
            filled = min (get_or pushed place 0 + made) max_count

      pub visited_moved : {count : ℕ} {literals taken stored pushed after : List ℕ} {next : Walk}
          → count ≡ checks_at (variables_of book) (clauses_of book) + clause_of_node walk.node → literals ≡ clause_at book d
          → TakenOut linked (variables_of book) (clauses_of book) numbers taken walk next
          → stored ≡ watch_nums (variables_of book) (clauses_of book) taken walk.node position
          → PushedFront linked (variables_of book) (clauses_of book) stored pushed (get_or literals position 0) walk.node
          → after ≡ count_nums pushed count made → Visited book numbers after at (Some next)
      visited_moved {count} {literals} {taken} {stored} {pushed} {after} {next} count_is read took stored_is push after_is =
          moved-visited took stored_is (rw (literals_read at d literals d-is read) at push)
          (after_is ∙ ap (λ (x : ℕ). count_nums pushed x made) (omega (arith, clause_is at, clauses_counted book)))

    -- no position is found
    module _ (found_is : r.found ≡ None) where
      missed : record { found = none; checks = made } ≡ scan trail clause cell
      missed = scanned None found_is

      unfalse : value ≡ Open → is_false trail other ≡ false
      unfalse e = (subst (ValueSays trail other) e seeking.says).1

      other-false : (b : Bool) → is_false trail other ≡ b → is_false trail (other_watch clause cell q) ≡ b
      other-false b e = ap (is_false trail) (sym seeking.other_is) ∙ e

      visit-implies : value ≡ Open → visit formula q c at.run ≡ perform_action formula q c (implies made) at.run
      unfolding visit action scanned_action
      visit-implies e = rw (untrue, ← missed, other-false false (unfalse e))

      visit-conflicts : value ≡ False → visit formula q c at.run ≡ perform_action formula q c (conflicts made) at.run
      unfolding visit action scanned_action
      visit-conflicts e = rw (untrue, ← missed, other-false true (subst (ValueSays trail other) e seeking.says).1)

      abbrev place-count : ℕ
      place-count = checks_at (variables_of book) (length (formula_of book).clauses) + c

      abbrev counted_numbers : List ℕ
      counted_numbers = count_nums numbers place-count made

      abbrev counted_run : Run
      counted_run = counted c made at.run

      count-place : (count : ℕ) → count ≡ checks_at (variables_of book) (clauses_of book) + clause_of_node walk.node → count ≡ place-count
      count-place count count_is = omega (arith, clause_is at, clauses_counted book)

      counted-encodes : Encodes formula counted_numbers counted_run
      counted-encodes =
          encodes_counted formula numbers at.run at.encodes (visited_watched at) (visited_checks at) c made (clause_inside_formula at)

      counted-length : length counted_numbers ≡ length numbers
      counted-length = length-set numbers place-count (min (get_or numbers place-count 0 + made) max_count)

      counted-behind : SameBehind book numbers counted_numbers
      counted-behind =
          drop-set-lt (required_length (variables_of book) (clauses_of book)) numbers place-count (min (get_or numbers place-count 0 + made) max_count)
          (let i = clause_inside_formula at in omega (arith, clauses_counted book))

      pub visited_conflict : value ≡ False → {count : ℕ} {now : List ℕ}
          → count ≡ checks_at (variables_of book) (clauses_of book) + clause_of_node walk.node → now ≡ count_nums numbers count made
          → Visited book numbers (set now conflict_at (d + 1)) at None
      unfolding perform_action counted with_conflict
      visited_conflict e {count} {now} count_is now_is =
          visited_by at (set now conflict_at (d + 1)) None (with_conflict (suc c) counted_run) (visit-conflicts e)
          (rw final (encodes_conflict (suc c) (visited_watched at) counted-encodes))
          (rw final (length-set counted_numbers conflict_at (suc c) ∙ counted-length))
          (rw final (drop-set-lt (required_length (variables_of book) (clauses_of book)) counted_numbers conflict_at (suc c) (omega arith) ∙ counted-behind))
          (rw (ne_eqb (suc c) 0 (λ z. omega arith)))
        where
          next-is : d + 1 ≡ suc c
          next-is = omega (arith, clause_is at)

          final : set now conflict_at (d + 1) ≡ set counted_numbers conflict_at (suc c)
          final = rw (now_is, count-place count count_is, next-is)

      within : literal_within (variables_of book) other ≡ true
      within = ap (literal_within (variables_of book)) seeking.other_is ∙ other_within at

      -- an assignment has what it asks
      pub implied_asks : value ≡ Open → {vars count : ℕ} {now : List ℕ} → vars ≡ variables_of book
          → count ≡ checks_at (variables_of book) (clauses_of book) + clause_of_node walk.node → now ≡ count_nums numbers count made
          → (get_or now length_at 0 < vars) × (2 ≤ other) × (variable_of other ≤ vars)
      unfolding counted
      implied_asks e {vars} {count} {now} vars-is count_is now_is =
          let bounds = literal_parts (variables_of book) other within in (
            rw (now_is, count-place count count_is, counted-encodes.trail.count, vars-is)
                (trail_room (visited_trailed at) other within seeking.untrue (unfalse e)),
            bounds.0,
            let b = bounds.1 in omega arith,
          )

      pub visited_implied : value ≡ Open → {vars count : ℕ} {now after : List ℕ} {next : Walk} → vars ≡ variables_of book
          → count ≡ checks_at (variables_of book) (clauses_of book) + clause_of_node walk.node → now ≡ count_nums numbers count made
          → after ≡ assign_nums vars now other (get_or now decisions_at 0)
          → KeptOn linked (variables_of book) (clauses_of book) after walk next
          → Visited book numbers after at (Some next)
      unfolding perform_action counted on_trail
      visited_implied e {vars} {count} {now} {after} {next} vars-is count_is now_is after_is kept =
          visited_by at after (Some next) implied_run implied encodes
          (rw final (beside.same_length ∙ counted-length))
          (rw final (beside_behind beside (required_length (variables_of book) (clauses_of book)) (omega arith) ∙ counted-behind)) (
            at.reading.going.quiet,
            (
              at.passed ++ (c ∷ []),
              kept.walking
                  (lists_of {run = implied_run} (variables_of book) (clauses_of book) refl (clauses_counted book) (well_sound at) (visited_watched at) encodes)
                  at.walking,
            ),
          )
        where
          implied_run : Run
          implied_run = on_trail other false counted_run

          level : ℕ
          level = get_or counted_numbers decisions_at 0

          counted_now : now ≡ counted_numbers
          counted_now = now_is ∙ rw (count-place count count_is)

          asks : (get_or now length_at 0 < vars) × (2 ≤ other) × (variable_of other ≤ vars)
          asks = implied_asks e vars-is count_is now_is

          beside : SameBeside (variables_of book) counted_numbers (assign_nums (variables_of book) counted_numbers other level)
          beside = assign_beside (variables_of book) counted_numbers other level (rw (counted_now, vars-is) at asks.0) asks.1 (rw vars-is at asks.2)

          final : after ≡ assign_nums (variables_of book) counted_numbers other level
          final = after_is ∙ rw (vars-is, counted_now)

          encodes : Encodes formula after implied_run
          encodes =
              rw final
              (encodes_implied formula counted_numbers counted_run counted-encodes (visited_watched at) (visited_trailed at) other level refl within
              seeking.untrue (unfalse e))

          implied : visit formula q c at.run ≡ implied_run
          implied = visit-implies e ∙ ap (λ (x : ℕ). on_trail x false counted_run) (sym seeking.other_is)

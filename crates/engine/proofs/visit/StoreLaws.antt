-- The stores of a visit, one by one, each with the run that the numbers hold after it.
use Prim.Native.Nat.{ℕ, suc, ◌+◌, ◌*◌, ◌-◌, ◌≤◌, ◌<◌, min}
use native.Mathlib.Omega.{arith}
use mathlib.Core.Bool.{true, false}
use mathlib.Core.List.{List, ◌∷◌}
use mathlib.Core.Logic.{◌⊎◌, inl, inr}
use mathlib.Core.Path.{◌≡◌, refl, sym, ap, ◌∙◌}
use lib.ListN.{length, get_or, set, drop, length-set, length-drop}
use lib.Seq.{get_or-set_same, get_or-set_other, get_or-drop, drop-set-lt, ext_get_or}
use Rattle.base.specs.Lists.{times}
use Rattle.base.proofs.Bools.{alike, never}
use Rattle.book.specs.Formula.{Formula, literal_within}
use Rattle.book.proofs.SoundLaws.{literal_parts}
use Rattle.run.specs.Trail.{Entry, place, opposite, is_true, is_false}
use Rattle.run.specs.Scan.{Cell}
use Rattle.run.specs.Run.{Run, list_of, add_checks, max_count, on_trail, with_watches, counted, cell_at}
use Rattle.run.proofs.Trails.{untrue_place}
use Rattle.run.specs.Progress.{Watched, Trailed}
use Rattle.run.proofs.Propagation.{trailed_push}
use Rattle.run.proofs.Validity.{trail_short}
use Rattle.layout.specs.Layout.{length_at, decisions_at, conflict_at, backtracks_at, fixed_at, trail_at, levels_at, values_at, watches_at, pointers_at, checks_at, required_length, node_of, clause_of_node, watch_slot}
use Rattle.layout.specs.Encodes.{TrailHeld, Encodes}
use Rattle.layout.proofs.ChainLaws.{watched_within}
use Rattle.engine.specs.Inner.Trail.{SameBeside, assign_nums}
use Rattle.engine.specs.Inner.Lists.{lists_at, Lists, ListsOnly, linked}
use Rattle.engine.specs.Inner.Visit.{count_nums, watch_nums}
use Rattle.engine.proofs.lists.FrameLaws.{held_outside, lists_kept}
use Rattle.engine.proofs.trail.Laws.{held_implied, assign_beside}
use Rattle.engine.proofs.StepLaws.{encodes_beside}

-- A trail is held by the header's first two numbers and the numbers from the trail to the values.
pub trail_frame : {v : ℕ} {s t : List ℕ} {trail : List Entry}
    → ((x : ℕ) → x < watches_at v → (x ≡ conflict_at → ⊥) → get_or t x 0 ≡ get_or s x 0) → TrailHeld v s trail → TrailHeld v t trail
trail_frame {v} same h =
    record {
      count = same length_at (omega arith) (λ e. omega arith) ∙ h.count;
      decided = same decisions_at (omega arith) (λ e. omega arith) ∙ h.decided;
      literals = λ i k. same (trail_at + i) (omega arith) (λ e. omega arith) ∙ h.literals i k;
      levels = λ i k. same (levels_at v + i) (omega arith) (λ e. omega arith) ∙ h.levels i k;
      values = λ i k. same (values_at v + i) (omega arith) (λ e. omega arith) ∙ h.values i k;
    }

-- A trail has room for a literal that is neither true nor false on it: with it no variable is there twice.
pub trail_room : {formula : Formula} {trail : List Entry} → Trailed formula trail → (l : ℕ) → literal_within formula.variables l ≡ true
    → is_true trail l ≡ false → is_false trail l ≡ false → length trail < formula.variables
trail_room {formula} {trail} t l within untrue unfalse =
    let z : suc (length trail) ≤ formula.variables =
    trail_short
    (trailed_push (record { literal = l; decided = true }) t within (untrue_place trail l untrue) (untrue_place trail (opposite l) unfalse)
    (λ q. absurd (never refl q))) in
    omega arith

-- The stores of a visit, one by one, each with the run that it leaves.
module _ (formula : Formula) (numbers : List ℕ) (run : Run) (e : Encodes formula numbers run) where
  -- checks more
  pub encodes_counted : Watched formula run.cells run.lists → length run.checks ≡ length formula.clauses → (c made : ℕ)
      → c < length formula.clauses
      → Encodes formula (count_nums numbers (checks_at formula.variables (length formula.clauses) + c) made) (counted c made run)
  unfolding counted add_checks
  encodes_counted w many c made inside =
      record {
        long = rw (length-set numbers slot count) e.long;
        trail = trail_frame (λ x h n. other x (λ z. omega arith)) e.trail;
        conflict = other conflict_at (λ z. omega arith) ∙ e.conflict;
        backtracks = other backtracks_at (λ z. omega arith) ∙ e.backtracks;
        fixed = other fixed_at (λ z. omega arith) ∙ e.fixed;
        watches =
            held_outside formula numbers run.cells run.lists (watched_within formula run.cells run.lists w) slot count (inr (omega arith, omega arith))
            e.watches;
        checks = λ d h. go d h (alike d c);
      }
    where
      slot : ℕ
      slot = checks_at formula.variables (length formula.clauses) + c

      count : ℕ
      count = min (get_or numbers slot 0 + made) max_count

      other : (x : ℕ) → (x ≡ slot → ⊥) → get_or (count_nums numbers slot made) x 0 ≡ get_or numbers x 0
      other x n = get_or-set_other numbers slot x count 0 n

      go : (d : ℕ) → d < length formula.clauses → (d ≡ c) ⊎ (d ≡ c → ⊥)
          → get_or (count_nums numbers slot made) (checks_at formula.variables (length formula.clauses) + d) 0
          ≡ get_or (set run.checks c (min (get_or run.checks c 0 + made) max_count)) d 0
      go d h (inl q) =
          rw q
          (get_or-set_same numbers slot count 0 (let l = e.long in omega arith)
          ∙ ap (λ (n : ℕ). min (n + made) max_count) (e.checks c inside)
          ∙ sym (get_or-set_same run.checks c (min (get_or run.checks c 0 + made) max_count) 0 (omega arith)))
      go d h (inr q) =
          other (checks_at formula.variables (length formula.clauses) + d) (λ z. q (omega arith))
          ∙ e.checks d h
          ∙ sym (get_or-set_other run.checks c d (min (get_or run.checks c 0 + made) max_count) 0 q)

  -- an implied literal
  pub encodes_implied : Watched formula run.cells run.lists → Trailed formula run.trail → (l level : ℕ)
      → level ≡ get_or numbers decisions_at 0 → literal_within formula.variables l ≡ true → is_true run.trail l ≡ false → is_false run.trail l ≡ false
      → Encodes formula (assign_nums formula.variables numbers l level) (on_trail l false run)
  unfolding on_trail
  encodes_implied w t l level at_level within untrue unfalse =
      encodes_beside (entry ∷ run.trail) w e beside
      (held_implied formula.variables numbers entry run.trail level e.trail off off-opposite within room (let l = e.long in omega arith) refl
      (at_level ∙ e.trail.decided))
    where
      entry : Entry
      entry = record { literal = l; decided = false }

      off : place run.trail l ≡ 0
      off = untrue_place run.trail l untrue

      off-opposite : place run.trail (opposite l) ≡ 0
      off-opposite = untrue_place run.trail (opposite l) unfalse

      room : length run.trail < formula.variables
      room = trail_room t l within untrue unfalse

      bounds : (2 ≤ l) × (l ≤ 2 * formula.variables + 1)
      bounds = literal_parts formula.variables l within

      beside : SameBeside formula.variables numbers (assign_nums formula.variables numbers l level)
      beside = assign_beside formula.variables numbers l level (rw e.trail.count room) bounds.0 (let b = bounds.1 in omega arith)

-- A clause leaves or joins a list: only the lists changed.
pub lists_behind : {v n : ℕ} {before after : List ℕ} → ListsOnly v n before after → drop (required_length v n) after ≡ drop (required_length v n) before
lists_behind {v} {n} {before} {after} only =
    ext_get_or 0 (drop (required_length v n) after) (drop (required_length v n) before)
    (length-drop (required_length v n) after ∙ ap (λ (k : ℕ). k - required_length v n) only.same_length ∙ sym (length-drop (required_length v n) before))
    (λ i k. get_or-drop (required_length v n) after i 0 ∙ only.outside (required_length v n + i) (inr (omega arith)) ∙ sym (get_or-drop (required_length v n) before i 0))

pub encodes_lists : {v n : ℕ} {formula : Formula} {before after : List ℕ} {run : Run} (others : List (List ℕ)) → Encodes formula before run
    → ListsOnly v n before after → Lists linked v n after formula run.cells others → Encodes formula after (with_watches run.cells others run)
unfolding with_watches
encodes_lists {v} {n} {formula} {before} {after} {run} others e only k =
    let v-is = k.variables_are in
    let n-is = k.clauses_are in
    let front : (x : ℕ) → x < lists_at v n → get_or after x 0 ≡ get_or before x 0 = λ x h. only.outside x (inl h) in
    record {
      long = omega (arith, e.long, only.same_length);
      trail = trail_frame (λ x h z. front x (omega arith)) e.trail;
      conflict = front conflict_at (omega arith) ∙ e.conflict;
      backtracks = front backtracks_at (omega arith) ∙ e.backtracks;
      fixed = front fixed_at (omega arith) ∙ e.fixed;
      watches =
          record {
            firsts = λ c h. front (watches_at formula.variables + 2 * c) (omega arith) ∙ e.watches.firsts c h;
            seconds = λ c h. front (watches_at formula.variables + 2 * c + 1) (omega arith) ∙ e.watches.seconds c h;
            pointers = λ c h. front (pointers_at formula.variables (length formula.clauses) + c) (omega arith) ∙ e.watches.pointers c h;
            in_lists = k.held;
          };
      checks = λ c h. front (checks_at formula.variables (length formula.clauses) + c) (omega arith) ∙ e.checks c h;
    }

-- A watch moves to a position, and the pointer with it: the first one, or the second.
pub data Turned (c node position : ℕ) (cell after : Cell) : Type 0 where
  firstly : node ≡ 2 * c + 1 → after ≡ record { first = position; second = cell.second; pointer = position } → Turned c node position cell after
  secondly : node ≡ 2 * c + 2 → after ≡ record { first = cell.first; second = position; pointer = position } → Turned c node position cell after

pub turned_node : {c node position : ℕ} {cell after : Cell} → Turned c node position cell after
    → (1 ≤ node) × (clause_of_node node ≡ c)
turned_node (firstly a b) = (omega arith, omega arith)
turned_node (secondly a b) = (omega arith, omega arith)

pub watch_length : (v n : ℕ) (numbers : List ℕ) (node position : ℕ) → length (watch_nums v n numbers node position) ≡ length numbers
watch_length v n numbers node position =
    length-set (set numbers (watch_slot v node) position) (pointers_at v n + clause_of_node node) position
    ∙ length-set numbers (watch_slot v node) position

pub watch_behind : (v n : ℕ) (numbers : List ℕ) (node position : ℕ) → 1 ≤ node → node ≤ 2 * n
    → drop (required_length v n) (watch_nums v n numbers node position) ≡ drop (required_length v n) numbers
watch_behind v n numbers node position low high =
    drop-set-lt (required_length v n) (set numbers (watch_slot v node) position) (pointers_at v n + clause_of_node node) position (omega arith)
    ∙ drop-set-lt (required_length v n) numbers (watch_slot v node) position (omega arith)

-- the numbers after it
pub record WatchSet (v n : ℕ) (formula : Formula) (before numbers : List ℕ) (after : List Cell) (run : Run) : Type 0 where
  pub same_length : length numbers ≡ length before
  pub same_behind : drop (required_length v n) numbers ≡ drop (required_length v n) before
  pub lists_are : Lists linked v n numbers formula after run.lists
  pub encodes : Encodes formula numbers (with_watches after run.lists run)

module _ {v n c node position : ℕ} {formula : Formula} {numbers : List ℕ} {run : Run} (after : List Cell) (inside : c < n)
    (turned : Turned c node position (cell_at run.cells c) (cell_at after c))
    (others : (d : ℕ) → (d ≡ c → ⊥) → cell_at after d ≡ cell_at run.cells d)
    (same : (l d : ℕ) → 0 < times d (list_of run.lists l) → node_of formula after l d ≡ node_of formula run.cells l d)
    (k : Lists linked v n numbers formula run.cells run.lists) (e : Encodes formula numbers run) where
  abbrev stores : List ℕ
  stores = watch_nums v n numbers node position

  node_bounds : (1 ≤ node) × (node ≤ 2 * n)
  node_bounds = let t = turned_node turned in (t.0, let a = t.0 in let b = t.1 in omega arith)

  stored_other : (x : ℕ) → (x ≡ watch_slot v node → ⊥) → (x ≡ pointers_at v n + c → ⊥) → get_or stores x 0 ≡ get_or numbers x 0
  stored_other x a b =
      let half = (turned_node turned).1 in
      get_or-set_other (set numbers (watch_slot v node) position) (pointers_at v n + clause_of_node node) x position 0 (λ e. b (omega arith))
      ∙ get_or-set_other numbers (watch_slot v node) x position 0 a

  stored_watch : get_or stores (watch_slot v node) 0 ≡ position
  stored_watch =
      let b = node_bounds in
      let half = (turned_node turned).1 in
      get_or-set_other (set numbers (watch_slot v node) position) (pointers_at v n + clause_of_node node) (watch_slot v node) position 0 (λ e. omega arith)
      ∙ get_or-set_same numbers (watch_slot v node) position 0 (omega (arith, k.long))

  stored_pointer : get_or stores (pointers_at v n + c) 0 ≡ position
  stored_pointer =
      let half : pointers_at v n + c ≡ pointers_at v n + clause_of_node node = omega (arith, (turned_node turned).1) in
      rw half
      (get_or-set_same (set numbers (watch_slot v node) position) (pointers_at v n + clause_of_node node) position 0
      (rw (length-set numbers (watch_slot v node) position) (omega (arith, k.long, (turned_node turned).1))))

  turned_lists : Lists linked v n (watch_nums v n numbers node position) formula after run.lists
  turned_lists =
      let b = node_bounds in
      lists_kept after (watch_length v n numbers node position) (λ x low high. stored_other x (λ e. omega arith) (λ e. omega arith)) same k

  first_held : (d : ℕ) → d < n → get_or stores (watches_at v + 2 * d) 0 ≡ (cell_at after d).first
  first_held d h = go turned (alike d c)
    where
      before : get_or numbers (watches_at v + 2 * d) 0 ≡ (cell_at run.cells d).first
      before = rw k.variables_are at (e.watches.firsts d (omega (arith, k.clauses_are)))

      go : Turned c node position (cell_at run.cells c) (cell_at after c) → (d ≡ c) ⊎ (d ≡ c → ⊥)
          → get_or stores (watches_at v + 2 * d) 0 ≡ (cell_at after d).first
      go (firstly a b) (inl z) =
          let here : watches_at v + 2 * d ≡ watch_slot v node = omega arith in
          rw (here, stored_watch, z, b)
      go (secondly a b) (inl z) =
          stored_other (watches_at v + 2 * d) (λ y. omega arith) (λ y. omega arith) ∙ before
          ∙ ap (λ (x : ℕ). (cell_at run.cells x).first) z ∙ sym (ap (λ (x : ℕ). (cell_at after x).first) z ∙ ap (λ (x : Cell). x.first) b)
      go t (inr z) =
          let b = turned_node turned in
          stored_other (watches_at v + 2 * d) (λ y. z (omega arith)) (λ y. omega arith) ∙ before ∙ sym (ap (λ (x : Cell). x.first) (others d z))

  second_held : (d : ℕ) → d < n → get_or stores (watches_at v + 2 * d + 1) 0 ≡ (cell_at after d).second
  second_held d h = go turned (alike d c)
    where
      before : get_or numbers (watches_at v + 2 * d + 1) 0 ≡ (cell_at run.cells d).second
      before = rw k.variables_are at (e.watches.seconds d (omega (arith, k.clauses_are)))

      go : Turned c node position (cell_at run.cells c) (cell_at after c) → (d ≡ c) ⊎ (d ≡ c → ⊥)
          → get_or stores (watches_at v + 2 * d + 1) 0 ≡ (cell_at after d).second
      go (secondly a b) (inl z) =
          let here : watches_at v + 2 * d + 1 ≡ watch_slot v node = omega arith in
          rw (here, stored_watch, z, b)
      go (firstly a b) (inl z) =
          stored_other (watches_at v + 2 * d + 1) (λ y. omega arith) (λ y. omega arith) ∙ before
          ∙ ap (λ (x : ℕ). (cell_at run.cells x).second) z ∙ sym (ap (λ (x : ℕ). (cell_at after x).second) z ∙ ap (λ (x : Cell). x.second) b)
      go t (inr z) =
          let b = turned_node turned in
          stored_other (watches_at v + 2 * d + 1) (λ y. z (omega arith)) (λ y. omega arith) ∙ before ∙ sym (ap (λ (x : Cell). x.second) (others d z))

  pointer_held : (d : ℕ) → d < n → get_or stores (pointers_at v n + d) 0 ≡ (cell_at after d).pointer
  pointer_held d h = go turned (alike d c)
    where
      go : Turned c node position (cell_at run.cells c) (cell_at after c) → (d ≡ c) ⊎ (d ≡ c → ⊥)
          → get_or stores (pointers_at v n + d) 0 ≡ (cell_at after d).pointer
      go (firstly a b) (inl z) = rw (z, stored_pointer, b)
      go (secondly a b) (inl z) = rw (z, stored_pointer, b)
      go t (inr z) =
          let b = node_bounds in
          stored_other (pointers_at v n + d) (λ y. omega arith) (λ y. z (omega arith))
          ∙ rw (k.variables_are, k.clauses_are) at (e.watches.pointers d (omega (arith, k.clauses_are)))
          ∙ sym (ap (λ (x : Cell). x.pointer) (others d z))

  encodes_turned : Encodes formula (watch_nums v n numbers node position) (with_watches after run.lists run)
  unfolding with_watches
  encodes_turned =
      let v-is = k.variables_are in
      let n-is = k.clauses_are in
      let b = node_bounds in
      record {
        long = omega (arith, e.long, watch_length v n numbers node position);
        trail = trail_frame (λ x h z. stored_other x (λ y. omega arith) (λ y. omega arith)) e.trail;
        conflict = stored_other conflict_at (λ y. omega arith) (λ y. omega arith) ∙ e.conflict;
        backtracks = stored_other backtracks_at (λ y. omega arith) (λ y. omega arith) ∙ e.backtracks;
        fixed = stored_other fixed_at (λ y. omega arith) (λ y. omega arith) ∙ e.fixed;
        watches =
            record {
              firsts = λ d h. rw k.variables_are (first_held d (omega arith));
              seconds = λ d h. rw k.variables_are (second_held d (omega arith));
              pointers = λ d h. rw (k.variables_are, k.clauses_are) (pointer_held d (omega arith));
              in_lists = turned_lists.held;
            };
        checks =
            λ d h. stored_other (checks_at formula.variables (length formula.clauses) + d) (λ y. omega arith) (λ y. omega arith) ∙ e.checks d h;
      }

  pub watch_set : {stored : List ℕ} → stored ≡ watch_nums v n numbers node position → WatchSet v n formula numbers stored after run
  watch_set is =
      rw is
      (record {
        same_length = watch_length v n numbers node position;
        same_behind = watch_behind v n numbers node position node_bounds.0 node_bounds.1;
        lists_are = turned_lists;
        encodes = encodes_turned;
      })

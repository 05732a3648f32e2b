-- Numbers that hold a run hold no other: what is read out of them is that run.
use Prim.Native.Nat.{ℕ, zero, suc, ◌+◌, ◌*◌, ◌≤◌, ◌<◌}
use native.Mathlib.Omega.{arith}
use mathlib.Core.Bool.{Bool, true, not}
use mathlib.Core.List.{List, [], ◌∷◌, ◌++◌}
use mathlib.Core.Logic.{⊎_elim}
use mathlib.Core.Path.{◌≡◌, refl, sym, ap, ap₂, ◌∙◌}
use borrow.Author.Tests.{eq-eqb, ne_eqb}
use lib.Dec.{eqb}
use lib.ListN.{length, get_or}
use lib.Seq.{ext_get_or}
use Rattle.base.specs.Lists.{distinct, times}
use Rattle.base.proofs.Bools.{below}
use Rattle.base.proofs.Members.{times-same}
use Rattle.book.specs.Formula.{Formula, sound}
use Rattle.run.specs.Trail.{Entry, place, literal_at, is_true, decisions, variables_on}
use Rattle.run.specs.Scan.{Cell}
use Rattle.run.specs.Run.{Run, clause_of, no_cell, list_of, cell_at}
use Rattle.run.specs.Valid.{Valid}
use Rattle.run.proofs.Trails.{place_true, place_new, true_grows, rest_distinct, newest_apart}
use Rattle.run.proofs.Levels.{decided_count}
use Rattle.run.proofs.Clauses.{clause_exists, literal_within_lem}
use Rattle.book.proofs.SoundLaws.{literal_parts}
use Rattle.run.specs.Progress.{Watched, Structure}
use Rattle.run.proofs.WatchLists.{listed_size, listed_sides, listed_once}
use Rattle.run.proofs.Propagation.{valid_structure}
use Rattle.run.proofs.Validity.{trail_short}
use Rattle.layout.specs.Layout.{trail_at, levels_at, heads_at, watches_at, pointers_at, checks_at, level_number, node_of, encode, level_before, held_trail, held_cells, chain_from, held_lists, held, length_at, head_slot, link_slot}
use Rattle.layout.specs.Encodes.{Chain, nodes_of, WatchesHeld, Encodes}
use Rattle.base.proofs.Tables.{part_list}
use Rattle.layout.proofs.TrailLaws.{literal_cases, level_number_new, level_number_old}
use Rattle.base.proofs.Occurrences.{once_short}
use Rattle.layout.proofs.ChainLaws.{node_positive, node_clause}
use Rattle.layout.proofs.EncodeLaws.{encode_encodes}

-- the trail: literals by place, and a decision where the level is another than before
module _ (v : ℕ) (numbers : List ℕ) where
  abbrev LevelsHeld : List Entry → Type 0
  LevelsHeld trail = (i : ℕ) → i < length trail → get_or numbers (levels_at v + i) 0 ≡ level_number trail (suc i)

  level_before_lem : (trail : List Entry) → LevelsHeld trail → level_before v numbers (length trail) ≡ length (decisions trail)
  unfolding level_before decisions
  level_before_lem [] levels = refl
  level_before_lem (e ∷ trail) levels = levels (length trail) (omega arith) ∙ level_number_new e trail

  trail_held : (trail : List Entry) → distinct (variables_on trail) ≡ true → ((l : ℕ) → is_true trail l ≡ true → 0 < l)
      → ((i : ℕ) → i < length trail → get_or numbers (trail_at + i) 0 ≡ literal_at trail (suc i)) → LevelsHeld trail
      → held_trail v numbers (length trail) ≡ trail
  unfolding held_trail
  trail_held [] d low literals levels = refl
  trail_held (e ∷ trail) d low literals levels =
      ap₂ ◌∷◌ (entry (literals (length trail) (omega arith) ∙ literal-here) decided-here)
      (trail_held trail (rest_distinct e trail d) (λ l h. low l (true_grows e trail l h))
      (λ i h. literals i (omega arith) ∙ ⊎_elim (λ p. absurd (omega arith)) (λ p. p.1) (literal_cases e trail (suc i))) older)
    where
      entry : {l : ℕ} {b : Bool} → l ≡ e.literal → b ≡ e.decided → ◌≡◌ {A = Entry} (record { literal = l; decided = b }) e
      entry p q = rw (p, q)

      literal-here : literal_at (e ∷ trail) (suc (length trail)) ≡ e.literal
      literal-here = ⊎_elim (λ p. p.1) (λ p. absurd (p.0 refl)) (literal_cases e trail (suc (length trail)))

      positive : 0 < e.literal
      positive = low e.literal (place_true (e ∷ trail) e.literal (rw (place_new e trail) (omega arith)))

      new : place trail e.literal ≡ 0
      new = ⊎_elim (λ h. absurd (newest_apart e trail e.literal d h refl)) (λ h. omega arith) (below 0 (place trail e.literal))

      older : LevelsHeld trail
      older i h = levels i (omega arith) ∙ level_number_old e trail (suc i) positive new (λ q. omega arith)

      decided-here : not (eqb (get_or numbers (levels_at v + length trail) 0) (level_before v numbers (length trail))) ≡ e.decided
      decided-here =
          rw (levels (length trail) (omega arith) ∙ level_number_new e trail, level_before_lem trail older)
          (⊎_elim
          (λ p. rw (ne_eqb (length (decisions (e ∷ trail))) (length (decisions trail)) (λ q. omega arith)) (sym p.0))
          (λ p. rw (eq-eqb (length (decisions (e ∷ trail))) (length (decisions trail)) p.1) (sym p.0))
          (decided_count e trail))

-- the cells
module _ (v c : ℕ) (numbers : List ℕ) where
  abbrev held_cell : ℕ → Cell
  held_cell j =
      record {
        first = get_or numbers (watches_at v + 2 * j) 0;
        second = get_or numbers (watches_at v + 2 * j + 1) 0;
        pointer = get_or numbers (pointers_at v c + j) 0;
      }

  pub length_cells : (from n : ℕ) → length (held_cells v c numbers from n) ≡ n
  unfolding held_cells
  length_cells from zero = refl
  length_cells from (suc n) = ap suc (length_cells (suc from) n)

  pub get_or_cells : (from n i : ℕ) → i < n → get_or (held_cells v c numbers from n) i no_cell ≡ held_cell (from + i)
  unfolding held_cells
  get_or_cells from zero i h = absurd (omega arith)
  get_or_cells from (suc n) zero h =
      let same : from ≡ from + 0 = omega arith in
      ap held_cell same
  get_or_cells from (suc n) (suc i) h =
      let same : suc from + i ≡ from + suc i = omega arith in
      get_or_cells (suc from) n i (omega arith) ∙ ap held_cell same

  cells_held : (cells : List Cell) → length cells ≡ c
      → ((i : ℕ) → i < c → get_or numbers (watches_at v + 2 * i) 0 ≡ (cell_at cells i).first)
      → ((i : ℕ) → i < c → get_or numbers (watches_at v + 2 * i + 1) 0 ≡ (cell_at cells i).second)
      → ((i : ℕ) → i < c → get_or numbers (pointers_at v c + i) 0 ≡ (cell_at cells i).pointer)
      → held_cells v c numbers 0 c ≡ cells
  cells_held cells long firsts seconds pointers =
      ext_get_or no_cell (held_cells v c numbers 0 c) cells (length_cells 0 c ∙ sym long)
      (λ i h.
      let k : i < c = omega (arith, length_cells 0 c) in
      let same : 0 + i ≡ i = omega arith in
      get_or_cells 0 c i k ∙ ap held_cell same ∙ cell (cell_at cells i) (firsts i k) (seconds i k) (pointers i k))
    where
      cell : {a b d : ℕ} (x : Cell) → a ≡ x.first → b ≡ x.second → d ≡ x.pointer
          → ◌≡◌ {A = Cell} (record { first = a; second = b; pointer = d }) x
      cell x p q r = rw (p, q, r)

  -- the lists
  abbrev held_list : ℕ → List ℕ
  held_list j = chain_from v c numbers (2 * c) (get_or numbers (heads_at v c + j) 0)

  pub length_lists : (from n : ℕ) → length (held_lists v c numbers from n) ≡ n
  unfolding held_lists
  length_lists from zero = refl
  length_lists from (suc n) = ap suc (length_lists (suc from) n)

  pub get_or_lists : (from n i : ℕ) → i < n → get_or (held_lists v c numbers from n) i [] ≡ held_list (from + i)
  unfolding held_lists
  get_or_lists from zero i h = absurd (omega arith)
  get_or_lists from (suc n) zero h =
      let same : from ≡ from + 0 = omega arith in
      ap held_list same
  get_or_lists from (suc n) (suc i) h =
      let same : suc from + i ≡ from + suc i = omega arith in
      get_or_lists (suc from) n i (omega arith) ∙ ap held_list same

  pub chain_held : (formula : Formula) (cells : List Cell) (l fuel slot : ℕ) (list : List ℕ) → length list ≤ fuel
      → Chain v c numbers slot (nodes_of formula cells l list) → chain_from v c numbers fuel (get_or numbers slot 0) ≡ list
  unfolding chain_from
  chain_held formula cells l zero slot [] h ch = refl
  chain_held formula cells l zero slot (d ∷ list) h ch = absurd (omega arith)
  chain_held formula cells l (suc fuel) slot [] h ch = rw ch
  chain_held formula cells l (suc fuel) slot (d ∷ list) h ch =
      let some = node_positive formula cells l d in
      rw (ch.0, ne_eqb (node_of formula cells l d) 0 (λ q. omega arith), node_clause formula cells l d)
      (ap (λ (rest : List ℕ). d ∷ rest)
      (chain_held formula cells l fuel (link_slot v c (node_of formula cells l d)) list (omega arith) ch.1))

empty_list : (xs : List ℕ) → ((x : ℕ) → times x xs ≡ 0) → [] ≡ xs
empty_list [] none = refl
empty_list (x ∷ xs) none = absurd (let z = times-same x xs in let n = none x in omega arith)

module _ (formula : Formula) (s : sound formula ≡ true) (numbers : List ℕ) (cells : List Cell) (lists : List (List ℕ))
    (w : Watched formula cells lists) where
  abbrev v : ℕ
  v = formula.variables

  abbrev c : ℕ
  c = length formula.clauses

  -- no list of a number below 2, which is no literal, has a clause
  low_list : (l : ℕ) → l < 2 → [] ≡ list_of lists l
  low_list l h =
      empty_list (list_of lists l)
      (λ d. ⊎_elim (λ k. absurd (there d k)) (λ k. omega arith) (below 0 (times d (list_of lists l))))
    where
      there : (d : ℕ) → 0 < times d (list_of lists l) → ⊥
      there d k =
          let sides = listed_sides w l d k in
          let bounds = literal_parts v (get_or (clause_of formula d) sides.here 0) (literal_within_lem formula s d sides.here sides.here_within) in
          omega (arith, sides.here_literal)

  short_list : (l : ℕ) → length (list_of lists l) ≤ c
  short_list l =
      once_short c (list_of lists l)
      (λ d. ⊎_elim (λ k. omega (arith, listed_once formula s w l d k)) (λ k. omega arith) (below 0 (times d (list_of lists l))))
      (λ d k. clause_exists formula d (omega (arith, listed_size w l d k)))

  -- from the head of a literal its list is read, with any fuel for all clauses
  pub list_held : WatchesHeld formula numbers cells lists → (l fuel : ℕ) → 2 ≤ l → l ≤ 2 * v + 1 → c ≤ fuel
      → chain_from v c numbers fuel (get_or numbers (head_slot v c l) 0) ≡ list_of lists l
  list_held held l fuel low high enough =
      chain_held v c numbers formula cells l fuel (head_slot v c l) (list_of lists l) (let few = short_list l in omega arith) (held.in_lists.chains l low high)

  lists_held : WatchesHeld formula numbers cells lists → [] ∷ [] ∷ held_lists v c numbers 0 (2 * v) ≡ lists
  lists_held held =
      ext_get_or [] ([] ∷ [] ∷ held_lists v c numbers 0 (2 * v)) lists
      (omega (arith, length_lists v c numbers 0 (2 * v), w.lists_length)) at
    where
      at : (l : ℕ) → l < length ([] ∷ [] ∷ held_lists v c numbers 0 (2 * v))
          → get_or ([] ∷ [] ∷ held_lists v c numbers 0 (2 * v)) l [] ≡ list_of lists l
      at zero h = low_list 0 (omega arith)
      at (suc zero) h = low_list 1 (omega arith)
      at (suc (suc i)) h =
          let k : i < 2 * v = omega (arith, length_lists v c numbers 0 (2 * v)) in
          let same : heads_at v c + (0 + i) ≡ head_slot v c (suc (suc i)) = omega arith in
          get_or_lists v c numbers 0 (2 * v) i k
          ∙ ap (λ (j : ℕ). chain_from v c numbers (2 * c) (get_or numbers j 0)) same
          ∙ list_held held (suc (suc i)) (2 * c) (omega arith) (omega arith) (omega arith)

-- all of the run
same_run : {trail : List Entry} {cells : List Cell} {lists : List (List ℕ)} {conflict : ℕ} {checks : List ℕ} {backtracks fixed : ℕ} (run : Run)
    → trail ≡ run.trail → cells ≡ run.cells → lists ≡ run.lists → conflict ≡ run.conflict → checks ≡ run.checks
    → backtracks ≡ run.backtracks → fixed ≡ run.fixed
    → ◌≡◌ {A = Run}
    (record { trail = trail; cells = cells; lists = lists; conflict = conflict; checks = checks; backtracks = backtracks; fixed = fixed }) run
same_run run a b c d e f g = rw (a, b, c, d, e, f, g)

pub structure_held : (formula : Formula) → sound formula ≡ true → (run : Run) → Structure formula run → (numbers : List ℕ)
    → Encodes formula numbers run → held formula numbers ≡ run
unfolding held
structure_held formula s run structure numbers e =
    same_run run trail
    (cells_held v c numbers run.cells structure.watched.cells_length e.watches.firsts e.watches.seconds e.watches.pointers)
    (lists_held formula s numbers run.cells run.lists structure.watched e.watches)
    e.conflict
    (part_list numbers (checks_at v c) c (let long = e.long in omega arith) run.checks structure.counted.checks_length e.checks)
    e.backtracks
    e.fixed
  where
    v : ℕ
    v = formula.variables

    c : ℕ
    c = length formula.clauses

    short : length run.trail ≤ formula.variables
    short = trail_short structure.trailed

    trail : held_trail formula.variables numbers (get_or numbers length_at 0) ≡ run.trail
    trail =
        rw e.trail.count
        (trail_held formula.variables numbers run.trail structure.trailed.once
        (λ l h. let b = literal_parts formula.variables l (structure.trailed.within l h) in omega arith)
        (λ i h. e.trail.literals i (omega (arith, short))) (λ i h. e.trail.levels i (omega (arith, short))))

module _ (formula : Formula) (s : sound formula ≡ true) (run : Run) (valid : Valid formula run) where
  pub held_encodes : (numbers : List ℕ) → Encodes formula numbers run → held formula numbers ≡ run
  held_encodes = structure_held formula s run (valid_structure valid)

  pub held_encode : (rest : List ℕ) → held formula (encode formula run ++ rest) ≡ run
  held_encode rest = held_encodes (encode formula run ++ rest) (encode_encodes formula s run valid rest)

-- Numbers hold a run exactly if their front part is the run's encoding.
use Prim.Native.Nat.{ℕ, zero, suc, ◌+◌, ◌*◌, ◌-◌, ◌/◌, ◌%◌, ◌≤◌, ◌<◌}
use native.Mathlib.Omega.{arith}
use mathlib.Core.Bool.{true}
use mathlib.Core.List.{List, ◌++◌}
use mathlib.Core.Logic.{⊎_elim}
use mathlib.Core.Path.{◌≡◌, refl, sym, ap, ◌∙◌}
use borrow.Author.Tests.{eq-eqb, ne_eqb, lt-leb}
use lib.ListN.{length, get_or, take, drop, length-append, take-append-drop}
use lib.Seq.{take_at}
use Rattle.base.specs.Lists.{table, times}
use Rattle.base.proofs.Bools.{alike, below}
use Rattle.book.specs.Formula.{Formula, sound}
use Rattle.run.specs.Trail.{literal_at, decisions}
use Rattle.run.specs.Scan.{Cell}
use Rattle.run.specs.Run.{Run, size, list_of, cell_at}
use Rattle.run.specs.Valid.{Valid}
use Rattle.run.proofs.Clauses.{clause_exists}
use Rattle.book.proofs.SoundLaws.{literal_parts}
use Rattle.run.specs.Progress.{Watched}
use Rattle.run.proofs.WatchLists.{listed_size, listed_once}
use Rattle.run.proofs.Propagation.{valid_structure}
use Rattle.layout.specs.Layout.{length_at, decisions_at, conflict_at, backtracks_at, fixed_at, trail_at, levels_at, values_at, heads_at, watches_at, pointers_at, links_at, checks_at, required_length, value_number, level_number, watch_literal, node_of, head_number, link_number, watch_number, encode, head_slot, link_slot, clause_of_node}
use Rattle.layout.specs.Encodes.{Chain, nodes_of, Encodes}
use Rattle.base.proofs.Tables.{length-table, length-table-append, part_table, table_part, table_joined, table_split}
use Rattle.layout.proofs.ChainLaws.{node_positive, node_within, AtNode, at_node, node_link, chain_head, chain_link, chain_built}

-- the numbers of the header
abbrev header_number : Run → ℕ → ℕ
header_number run zero = length run.trail
header_number run (suc zero) = length (decisions run.trail)
header_number run (suc (suc zero)) = run.conflict
header_number run (suc (suc (suc zero))) = run.backtracks
header_number run (suc (suc (suc (suc i)))) = run.fixed

-- the encoding from each part on
module _ (formula : Formula) (run : Run) where
  abbrev v : ℕ
  v = formula.variables

  abbrev c : ℕ
  c = length formula.clauses

  abbrev from_links : List ℕ
  from_links = table (2 * c) (λ (i : ℕ). link_number formula run.cells run.lists (suc i))

  abbrev from_heads : List ℕ
  from_heads = table (2 * v) (λ (i : ℕ). head_number formula run.cells run.lists (i + 2)) ++ from_links

  abbrev from_checks : List ℕ
  from_checks = table c (λ (i : ℕ). get_or run.checks i 0) ++ from_heads

  abbrev from_pointers : List ℕ
  from_pointers = table c (λ (i : ℕ). (cell_at run.cells i).pointer) ++ from_checks

  abbrev from_watches : List ℕ
  from_watches = table (2 * c) (watch_number run.cells) ++ from_pointers

  abbrev from_values : List ℕ
  from_values = table v (λ (i : ℕ). value_number run.trail (suc i)) ++ from_watches

  abbrev from_levels : List ℕ
  from_levels = table v (λ (i : ℕ). level_number run.trail (suc i)) ++ from_values

  abbrev from_trail : List ℕ
  from_trail = table v (λ (i : ℕ). literal_at run.trail (suc i)) ++ from_levels

  encode_parts : encode formula run ≡ table trail_at (header_number run) ++ from_trail
  unfolding encode table
  encode_parts = refl

  pub length_encode : length (encode formula run) ≡ required_length formula.variables (length formula.clauses)
  length_encode =
      ap length encode_parts
      ∙ length-table-append trail_at (header_number run) from_trail (v + (v + (v + (2 * c + (c + (c + (2 * v + 2 * c)))))))
      (length-table-append v _ from_levels _
      (length-table-append v _ from_values _
      (length-table-append v _ from_watches _
      (length-table-append (2 * c) _ from_pointers _
      (length-table-append c _ from_checks _
      (length-table-append c _ from_heads _ (length-table-append (2 * v) _ from_links _ (length-table (2 * c) _))))))))
      ∙ omega arith

-- the numbers of each part, one by one
record Parts (formula : Formula) (numbers : List ℕ) (run : Run) : Type 0 where
  pub header : (i : ℕ) → i < trail_at → get_or numbers (0 + i) 0 ≡ header_number run i
  pub literals : (i : ℕ) → i < formula.variables → get_or numbers (trail_at + i) 0 ≡ literal_at run.trail (suc i)
  pub levels : (i : ℕ) → i < formula.variables → get_or numbers (levels_at formula.variables + i) 0 ≡ level_number run.trail (suc i)
  pub values : (i : ℕ) → i < formula.variables → get_or numbers (values_at formula.variables + i) 0 ≡ value_number run.trail (suc i)
  pub watches : (i : ℕ) → i < 2 * length formula.clauses
      → get_or numbers (watches_at formula.variables + i) 0 ≡ watch_number run.cells i
  pub pointers : (i : ℕ) → i < length formula.clauses
      → get_or numbers (pointers_at formula.variables (length formula.clauses) + i) 0 ≡ (cell_at run.cells i).pointer
  pub checks : (i : ℕ) → i < length formula.clauses
      → get_or numbers (checks_at formula.variables (length formula.clauses) + i) 0 ≡ get_or run.checks i 0
  pub heads : (i : ℕ) → i < 2 * formula.variables
      → get_or numbers (heads_at formula.variables (length formula.clauses) + i) 0 ≡ head_number formula run.cells run.lists (i + 2)
  pub links : (i : ℕ) → i < 2 * length formula.clauses
      → get_or numbers (links_at formula.variables (length formula.clauses) + i) 0 ≡ link_number formula run.cells run.lists (suc i)

-- they make up the encoding, and the encoding has them
module _ (formula : Formula) (run : Run) (numbers : List ℕ) (long : required_length formula.variables (length formula.clauses) ≤ length numbers) where
  abbrev vs : ℕ
  vs = formula.variables

  abbrev cs : ℕ
  cs = length formula.clauses

  parts_encode : Parts formula numbers run → take (required_length formula.variables (length formula.clauses)) numbers ≡ encode formula run
  parts_encode p =
      table_joined numbers 0 trail_at (5 * vs + 6 * cs) (required_length vs cs) trail_at (header_number run) (from_trail formula run) (omega arith) (omega arith) (omega arith) p.header
      (table_joined numbers trail_at vs (4 * vs + 6 * cs) (5 * vs + 6 * cs) (levels_at vs) _ (from_levels formula run) (omega arith) (omega arith) (omega arith) p.literals
      (table_joined numbers (levels_at vs) vs (3 * vs + 6 * cs) (4 * vs + 6 * cs) (values_at vs) _ (from_values formula run) (omega arith) (omega arith) (omega arith) p.levels
      (table_joined numbers (values_at vs) vs (2 * vs + 6 * cs) (3 * vs + 6 * cs) (watches_at vs) _ (from_watches formula run) (omega arith) (omega arith) (omega arith) p.values
      (table_joined numbers (watches_at vs) (2 * cs) (2 * vs + 4 * cs) (2 * vs + 6 * cs) (pointers_at vs cs) _ (from_pointers formula run) (omega arith) (omega arith) (omega arith) p.watches
      (table_joined numbers (pointers_at vs cs) cs (2 * vs + 3 * cs) (2 * vs + 4 * cs) (checks_at vs cs) _ (from_checks formula run) (omega arith) (omega arith) (omega arith) p.pointers
      (table_joined numbers (checks_at vs cs) cs (2 * vs + 2 * cs) (2 * vs + 3 * cs) (heads_at vs cs) _ (from_heads formula run) (omega arith) (omega arith) (omega arith) p.checks
      (table_joined numbers (heads_at vs cs) (2 * vs) (2 * cs) (2 * vs + 2 * cs) (links_at vs cs) _ (from_links formula run) (omega arith) (omega arith) (omega arith) p.heads
      (part_table numbers (links_at vs cs) (2 * cs) (omega arith) _ p.links))))))))
      ∙ sym (encode_parts formula run)

  encode_has : take (required_length formula.variables (length formula.clauses)) numbers ≡ encode formula run → Parts formula numbers run
  encode_has e =
      let a = table_split numbers 0 trail_at (5 * vs + 6 * cs) (required_length vs cs) trail_at (header_number run) (from_trail formula run) (omega arith) (omega arith) (omega arith) (e ∙ encode_parts formula run) in
      let b = table_split numbers trail_at vs (4 * vs + 6 * cs) (5 * vs + 6 * cs) (levels_at vs) _ (from_levels formula run) (omega arith) (omega arith) (omega arith) a.1 in
      let d = table_split numbers (levels_at vs) vs (3 * vs + 6 * cs) (4 * vs + 6 * cs) (values_at vs) _ (from_values formula run) (omega arith) (omega arith) (omega arith) b.1 in
      let f = table_split numbers (values_at vs) vs (2 * vs + 6 * cs) (3 * vs + 6 * cs) (watches_at vs) _ (from_watches formula run) (omega arith) (omega arith) (omega arith) d.1 in
      let g = table_split numbers (watches_at vs) (2 * cs) (2 * vs + 4 * cs) (2 * vs + 6 * cs) (pointers_at vs cs) _ (from_pointers formula run) (omega arith) (omega arith) (omega arith) f.1 in
      let h = table_split numbers (pointers_at vs cs) cs (2 * vs + 3 * cs) (2 * vs + 4 * cs) (checks_at vs cs) _ (from_checks formula run) (omega arith) (omega arith) (omega arith) g.1 in
      let i = table_split numbers (checks_at vs cs) cs (2 * vs + 2 * cs) (2 * vs + 3 * cs) (heads_at vs cs) _ (from_heads formula run) (omega arith) (omega arith) (omega arith) h.1 in
      let j = table_split numbers (heads_at vs cs) (2 * vs) (2 * cs) (2 * vs + 2 * cs) (links_at vs cs) _ (from_links formula run) (omega arith) (omega arith) (omega arith) i.1 in
      record {
        header = a.0;
        literals = b.0;
        levels = d.0;
        values = f.0;
        watches = g.0;
        pointers = h.0;
        checks = i.0;
        heads = j.0;
        links = table_part numbers (links_at vs cs) (2 * cs) (omega arith) _ j.1;
      }

watch_even : (cells : List Cell) (i : ℕ) → i % 2 ≡ 0 → watch_number cells i ≡ (cell_at cells (i / 2)).first
unfolding watch_number
watch_even cells i e = rw (eq-eqb (i % 2) 0 e)

watch_odd : (cells : List Cell) (i : ℕ) → (i % 2 ≡ 0 → ⊥) → watch_number cells i ≡ (cell_at cells (i / 2)).second
unfolding watch_number
watch_odd cells i n = rw (ne_eqb (i % 2) 0 n)

link_none : (formula : Formula) (cells : List Cell) (lists : List (List ℕ)) (node : ℕ) → size formula (clause_of_node node) < 2
    → link_number formula cells lists node ≡ 0
unfolding link_number
link_none formula cells lists node h = rw (lt-leb 2 (size formula (clause_of_node node)) h)

-- The relation of the private contracts says the same of every part, for a run with a sound watch structure.
module _ (formula : Formula) (s : sound formula ≡ true) (run : Run) (w : Watched formula run.cells run.lists) (numbers : List ℕ) where
  abbrev at : ℕ → ℕ
  at k = get_or numbers k 0

  encodes_parts : Encodes formula numbers run → Parts formula numbers run
  unfolding head_number
  encodes_parts e =
      record {
        header = header;
        literals = e.trail.literals;
        levels = e.trail.levels;
        values = e.trail.values;
        heads = heads;
        watches = λ i h. ⊎_elim (even i h) (odd i h) (alike (i % 2) 0);
        pointers = e.watches.pointers;
        links = λ i h. ⊎_elim (idle i h) (linked i h) (below (size formula (i / 2)) 2);
        checks = e.checks;
      }
    where
      header : (i : ℕ) → i < trail_at → at (0 + i) ≡ header_number run i
      header zero h = e.trail.count
      header (suc zero) h = e.trail.decided
      header (suc (suc zero)) h = e.conflict
      header (suc (suc (suc zero))) h = e.backtracks
      header (suc (suc (suc (suc zero)))) h = e.fixed
      header (suc (suc (suc (suc (suc i))))) h = absurd (omega arith)

      heads : (i : ℕ) → i < 2 * formula.variables
          → at (heads_at formula.variables (length formula.clauses) + i) ≡ head_number formula run.cells run.lists (i + 2)
      heads i h =
          let same : heads_at formula.variables (length formula.clauses) + i ≡ head_slot formula.variables (length formula.clauses) (i + 2) = omega arith in
          ap at same
          ∙ chain_head formula run.cells (i + 2) formula.variables (length formula.clauses) numbers (head_slot formula.variables (length formula.clauses) (i + 2))
          (list_of run.lists (i + 2)) (e.watches.in_lists.chains (i + 2) (omega arith) (omega arith))

      even : (i : ℕ) → i < 2 * length formula.clauses → i % 2 ≡ 0 → at (watches_at formula.variables + i) ≡ watch_number run.cells i
      even i h z =
          let same : watches_at formula.variables + i ≡ watches_at formula.variables + 2 * (i / 2) = omega arith in
          ap at same ∙ e.watches.firsts (i / 2) (omega arith) ∙ sym (watch_even run.cells i z)

      odd : (i : ℕ) → i < 2 * length formula.clauses → (i % 2 ≡ 0 → ⊥)
          → at (watches_at formula.variables + i) ≡ watch_number run.cells i
      odd i h n =
          let same : watches_at formula.variables + i ≡ watches_at formula.variables + 2 * (i / 2) + 1 = omega arith in
          ap at same ∙ e.watches.seconds (i / 2) (omega arith) ∙ sym (watch_odd run.cells i n)

      idle : (i : ℕ) → i < 2 * length formula.clauses → size formula (i / 2) < 2
          → at (links_at formula.variables (length formula.clauses) + i) ≡ link_number formula run.cells run.lists (suc i)
      idle i h few =
          let back : suc i - 1 ≡ i = omega arith in
          let small : size formula (clause_of_node (suc i)) < 2 = rw back few in
          let same : links_at formula.variables (length formula.clauses) + i ≡ link_slot formula.variables (length formula.clauses) (suc i)
          = omega arith in
          ap at same ∙ e.watches.in_lists.idle (suc i) (omega arith) (omega arith) small
          ∙ sym (link_none formula run.cells run.lists (suc i) small)

      linked : (i : ℕ) → i < 2 * length formula.clauses → 2 ≤ size formula (i / 2)
          → at (links_at formula.variables (length formula.clauses) + i) ≡ link_number formula run.cells run.lists (suc i)
      linked i h two =
          let back : suc i - 1 ≡ i = omega arith in
          let node : AtNode formula run.cells run.lists (suc i)
          = at_node formula s run.cells run.lists w (suc i) (omega arith) (rw back two) in
          let bounds = literal_parts formula.variables (watch_literal formula run.cells (suc i)) node.within in
          let same : links_at formula.variables (length formula.clauses) + i ≡ link_slot formula.variables (length formula.clauses) (suc i)
          = omega arith in
          ap at same
          ∙ ap (λ (k : ℕ). at (link_slot formula.variables (length formula.clauses) k)) (sym node.is_node)
          ∙ chain_link formula run.cells (watch_literal formula run.cells (suc i)) formula.variables (length formula.clauses) numbers
          (head_slot formula.variables (length formula.clauses) (watch_literal formula run.cells (suc i)))
          (list_of run.lists (watch_literal formula run.cells (suc i)))
          (e.watches.in_lists.chains (watch_literal formula run.cells (suc i)) bounds.0 bounds.1)
          (clause_of_node (suc i)) node.stands_there
          ∙ sym (node_link formula s run.cells run.lists w (watch_literal formula run.cells (suc i)) (clause_of_node (suc i)) node.stands_there)
          ∙ ap (link_number formula run.cells run.lists) node.is_node

  parts_encodes : required_length formula.variables (length formula.clauses) ≤ length numbers → Parts formula numbers run → Encodes formula numbers run
  unfolding head_number
  parts_encodes long p =
      record {
        long = long;
        trail =
            record {
              count = p.header length_at (omega arith);
              decided = p.header decisions_at (omega arith);
              literals = p.literals;
              levels = p.levels;
              values = p.values;
            };
        conflict = p.header conflict_at (omega arith);
        backtracks = p.header backtracks_at (omega arith);
        fixed = p.header fixed_at (omega arith);
        watches =
            record { firsts = firsts; seconds = seconds; pointers = p.pointers; in_lists = record { chains = chains; idle = idle } };
        checks = p.checks;
      }
    where
      firsts : (c : ℕ) → c < length formula.clauses → at (watches_at formula.variables + 2 * c) ≡ (cell_at run.cells c).first
      firsts c h =
          let half : 2 * c / 2 ≡ c = omega arith in
          p.watches (2 * c) (omega arith) ∙ watch_even run.cells (2 * c) (omega arith)
          ∙ ap (λ (k : ℕ). (cell_at run.cells k).first) half

      seconds : (c : ℕ) → c < length formula.clauses → at (watches_at formula.variables + 2 * c + 1) ≡ (cell_at run.cells c).second
      seconds c h =
          let half : (2 * c + 1) / 2 ≡ c = omega arith in
          let same : watches_at formula.variables + 2 * c + 1 ≡ watches_at formula.variables + (2 * c + 1) = omega arith in
          ap at same ∙ p.watches (2 * c + 1) (omega arith) ∙ watch_odd run.cells (2 * c + 1) (λ z. omega arith)
          ∙ ap (λ (k : ℕ). (cell_at run.cells k).second) half

      link_at : (node : ℕ) → 1 ≤ node → node ≤ 2 * length formula.clauses
          → at (link_slot formula.variables (length formula.clauses) node) ≡ link_number formula run.cells run.lists node
      link_at node low high =
          let back : suc (node - 1) ≡ node = omega arith in
          p.links (node - 1) (omega arith) ∙ ap (link_number formula run.cells run.lists) back

      idle : (node : ℕ) → 1 ≤ node → node ≤ 2 * length formula.clauses → size formula (clause_of_node node) < 2
          → at (link_slot formula.variables (length formula.clauses) node) ≡ 0
      idle node low high few = link_at node low high ∙ link_none formula run.cells run.lists node few

      chains : (l : ℕ) → 2 ≤ l → l ≤ 2 * formula.variables + 1
          → Chain formula.variables (length formula.clauses) numbers (head_slot formula.variables (length formula.clauses) l)
          (nodes_of formula run.cells l (list_of run.lists l))
      chains l low high =
          let back : l - 2 + 2 ≡ l = omega arith in
          chain_built formula run.cells l formula.variables (length formula.clauses) numbers (head_slot formula.variables (length formula.clauses) l)
          (list_of run.lists l)
          (λ c. ⊎_elim (λ h. omega (arith, listed_once formula s w l c h)) (λ h. omega arith) (below 0 (times c (list_of run.lists l))))
          (p.heads (l - 2) (omega arith) ∙ ap (head_number formula run.cells run.lists) back)
          (λ c h.
          let exists : c < length formula.clauses = clause_exists formula c (omega (arith, listed_size w l c h)) in
          link_at (node_of formula run.cells l c) (node_positive formula run.cells l c)
          (node_within formula run.cells l c (length formula.clauses) exists)
          ∙ node_link formula s run.cells run.lists w l c h)

  -- The front part of numbers that hold a run is its encoding, and numbers with that front part hold it.
  pub watched_encode : Encodes formula numbers run → take (required_length formula.variables (length formula.clauses)) numbers ≡ encode formula run
  watched_encode e = parts_encode formula run numbers e.long (encodes_parts e)

  pub watched_encodes : required_length formula.variables (length formula.clauses) ≤ length numbers → take (required_length formula.variables (length formula.clauses)) numbers ≡ encode formula run
      → Encodes formula numbers run
  watched_encodes long e = parts_encodes long (encode_has formula run numbers long e)

-- the same of a valid run
module _ (formula : Formula) (s : sound formula ≡ true) (run : Run) (valid : Valid formula run) where
  pub encodes_encode : (numbers : List ℕ) → Encodes formula numbers run → take (required_length formula.variables (length formula.clauses)) numbers ≡ encode formula run
  encodes_encode numbers = watched_encode formula s run (valid_structure valid).watched numbers

  -- all of the numbers: the encoding, and what lies behind it
  pub encodes_whole : (numbers : List ℕ) → Encodes formula numbers run → numbers ≡ encode formula run ++ drop (required_length formula.variables (length formula.clauses)) numbers
  encodes_whole numbers e =
      sym (take-append-drop (required_length formula.variables (length formula.clauses)) numbers)
      ∙ ap (λ (front : List ℕ). front ++ drop (required_length formula.variables (length formula.clauses)) numbers) (encodes_encode numbers e)

  pub encoded_encodes : (numbers : List ℕ) → required_length formula.variables (length formula.clauses) ≤ length numbers → take (required_length formula.variables (length formula.clauses)) numbers ≡ encode formula run
      → Encodes formula numbers run
  encoded_encodes numbers = watched_encodes formula s run (valid_structure valid).watched numbers

  pub encode_encodes : (rest : List ℕ) → Encodes formula (encode formula run ++ rest) run
  encode_encodes rest =
      encoded_encodes (encode formula run ++ rest)
      (rw (length-append (encode formula run) rest, length_encode formula run) (omega arith))
      (take_at (encode formula run) rest (required_length formula.variables (length formula.clauses)) (length_encode formula run))

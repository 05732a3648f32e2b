-- The validation of heads and links: the literal of a node, the walk along one list, the loop over the literals.
use Rattle.std.specs.Prelude.{Some, None}
use Prim.Native.Nat.{ℕ, ◌+◌, ◌*◌, ◌%◌, ◌≤◌, ◌<◌}
use native.Mathlib.Omega.{arith}
use mathlib.Core.Bool.{Bool, true, false, not}
use mathlib.Core.List.{List, [], ◌∷◌, ◌++◌}
use mathlib.Core.Logic.{⊎_elim}
use mathlib.Core.Path.{◌≡◌, refl, sym, ap, ap₂, ◌∙◌}
use borrow.Author.Tests.{le-leb, lt-leb, eq-eqb, ne_eqb}
use lib.ListN.{length, get_or, set, length-set}
use lib.Seq.{get_or-set_same, get_or-set_other}
use Rattle.base.specs.Lists.{times}
use Rattle.base.proofs.Bools.{alike, below, never}
use Rattle.base.proofs.Members.{times-same, times_other}
use Rattle.book.specs.Formula.{max_clauses}
use Rattle.book.specs.Numbers.{variables_of, clauses_of, clause_at, formula_of}
use Rattle.book.proofs.PartLaws.{clauses_counted, clause_of_formula}
use Rattle.std.specs.List.{sum_by}
use Rattle.std.proofs.lemmas.List.Sums.{sum_by-set}
use Rattle.run.specs.Valid.{one}
use Rattle.run.specs.Run.{clause_of, size, cell_at}
use Rattle.layout.specs.Layout.{watches_at, watch_literal, held, head_slot, link_slot, clause_of_node, watch_slot}
use Rattle.layout.specs.Encodes.{Chain, end_slot}
use Rattle.validation.specs.Inner.Lists.{owner_in, Looking, ListGood, node_marks, ListMarked, ListSays, Met, AllSays}
use Rattle.layout.proofs.ChainLaws.{end_slot_more}
use Rattle.validation.proofs.cells.Laws.{held_cell_lem, size_is}
use Rattle.validation.proofs.places.Laws.{Room}
use Rattle.base.proofs.Occurrences.{times-append}

-- the room of the book in the session that is looked at
pub room : {book numbers : List ℕ} {variables clauses : ℕ} → Looking book numbers → variables ≡ variables_of book → clauses ≡ clauses_of book
    → Room book numbers variables clauses
room k e f = record { variables_are = e; clauses_are = f; fits = k.fits }

-- the literal of a node
module _ (book numbers : List ℕ) (k : Looking book numbers) (node : ℕ) (low : 1 ≤ node) (high : node ≤ 2 * clauses_of book) where
  abbrev clause-read : List ℕ
  clause-read = clause_at book (clause_of_node node)

  abbrev position : ℕ
  position = get_or numbers (watch_slot (variables_of book) node) 0

  inside : clause_of_node node < clauses_of book
  inside = omega arith

  size-read : size (formula_of book) (clause_of_node node) ≡ length clause-read
  size-read = size_is book (clause_of_node node) inside

  pub owner_none : length clause-read < 2 → owner_in book numbers node ≡ None
  unfolding owner_in
  owner_none h = rw (lt-leb 2 (size (formula_of book) (clause_of_node node)) (rw size-read h))

  module _ (two : 2 ≤ length clause-read) where
    big : 2 ≤ size (formula_of book) (clause_of_node node)
    big = rw size-read two

    -- the watch that the node is of
    watch-read : (position < size (formula_of book) (clause_of_node node))
        × (watch_literal (formula_of book) (held (formula_of book) numbers).cells node ≡ get_or (clause_of (formula_of book) (clause_of_node node)) position 0)
    unfolding watch_literal
    watch-read = ⊎_elim odd even (alike (node % 2) 1)
      where
        within : clause_of_node node < length (formula_of book).clauses
        within = let z = inside in omega (arith, clauses_counted book)

        odd : node % 2 ≡ 1
            → (position < size (formula_of book) (clause_of_node node))
            × (watch_literal (formula_of book) (held (formula_of book) numbers).cells node ≡ get_or (clause_of (formula_of book) (clause_of_node node)) position 0)
        odd o =
            let at : watch_slot (variables_of book) node ≡ watches_at (variables_of book) + 2 * clause_of_node node = omega arith in
            let first : position ≡ (cell_at (held (formula_of book) numbers).cells (clause_of_node node)).first
            = ap (λ (x : ℕ). get_or numbers x 0) at ∙ sym (ap (λ x. x.first) (held_cell_lem (formula_of book) numbers (clause_of_node node) within)) in
            (rw first (k.cells.watching (clause_of_node node) big).first_within, rw (eq-eqb (node % 2) 1 o, first))

        even : (node % 2 ≡ 1 → ⊥)
            → (position < size (formula_of book) (clause_of_node node))
            × (watch_literal (formula_of book) (held (formula_of book) numbers).cells node ≡ get_or (clause_of (formula_of book) (clause_of_node node)) position 0)
        even o =
            let at : watch_slot (variables_of book) node ≡ watches_at (variables_of book) + 2 * clause_of_node node + 1 = omega arith in
            let second : position ≡ (cell_at (held (formula_of book) numbers).cells (clause_of_node node)).second
            = ap (λ (x : ℕ). get_or numbers x 0) at ∙ sym (ap (λ x. x.second) (held_cell_lem (formula_of book) numbers (clause_of_node node) within)) in
            (rw second (k.cells.watching (clause_of_node node) big).second_within, rw (ne_eqb (node % 2) 1 o, second))

    pub position_within : position < length clause-read
    position_within = rw size-read at watch-read.0

    pub owner_some : owner_in book numbers node ≡ Some (get_or clause-read position 0)
    unfolding owner_in
    owner_some =
        rw (le-leb 2 (size (formula_of book) (clause_of_node node)) big)
        (ap Some (watch-read.1 ∙ ap (λ (xs : List ℕ). get_or xs position 0) (clause_of_formula book (clause_of_node node) inside)))

unmarked_is : {b : Bool} → one b ≡ 0 → b ≡ false
unmarked_is {b = false} e = refl
unmarked_is {b = true} e = absurd (omega arith)

-- one mark more
abbrev pub unmarked : Bool → ℕ
unmarked m = one (not m)

pub marks_fewer : (marks : List Bool) (node : ℕ) → node < length marks → get_or marks node false ≡ false
    → sum_by unmarked (set marks node true) < sum_by unmarked marks
marks_fewer marks node h e = omega (arith, sum_by-set unmarked marks node true false h, ap unmarked e)

-- the first nodes of a chain
abbrev Upto : ℕ → ℕ → List ℕ → ℕ → List ℕ → Type 0
Upto v c numbers slot [] = Unit
Upto v c numbers slot (n ∷ nodes) = (get_or numbers slot 0 ≡ n) × Upto v c numbers (link_slot v c n) nodes

module _ (v c : ℕ) (numbers : List ℕ) where
  upto-more : (slot : ℕ) (nodes : List ℕ) (n : ℕ) → Upto v c numbers slot nodes → get_or numbers (end_slot v c slot nodes) 0 ≡ n
      → Upto v c numbers slot (nodes ++ (n ∷ []))
  upto-more slot [] n u e = (e, tt)
  upto-more slot (m ∷ nodes) n u e = (u.0, upto-more (link_slot v c m) nodes n u.1 e)

  upto_chain : (slot : ℕ) (nodes : List ℕ) → Upto v c numbers slot nodes → get_or numbers (end_slot v c slot nodes) 0 ≡ 0
      → Chain v c numbers slot nodes
  upto_chain slot [] u e = e
  upto_chain slot (m ∷ nodes) u e = (u.0, upto_chain (link_slot v c m) nodes u.1 e)

  -- a chain goes on from its first nodes
  chain_goes_on : (slot : ℕ) (nodes passed : List ℕ) → Chain v c numbers slot nodes → Upto v c numbers slot passed
      → ((n : ℕ) → 0 < times n passed → 1 ≤ n)
      → (rest : List ℕ) × (nodes ≡ passed ++ rest) × Chain v c numbers (end_slot v c slot passed) rest
  chain_goes_on slot nodes [] ch u low = (nodes, refl, ch)
  chain_goes_on slot [] (m ∷ passed) ch u low = absurd (let z = low m (omega (arith, times-same m passed)) in omega (arith, ch, u.0))
  chain_goes_on slot (n ∷ nodes) (m ∷ passed) ch u low =
      let same : n ≡ m = sym ch.0 ∙ u.0 in
      let more = chain_goes_on (link_slot v c m) nodes passed (rw same at ch.1) u.1 (λ x h. low x (deeper x h)) in
      (more.0, ap₂ ◌∷◌ same more.1, more.2)
    where
      deeper : (x : ℕ) → 0 < times x passed → 0 < times x (m ∷ passed)
      deeper x h = ⊎_elim (λ e. rw e (omega (arith, times-same m passed))) (λ n. omega (arith, times_other x m passed n)) (alike x m)

-- the walk along the list of l: some nodes are passed and marked, and `node` is next
pub record ListWalk (book numbers : List ℕ) (before marks : List Bool) (l node : ℕ) : Type 0 where
  pub long : length marks ≡ node_marks
  pub passed : List ℕ
  pub upto : Upto (variables_of book) (clauses_of book) numbers (head_slot (variables_of book) (clauses_of book) l) passed
  pub next : get_or numbers (end_slot (variables_of book) (clauses_of book) (head_slot (variables_of book) (clauses_of book) l) passed) 0 ≡ node
  pub once : (n : ℕ) → times n passed ≤ 1
  pub owned : (n : ℕ) → 0 < times n passed → (1 ≤ n) × (n ≤ 2 * clauses_of book) × (owner_in book numbers n ≡ Some l)
  pub marked : (n : ℕ) → one (get_or marks n false) ≡ one (get_or before n false) + times n passed

module _ (book numbers : List ℕ) (before : List Bool) (l : ℕ) where
  pub walking_start : (head : ℕ) → length before ≡ node_marks → head ≡ head_slot (variables_of book) (clauses_of book) l → ListWalk book numbers before before l (get_or numbers head 0)
  unfolding times
  walking_start head long e =
      record {
        long = long;
        passed = [];
        upto = tt;
        next = rw e;
        once = λ n. omega arith;
        owned = λ n h. absurd (omega arith);
        marked = λ n. omega arith;
      }

  module _ (marks : List Bool) (node : ℕ) (w : ListWalk book numbers before marks l node) where
    pub walking_end : node ≡ 0 → ListSays book numbers before marks l true
    walking_end e =
        record {
          yes =
              λ r.
              record {
                good =
                    record {
                      nodes = w.passed;
                      chain =
                          upto_chain (variables_of book) (clauses_of book) numbers (head_slot (variables_of book) (clauses_of book) l) w.passed w.upto (w.next ∙ e);
                      once = w.once;
                      owned = w.owned;
                    };
                marked = w.marked;
              };
          no = λ r. absurd (never refl r);
        }

    module _ (clean : (n : ℕ) → owner_in book numbers n ≡ Some l → get_or before n false ≡ false) (some : node ≡ 0 → ⊥) where
      -- what a good list says of the next node
      next-good : ListGood book numbers l → (1 ≤ node) × (node ≤ 2 * clauses_of book) × (owner_in book numbers node ≡ Some l) × (get_or marks node false ≡ false)
      next-good good =
          go
          (chain_goes_on (variables_of book) (clauses_of book) numbers (head_slot (variables_of book) (clauses_of book) l) good.nodes w.passed good.chain w.upto
          (λ n h. (w.owned n h).0))
        where
          go : (rest : List ℕ) × (good.nodes ≡ w.passed ++ rest)
              × Chain (variables_of book) (clauses_of book) numbers (end_slot (variables_of book) (clauses_of book) (head_slot (variables_of book) (clauses_of book) l) w.passed) rest
              → (1 ≤ node) × (node ≤ 2 * clauses_of book) × (owner_in book numbers node ≡ Some l) × (get_or marks node false ≡ false)
          go ([], same, ch) = absurd (some (sym w.next ∙ ch))
          go (x ∷ rest, same, ch) =
              let is : x ≡ node = sym ch.0 ∙ w.next in
              let count : times node good.nodes ≡ times node w.passed + times node (node ∷ rest)
              = ap (times node) (same ∙ ap (λ (y : ℕ). w.passed ++ (y ∷ rest)) is) ∙ times-append node w.passed (node ∷ rest) in
              let there : 0 < times node good.nodes = omega (arith, times-same node rest) in
              let own = good.owned node there in
              let none : times node w.passed ≡ 0 = omega (arith, times-same node rest, good.once node) in
              (own.0, own.1, own.2, unmarked_is (omega (arith, w.marked node, ap one (clean node own.2))))

      pub walking_stops : (node ≤ 2 * clauses_of book → owner_in book numbers node ≡ Some l → get_or marks node false ≡ false → ⊥)
          → ListSays book numbers before marks l false
      walking_stops bad =
          record { yes = λ r. absurd (never r refl); no = λ r good. let next = next-good good in bad next.1 next.2 next.3 }

      pub list_walk_more : (link : ℕ) → node ≤ 2 * clauses_of book → clauses_of book ≤ max_clauses → owner_in book numbers node ≡ Some l → get_or marks node false ≡ false
          → link ≡ link_slot (variables_of book) (clauses_of book) node → ListWalk book numbers before (set marks node true) l (get_or numbers link 0)
      unfolding times
      list_walk_more link high few own unmarked link-is =
          record {
            long = length-set marks node true ∙ w.long;
            passed = w.passed ++ (node ∷ []);
            upto = upto-more (variables_of book) (clauses_of book) numbers (head_slot (variables_of book) (clauses_of book) l) w.passed node w.upto w.next;
            next =
                rw (end_slot_more (variables_of book) (clauses_of book) (head_slot (variables_of book) (clauses_of book) l) w.passed node, link-is);
            once = λ n. ⊎_elim (λ e. rw e (omega (arith, more-here, none))) (λ e. omega (arith, more-other n e, w.once n)) (alike n node);
            owned =
                λ n h. ⊎_elim (λ e. rw e (low, high, own)) (λ e. w.owned n (let z = more-other n e in omega arith)) (alike n node);
            marked = λ n. ⊎_elim (mark-here n) (mark-other n) (alike n node);
          }
        where
          low : 1 ≤ node
          low = ⊎_elim (λ z. absurd (some (omega arith))) (λ z. z) (below node 1)

          none : times node w.passed ≡ 0
          none = omega (arith, w.marked node, ap one unmarked, ap one (clean node own))

          more-here : times node (w.passed ++ (node ∷ [])) ≡ times node w.passed + 1
          more-here = times-append node w.passed (node ∷ []) ∙ ap (λ (x : ℕ). times node w.passed + x) (times-same node [])

          more-other : (n : ℕ) → (n ≡ node → ⊥) → times n (w.passed ++ (node ∷ [])) ≡ times n w.passed
          more-other n e = times-append n w.passed (node ∷ []) ∙ (omega (arith, times_other n node [] e))

          mark-here : (n : ℕ) → n ≡ node → one (get_or (set marks node true) n false) ≡ one (get_or before n false) + times n (w.passed ++ (node ∷ []))
          mark-here n e =
              let there : node < length marks = omega (arith, w.long) in
              rw (e, get_or-set_same marks node true false there, more-here, none, clean node own)

          mark-other : (n : ℕ) → (n ≡ node → ⊥) → one (get_or (set marks node true) n false) ≡ one (get_or before n false) + times n (w.passed ++ (node ∷ []))
          mark-other n e = rw (get_or-set_other marks node n true false e, more-other n e) (w.marked n)

-- the loop over the literals: the lists of those below l are good, and the nodes of the others are not marked
pub record Through (book numbers : List ℕ) (marks : List Bool) (l : ℕ) : Type 0 where
  pub met : (j : ℕ) → 2 ≤ j → j < l → Met book numbers marks j
  pub clean : (n j : ℕ) → owner_in book numbers n ≡ Some j → l ≤ j → get_or marks n false ≡ false

module _ (book numbers : List ℕ) (marks : List Bool) (l : ℕ) (t : Through book numbers marks l) where
  pub through_end : 2 * variables_of book + 1 < l → AllSays book numbers marks true
  through_end h =
      record { yes = λ r j a b. t.met j a (omega arith); no = λ r. absurd (never refl r) }

  module _ (after : List Bool) where
    pub through_more : (r : Bool) → r ≡ true → ListSays book numbers marks after l r → Through book numbers after (l + 1)
    through_more r passed says =
        record {
          met = λ j a b. ⊎_elim (earlier j a) (λ h. let same : j ≡ l = omega arith in rw same now-met) (below j l);
          clean =
              λ n j own h.
              unmarked_is
              (omega (
                arith,
                (says.yes passed).marked n,
                ap one (t.clean n j own (omega arith)),
                foreign n (λ e. let same : j ≡ l = cc in omega arith),
              ));
        }
      where
        marked : ListMarked book numbers marks after l
        marked = says.yes passed

        foreign : (n : ℕ) → (owner_in book numbers n ≡ Some l → ⊥) → times n marked.good.nodes ≡ 0
        foreign n e = ⊎_elim (λ h. absurd (e (marked.good.owned n h).2)) (λ h. omega arith) (below 0 (times n marked.good.nodes))

        earlier : (j : ℕ) → 2 ≤ j → j < l → Met book numbers after j
        earlier j a h =
            let m = t.met j a h in
            record {
              good = m.good;
              exact =
                  λ n e.
                  let none = foreign n (λ z. let same : j ≡ l = cc in omega arith) in
                  let same = m.exact n e in
                  omega (arith, marked.marked n);
            }

        now-met : Met book numbers after l
        now-met =
            record { good = marked.good; exact = λ n e. let zero-before = t.clean n l e (omega arith) in omega (arith, marked.marked n, ap one zero-before) }

-- The first watches over the session's numbers: clause after clause watches positions 0 and 1 and goes to the front of two lists.
use Prim.Native.Nat.{ℕ, zero, suc, ◌+◌, ◌*◌, ◌≤◌, ◌<◌}
use native.Mathlib.Numerals.{add-one}
use native.Mathlib.Omega.{arith}
use mathlib.Core.Bool.{true, cond}
use mathlib.Core.List.{List, [], ◌∷◌, map}
use mathlib.Core.Logic.{◌⊎◌, inl, inr, ⊎_elim}
use mathlib.Core.Path.{◌≡◌, refl, sym, ap, ◌∙◌, subst}
use borrow.Author.Tests.{le-leb, lt-leb}
use lib.Dec.{leb}
use lib.ListN.{length, get_or, take, drop, replicate, length-replicate, drop_of_length-le}
use lib.Seq.{drop-cons, take_all}
use Rattle.base.specs.Lists.{times}
use Rattle.base.proofs.Lists.{get_or_alike}
use Rattle.base.proofs.Bools.{alike, below}
use Rattle.book.specs.Formula.{Formula, sound}
use Rattle.book.specs.Numbers.{variables_of, clauses_of, clause_at, formula_of, well_formed}
use Rattle.book.proofs.PartLaws.{clauses_counted, clause_of_formula}
use Rattle.book.proofs.SoundLaws.{literal_parts}
use Rattle.book.proofs.WellFormedLaws.{well_formed_sound}
use Rattle.run.specs.Trail.{place, literal_at, is_true, decisions, level}
use Rattle.run.specs.Scan.{Cell}
use Rattle.run.specs.Run.{clause_of, size, no_cell, list_of, push_front, with_watches, first_cell, watch_all, fresh, cell_at}
use Rattle.run.proofs.Clauses.{literal_within_lem}
use Rattle.run.proofs.Opening.{first_big, first_small}
use Rattle.run.proofs.WatchLists.{literals_differ}
use Rattle.layout.specs.Layout.{length_at, decisions_at, conflict_at, backtracks_at, fixed_at, trail_at, levels_at, values_at, watches_at, pointers_at, checks_at, SessionFits, required_length, value_number, level_number, node_of}
use Rattle.layout.specs.Encodes.{Encodes}
use Rattle.layout.proofs.ChainLaws.{node_between, node_first, node_second, node_same}
use Rattle.engine.specs.Engine.{SameBehind, Becomes}
use Rattle.engine.specs.Inner.Lists.{Lists, Unlisted, PushedFront, linked}
use Rattle.engine.specs.Inner.Visit.{watch_nums}
use Rattle.engine.specs.Inner.Opening.{FirstWatches, WatchedFirst}
use Rattle.engine.proofs.lists.FrameLaws.{lists_held_none, lists_kept}
use Rattle.engine.proofs.lists.PushLaws.{pushed_listed}
use Rattle.engine.proofs.visit.StoreLaws.{Turned, secondly, WatchSet, watch_set, watch_length, watch_behind, encodes_lists, lists_behind}

-- the first watches of the first n clauses
first_cell_lem : (clauses : List (List ℕ)) (n d : ℕ) → d < n → cell_at (map first_cell (take n clauses)) d ≡ first_cell (get_or clauses d [])
unfolding first_cell
first_cell_lem clauses zero d h = absurd (omega arith)
first_cell_lem [] (suc n) d h = refl
first_cell_lem (clause ∷ clauses) (suc n) zero h = refl
first_cell_lem (clause ∷ clauses) (suc n) (suc d) h = first_cell_lem clauses n d (omega arith)

no_cell_lem : (clauses : List (List ℕ)) (n d : ℕ) → n ≤ d → cell_at (map first_cell (take n clauses)) d ≡ no_cell
no_cell_lem clauses zero d h = refl
no_cell_lem [] (suc n) d h = refl
no_cell_lem (clause ∷ clauses) (suc n) zero h = absurd (omega arith)
no_cell_lem (clause ∷ clauses) (suc n) (suc d) h = no_cell_lem clauses n d (omega arith)

-- another clause has the same watches when clause c has its first ones
first_others : (clauses : List (List ℕ)) (c d : ℕ) → (d ≡ c → ⊥)
    → cell_at (map first_cell (take (suc c) clauses)) d ≡ cell_at (map first_cell (take c clauses)) d
first_others clauses c d n =
    ⊎_elim (λ h. first_cell_lem clauses (suc c) d (omega arith) ∙ sym (first_cell_lem clauses c d h))
    (λ h. no_cell_lem clauses (suc c) d (omega arith) ∙ sym (no_cell_lem clauses c d h)) (below d c)

watch_step : (clauses : List (List ℕ)) (c : ℕ) (lists whole : List (List ℕ)) → c < length clauses → watch_all c (drop c clauses) lists ≡ whole
    → watch_all (suc c) (drop (suc c) clauses)
    (cond (leb 2 (length (get_or clauses c [])))
    (push_front (push_front lists (get_or (get_or clauses c []) 0 0) c) (get_or (get_or clauses c []) 1 0) c)
    lists)
    ≡ whole
unfolding watch_all
watch_step clauses c lists whole h e = rw (drop-cons clauses c [] h) at e

-- Numbers that are 0 hold no list and no watch.
pub watches_begin : (book numbers : List ℕ) → SessionFits book numbers
    → ((i : ℕ) → i < required_length (variables_of book) (clauses_of book) → get_or numbers i 0 ≡ 0) → FirstWatches book numbers 0
unfolding times with_watches fresh decisions literal_at level_number level value_number is_true place
watches_begin book numbers fits zeros =
    let v = variables_of book in
    let n = length (formula_of book).clauses in
    let counted = clauses_counted book in
    record {
      lists = replicate (2 * variables_of book + 2) [];
      encodes =
          record {
            long = omega (arith, fits.long);
            trail =
                record {
                  count = zeros length_at (omega arith);
                  decided = zeros decisions_at (omega arith);
                  literals = λ i h. zeros (trail_at + i) (omega arith);
                  levels = λ i h. zeros (levels_at v + i) (omega arith);
                  values = λ i h. zeros (values_at v + i) (omega arith);
                };
            conflict = zeros conflict_at (omega arith);
            backtracks = zeros backtracks_at (omega arith);
            fixed = zeros fixed_at (omega arith);
            watches =
                record {
                  firsts = λ c h. zeros (watches_at v + 2 * c) (omega arith);
                  seconds = λ c h. zeros (watches_at v + 2 * c + 1) (omega arith);
                  pointers = λ c h. zeros (pointers_at v n + c) (omega arith);
                  in_lists = lists_held_none (formula_of book) numbers (2 * variables_of book + 2) (λ x a b. zeros x (omega arith));
                };
            checks = λ c h. zeros (checks_at v n + c) (omega arith) ∙ sym (get_or_alike n c 0);
          };
      orderly =
          record {
            within = λ l d h. absurd (omega (arith, nothing l d));
            once = λ l d. omega (arith, nothing l d);
            apart = λ l d m e h k z. absurd (omega (arith, nothing l d));
          };
      lists_length = length-replicate (2 * variables_of book + 2) [];
      earlier = λ l d h. absurd (omega (arith, nothing l d));
      rest = refl;
    }
  where
    nothing : (l d : ℕ) → times d (list_of (replicate (2 * variables_of book + 2) []) l) ≡ 0
    nothing l d = ap (times d) (get_or_alike {A = List ℕ} (2 * variables_of book + 2) l [])

module _ (book : List ℕ) (c : ℕ) (well : well_formed book ≡ true) (inside-book : c < clauses_of book) where
  abbrev formula : Formula
  formula = formula_of book

  abbrev before_cells : List Cell
  before_cells = map first_cell (take c (formula_of book).clauses)

  abbrev after_cells : List Cell
  after_cells = map first_cell (take (suc c) (formula_of book).clauses)

  inside : c < length formula.clauses
  inside = omega (arith, clauses_counted book)

  sound_is : sound formula ≡ true
  sound_is = well_formed_sound book well

  -- the lists before
  first_lists : {numbers : List ℕ} (k : FirstWatches book numbers c) → Lists linked (variables_of book) (clauses_of book) numbers formula before_cells k.lists
  unfolding with_watches
  first_lists k =
      record {
        variables_are = refl;
        clauses_are = clauses_counted book;
        long = omega (arith, k.encodes.long, clauses_counted book);
        many = k.lists_length;
        held = k.encodes.watches.in_lists;
        orderly = k.orderly;
      }

  -- a clause without watches leaves all as it is
  pub first_none : {numbers literals : List ℕ} → literals ≡ clause_at book c → length literals < 2 → WatchedFirst book numbers numbers c
  unfolding with_watches
  first_none {numbers} read few =
      record { same_length = refl; same_behind = refl; holds = λ k. subst (FirstWatches book numbers) (sym (add-one c)) (holds k) }
    where
      small : size formula c < 2
      small = rw (clause_of_formula book c inside-book ∙ sym read) few

      same : (d : ℕ) → cell_at after_cells d ≡ cell_at before_cells d
      same d =
          ⊎_elim
          (λ z. rw z (first_cell_lem formula.clauses (suc c) c (omega arith) ∙ first_small (clause_of formula c) small
          ∙ sym (no_cell_lem formula.clauses c c (omega arith))))
          (first_others formula.clauses c d) (alike d c)

      holds : FirstWatches book numbers c → FirstWatches book numbers (suc c)
      holds k =
          let kept = lists_kept after_cells refl (λ x a b. refl) (λ l d h. node_same formula before_cells after_cells l d (same d)) (first_lists k) in
          record {
            lists = k.lists;
            encodes =
                record {
                  long = k.encodes.long;
                  trail = k.encodes.trail;
                  conflict = k.encodes.conflict;
                  backtracks = k.encodes.backtracks;
                  fixed = k.encodes.fixed;
                  watches =
                      record {
                        firsts = λ d h. k.encodes.watches.firsts d h ∙ sym (ap (λ (x : Cell). x.first) (same d));
                        seconds = λ d h. k.encodes.watches.seconds d h ∙ sym (ap (λ (x : Cell). x.second) (same d));
                        pointers = λ d h. k.encodes.watches.pointers d h ∙ sym (ap (λ (x : Cell). x.pointer) (same d));
                        in_lists = kept.held;
                      };
                  checks = k.encodes.checks;
                };
            orderly = kept.orderly;
            lists_length = k.lists_length;
            earlier = λ l d h. omega (arith, k.earlier l d h);
            rest = rw (lt-leb 2 (size formula c) small) at (watch_step formula.clauses c k.lists (fresh formula).lists inside k.rest);
          }

  -- the stores for a clause of two literals or more: the second watch with the pointer (the first watch is 0 already), and the two nodes
  module _ (two : 2 ≤ size (formula_of book) c) (numbers : List ℕ) {stored once twice : List ℕ}
      (stored_is : stored ≡ watch_nums (variables_of book) (clauses_of book) numbers (2 * c + 2) 1)
      (first-push : PushedFront linked (variables_of book) (clauses_of book) stored once (get_or (clause_of (formula_of book) c) 0 0) (2 * c + 1))
      (second-push : PushedFront linked (variables_of book) (clauses_of book) once twice (get_or (clause_of (formula_of book) c) 1 0) (2 * c + 2)) where
    abbrev a : ℕ
    a = get_or (clause_of formula c) 0 0

    abbrev b : ℕ
    b = get_or (clause_of formula c) 1 0

    bounds : (i : ℕ) → i < size formula c → (2 ≤ get_or (clause_of formula c) i 0) × (get_or (clause_of formula c) i 0 ≤ 2 * variables_of book + 1)
    bounds i h = literal_parts (variables_of book) (get_or (clause_of formula c) i 0) (literal_within_lem formula sound_is c i h)

    now_cell : cell_at after_cells c ≡ record { first = 0; second = 1; pointer = 1 }
    now_cell = first_cell_lem formula.clauses (suc c) c (omega arith) ∙ first_big (clause_of formula c) two

    turned : Turned c (2 * c + 2) 1 (cell_at before_cells c) (cell_at after_cells c)
    turned = secondly refl (rw (no_cell_lem formula.clauses c c (omega arith)) now_cell)

    first-node : node_of formula after_cells a c ≡ 2 * c + 1
    first-node = node_first formula after_cells a c (ap (λ (x : Cell). get_or (clause_of formula c) x.first 0) now_cell)

    second-node : node_of formula after_cells b c ≡ 2 * c + 2
    second-node =
        node_second formula after_cells b c
        (λ e. literals_differ formula sound_is c 0 1 (omega arith) (omega arith) (λ z. omega arith)
        (sym (ap (λ (x : Cell). get_or (clause_of formula c) x.first 0) now_cell) ∙ e))

    module _ (k : FirstWatches book numbers c) where
      abbrev one_more_lem : List (List ℕ)
      one_more_lem = push_front k.lists a c

      abbrev two-more : List (List ℕ)
      two-more = push_front (push_front k.lists a c) b c

      set_there : WatchSet (variables_of book) (clauses_of book) formula numbers stored after_cells (with_watches before_cells k.lists (fresh formula))
      unfolding with_watches
      set_there =
          watch_set after_cells inside-book turned (first_others formula.clauses c)
          (λ l d h. node_same formula before_cells after_cells l d (first_others formula.clauses c d (λ e. let z = k.earlier l d h in omega arith)))
          (first_lists k) k.encodes stored_is

      first-free : Unlisted formula after_cells k.lists (2 * c + 1)
      first-free l d h e = let y = node_between formula after_cells l d in let z = k.earlier l d h in omega arith

      first-list : a < length k.lists
      first-list = let z = bounds 0 (omega arith) in omega (arith, k.lists_length)

      once-lists : Lists linked (variables_of book) (clauses_of book) once formula after_cells one_more_lem
      unfolding with_watches
      once-lists = first-push.lists_are c set_there.lists_are two first-node first-free

      once-encodes : Encodes formula once (with_watches after_cells one_more_lem (fresh formula))
      unfolding with_watches
      once-encodes = encodes_lists one_more_lem set_there.encodes first-push.only once-lists

      second-list : b < length one_more_lem
      second-list = let z = bounds 1 two in omega (arith, once-lists.many)

      second-free : Unlisted formula after_cells one_more_lem (2 * c + 2)
      second-free l d h e = go (pushed_listed k.lists a c l d first-list h)
        where
          go : (0 < times d (list_of k.lists l)) ⊎ ((d ≡ c) × (l ≡ a)) → ⊥
          go (inl z) = let y = node_between formula after_cells l d in let w = k.earlier l d z in omega arith
          go (inr z) =
              let f : node_of formula after_cells a c ≡ 2 * c + 2 = rw (z.0, z.1) at e in
              omega (arith, first-node)

      twice-lists : Lists linked (variables_of book) (clauses_of book) twice formula after_cells two-more
      twice-lists = second-push.lists_are c once-lists two second-node second-free

      twice-encodes : Encodes formula twice (with_watches after_cells two-more (fresh formula))
      unfolding with_watches
      twice-encodes = encodes_lists two-more once-encodes second-push.only twice-lists

      first_next : FirstWatches book twice (suc c)
      first_next =
          record {
            lists = two-more;
            encodes = twice-encodes;
            orderly = twice-lists.orderly;
            lists_length = twice-lists.many;
            earlier =
                λ l d h. ⊎_elim (λ z. ⊎_elim (λ y. omega (arith, k.earlier l d y)) (λ y. omega (arith, y.0)) (pushed_listed k.lists a c l d first-list z))
                (λ z. omega (arith, z.0)) (pushed_listed one_more_lem b c l d second-list h);
            rest = rw (le-leb 2 (size formula c) two) at (watch_step formula.clauses c k.lists (fresh formula).lists inside k.rest);
          }

    first-stored : WatchedFirst book numbers twice c
    first-stored =
        record {
          same_length =
              second-push.only.same_length ∙ first-push.only.same_length
              ∙ rw stored_is (watch_length (variables_of book) (clauses_of book) numbers (2 * c + 2) 1);
          same_behind =
              lists_behind second-push.only ∙ lists_behind first-push.only
              ∙ rw stored_is (watch_behind (variables_of book) (clauses_of book) numbers (2 * c + 2) 1 (omega arith) (omega arith));
          holds = λ k. subst (FirstWatches book twice) (sym (add-one c)) (first_next k);
        }

  pub first_some : (literals numbers : List ℕ) {stored once twice : List ℕ} → literals ≡ clause_at book c → 2 ≤ length literals
      → stored ≡ watch_nums (variables_of book) (clauses_of book) numbers (2 * c + 2) 1
      → PushedFront linked (variables_of book) (clauses_of book) stored once (get_or literals 0 0) (2 * c + 1)
      → PushedFront linked (variables_of book) (clauses_of book) once twice (get_or literals 1 0) (2 * c + 2) → WatchedFirst book numbers twice c
  first_some literals numbers read two stored_is first-push second-push =
      let is = read ∙ sym (clause_of_formula book c inside-book) in
      first-stored (rw is at two) numbers stored_is (rw is at first-push) (rw is at second-push)

-- all clauses have them
pub watches_end : {book before numbers : List ℕ} (c : ℕ) → clauses_of book ≤ c → length numbers ≡ length before → SameBehind book before numbers
    → FirstWatches book numbers c → Becomes book before numbers (fresh (formula_of book))
unfolding with_watches fresh watch_all
watches_end {book} {before} {numbers} c h long behind k =
    record { encodes = rw (sym all-cells, sym all-lists) k.encodes; same_length = long; same_behind = behind }
  where
    enough : length (formula_of book).clauses ≤ c
    enough = omega (arith, clauses_counted book)

    all-cells : map first_cell (take c (formula_of book).clauses) ≡ map first_cell (formula_of book).clauses
    all-cells = ap (map first_cell) (take_all c (formula_of book).clauses enough)

    all-lists : k.lists ≡ watch_all 0 (formula_of book).clauses (replicate (2 * variables_of book + 2) [])
    all-lists = rw (drop_of_length-le (formula_of book).clauses enough) at k.rest

-- The steps in which the form of book numbers is looked through: start by start, clause by clause.
use Prim.Native.Nat.{ℕ, zero, suc, ◌+◌, ◌-◌, ◌≤◌, ◌<◌}
use mathlib.Core.Bool.{Bool, true, false}
use mathlib.Core.List.{List}
use mathlib.Core.Path.{◌≡◌, refl, sym, ◌∙◌}
use Rattle.std.specs.List.{IsAllAdjacentAnswer}
use native.Mathlib.Omega.{arith}
use native.Mathlib.Numerals.{add-one}
use borrow.Author.Tests.{le-leb, leb-true, leb-false}
use lib.Dec.{leb}
use lib.ListN.{length, get_or, drop}
use lib.Seq.{get_or-take, get_or-drop}
use Rattle.base.proofs.Bools.{refuted}
use Rattle.base.proofs.Lists.{part, length_part}
use Rattle.book.proofs.PartLaws.{rising_step}
use Rattle.base.specs.Lists.{all}
use Rattle.book.specs.Formula.{sound_clause}
use Rattle.book.specs.Numbers.{start_of, clause_at, clauses_from, rising}

-- of n from c on, one is left more than from c + 1 on
one_more_lem : (c n : ℕ) → c < n → n - c ≡ suc (n - (c + 1))
one_more_lem c n h = omega arith

none_left : (c n : ℕ) → n ≤ c → n - c ≡ 0
none_left c n h = omega arith

-- starts none of which is above the next one rise
rising_from : (numbers : List ℕ) (c n : ℕ) → ((k : ℕ) → c ≤ k → k < c + n → start_of numbers k ≤ start_of numbers (suc k)) → rising numbers c n ≡ true
unfolding rising
rising_from numbers c zero up = refl
rising_from numbers c (suc n) up =
    rw (le-leb _ _ (up c (omega arith) (omega arith)))
    (rising_from numbers (suc c) n (λ k low high. up k (omega arith) (omega arith)))

-- what `is_sorted_by` says of the starts of n clauses
module _ (numbers : List ℕ) (n : ℕ) (room : n + 4 ≤ length numbers) where
  abbrev starts_read : List ℕ
  starts_read = part 3 (n + 4) numbers

  starts_long : length starts_read ≡ n + 1
  starts_long = length_part 3 (n + 4) numbers room ∙ omega arith

  start_read : (k : ℕ) → k < n + 1 → get_or starts_read k 0 ≡ start_of numbers k
  start_read k h = get_or-take (n + 4 - 3) (drop 3 numbers) k 0 (omega arith) ∙ get_or-drop 3 numbers k 0

  pub sorted_rising : (sorted : Bool) → IsAllAdjacentAnswer (λ x y b. b ≡ leb x y) starts_read sorted → sorted ≡ rising numbers 0 n
  sorted_rising true up = sym (rising_from numbers 0 n up_by)
    where
      up_by : (k : ℕ) → 0 ≤ k → k < 0 + n → start_of numbers k ≤ start_of numbers (suc k)
      up_by k low high =
          let next : get_or starts_read (k + 1) 0 ≡ start_of numbers (suc k) = rw add-one (start_read (suc k) (omega arith)) in
          omega (arith, leb-true _ _ (sym (up k 0 (omega (arith, starts_long)))), next, start_read k (omega arith))
  sorted_rising false (k, inside, down) =
      let below : k < n = omega (arith, starts_long) in
      let next : get_or starts_read (k + 1) 0 ≡ start_of numbers (suc k) = rw add-one (start_read (suc k) (omega arith)) in
      let falls : start_of numbers (suc k) < start_of numbers k = omega (arith, leb-false _ _ (sym (down 0)), next, start_read k (omega arith)) in
      sym (refuted _ (λ rises. omega (arith, falls, rising_step numbers 0 n rises k (omega arith) (omega arith))))

module _ (numbers : List ℕ) (c n variables : ℕ) where
  pub clauses_more : c < n → sound_clause variables (clause_at numbers c) ≡ true
      → all (sound_clause variables) (clauses_from numbers c (n - c))
      ≡ all (sound_clause variables) (clauses_from numbers (c + 1) (n - (c + 1)))
  unfolding all clauses_from
  clauses_more h ok = rw (one_more_lem c n h, ok, add-one)

  pub clauses_stop : c < n → sound_clause variables (clause_at numbers c) ≡ false
      → all (sound_clause variables) (clauses_from numbers c (n - c)) ≡ false
  unfolding all clauses_from
  clauses_stop h bad = rw (one_more_lem c n h, bad)

  pub clauses_end : n ≤ c → all (sound_clause variables) (clauses_from numbers c (n - c)) ≡ true
  unfolding all clauses_from
  clauses_end h = rw (none_left c n h)

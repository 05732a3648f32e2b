-- What the entries of the variables say of a literal, and the scan with its checks counted on the way.
use Prim.Native.Nat.{ℕ, zero, suc, ◌+◌, ◌-◌, ◌%◌, ◌≤◌, ◌<◌}
use native.Mathlib.Omega.{arith}
use mathlib.Core.Bool.{Bool, true, false, cond}
use mathlib.Core.List.{List}
use mathlib.Core.Logic.{◌⊎◌, inl, inr, ⊎_elim}
use mathlib.Core.Option.{none, some}
use mathlib.Core.Path.{◌≡◌, refl, sym, ap, ◌∙◌}
use borrow.Author.Tests.{eqb-true, ne_eqb}
use denote.Enum.Bare.{sameb}
use lib.Dec.{eqb}
use lib.ListN.{length, get_or}
use Rattle.book.specs.Formula.{variable_of}
use Rattle.run.specs.Trail.{Entry, opposite, is_true, is_false}
use Rattle.run.specs.Scan.{Cell, Scanned, next, watched, one_more, scan_from, scan}
use Rattle.run.proofs.Opposites.{opposite_cases, opposite_variable}
use Rattle.run.proofs.Circle.{next_within}
use Rattle.layout.specs.Values.{value_read, value_in, Reads}
use Rattle.layout.proofs.ValueLaws.{value_true, value_false, value_open}
use Rattle.engine.specs.Inner.Scan.{ScanReady, ValueSays}
use Rattle.layout.specs.contracts.values.Value.{the_type}
use Rattle.layout.specs.declared.values.Value.{Value}
use Rattle.layout.specs.declared.values.Value.TheVariants.{Open, True, False}

-- the two values that a test tells apart
open_true : Open ≡ True → ⊥
open_true e = let z : ◌≡◌ {A = ℕ} 0 1 = cc in omega arith

true-false : True ≡ False → ⊥
true-false e = let z : ◌≡◌ {A = ℕ} 0 1 = cc in omega arith

-- where the entry says true, it says false of the opposite
read_opposite : (entry l m : ℕ) → (l % 2 ≡ m % 2 → ⊥) → value_read entry l ≡ True → value_read entry m ≡ False
unfolding value_read
read_opposite entry l m other e = go (eqb entry 0) refl (eqb (entry % 2) (l % 2)) refl e
  where
    go : (a : Bool) → eqb entry 0 ≡ a → (b : Bool) → eqb (entry % 2) (l % 2) ≡ b → cond a Open (cond b True False) ≡ True
        → cond (eqb entry 0) Open (cond (eqb (entry % 2) (m % 2)) True False) ≡ False
    go true p b q f = absurd (open_true f)
    go false p true q f =
        rw (p, ne_eqb (entry % 2) (m % 2) (λ s. other (sym (eqb-true (entry % 2) (l % 2) q) ∙ s)))
    go false p false q f = absurd (true-false (sym f))

pub reads_says : (values : List ℕ) (trail : List Entry) (l : ℕ) → Reads values trail → 2 ≤ l → variable_of l ≤ length values → (r : Value)
    → r ≡ value_read (get_or values (variable_of l - 1) 0) l → ValueSays trail l r
reads_says values trail l reads low within Open e = value_open trail l (sym (e ∙ reads l low within))
reads_says values trail l reads low within False e = value_false trail l (sym (e ∙ reads l low within))
reads_says values trail l reads low within True e = (value_true trail l (sym (e ∙ reads l low within)), (value_false trail (opposite l) there).0)
  where
    other : l % 2 ≡ opposite l % 2 → ⊥
    other s = ⊎_elim (λ p. omega arith) (λ p. omega arith) (opposite_cases l)

    opposite-low : 2 ≤ opposite l
    opposite-low = ⊎_elim (λ p. omega arith) (λ p. omega arith) (opposite_cases l)

    opposite_within : variable_of (opposite l) ≤ length values
    opposite_within = rw (opposite_variable l) within

    there : value_in trail (opposite l) ≡ False
    there =
        sym (reads (opposite l) opposite-low opposite_within)
        ∙ rw (opposite_variable l) (read_opposite (get_or values (variable_of l - 1) 0) l (opposite l) other (sym e))

-- the test of a value against False, and against True
pub says_false : (trail : List Entry) (l : ℕ) (value : Value) → ValueSays trail l value → sameb the_type value False ≡ is_false trail l
says_false trail l Open says = sym says.1
says_false trail l True says = sym says.1
says_false trail l False says = sym says.1

pub says_true : (trail : List Entry) (l : ℕ) (value : Value) → ValueSays trail l value → sameb the_type value True ≡ is_true trail l
says_true trail l Open says = sym says.0
says_true trail l True says = sym says.0
says_true trail l False says = sym says.0

-- the checks made before a scan goes on
pub plus : ℕ → Scanned → Scanned
plus made s = record { found = s.found; checks = made + s.checks }

abbrev pub cell_with : ℕ → ℕ → ℕ → Cell
cell_with first second pointer = record { first = first; second = second; pointer = pointer }

-- the rest of a scan, after `made` checks, is the whole scan
pub record Scanning (clause values : List ℕ) (first second pointer position made left : ℕ) : Type 0 where
  pub ready : ScanReady clause values pointer
  pub position_within : position < length clause
  pub left_within : made + left ≤ length clause
  pub rest : (trail : List Entry) → Reads values trail
      → plus made (scan_from trail clause (cell_with first second pointer) left position)
      ≡ scan trail clause (cell_with first second pointer)

pub scanning_start : (clause values : List ℕ) (first second pointer : ℕ) → ScanReady clause values pointer
    → Scanning clause values first second pointer (next (length clause) pointer) 0 (length clause)
unfolding scan plus
scanning_start clause values first second pointer ready =
    record {
      ready = ready;
      position_within = next_within (length clause) pointer ready.pointer_within;
      left_within = omega arith;
      rest =
          λ trail reads.
          let whole : Scanned = scan trail clause (cell_with first second pointer) in
          let same : 0 + whole.checks ≡ whole.checks = omega arith in
          ap (λ (n : ℕ). record { found = whole.found; checks = n }) same;
    }

module _ {clause values : List ℕ} {first second pointer position made : ℕ} where
  pub scanning_end : (left : ℕ) → left ≤ 0 → Scanning clause values first second pointer position made left → (trail : List Entry)
      → Reads values trail
      → record { found = none; checks = made } ≡ scan trail clause (cell_with first second pointer)
  unfolding plus scan_from
  scanning_end (suc left) h s trail reads = absurd (omega arith)
  scanning_end zero h s trail reads =
      let same : made ≡ made + 0 = omega arith in
      ap (λ (n : ℕ). record { found = none; checks = n }) same ∙ s.rest trail reads

  -- a watched position
  pub scanning_past : (left : ℕ) → Scanning clause values first second pointer position made (suc left) → watched (cell_with first second pointer) position ≡ true
      → Scanning clause values first second pointer (next (length clause) position) made left
  unfolding scan_from
  scanning_past left s w =
      record {
        ready = s.ready;
        position_within = next_within (length clause) position s.position_within;
        left_within = let h = s.left_within in omega arith;
        rest = λ trail reads. rw w at (s.rest trail reads);
      }

  -- a false position
  pub scanning_more : (left : ℕ) → Scanning clause values first second pointer position made (suc left) → watched (cell_with first second pointer) position ≡ false
      → ((trail : List Entry) → Reads values trail → is_false trail (get_or clause position 0) ≡ true)
      → Scanning clause values first second pointer (next (length clause) position) (made + 1) left
  unfolding scan_from plus one_more
  scanning_more left s w f =
      record {
        ready = s.ready;
        position_within = next_within (length clause) position s.position_within;
        left_within = let h = s.left_within in omega arith;
        rest =
            λ trail reads.
            let same : (made + 1) + (scan_from trail clause (cell_with first second pointer) left (next (length clause) position)).checks
            ≡ made + suc (scan_from trail clause (cell_with first second pointer) left (next (length clause) position)).checks = omega arith in
            ap (λ (n : ℕ). record { found = (scan_from trail clause (cell_with first second pointer) left (next (length clause) position)).found; checks = n }) same
            ∙ (rw (w, f trail reads) at (s.rest trail reads));
      }

  -- a position that is not false
  pub scanning_found : (left : ℕ) → 0 < left → Scanning clause values first second pointer position made left
      → watched (cell_with first second pointer) position ≡ false
      → (trail : List Entry) → Reads values trail → is_false trail (get_or clause position 0) ≡ false
      → record { found = some position; checks = made + 1 } ≡ scan trail clause (cell_with first second pointer)
  unfolding scan_from plus
  scanning_found zero h s w trail reads f = absurd (omega arith)
  scanning_found (suc left) h s w trail reads f = rw (w, f) at (s.rest trail reads)

-- one position further: it is watched, or it is a check and false
pub scanning_on : {clause values : List ℕ} {first second pointer position made : ℕ} (left after further more : ℕ)
    → Scanning clause values first second pointer position made left → 0 < left
    → after ≡ left - 1 → further ≡ next (length clause) position
    → ((watched (cell_with first second pointer) position ≡ true) × (more ≡ made))
    ⊎ ((watched (cell_with first second pointer) position ≡ false)
    × ((trail : List Entry) → Reads values trail → is_false trail (get_or clause position 0) ≡ true)
    × (more ≡ made + 1))
    → Scanning clause values first second pointer further more after
scanning_on (suc left) after further more s h e f (inl w) =
    rw (left_is, f, w.1) (scanning_past left s w.0)
  where
    left_is : after ≡ left
    left_is = omega arith
scanning_on (suc left) after further more s h e f (inr w) =
    rw (left_is, f, w.2) (scanning_more left s w.0 w.1)
  where
    left_is : after ≡ left
    left_is = omega arith
scanning_on zero after further more s h e f w = absurd (omega arith)

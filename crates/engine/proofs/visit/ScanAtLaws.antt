-- The scan of a clause on the numbers that hold a run: what is read, and what the answer says.
use Prim.Native.Nat.{ℕ, ◌+◌, ◌*◌, ◌-◌, ◌≤◌, ◌<◌}
use native.Mathlib.Omega.{arith}
use mathlib.Core.Bool.{true}
use mathlib.Core.List.{List}
use mathlib.Core.Path.{◌≡◌, refl, sym, ap, ◌∙◌}
use lib.ListN.{length, get_or, take, drop, length-take, length-drop}
use Rattle.base.proofs.Lists.{part}
use Rattle.book.specs.Formula.{sound}
use Rattle.book.specs.Numbers.{variables_of, clauses_of, clause_at, formula_of}
use Rattle.book.proofs.PartLaws.{clause_of_formula, clauses_counted}
use Rattle.book.proofs.SoundLaws.{literal_parts}
use Rattle.book.proofs.WellFormedLaws.{well_formed_sound}
use Rattle.run.specs.Trail.{Entry}
use Rattle.run.specs.Scan.{Scanned, scan}
use Rattle.run.specs.Run.{clause_of, size, cell_of}
use Rattle.run.proofs.Clauses.{clause_short, literal_within_lem}
use Rattle.run.proofs.ScanLaws.{pointer_within}
use Rattle.layout.specs.Layout.{Fits, values_at, watches_at, pointers_at}
use Rattle.layout.proofs.FitsLaws.{held_fits, session_fits}
use Rattle.layout.specs.Values.{Reads}
use Rattle.layout.proofs.ValueLaws.{held_reads}
use Rattle.engine.specs.Inner.Scan.{ScanReady}
use Rattle.engine.specs.Inner.Visit.{Scannable}

-- the values are a part of the numbers
values_part : (v vars from to : ℕ) (numbers : List ℕ) → vars ≡ v → from ≡ values_at vars → to ≡ watches_at vars
    → part from to numbers ≡ take v (drop (values_at v) numbers)
values_part v vars from to numbers e from_is to_is =
    let long : watches_at v - values_at v ≡ v = omega arith in
    rw (from_is, to_is, e, long)

-- A scan of a clause of numbers that hold a run.
module _ {book numbers : List ℕ} {c : ℕ} (s : Scannable book numbers c) where
  scanned-sound : sound (formula_of book) ≡ true
  scanned-sound = well_formed_sound book s.well

  in_formula : c < length (formula_of book).clauses
  in_formula = omega (arith, s.inside, clauses_counted book)

  at_pointer : get_or numbers (pointers_at (variables_of book) (clauses_of book) + c) 0 ≡ (cell_of s.run c).pointer
  at_pointer = rw (← clauses_counted book) (s.encodes.watches.pointers c in_formula)

  pub scan_fits : Fits (variables_of book) (clauses_of book) numbers
  scan_fits = session_fits (variables_of book) (clauses_of book) refl refl (held_fits s.well s.encodes)

  -- the parts as the code finds them
  module _ (vars many from to pointers : ℕ) (literals : List ℕ) (vars-is : vars ≡ variables_of book) (many_is : many ≡ clauses_of book)
      (from_is : from ≡ values_at vars) (to_is : to ≡ watches_at vars) (pointers-are : pointers ≡ pointers_at vars many)
      (read : literals ≡ clause_at book c) where
    is : literals ≡ clause_of (formula_of book) c
    is = read ∙ sym (clause_of_formula book c s.inside)

    part-is : part from to numbers ≡ take (variables_of book) (drop (values_at (variables_of book)) numbers)
    part-is = values_part (variables_of book) vars from to numbers vars-is from_is to_is

    pointer-is : get_or numbers (pointers + c) 0 ≡ (cell_of s.run c).pointer
    pointer-is = ap (λ (x : ℕ). get_or numbers x 0) (omega arith) ∙ at_pointer

    pub scanned_ready : ScanReady literals (part from to numbers) (get_or numbers (pointers + c) 0)
    scanned_ready =
        record {
          pointer_within = rw (is, pointer-is) (pointer_within (size (formula_of book) c) (cell_of s.run c) s.watching);
          short = rw is (clause_short (formula_of book) scanned-sound c);
          low = λ i h. rw is (bounds i (rw is at h)).0;
          within = λ i h. rw (is, all-values) (let b = (bounds i (rw is at h)).1 in omega arith);
        }
      where
        bounds : (i : ℕ) → i < size (formula_of book) c
            → (2 ≤ get_or (clause_of (formula_of book) c) i 0) × (get_or (clause_of (formula_of book) c) i 0 ≤ 2 * variables_of book + 1)
        bounds i h = literal_parts (variables_of book) (get_or (clause_of (formula_of book) c) i 0) (literal_within_lem (formula_of book) scanned-sound c i h)

        all-values : length (part from to numbers) ≡ variables_of book
        all-values = rw part-is (simp (length-take, length-drop) (let l = scan_fits.long in omega arith))

    pub scanned_is : (found : Scanned)
        → ((trail : List Entry) → Reads (part from to numbers) trail
        → found
        ≡ scan trail literals
        (record { first = get_or numbers (to + 2 * c) 0; second = get_or numbers (to + 2 * c + 1) 0; pointer = get_or numbers (pointers + c) 0 }))
        → found ≡ scan s.run.trail (clause_of (formula_of book) c) (cell_of s.run c)
    scanned_is found scanned =
        scanned s.run.trail (rw part-is (held_reads (variables_of book) numbers s.run.trail s.encodes.trail s.once (let l = scan_fits.long in omega arith)))
        ∙ rw (is, pointer-is, to_is, vars-is, s.encodes.watches.firsts c in_formula, s.encodes.watches.seconds c in_formula)

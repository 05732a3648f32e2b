-- A lent session passes the validation exactly if it meets the paper's conditions; that is, if it encodes the valid run that it holds.
use Prim.Native.Nat.{ℕ, ◌+◌, ◌*◌, ◌-◌, ◌≤◌}
use native.Mathlib.Omega.{arith}
use mathlib.Core.Bool.{Bool, true, ◌&&◌}
use mathlib.Core.List.{List, ◌++◌}
use mathlib.Core.Logic.{◌↔◌}
use mathlib.Core.Path.{◌≡◌, refl, sym, ap}
use borrow.Author.Tests.{leb-true, le-leb}
use lib.Dec.{leb}
use lib.ListN.{length, get_or, take}
use Rattle.base.specs.Lists.{same}
use Rattle.base.proofs.Bools.{and_parts, both}
use Rattle.book.specs.Formula.{Formula, sound}
use Rattle.run.specs.Scan.{Cell}
use Rattle.run.specs.Run.{Run, list_of}
use Rattle.run.specs.Valid.{Valid}
use Rattle.run.proofs.Propagation.{valid_structure}
use Rattle.layout.specs.Layout.{length_at, heads_at, required_length, encode, chain_from, held}
use Rattle.validation.specs.ValidSession.{ValidSession}
use Rattle.validation.specs.Validation.{is_valid, passes}
use Rattle.layout.specs.Encodes.{Encodes}
use Rattle.base.proofs.ForAll.{same_equal, equal_same}
use Rattle.layout.proofs.EncodeLaws.{encodes_encode, encoded_encodes, encode_encodes}
use Rattle.layout.proofs.HeldLaws.{held_encodes, list_held}
use Rattle.validation.proofs.cells.Laws.{held_cell_lem, held_check}
use Rattle.validation.proofs.trail.Laws.{held_length}
use Rattle.validation.proofs.ValidLaws.{valid_test}

module _ (formula : Formula) (s : sound formula ≡ true) (numbers : List ℕ) where
  abbrev run : Run
  run = held formula numbers

  abbrev long : Bool
  long = leb (required_length formula.variables (length formula.clauses)) (length numbers)

  abbrev encoded : Bool
  encoded = same (take (required_length formula.variables (length formula.clauses)) numbers) (encode formula run)

  passes_said : passes formula numbers ≡ true → Valid formula run × Encodes formula numbers run
  unfolding passes
  passes_said e =
      let a = and_parts (long && encoded) (is_valid formula run) e in
      let b = and_parts long encoded a.0 in
      let valid = (valid_test formula run s).0 a.1 in (
        valid,
        encoded_encodes formula s run valid numbers (leb-true (required_length formula.variables (length formula.clauses)) (length numbers) b.0)
            (same_equal (take (required_length formula.variables (length formula.clauses)) numbers) (encode formula run) b.1),
      )

  passes_tests : Valid formula run × Encodes formula numbers run → passes formula numbers ≡ true
  unfolding passes
  passes_tests h =
      both
      (both (le-leb (required_length formula.variables (length formula.clauses)) (length numbers) h.1.long)
      (rw (encodes_encode formula s run h.0 numbers h.1) (equal_same (encode formula run))))
      ((valid_test formula run s).1 h.0)

  pub passes_encodes : (passes formula numbers ≡ true) ↔ (Valid formula (held formula numbers) × Encodes formula numbers (held formula numbers))
  passes_encodes = (passes_said, passes_tests)

  -- the conditions that are left where the run is the one that the numbers hold
  valid-session-encodes : ValidSession formula numbers → Encodes formula numbers run
  unfolding held
  valid-session-encodes x =
      record {
        long = x.long;
        trail =
            record {
              count = sym (held_length formula.variables numbers (get_or numbers length_at 0));
              decided = x.decided;
              literals = x.literals;
              levels = x.levels;
              values = x.values;
            };
        conflict = refl;
        backtracks = refl;
        fixed = refl;
        watches =
            record {
              firsts = λ c h. sym (ap (λ (cell : Cell). cell.first) (held_cell_lem formula numbers c h));
              seconds = λ c h. sym (ap (λ (cell : Cell). cell.second) (held_cell_lem formula numbers c h));
              pointers = λ c h. sym (ap (λ (cell : Cell). cell.pointer) (held_cell_lem formula numbers c h));
              in_lists = record { chains = x.chains; idle = x.idle };
            };
        checks = λ c h. sym (held_check formula numbers c h);
      }

  encodes_valid_session : Valid formula run → Encodes formula numbers run → ValidSession formula numbers
  encodes_valid_session valid e =
      record {
        long = e.long;
        decided = e.trail.decided;
        literals = e.trail.literals;
        levels = e.trail.levels;
        values = e.trail.values;
        chains = e.watches.in_lists.chains;
        idle = e.watches.in_lists.idle;
        valid = valid;
      }

  -- the test is the paper's conditions, and nothing else
  pub passes_iff : (passes formula numbers ≡ true) ↔ ValidSession formula numbers
  passes_iff = (
    λ e. let both_hold = passes_said e in encodes_valid_session both_hold.0 both_hold.1,
    λ x. passes_tests (x.valid, valid-session-encodes x),
  )

  -- the fuel of a chain never runs out where the numbers pass: with any more the list that is held is the same
  pub chain_fuel_suffices : passes formula numbers ≡ true → (l fuel : ℕ) → 2 ≤ l → l ≤ 2 * formula.variables + 1
      → 2 * length formula.clauses ≤ fuel
      → chain_from formula.variables (length formula.clauses) numbers fuel (get_or numbers (heads_at formula.variables (length formula.clauses) + (l - 2)) 0)
      ≡ list_of run.lists l
  chain_fuel_suffices e l fuel low high enough =
      let facts = passes_said e in
      list_held formula s numbers run.cells run.lists (valid_structure facts.0).watched facts.1.watches l fuel low high (omega arith)

-- numbers that hold a valid run pass, and so do its own, whatever lies behind them
pub encodes_passes : (formula : Formula) → sound formula ≡ true → (run : Run) → Valid formula run → (numbers : List ℕ)
    → Encodes formula numbers run → passes formula numbers ≡ true
encodes_passes formula s run valid numbers e =
    (passes_encodes formula s numbers).1 (rw (held_encodes formula s run valid numbers e) (valid, e))

pub passes_encode : (formula : Formula) → sound formula ≡ true → (run : Run) → Valid formula run → (rest : List ℕ)
    → passes formula (encode formula run ++ rest) ≡ true
passes_encode formula s run valid rest =
    encodes_passes formula s run valid (encode formula run ++ rest) (encode_encodes formula s run valid rest)

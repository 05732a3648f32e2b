-- That the parts of a session are there: by its book and its length, by the run that it holds, and after stores.
use Prim.Native.Nat.{ℕ, ◌≤◌}
use mathlib.Core.Bool.{true}
use mathlib.Core.List.{List}
use mathlib.Core.Path.{◌≡◌, refl}
use native.Mathlib.Omega.{arith}
use lib.ListN.{length}
use Rattle.book.specs.Numbers.{variables_of, clauses_of, formula_of, well_formed}
use Rattle.book.proofs.PartLaws.{clauses_counted}
use Rattle.book.proofs.WellFormedLaws.{well_formed_limited}
use Rattle.run.specs.Run.{Run}
use Rattle.layout.specs.Layout.{Fits, TrailFits, SessionFits, required_length, max_session}
use Rattle.layout.specs.Encodes.{Encodes}

-- no book needs more numbers than the largest
pub required_most : (book : List ℕ) → well_formed book ≡ true → required_length (variables_of book) (clauses_of book) ≤ max_session
required_most book well = let limited = well_formed_limited book well in omega (arith, limited.variables, limited.clauses)

pub held_fits : {book numbers : List ℕ} {run : Run} → well_formed book ≡ true → Encodes (formula_of book) numbers run → SessionFits book numbers
held_fits {book} well e = record { well = well; long = omega (arith, e.long, clauses_counted book) }

pub session_fits : {book numbers : List ℕ} (v c : ℕ) → v ≡ variables_of book → c ≡ clauses_of book → SessionFits book numbers → Fits v c numbers
session_fits {book} v c variables clauses s =
    let limited = well_formed_limited book s.well in
    record {
      few_variables = omega (arith, limited.variables);
      few_clauses = omega (arith, limited.clauses);
      long = omega (arith, s.long);
    }

pub fits_trail : {v c : ℕ} {numbers : List ℕ} → Fits v c numbers → TrailFits v numbers
fits_trail f = record { few_variables = f.few_variables; long = omega (arith, f.long) }

pub session_trail_fits : {book numbers : List ℕ} (v : ℕ) → v ≡ variables_of book → SessionFits book numbers → TrailFits v numbers
session_trail_fits {book} v variables s = fits_trail (session_fits v (clauses_of book) variables refl s)

pub fits_kept : {v c : ℕ} {s t : List ℕ} → length t ≡ length s → Fits v c s → Fits v c t
fits_kept e f = record { few_variables = f.few_variables; few_clauses = f.few_clauses; long = omega (arith, f.long) }

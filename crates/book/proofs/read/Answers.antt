use Prim.Native.Nat.{ℕ, ◌+◌}
use Rattle.std.specs.Prelude.{Err}
use mathlib.Core.Path.{ap, ◌∙◌}
use mathlib.Core.List.{List, ◌++◌}
use native.Mathlib.Omega.{arith}
use lib.ListN.{drop, length-take}
use Rattle.std.proofs.lemmas.Result.{err_from_is_err_and}
use Rattle.book.proofs.FaultLaws.{too_long}
use Rattle.book.proofs.ReadLaws.{answer_refused_by, read_refused, book_inside, read_short, read_book}
use Rattle.book.proofs.read.Goals as goal

pub returns-then-text-gt-MAX_TEXT : goal.returns-then-text-gt-MAX_TEXT
returns-then-text-gt-MAX_TEXT c =
    let a = answer_refused_by _ c.args.out.now _ (too_long c.args.text.now (omega arith)) in
    record { answer = a.0; numbers = a.1 }

pub returns-in_err-sizes : goal.returns-in_err-sizes
returns-in_err-sizes c =
    let p = err_from_is_err_and c.from_residual.result c.from_residual.ensures.1 in
    let a = answer_refused_by _ c.args.out.now _ (read_refused c.args.text.now _ (omega arith) c.in_err-sizes.ensures) in
    record { answer = p.1 ∙ ap Err p.2 ∙ a.0; numbers = a.1 }

pub returns-then-out-length : goal.returns-then-out-length
returns-then-out-length c =
    let a = read_short c.in_ok-sizes.ensures (omega arith) c.args.out.now (omega arith) in
    record { answer = a.0; numbers = a.1 }

pub slice_bounds-numbers-end : goal.slice_bounds-numbers-end
slice_bounds-numbers-end c = book_inside c.in_ok-sizes.ensures

pub slice_bounds-copy_from_slice-end-3 : goal.slice_bounds-copy_from_slice-end-3
slice_bounds-copy_from_slice-end-3 c = omega (arith, length-take {A = ℕ}, book_inside c.in_ok-sizes.ensures)

pub copy_from_slice-requires : goal.copy_from_slice-requires
copy_from_slice-requires c = omega (arith, length-take {A = ℕ}, book_inside c.in_ok-sizes.ensures)

pub returns : goal.returns
returns c =
    let a = read_book c.in_ok-sizes.ensures (omega arith) c.args.out.now _ (ap (λ (front : List ℕ). front ++ drop (c.in_ok-sizes.sizes.clauses + c.in_ok-sizes.sizes.literals + 4) c.args.out.now) c.copy_from_slice.ensures.after) (omega arith) in
    record { answer = a.0; numbers = a.1 }

use native.Mathlib.Omega.{arith}
use Rattle.book.proofs.PartLaws.{start_within}
use Rattle.book.proofs.WellFormedLaws.{well_formed_parted, well_formed_limited}
use Rattle.layout.proofs.values.clause_start.Goals as goal

pub bounds-book-1 : goal.bounds-book-1
bounds-book-1 c = omega (arith, (well_formed_parted _ c.requires.book_value).long)

pub overflow_add-result : goal.overflow_add-result
overflow_add-result c = omega (arith, well_formed_limited _ c.requires.book_value)

pub offset_bounds-book-c : goal.offset_bounds-book-c
offset_bounds-book-c c = omega (arith, well_formed_limited _ c.requires.book_value)

pub bounds-book-c : goal.bounds-book-c
bounds-book-c c = omega (arith, (well_formed_parted _ c.requires.book_value).long)

pub overflow_add-result-2 : goal.overflow_add-result-2
overflow_add-result-2 c =
    omega (arith, well_formed_limited _ c.requires.book_value, start_within _ (well_formed_parted _ c.requires.book_value) _ c.requires.c_bound)

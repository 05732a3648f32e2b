use Rattle.std.proofs.Common.{arith}
use Rattle.book.proofs.PartLaws.{clause_inside, clause_between}
use Rattle.book.proofs.WellFormedLaws.{well_formed_parted}
use Rattle.layout.proofs.values.clause.Goals as goal

pub slice_bounds-result-count : goal.slice_bounds-result-count
slice_bounds-result-count c =
    omega (arith, clause_inside _ (well_formed_parted _ c.requires.book_value) _ _ _ c.requires.c_bound c.clause_start-start.ensures c.clause_start-end.ensures)

pub slice_bounds-result-start : goal.slice_bounds-result-start
slice_bounds-result-start c =
    omega (arith, clause_inside _ (well_formed_parted _ c.requires.book_value) _ _ _ c.requires.c_bound c.clause_start-start.ensures c.clause_start-end.ensures)

pub slice_bounds-result-end : goal.slice_bounds-result-end
slice_bounds-result-end c =
    omega (arith, clause_inside _ (well_formed_parted _ c.requires.book_value) _ _ _ c.requires.c_bound c.clause_start-start.ensures c.clause_start-end.ensures)

pub returns : goal.returns
returns c = clause_between _ _ _ _ c.clause_start-start.ensures c.clause_start-end.ensures

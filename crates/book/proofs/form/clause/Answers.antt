use Rattle.book.proofs.PartLaws.{clause_read}
use Rattle.book.proofs.form.clause.Goals as goal

pub slice_bounds-result-count : goal.slice_bounds-result-count
slice_bounds-result-count c = (clause_read _ c.requires.parted _ _ c.requires.clauses_value c.requires.c_bound).0

pub slice_bounds-result-start : goal.slice_bounds-result-start
slice_bounds-result-start c = (clause_read _ c.requires.parted _ _ c.requires.clauses_value c.requires.c_bound).0

pub slice_bounds-result-end : goal.slice_bounds-result-end
slice_bounds-result-end c = (clause_read _ c.requires.parted _ _ c.requires.clauses_value c.requires.c_bound).1

pub returns : goal.returns
returns c = (clause_read _ c.requires.parted _ _ c.requires.clauses_value c.requires.c_bound).2

use Rattle.std.proofs.Common.{sym, length-take-le}
use Rattle.dialog.proofs.WrittenLaws.{open_told, refused_told}
use Rattle.desk.proofs.run.Goals as goal

pub slice_bounds-write_all-end : goal.slice_bounds-write_all-end
slice_bounds-write_all-end g c = refused_told _ _ _ _ _ _ _ _ c.start.ensures _ c.in-Refused.is

pub slice_bounds-write_all-end-in-Refused : goal.slice_bounds-write_all-end-in-Refused
slice_bounds-write_all-end-in-Refused g c = sym (length-take-le _ _ (refused_told _ _ _ _ _ _ _ _ c.start.ensures _ c.in-Refused.is))

pub slice_bounds-write_all-end-in-Open : goal.slice_bounds-write_all-end-in-Open
slice_bounds-write_all-end-in-Open g c = open_told _ _ _ _ _ _ _ _ c.start.ensures _ c.in-Open.is

pub slice_bounds-write_all-end-in-Open-2 : goal.slice_bounds-write_all-end-in-Open-2
slice_bounds-write_all-end-in-Open-2 g c = sym (length-take-le _ _ (open_told _ _ _ _ _ _ _ _ c.start.ensures _ c.in-Open.is))

use Rattle.std.proofs.Common.{sym, length-take-le}
use Rattle.dialog.proofs.WrittenLaws.{fits_within}
use Rattle.desk.proofs.answer_script.Goals as goal

pub slice_bounds-write_all-end : goal.slice_bounds-write_all-end
slice_bounds-write_all-end g c = fits_within _ _ _ _ c.finish-n.ensures.value c.finish-n.ensures.out_after

pub slice_bounds-write_all-end-2 : goal.slice_bounds-write_all-end-2
slice_bounds-write_all-end-2 g c = sym (length-take-le _ _ (fits_within _ _ _ _ c.finish-n.ensures.value c.finish-n.ensures.out_after))

-- The table's run with 999,999 backtracks is valid: a session that holds it passes.
use native.Mathlib.Omega.{arith}
use mathlib.Core.Path.{◌≡◌, refl}
use mathlib.Core.Bool.{true}
use lib.ListN.{take}
use Rattle.base.specs.Lists.{all, flat, member, distinct}
use Rattle.book.specs.Formula.{literal_within, sound_clause, sound}
use Rattle.run.specs.Valid.{Valid}
use Rattle.run.proofs.Theorems.{reference_valid}
use Rattle.run.proofs.Validity.{cells_fixpoint}
use Rattle.points.specs.Points.{listing, calls, run_after, worn}

listing_sound : sound listing ≡ true
unfolding sound sound_clause literal_within all flat member distinct
listing_sound = refl

pub worn_valid : Valid listing (worn 999999)
worn_valid =
    let valid : Valid listing (run_after 2) = reference_valid listing listing_sound (take 2 calls) in
    record {
      trail_within_lem = valid.trail_within_lem;
      cells_length = valid.cells_length;
      lists_length = valid.lists_length;
      checks_length = valid.checks_length;
      checks_within_lem = valid.checks_within_lem;
      backtracks_within_lem = omega arith;
      fixed_within_lem = valid.fixed_within_lem;
      trail_distinct = valid.trail_distinct;
      justified = valid.justified;
      watching = valid.watching;
      unwatched = valid.unwatched;
      listed = valid.listed;
      fixpoint = λ quiet. cells_fixpoint (run_after 2) (worn 999999) refl (valid.fixpoint quiet);
      conflict_false = valid.conflict_false;
      fixpoint_below = λ c named some. cells_fixpoint (run_after 2) (worn 999999) refl (valid.fixpoint_below c named some);
    }

-- A band by its three numbers, as the table has them.
use Rattle.std.specs.Prelude.{ℕ, List, slice_index}
use Rattle.bands.specs.Bands.{band_of}
use Rattle.bands.specs.declared.Band.{Band}

abbrev pub band_from : List ℕ → Band
band_from numbers = band_of (slice_index numbers 0) (slice_index numbers 1) (slice_index numbers 2)

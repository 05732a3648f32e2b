-- The trail that a `ReadTrail` of src/places.rt reads, for the contracts of its methods.
use Rattle.std.specs.Prelude.{Bool, List}
use Rattle.run.specs.Trail.{Entry}
use Rattle.validation.specs.declared.places.ReadTrail.{ReadTrail}
use Rattle.validation.specs.Inner.Places.{trail_of, trail_on}

abbrev pub read : ReadTrail → List Entry
read r = trail_of r.variables r.session.now

-- the trail, or the trail without its top level
abbrev pub read_on : ReadTrail → Bool → List Entry
read_on r below = trail_on r.variables r.session.now below

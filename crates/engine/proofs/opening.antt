-- The laws of src/opening.rt.
pub mod FirstWatchLaws
pub mod Laws

-- The laws of src/places.rt.
pub mod Laws

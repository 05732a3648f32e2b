-- The laws of src/propagation.rt.
pub mod Laws

-- The laws of src/ceiling.rt.
pub mod Laws

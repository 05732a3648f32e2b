-- The laws of src/fixing.rt.
pub mod Laws

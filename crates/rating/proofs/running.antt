-- The laws of src/running.rt.
pub mod Laws

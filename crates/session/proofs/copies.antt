-- The laws of src/copies.rt.
pub mod Laws

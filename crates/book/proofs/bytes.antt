-- The laws of src/bytes.rt.
pub mod Laws

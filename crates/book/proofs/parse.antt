-- The laws of src/parse.rt.
pub mod Laws

-- The laws of src/trail.rt.
pub mod Laws

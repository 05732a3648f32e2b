-- The laws of src/reasons.rt.
pub mod Laws

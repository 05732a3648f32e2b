-- The laws of src/marks.rt.
pub mod Laws

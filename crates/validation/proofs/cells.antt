-- The laws of src/cells.rt.
pub mod Laws

-- The laws of src/cursor.rt.
pub mod Laws

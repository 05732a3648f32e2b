-- The laws of src/fields.rt.
pub mod Writing
pub mod Reading

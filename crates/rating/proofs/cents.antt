-- The laws of src/cents.rt.
pub mod Machine

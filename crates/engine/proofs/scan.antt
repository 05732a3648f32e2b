-- The laws of src/scan.rt.
pub mod Laws

-- The laws of src/header.rt.
pub mod Laws

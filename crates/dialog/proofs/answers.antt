-- The laws of src/answers.rt.
pub mod Laws

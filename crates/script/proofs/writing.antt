-- The laws of src/writing.rt.
pub mod DigitLaws
pub mod Laws

-- The laws of src/body.rt.
pub mod Laws
pub mod LoopLaws

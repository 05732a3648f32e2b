-- The laws of src/lines.rt.
pub mod Laws
pub mod ThreeLaws

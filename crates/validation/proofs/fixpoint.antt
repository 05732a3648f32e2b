-- The laws of src/fixpoint.rt.
pub mod HeightLaws
pub mod Laws

-- The laws of src/trail.rt.
pub mod CutLaws
pub mod Laws

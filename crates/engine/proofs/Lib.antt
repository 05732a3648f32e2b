-- The laws of `engine` that proofs cite.
pub mod StepLaws

-- The laws of `script` that proofs cite.
pub mod LineLaws
pub mod ScriptLaws
pub mod LineLengths
pub mod LongLines

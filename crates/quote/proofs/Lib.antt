-- The laws of `quote` that proofs cite.
pub mod ScriptCalls
pub mod AnswerLaws
pub mod QuoteCovers

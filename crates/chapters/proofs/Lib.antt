-- The laws of `chapters` that proofs cite.
pub mod FitLaws
pub mod SumLaws
pub mod AnswerLaws
pub mod ChaptersTotal

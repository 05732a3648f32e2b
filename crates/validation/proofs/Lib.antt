-- The laws of `validation` that proofs cite.
pub mod AllLaws
pub mod ConditionLaws
pub mod PassLaws
pub mod ReadLaws
pub mod SaysLaws
pub mod ValidLaws
pub mod ValidateLaws

-- The definitions of `validation`: the examination of a lent session, as conditions and as a test. No public promise rests on `Inner`.
pub mod ValidSession
pub mod Validation
pub mod Inner

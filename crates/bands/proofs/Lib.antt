-- The laws and theorems of `bands`.
pub mod TableLaws
pub mod Checker
pub mod Factors

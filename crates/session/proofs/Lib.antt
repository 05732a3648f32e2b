-- The laws of `session` that proofs cite.
pub mod CallLaws
pub mod OpenLaws
pub mod PassedLaws
pub mod AnswerLaws
pub mod ToldLaws
pub mod LookupLaws
pub mod ReportLaws
pub mod Statements
pub mod ShownLevels
pub mod TextLaws
pub mod FixedDecisions
pub mod ReplayLaws
pub mod NumberLaws
pub mod ReadLaws

-- The laws and theorems of `rating`.
pub mod PricingLaws
pub mod AnswerLaws
pub mod AgeLaws
pub mod Rounding
pub mod Refusals
pub mod Premiums
pub mod AgePremiums
pub mod UnmetLine
pub mod AnyOrder

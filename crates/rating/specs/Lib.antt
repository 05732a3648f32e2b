-- The definitions of `rating`.
pub mod Pricing
pub mod Ages
pub mod Statement
pub mod AgeStatement
pub mod Inner

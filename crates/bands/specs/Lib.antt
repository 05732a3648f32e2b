-- The definitions of `bands`.
pub mod Bands
pub mod Inner
pub mod Statement

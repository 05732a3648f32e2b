-- The definitions of `agreement`.
pub mod Agreement

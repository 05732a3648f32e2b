-- The laws of `points`.
pub mod Worn

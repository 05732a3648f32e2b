-- The definitions of `quote`.
pub mod Quote

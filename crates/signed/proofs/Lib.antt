-- The laws of `signed`.
mod Operations
pub mod Sizes

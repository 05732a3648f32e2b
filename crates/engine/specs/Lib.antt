-- The definitions of `engine`: what its exported functions cite; `Inner` serves private contracts only.
pub mod Engine
pub mod Inner

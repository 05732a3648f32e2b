-- The definitions of `packed`. No public promise rests on `Inner`.
pub mod Packed
pub mod Statement
pub mod Inner

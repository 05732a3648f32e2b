-- The definitions of `script`: the lines read, the lines printed, the whole output. No public promise rests on `Inner`.
pub mod Script
pub mod Answers
pub mod Buffer
pub mod Desk
pub mod Inner

-- The definitions of `chapters`.
pub mod Chapters

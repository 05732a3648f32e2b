-- The definitions of `book`, in the order of document 01: formula, book numbers, text, faults, reading. No public promise rests on `Inner`.
pub mod Formula
pub mod Numbers
pub mod Text
pub mod Faults
pub mod Reading
pub mod Answer
pub mod Printer
pub mod Inner

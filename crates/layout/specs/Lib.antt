-- The definitions of `layout`: the session numbers, the run that they hold, the value of a literal.
pub mod Encodes
pub mod Layout
pub mod Values

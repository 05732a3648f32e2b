-- The definitions of `dialog`: the answer of a line, the start, bytes of a script, the program's loop. No public promise rests on `Inner`.
pub mod Answering
pub mod Starting
pub mod Taking
pub mod Program
pub mod Inner

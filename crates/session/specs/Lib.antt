-- The definitions of `session`: the outcomes of the calls, statements 2 and 3. No public promise rests on `Inner`.
pub mod Outcomes
pub mod Statement
pub mod Inner

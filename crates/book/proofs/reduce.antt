-- The laws of src/reduce.rt.
pub mod ClauseLaws

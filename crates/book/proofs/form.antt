-- The laws of src/form.rt.
pub mod ClauseLaws
pub mod Laws

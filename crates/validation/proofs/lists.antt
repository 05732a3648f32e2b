-- The laws of src/lists.rt.
pub mod GoodLaws
pub mod Laws

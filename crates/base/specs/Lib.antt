-- The modules of `base`: lists and tests.
pub mod Lists

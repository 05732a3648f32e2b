-- The laws of `layout` that proofs cite.
pub mod ChainLaws
pub mod EncodeLaws
pub mod FitsLaws
pub mod HeldLaws
pub mod TrailLaws
pub mod ValueLaws

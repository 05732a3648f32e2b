-- The laws of `capi`: how a caller in C takes an answer apart, and that a premium fits a quote record.
pub mod CodeLaws
pub mod QuoteLaws

-- The definitions of `capi`: how an answer stands in one number, and when a premium fits a quote record.
pub mod Codes
pub mod Quotes

-- The laws of `base`, by topic.
pub mod Bools
pub mod Lists
pub mod Members
pub mod Pigeonhole
pub mod Signed
pub mod Until
pub mod Copies
pub mod Counts
pub mod Threes
pub mod ForAll
pub mod Occurrences
pub mod Firsts
pub mod Tables
pub mod Sums

-- The theorems of `agreement`.
pub mod TwoAgents

-- What the contracts of private functions cite.
pub mod Cells
pub mod Conflict
pub mod Fixpoint
pub mod Header
pub mod Lists
pub mod Places
pub mod Read
pub mod Reasons
pub mod Says
pub mod Session
pub mod Trail

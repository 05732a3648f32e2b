-- What the contracts of private functions cite.
pub mod Lists
pub mod Opening
pub mod Propagation
pub mod Scan
pub mod Trail
pub mod Visit

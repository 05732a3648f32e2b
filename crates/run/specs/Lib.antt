-- The definitions of `run`, in the order of document 01: trail, scan, propagation, calls, validation, progress; and the closure of statement 2.
pub mod Trail
pub mod Scan
pub mod Run
pub mod Calls
pub mod Valid
pub mod Progress
pub mod Closure
pub mod Ceiling

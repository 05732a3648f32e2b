-- The modules of `points`: the table of the marked points, and the points of each change request.
pub mod Points
pub mod K4
pub mod K7
pub mod K5
pub mod K14
pub mod K6
pub mod K11
pub mod K1
pub mod K9
pub mod K8

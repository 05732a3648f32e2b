-- The laws of src/lists.rt.
pub mod LinkLaws
pub mod FrameLaws
pub mod WalkLaws
pub mod TakeOutLaws
pub mod PushLaws

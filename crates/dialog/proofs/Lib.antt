-- The laws of `dialog`.
pub mod OutcomeLaws
pub mod LineLaws
pub mod CallLaws
pub mod FitLaws
pub mod FollowLaws
pub mod WrittenLaws
pub mod PartLaws
pub mod DeskOutput

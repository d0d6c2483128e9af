pub mod Lines
pub mod Made
pub mod Output
pub mod Task
pub mod Trial
pub mod TrialReport
pub mod Upgraded

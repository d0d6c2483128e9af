pub mod Tested
pub mod Known
pub mod Joined
pub mod Searching
pub mod First
pub mod Checked
pub mod Ways
-- for other crates
pub mod Short
pub mod Computed
pub mod Routes

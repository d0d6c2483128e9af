pub mod Followed
pub mod Slices

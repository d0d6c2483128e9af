pub mod Limits
pub mod Sliced

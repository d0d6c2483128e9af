mod Limits
pub mod Ahead
pub mod Numbered
pub mod States
pub mod Whole

mod Multipliers
pub mod Shown
pub mod Traced
mod Walks

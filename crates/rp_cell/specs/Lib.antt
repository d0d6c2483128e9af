pub mod Decisions
pub mod Held
pub mod Lines
pub mod Slimming

pub mod Act
pub mod Kept
pub mod Lines

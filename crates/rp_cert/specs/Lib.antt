pub mod Lines
pub mod LevelNumbers
pub mod Section

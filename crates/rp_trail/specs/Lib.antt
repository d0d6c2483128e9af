pub mod Lines
pub mod Pairs
pub mod Slices
pub mod Stops

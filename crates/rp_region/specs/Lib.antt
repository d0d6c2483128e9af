pub mod Makes
pub mod Pairs
pub mod Stops
pub mod Tells

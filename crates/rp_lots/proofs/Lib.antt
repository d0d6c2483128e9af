pub mod Names
pub mod Sieved
pub mod Paired
pub mod Counted
pub mod Steps
pub mod BornLots

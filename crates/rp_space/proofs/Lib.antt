mod Between
mod BinaryDivisor
pub mod Bits
mod Bounded
mod Compared
mod Cramer
mod Kept
mod Level
mod Negative
pub mod Positive
mod Sides
pub mod Sums

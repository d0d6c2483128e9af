pub mod Places
pub mod Pairs
pub mod Skipped
pub mod Behind

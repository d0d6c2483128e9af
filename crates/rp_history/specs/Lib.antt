pub mod Lots
pub mod Places
pub mod Pending
pub mod Kept
pub mod Checks
pub mod Parts

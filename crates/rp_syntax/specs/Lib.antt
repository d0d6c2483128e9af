pub mod Keywords
pub mod Places
pub mod Reads

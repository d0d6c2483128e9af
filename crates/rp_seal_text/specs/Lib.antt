pub mod Lines
pub mod Origin
pub mod Checkpoint
pub mod Fields
pub mod ActText
pub mod Hashes
pub mod ProofFiles
pub mod ActStream

pub mod Hash
pub mod Merkle
pub mod Collision
pub mod Inclusion
pub mod Consistency
pub mod Peaks
pub mod Tree
pub mod Act

pub mod Refines
pub mod Short

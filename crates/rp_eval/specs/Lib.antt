pub mod Operands
pub mod Pairs
pub mod Questions
pub mod Relations

pub mod Fronts
pub mod Held
pub mod Operands
pub mod Tables
pub mod Versions
pub mod Views

pub mod Access
pub mod Asked
pub mod Lots
